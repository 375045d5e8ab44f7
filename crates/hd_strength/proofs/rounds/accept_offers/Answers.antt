use Rattle.std.proofs.Common.{arith}
use Rattle.hd_strength.proofs.Taking.{all_taken}
use Rattle.hd_strength.proofs.rounds.accept_offers.Goals as goal

pub returns-clause-searching : goal.returns-clause-searching
returns-clause-searching c =
    let h = c.loop-k.invariant in
    all_taken c.args.edited.graph.now c.args.edited.front.now c.loop-k.search.whole c.args.strength c.loop-k.search.parts.items c.loop-k.k h.searching h.none
    (omega (arith, h.same.count, c.len-k-end.ensures))
