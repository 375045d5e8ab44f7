use Rattle.std.proofs.Common.{◌+◌, arith}
use Rattle.hd_terms.specs.Ranks.{rank}
use Rattle.hd_strength.proofs.Taking.{rebound}
use Rattle.hd_strength.proofs.rounds.spread_objects.Goals as goal

pub pass_on-requires-clause-searching : goal.pass_on-requires-clause-searching
pass_on-requires-clause-searching g c = λ κs within.
    let dump = c.args.edited.graph.now in
    let log = c.args.edited.front.now in
    let s = c.args.strength in
    rebound dump log c.loop-strength.search.whole s (rank s) (rank s + 1) c.loop-strength.search.parts.items (omega arith) c.loop-strength.invariant.searching
