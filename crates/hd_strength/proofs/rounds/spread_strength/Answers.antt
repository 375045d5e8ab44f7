use Rattle.hd_strength.proofs.Taking.{comes_to}
use Rattle.hd_strength.proofs.rounds.spread_strength.Goals as goal

pub returns-clause-searching : goal.returns-clause-searching
returns-clause-searching g c = λ next below.
    let dump = c.args.edited.graph.now in
    let log = c.args.edited.front.now in
    let s = c.args.strength in
    let search = c.spread_objects.new.search in
    let h = c.in_ok-spread_objects.ensures in
    comes_to dump log search.whole s next search.parts.items h.searching h.all below
