use Rattle.hd_view.specs.Losing.{AddsLost}
use Rattle.hd_view.proofs.LostLemmas.{HasFirst}
use Rattle.hd_view.proofs.lost.push_kind.Given as goal

-- the lost ones among the first edges of the kind are added
abbrev pub invariant-loop-j : goal.invariant-loop-j
invariant-loop-j l = AddsLost l.more.graph.now l.more.front.now l.less.front.now l.initial.items.items l.items.items
    × HasFirst l.more.graph.now l.more.front.now l.less.front.now l.kind l.j l.items.items
