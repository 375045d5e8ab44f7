use Rattle.hd_view.specs.Losing.{AddsLost, HasFirstFields}
use Rattle.hd_view.proofs.lost.push_between.Given as goal

-- the lost ones of the objects so far are added
abbrev pub invariant-loop-o : goal.invariant-loop-o
invariant-loop-o l = AddsLost l.more.graph.now l.more.front.now l.less.front.now l.initial.items.items l.items.items
    × (HasFirstFields l.more.graph.now l.more.front.now l.less.front.now l.cut.class l.cut.field l.first l.initial.items.items
    → HasFirstFields l.more.graph.now l.more.front.now l.less.front.now l.cut.class l.cut.field l.o l.items.items)
