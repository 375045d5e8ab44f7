use Rattle.std.proofs.Common.{◌≤◌, ◌-◌, length}
use Rattle.hd_view.specs.Losing.{AddsLost, HasFirstFields}
use Rattle.hd_view.proofs.lost.push_field.Given as goal

-- the lost ones of the first objects are added
abbrev pub invariant-loop-first : goal.invariant-loop-first
invariant-loop-first l = record {
  within : l.first ≤ length l.more.graph.now.objects;
  adds : AddsLost l.more.graph.now l.more.front.now l.less.front.now l.initial.items.items l.items.items;
  all : HasFirstFields l.more.graph.now l.more.front.now l.less.front.now l.cut.class l.cut.field l.first l.items.items;
}

abbrev pub decreases-loop-first : goal.decreases-loop-first
decreases-loop-first l = length l.more.graph.now.objects - l.first
