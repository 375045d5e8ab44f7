use Rattle.std.proofs.Common.{◌≡◌, ◌≤◌, ◌+◌, [], length, drop}
use Rattle.std.specs.List.{filter_map}
use Rattle.hd_subs.specs.Joined.{joined}
use Rattle.hd_subs.specs.ClassSubs.{class_of_sub}
use Rattle.hd_subs.proofs.dump_subs.DumpSubs.classes_end.Given as goal

-- the parts that were gone over begin at the place, and none of them has a class
abbrev pub invariant-loop-left : goal.invariant-loop-left
invariant-loop-left l = record {
  within : l.left ≤ length l.self-inside.parts.items;
  place : l.start + length (joined (drop l.left l.self-inside.parts.items)) ≡ length (joined l.self-inside.parts.items);
  none : filter_map class_of_sub (joined (drop l.left l.self-inside.parts.items)) ≡ [];
}

abbrev pub decreases-loop-left : goal.decreases-loop-left
decreases-loop-left l = l.left
