use Rattle.std.proofs.Common.{◌≡◌, ◌≤◌, [], length, drop}
use Rattle.std.specs.List.{filter_map}
use Rattle.hd_subs.specs.ClassSubs.{class_of_sub}
use Rattle.hd_subs.proofs.subs.Subs.classes_end.Given as goal

-- none of those from the place on is a class
abbrev pub invariant-loop-end : goal.invariant-loop-end
invariant-loop-end l = (l.end ≤ length l.self) × (filter_map class_of_sub (drop l.end l.self) ≡ [])

abbrev pub decreases-loop-end : goal.decreases-loop-end
decreases-loop-end l = l.end
