use Rattle.std.proofs.Common.{◌≡◌, ◌-◌, ◌≤◌, length, map, take}
use Rattle.hd_queries.specs.Groups.{class_group}
use Rattle.hd_queries.proofs.groups.class_groups.Given as goal

-- the groups of the classes that were passed
abbrev pub invariant-loop-class : goal.invariant-loop-class
invariant-loop-class l = record {
  within : l.place ≤ length l.graph.classes;
  groups : l.groups.items ≡ map class_group (take l.place l.graph.classes);
}

abbrev pub decreases-loop-class : goal.decreases-loop-class
decreases-loop-class l = length l.graph.classes - l.place
