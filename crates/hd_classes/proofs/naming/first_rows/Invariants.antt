use Rattle.std.proofs.Common.{◌≡◌, ◌-◌, ◌≤◌, ℕ, length, map, take}
use Rattle.hd_classes.specs.declared.first_class.FirstClass.{FirstClass}
use Rattle.hd_classes.specs.Naming.{first_of}
use Rattle.hd_classes.proofs.naming.first_rows.Given as goal

-- the class objects so far
abbrev pub invariant-loop-id : goal.invariant-loop-id
invariant-loop-id l = record {
  within : l.i ≤ length l.source.classes.entries;
  firsts : l.firsts.entries ≡ map (λ (e : ℕ × FirstClass). (e.0, first_of l.known.entries e.0)) (take l.i l.source.classes.entries);
}

abbrev pub decreases-loop-id : goal.decreases-loop-id
decreases-loop-id l = length l.source.classes.entries - l.i
