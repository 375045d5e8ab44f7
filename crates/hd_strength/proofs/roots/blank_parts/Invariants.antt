use Rattle.std.proofs.Common.{◌-◌, ◌≤◌}
use Rattle.hd_strength.specs.Parts.{AreBlank}
use Rattle.hd_strength.proofs.roots.blank_parts.Given as goal

-- the parts so far will have the objects below the first one of the next
abbrev pub invariant-loop-first : goal.invariant-loop-first
invariant-loop-first l = record {
  blank : AreBlank l.fn.len l.fn.objects l.fn.whole l.parts.items l.first;
  within : l.first ≤ l.fn.objects;
}

abbrev pub decreases-loop-first : goal.decreases-loop-first
decreases-loop-first l = l.fn.objects - l.first
