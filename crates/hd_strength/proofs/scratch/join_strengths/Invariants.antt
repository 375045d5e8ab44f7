use Rattle.std.proofs.Common.{◌≡◌, ◌++◌, map}
use Rattle.std.specs.Vec.Iter.{into_iter_items}
use Rattle.hd_strength.specs.Found.{strength_of}
use Rattle.hd_strength.specs.Parts.{found_in}
use Rattle.hd_strength.proofs.scratch.join_strengths.Given as goal

-- the strengths that were copied, and those that the parts to come found, are what all found
abbrev pub invariant-loop-part : goal.invariant-loop-part
invariant-loop-part l = record {
  can_next : (goal.iterator-loop-part).can_next l.part-iterator;
  is_finite : (goal.iterator-loop-part).is_finite l.part-iterator;
  joined : l.strengths.items ++ map strength_of (found_in (into_iter_items l.part-iterator)) ≡ map strength_of (found_in l.fn.parts.items);
}
