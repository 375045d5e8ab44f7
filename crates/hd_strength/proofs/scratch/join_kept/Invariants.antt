use Rattle.std.proofs.Common.{◌≡◌, ◌++◌}
use Rattle.std.specs.Vec.Iter.{into_iter_items}
use Rattle.hd_strength.specs.Parts.{AreWhole, found_in}
use Rattle.hd_strength.proofs.scratch.join_kept.Given as goal

-- what was copied, and what the parts to come found, is what all found
abbrev pub invariant-loop-part : goal.invariant-loop-part
invariant-loop-part l = record {
  can_next : (goal.iterator-loop-part).can_next l.part-iterator;
  is_finite : (goal.iterator-loop-part).is_finite l.part-iterator;
  joined : l.kept.items ++ found_in (into_iter_items l.part-iterator) ≡ found_in l.fn.parts.items;
  whole : AreWhole (into_iter_items l.part-iterator);
}
