use Rattle.std.proofs.Common.{◌≡◌, ◌++◌, ◌<◌, ◌^◌, length}
use Rattle.std.specs.Vec.Iter.{into_iter_items}
use Rattle.hd_strength.specs.Parts.{AreWhole, found_in, lists_in}
use Rattle.hd_strength.proofs.scratch.lists_of.Given as goal

-- the lists so far, and those of the parts to come, are those of all
abbrev pub invariant-loop-part : goal.invariant-loop-part
invariant-loop-part l = record {
  can_next : (goal.iterator-loop-part).can_next l.part-iterator;
  is_finite : (goal.iterator-loop-part).is_finite l.part-iterator;
  listed : l.lists.items ++ lists_in (into_iter_items l.part-iterator) ≡ lists_in l.fn.parts.items;
  whole : AreWhole (into_iter_items l.part-iterator);
  few : length (found_in (into_iter_items l.part-iterator)) < 2 ^ 32;
}
