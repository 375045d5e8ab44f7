use Rattle.std.proofs.Common.{◌≡◌, ◌-◌, ◌≤◌}
use Rattle.hd_classes.specs.Known.{known_at}
use Rattle.hd_graph.specs.Building.{HasAllRows, HasAllShapes, AreLayouts, stretch}
use Rattle.hd_graph.specs.Numbering.{IsNumbered}
use Rattle.hd_graph.proofs.stretch.make_stretch.Given as goal

-- the numbers, the rows and the shapes of the objects of the sub-records so far, and the shapes of layouts that were made; the
-- layouts are those of the classes
abbrev pub invariant-loop-i : goal.invariant-loop-i
invariant-loop-i l = record {
  from : l.first ≤ l.i;
  numbered : IsNumbered (known_at l.classes) l.fn.id_size (stretch l.first (l.i - l.first) l.list) l.ids l.roots.items l.tally;
  so_far : HasAllRows (known_at l.classes) l.bytes l.fn.id_size (stretch l.first (l.i - l.first) l.list) l.slot_table;
  shapes : HasAllShapes (known_at l.classes) l.fn.id_size (stretch l.first (l.i - l.first) l.list) l.shapes.objects;
  made : AreLayouts l.fn.id_size l.classes l.shapes.layouts;
  layouts : l.layouts ≡ record { classes = l.classes; size = l.fn.id_size };
}
