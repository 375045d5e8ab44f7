use Rattle.std.proofs.Common.{◌≡◌, take}
use Rattle.hd_classes.specs.Known.{known_at}
use Rattle.hd_graph.specs.ArrayRows.{object_ids}
use Rattle.hd_graph.proofs.RowLemmas.{IsFilledSoFar}
use Rattle.hd_graph.specs.Building.{columns, AreLayouts}
use Rattle.hd_graph.proofs.filling.fill_first_rows.Given as goal

-- the rows and shapes of the objects so far, and the shapes of layouts that were made, by the same layouts
abbrev pub invariant-loop-i : goal.invariant-loop-i
invariant-loop-i l = record {
  so_far : IsFilledSoFar (known_at l.fn.layouts.classes) l.initial.slot_table.bytes l.initial.slot_table.size (take l.i l.list) (object_ids l.list)
      (columns l.slot_table l.shapes.objects);
  made : AreLayouts l.fn.layouts.size l.fn.layouts.classes l.shapes.layouts;
  layouts : l.layouts ≡ l.fn.layouts;
}
