-- How rows of IDs are kept: numbers of four bytes in one list, and where each row starts.
use Rattle.std.specs.Prelude.{◌≡◌, length}
use Rattle.std.specs.Arc.{arc_value}
use Rattle.hd_slots.specs.declared.resolved_rows.ResolvedRows.TheInside.{Inside}
use Rattle.hd_slots.specs.Table.{Rows}
use Rattle.hd_slots.specs.Parts.{rows_of, AreParts}

abbrev pub rows_in : Inside → Rows
rows_in a = rows_of (arc_value a.ids) a.starts.items a.items.items a.absent.items

pub record AreRows (a : Inside) : Type 0 where
  pub parts : AreParts (arc_value a.ids) a.starts.items a.items.items a.absent.items
  pub objects_are : a.objects ≡ length (arc_value a.ids)
