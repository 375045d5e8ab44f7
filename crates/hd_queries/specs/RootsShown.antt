-- The rows of roots, root by root.
-- Source: this project.
use Rattle.std.specs.Prelude.{ℕ, ◌+◌, List, ◌++◌, length, map, take, Option, Some, None}
use Rattle.std.specs.List.{filter_map, enumerate_from}
use Rattle.hd_terms.specs.declared.Edit.{Edit}
use Rattle.hd_terms.specs.declared.Edit.TheVariants as edits
use Rattle.hd_terms.specs.declared.Event.{Event}
use Rattle.hd_terms.specs.declared.RootRow.{RootRow}
use Rattle.hd_terms.specs.Dump.{Dump}
use Rattle.hd_terms.specs.EditedDump.{dump_root}
use Rattle.hd_terms.specs.Log.{live_edit}
use Rattle.hd_terms.specs.RootRows.{root_row}

-- the rows of the first `r` roots of the dump
abbrev pub dump_rows : Dump → List Event → ℕ → List RootRow
dump_rows dump log r = map (root_row dump log) (map dump_root (enumerate_from 0 (take r dump.roots)))

-- the row of the root that event k adds, by its live edit
abbrev pub row_by : Dump → List Event → ℕ → Option Edit → Option RootRow
row_by dump log k None = None
row_by dump log k (Some (edits.Cut id slot)) = None
row_by dump log k (Some (edits.Clear id)) = None
row_by dump log k (Some (edits.Drop r)) = None
row_by dump log k (Some (edits.Add id)) = Some (root_row dump log (record { number = length dump.roots + k; kind = None; id = id }))
row_by dump log k (Some (edits.ClearAll references)) = None
row_by dump log k (Some (edits.CutAll class i)) = None

-- the same of an event
abbrev pub added_row : Dump → List Event → ℕ × Event → Option RootRow
added_row dump log (k, event) = row_by dump log k (live_edit log (k, event))

-- the rows of all roots of the dump, and of those that the first `k` events add
abbrev pub rows_before : Dump → List Event → ℕ → List RootRow
rows_before dump log k = dump_rows dump log (length dump.roots) ++ filter_map (added_row dump log) (enumerate_from 0 (take k log))
