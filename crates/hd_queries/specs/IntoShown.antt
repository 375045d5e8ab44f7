-- The references to an object, one after another.
-- Source: this project.
use Rattle.std.specs.Prelude.{ℕ, List, map, take}
use Rattle.std.specs.List.{filter}
use Rattle.hd_terms.specs.declared.IntoRow.{IntoRow}
use Rattle.hd_terms.specs.declared.Event.{Event}
use Rattle.hd_terms.specs.Dump.{Dump, object_at}
use Rattle.hd_terms.specs.IntoRows.{refers_to, into_row}
use Rattle.hd_reverse.specs.Referrers.{PlacedSlot, all_slots}

-- the slots that refer to the object of a number, in the order of their objects and indexes
abbrev pub slots_into : Dump → ℕ → List PlacedSlot
slots_into dump o = filter (λ (p : PlacedSlot). refers_to dump o p.entry) (all_slots dump)

-- the row of one of them
abbrev pub placed_row : Dump → List Event → ℕ → PlacedSlot → IntoRow
placed_row dump log o p = into_row log o (object_at dump p.source) p.entry

-- the rows of the first `i` references to an object
abbrev pub rows_before : Dump → List Event → (o i : ℕ) → List IntoRow
rows_before dump log o i = map (placed_row dump log o) (take i (slots_into dump o))
