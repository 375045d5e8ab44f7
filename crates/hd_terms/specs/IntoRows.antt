-- The references to an object as they are shown under a log.
-- Source: this project.
use Rattle.std.specs.Prelude.{ℕ, ◌==◌, Bool, false, List, map, Some}
use Rattle.std.specs.Option.{option_map_or}
use Rattle.std.specs.List.{filter, flat_map}
use Rattle.hd_terms.specs.declared.IntoRow.{IntoRow}
use Rattle.hd_terms.specs.declared.Event.{Event}
use Rattle.hd_terms.specs.Dump.{SlotEntry, Object, Dump}
use Rattle.hd_terms.specs.Edges.{index_of}
use Rattle.hd_terms.specs.EditedDump.{is_untouched}
use Rattle.hd_terms.specs.SlotRows.{mode_of}

-- the ID in a slot is that of the object of a number
abbrev pub refers_to : Dump → ℕ → SlotEntry → Bool
refers_to dump o s = option_map_or (λ (target : ℕ). target == o) (index_of dump.objects s.id) false

-- how a reference from a slot of an object to that of a number is shown: it stands, or a live edit takes it away
abbrev pub into_row : List Event → ℕ → Object → SlotEntry → IntoRow
into_row log o x s = record { source = x.id; slot = s.slot; kind = s.kind; mode = mode_of (Some o) (is_untouched log x s) }

-- the references of one object to that of a number, in the order of its slots
abbrev pub into_from : Dump → List Event → ℕ → Object → List IntoRow
into_from dump log o x = map (into_row log o x) (filter (refers_to dump o) x.slots)

-- all references of the dump to the object of a number: those of each object, joined
abbrev pub into_rows : Dump → List Event → ℕ → List IntoRow
into_rows dump log o = flat_map (into_from dump log o) dump.objects
