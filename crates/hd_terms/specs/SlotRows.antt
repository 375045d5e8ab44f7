-- The slots of an object as they are shown under a log.
-- Source: this project.
use Rattle.std.specs.Prelude.{ℕ, ◌==◌, Bool, if◌then◌else◌, List, map, Option, Some, None}
use Rattle.hd_terms.specs.declared.SlotMode.{SlotMode}
use Rattle.hd_terms.specs.declared.SlotMode.TheVariants as modes
use Rattle.hd_terms.specs.declared.SlotRow.{SlotRow}
use Rattle.hd_terms.specs.declared.Event.{Event}
use Rattle.hd_terms.specs.Dump.{SlotEntry, Object, Dump}
use Rattle.hd_terms.specs.Edges.{index_of}
use Rattle.hd_terms.specs.EditedDump.{is_untouched}

-- a slot whose ID is no object's is absent; any other stands or is cut
abbrev pub mode_of : Option ℕ → Bool → SlotMode
mode_of None stands = modes.Absent
mode_of (Some target) stands = if stands then modes.Stands else modes.Cut

-- how a slot of an object is shown
abbrev pub slot_mode : Dump → List Event → Object → SlotEntry → SlotMode
slot_mode dump log x s = if s.id == 0 then modes.Null else mode_of (index_of dump.objects s.id) (is_untouched log x s)

abbrev pub slot_row : Dump → List Event → Object → SlotEntry → SlotRow
slot_row dump log x s = record { slot = s.slot; kind = s.kind; id = s.id; mode = slot_mode dump log x s }

-- all slots of an object, in their order
abbrev pub slot_rows : Dump → List Event → Object → List SlotRow
slot_rows dump log x = map (slot_row dump log x) x.slots
