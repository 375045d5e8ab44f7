-- Rows of a dump under a log: what each slot of an object, and each root, is a standing reference to.
-- Source: this project.
use Rattle.std.specs.Prelude.{◌≡◌, ℕ, ◌+◌, ◌-◌, nat_lt, if◌then◌else◌, List, length, Option, Some, None, slice_get}
use Rattle.std.specs.Option.{option_map}
use Rattle.hd_terms.specs.declared.Edit.{Edit}
use Rattle.hd_terms.specs.declared.Edit.TheVariants as edits
use Rattle.hd_terms.specs.declared.Event.{Event}
use Rattle.hd_terms.specs.Paths.{Edge, RootEntry}
use Rattle.hd_terms.specs.Dump.{SlotEntry, Root, Dump, object_at}
use Rattle.hd_terms.specs.Edges.{edge_of, index_of}
use Rattle.hd_terms.specs.EditedDump.{is_untouched, is_dropped}
use Rattle.hd_terms.specs.Log.{live_edit}

-- how many slots an object has
abbrev pub width : Dump → ℕ → ℕ
width dump o = length (object_at dump o).slots

-- the object that the slot at an index refers to, if it refers to one
abbrev pub IsTargetAt : Dump → ℕ → ℕ → Option ℕ → Type 0
IsTargetAt dump o i target = (s : SlotEntry) → slice_get (object_at dump o).slots i ≡ Some s → target ≡ index_of dump.objects s.id

-- the edge of a slot, where there is a slot and it stands
abbrev pub edge_by : Dump → List Event → ℕ → Option SlotEntry → Option Edge
edge_by dump log o None = None
edge_by dump log o (Some s) = if is_untouched log (object_at dump o) s then edge_of dump.objects o s else None

-- the standing edge at an index of an object's slots
unfoldable pub edge_at : Dump → List Event → ℕ → ℕ → Option Edge
edge_at dump log o i = edge_by dump log o (slice_get (object_at dump o).slots i)

-- what a root of a number on an ID holds, where no live edit drops it and the ID is an object's
abbrev pub standing_root : Dump → List Event → ℕ → ℕ → Option RootEntry
standing_root dump log r id =
    if is_dropped log r then None
    else option_map (λ (target : ℕ). record { number = r; target = target }) (index_of dump.objects id)

-- the same of a root of the dump
abbrev pub standing_dump_root : Dump → List Event → ℕ × Root → Option RootEntry
standing_dump_root dump log (r, root) = standing_root dump log r root.id

-- what the root holds that a live edit of event k adds, by the edit
abbrev pub added_by : Dump → List Event → ℕ → Option Edit → Option RootEntry
added_by dump log k None = None
added_by dump log k (Some (edits.Cut id slot)) = None
added_by dump log k (Some (edits.Clear id)) = None
added_by dump log k (Some (edits.Drop r)) = None
added_by dump log k (Some (edits.Add id)) = standing_root dump log (length dump.roots + k) id
added_by dump log k (Some (edits.ClearAll references)) = None
added_by dump log k (Some (edits.CutAll class i)) = None

-- the same of an event
abbrev pub standing_added_root : Dump → List Event → ℕ × Event → Option RootEntry
standing_added_root dump log (k, event) = added_by dump log k (live_edit log (k, event))

-- the entry of a root of the dump, where there is a root and it stands
abbrev pub root_by : Dump → List Event → ℕ → Option Root → Option RootEntry
root_by dump log r None = None
root_by dump log r (Some root) = standing_dump_root dump log (r, root)

-- the entry of the root that an event adds, where there is an event and the root stands
abbrev pub root_by_event : Dump → List Event → ℕ → Option Event → Option RootEntry
root_by_event dump log k None = None
root_by_event dump log k (Some event) = standing_added_root dump log (k, event)

-- the ID of the object to which an edit adds a root
abbrev pub added_id : Edit → Option ℕ
added_id (edits.Cut id slot) = None
added_id (edits.Clear id) = None
added_id (edits.Drop r) = None
added_id (edits.Add id) = Some id
added_id (edits.ClearAll references) = None
added_id (edits.CutAll class i) = None

-- how many roots there can be: those of the dump, and one for each event
abbrev pub root_count : Dump → List Event → ℕ
root_count dump log = length dump.roots + length log

-- the entry of the root of a number: the dump's come first, then those of events
unfoldable pub root_at : Dump → List Event → ℕ → Option RootEntry
root_at dump log r =
    if nat_lt r (length dump.roots) then root_by dump log r (slice_get dump.roots r)
    else root_by_event dump log (r - length dump.roots) (slice_get log (r - length dump.roots))
