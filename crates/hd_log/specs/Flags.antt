-- Flags of events: which are edits, and which are edits that some events don't take back.
-- Source: this project.
use Rattle.std.specs.Prelude.{◌≡◌, ℕ, ◌<◌, Bool, true, false, ◌&&◌, List, map, slice_set}
use Rattle.std.specs.List.{enumerate_from}
use Rattle.hd_terms.specs.declared.Event.{Event}
use Rattle.hd_terms.specs.declared.What.{What}
use Rattle.hd_terms.specs.declared.What.TheVariants as whats
use Rattle.hd_terms.specs.Log.{stays}

-- the event is an edit
abbrev pub is_edit : What → Bool
is_edit (whats.Do edit) = true
is_edit (whats.Undo k) = false

-- event k is an edit, and none of the events seen takes it back
abbrev pub is_live_of : List Event → ℕ × Event → Bool
is_live_of seen (k, event) = stays seen k && is_edit event.what

-- of each event of a log, whether it is an edit that none of the events seen takes back
abbrev pub flags_of : List Event → List Event → List Bool
flags_of seen log = map (is_live_of seen) (enumerate_from 0 log)

-- an undo takes back one of the first n events
abbrev pub UndoesWithin : Event → ℕ → Type 0
UndoesWithin event n = (k : ℕ) → event.what ≡ whats.Undo k → k < n

-- flags where that of the event is cleared that is taken back
abbrev pub cleared : What → List Bool → List Bool
cleared (whats.Do edit) flags = flags
cleared (whats.Undo k) flags = slice_set flags k false
