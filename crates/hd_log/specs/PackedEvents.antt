-- Packed events: each event has one form in which it is stored.
-- Source: this project.
use Rattle.std.specs.Prelude.{◌≡◌, ℕ}
use Rattle.hd_terms.specs.SlotKinds.{slot_parts}
use Rattle.hd_terms.specs.declared.Edit.TheVariants as edits
use Rattle.hd_terms.specs.declared.Event.{Event}
use Rattle.hd_terms.specs.declared.What.{What}
use Rattle.hd_terms.specs.declared.What.TheVariants as whats
use Rattle.hd_log.specs.declared.packed_event.Action.TheVariants as actions
use Rattle.hd_log.specs.declared.packed_event.PackedEvent.TheInside.{Inside}
use Rattle.hd_log.specs.Actions.{cut_of, clear_all_of, what_by}

-- what is stored, read
abbrev pub event_of : Inside → Event
event_of p = record { who = p.who; what = what_by p.action p.id p.number }

-- the form in which an analyst's event is stored, by what it does. A field that says nothing is 0
abbrev pub packed_by : ℕ → What → Inside
packed_by who (whats.Do (edits.Cut id slot)) = record { id = id; number = (slot_parts slot).1; who = who; action = cut_of (slot_parts slot).0 }
packed_by who (whats.Do (edits.Clear id)) = record { id = id; number = 0; who = who; action = actions.Clear }
packed_by who (whats.Do (edits.Drop root)) = record { id = root; number = 0; who = who; action = actions.Drop }
packed_by who (whats.Do (edits.Add id)) = record { id = id; number = 0; who = who; action = actions.Add }
packed_by who (whats.Do (edits.ClearAll kind)) = record { id = 0; number = 0; who = who; action = clear_all_of kind }
packed_by who (whats.Do (edits.CutAll id i)) = record { id = id; number = i; who = who; action = actions.CutAll }
packed_by who (whats.Undo k) = record { id = 0; number = k; who = who; action = actions.Undo }

abbrev pub packed_of : Event → Inside
packed_of event = packed_by event.who event.what

-- the form is that of what is read
pub record IsPacked (p : Inside) : Type 0 where
  pub same : packed_of (event_of p) ≡ p
