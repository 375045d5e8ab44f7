-- What an analyst appends to a log, and why the log doesn't take it.
-- Source: this project. The order is: what an undo names, what a drop names, and last that the log is full.
use Rattle.std.specs.Prelude.{ℕ, if◌then◌else◌, List, [], ◌∷◌, ◌++◌, Option, Some, None}
use Rattle.std.specs.Option.{option_map, option_and_then, option_or}
use Rattle.hd_terms.specs.declared.Edit.{Edit}
use Rattle.hd_terms.specs.declared.Edit.TheVariants as edits
use Rattle.hd_terms.specs.declared.Event.{Event}
use Rattle.hd_terms.specs.declared.What.{What}
use Rattle.hd_terms.specs.declared.errors.LogFault.{LogFault}
use Rattle.hd_terms.specs.declared.errors.Refusal.{Refusal}
use Rattle.hd_terms.specs.declared.errors.Refusal.TheVariants as refusals
use Rattle.hd_terms.specs.Log.{edit_of, log_fault}
use Rattle.hd_terms.specs.EditedDump.{is_root}

-- the event of an analyst that does something
abbrev pub event_by : ℕ → What → Event
event_by who what = record { who = who; what = what }

-- the log has an event more
abbrev pub with_event : List Event → Event → List Event
with_event log event = log ++ event ∷ []

-- why an edit can't be done to the `roots` roots of a dump and those that a log adds: there is no root to drop
abbrev pub root_refusal : (roots : ℕ) → List Event → Edit → Option Refusal
root_refusal roots log (edits.Cut id slot) = None
root_refusal roots log (edits.Clear id) = None
root_refusal roots log (edits.Drop r) = if is_root roots log r then None else Some refusals.NoSuchRoot
root_refusal roots log (edits.Add id) = None
root_refusal roots log (edits.ClearAll kind) = None
root_refusal roots log (edits.CutAll id i) = None

-- a fault of the log as a refusal
abbrev pub by_log : Option LogFault → Option Refusal
by_log fault = option_map (λ (f : LogFault). refusals.Log f) fault

-- why a log doesn't take an event over a dump of `roots` roots, the first reason, if there is one: there is no root to drop,
-- or the log's own reason
abbrev pub append_refusal : (roots : ℕ) → List Event → Event → Option Refusal
append_refusal roots log event = option_or (option_and_then (root_refusal roots log) (edit_of event.what)) (by_log (log_fault log event))
