-- The log of events: which logs are lawful, which events are live.
-- Source: this project. The log is one list that all analysts share; an undo names an earlier event of the same analyst.
use Rattle.std.specs.Prelude.{◌≡◌, ℕ, ◌≤◌, ◌<◌, ◌==◌, nat_le, Bool, false, ◌&&◌, not, if◌then◌else◌, List, ◌++◌, length, map, filter, Option, Some, None}
use Rattle.std.specs.Prelude.{is_some, slice_get}
use Rattle.std.specs.Option.{option_or}
use Rattle.std.specs.List.{list_any, filter_map, last_or, enumerate_from}
use Rattle.hd_terms.specs.declared.Edit.{Edit}
use Rattle.hd_terms.specs.declared.Event.{Event}
use Rattle.hd_terms.specs.declared.What.{What}
use Rattle.hd_terms.specs.declared.What.TheVariants as whats
use Rattle.hd_terms.specs.declared.errors.LogFault.{LogFault}
use Rattle.hd_terms.specs.declared.errors.LogFault.TheVariants as faults

-- the most events of a log
abbrev pub largest_log : ℕ
largest_log = 4096

-- event k of a log is this one
abbrev pub IsEvent : List Event → ℕ → Event → Type 0
IsEvent log k event = slice_get log k ≡ Some event

-- an undo at place i of event k is lawful: k is earlier, a `Do` of the same analyst, and no undo before i names it
pub record IsLawfulUndo (log : List Event) (i k who : ℕ) : Type 0 where
  pub earlier : k < i
  pub edit : Edit
  pub own : IsEvent log k (record { who = who; what = whats.Do edit })
  pub first : (j w : ℕ) → j < i → IsEvent log j (record { who = w; what = whats.Undo k }) → ⊥

-- a lawful log
pub record IsLawful (log : List Event) : Type 0 where
  pub short : length log ≤ largest_log
  pub undos : (i k who : ℕ) → IsEvent log i (record { who = who; what = whats.Undo k }) → IsLawfulUndo log i k who

-- the event takes back event k
abbrev pub undoes_what : ℕ → What → Bool
undoes_what k (whats.Do edit) = false
undoes_what k (whats.Undo j) = j == k

-- no event of the log takes back event k
abbrev pub stays : List Event → ℕ → Bool
stays log k = not (list_any (λ (e : Event). undoes_what k e.what) log)

-- the events of one analyst, in order
abbrev pub own : ℕ → List Event → List Event
own who log = filter (λ (e : Event). e.who == who) log

-- a log begins with another: the other, and then some more
abbrev pub begins_with : List Event → List Event → Type 0
begins_with log front = (more : List Event) × (log ≡ front ++ more)

-- the edit of a `Do`
abbrev pub edit_of : What → Option Edit
edit_of (whats.Do edit) = Some edit
edit_of (whats.Undo k) = None

-- the edit of event k where it is live: a `Do` that no event takes back
abbrev pub live_edit : List Event → ℕ × Event → Option Edit
live_edit log (k, event) = if stays log k then edit_of event.what else None

-- the live edits of a log, in their order
abbrev pub live_edits : List Event → List Edit
live_edits log = filter_map (live_edit log) (enumerate_from 0 log)

-- an event is live: a `Do` that no event takes back
abbrev pub is_live : List Event → ℕ × Event → Bool
is_live log numbered = is_some (live_edit log numbered)

-- of each event, whether it is live
abbrev pub live_flags : List Event → List Bool
live_flags log = map (is_live log) (enumerate_from 0 log)

-- the number of a live event of an analyst
abbrev pub own_live : List Event → ℕ → ℕ × Event → Option ℕ
own_live log who (k, event) = if is_live log (k, event) && (event.who == who) then Some k else None

-- the number of an analyst's last live event, if there is one
abbrev pub last_live : List Event → ℕ → Option ℕ
last_live log who = last_or None (filter_map (own_live log who) (enumerate_from 0 log))

-- why an analyst may not take back event k, by what it does: it is an undo, another's, or taken back already
abbrev pub undo_fault_of : List Event → (k who owner : ℕ) → What → Option LogFault
undo_fault_of log k who owner (whats.Undo j) = Some faults.NoSuchEvent
undo_fault_of log k who owner (whats.Do edit) = if owner == who then (if stays log k then None else Some faults.NotLive) else Some faults.NotYours

-- why an analyst may not take back event k: there is none, or its own reasons
abbrev pub undo_fault : List Event → (k who : ℕ) → Option Event → Option LogFault
undo_fault log k who None = Some faults.NoSuchEvent
undo_fault log k who (Some event) = undo_fault_of log k who event.who event.what

-- a log of the most events takes no more
abbrev pub full_fault : List Event → Option LogFault
full_fault log = if nat_le largest_log (length log) then Some faults.LogFull else None

-- why a log doesn't take what an analyst does, the first reason
abbrev pub log_fault_of : List Event → ℕ → What → Option LogFault
log_fault_of log who (whats.Do edit) = full_fault log
log_fault_of log who (whats.Undo k) = option_or (undo_fault log k who (slice_get log k)) (full_fault log)

-- why a log doesn't take an event, the first reason, if there is one
abbrev pub log_fault : List Event → Event → Option LogFault
log_fault log event = log_fault_of log event.who event.what
