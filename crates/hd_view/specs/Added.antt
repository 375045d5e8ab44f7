-- The roots that events add, live or not, by the objects that they are on.
-- Source: this project.
use Rattle.std.specs.Prelude.{◌≡◌, ℕ, ◌+◌, ◌<◌, ◌^◌, ◌==◌, Bool, false, List, length, map, Option, Some, None}
use Rattle.std.specs.Option.{option_map, option_map_or, option_and_then}
use Rattle.std.specs.List.{filter, enumerate_from}
use Rattle.hd_terms.specs.declared.Edit.TheVariants as edits
use Rattle.hd_terms.specs.declared.Event.{Event}
use Rattle.hd_terms.specs.declared.What.{What}
use Rattle.hd_terms.specs.declared.What.TheVariants as whats
use Rattle.hd_terms.specs.Dump.{Dump}
use Rattle.hd_terms.specs.Edges.{index_of}
use Rattle.hd_reverse.specs.declared.numbers.NumberOn.{NumberOn}
use Rattle.hd_reverse.specs.Numbers.{numbers_on}

-- the ID on which an event adds a root, if it adds one
abbrev pub id_added : What → Option ℕ
id_added (whats.Do (edits.Cut id slot)) = None
id_added (whats.Do (edits.Clear id)) = None
id_added (whats.Do (edits.Drop r)) = None
id_added (whats.Do (edits.Add id)) = Some id
id_added (whats.Do (edits.ClearAll kind)) = None
id_added (whats.Do (edits.CutAll class i)) = None
id_added (whats.Undo k) = None

-- the number of the object on which an event adds a root, if there is one
abbrev pub object_added : Dump → What → Option ℕ
object_added dump what = option_and_then (index_of dump.objects) (id_added what)

-- an event as a number that belongs to the object on which it adds a root
abbrev pub event_number : Dump → ℕ × Event → Option NumberOn
event_number dump (k, event) = option_map (λ (target : ℕ). record { object = target; number = k }) (object_added dump event.what)

-- an event adds a root on the object of a number
abbrev pub adds_on : Dump → ℕ → ℕ × Event → Bool
adds_on dump o (k, event) = option_map_or (λ (target : ℕ). target == o) (object_added dump event.what) false

-- the numbers of the events that add a root on the object of a number
abbrev pub events_on : Dump → List Event → ℕ → List ℕ
events_on dump log o = map (λ (n : ℕ × Event). n.0) (filter (adds_on dump o) (enumerate_from 0 log))

-- the events are those of a log, by the objects of a dump; and numbers of four bytes suffice for the roots of both
pub record IsAddedBy (dump : Dump) (log : List Event) (added : List NumberOn) : Type 0 where
  pub events : (o : ℕ) → numbers_on added o ≡ events_on dump log o
  pub few : length dump.roots + length log < 2 ^ 32
