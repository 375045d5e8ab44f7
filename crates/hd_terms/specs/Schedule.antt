-- The schedule of the desks: one log that all append to, and of each desk what it has seen and how far its state has come.
-- Source: this project. One step is one holding of the log's lock, or one desk's own doing.
use Rattle.std.specs.Prelude.{◌≡◌, ℕ, zero, suc, ◌<◌, ◌==◌, if◌then◌else◌, List, [], ◌∷◌, ◌++◌, length, map, drop, None, All, Contains}
use Rattle.hd_terms.specs.declared.Event.{Event}
use Rattle.hd_terms.specs.Log.{IsLawful, IsEvent, begins_with}
use Rattle.hd_terms.specs.Appending.{append_refusal}
use Rattle.hd_terms.specs.Desks.{Continues}

-- what never changes of a board: how many roots the dump has, the log from which the board began, and its desks' numbers
pub record Board : Type 0 where
  pub roots : ℕ
  pub base : List Event
  pub numbers : List ℕ

-- `count` numbers one after another, from a first one on
abbrev pub numbers_from : (first count : ℕ) → List ℕ
numbers_from first zero = []
numbers_from first (suc count) = first ∷ numbers_from (suc first) count

-- what a desk has seen of the log, and how far its state has come
pub record Desk : Type 0 where
  pub seen : List Event
  pub front : List Event

-- the log, and the desk of each number; numbers that aren't the board's stay as they began
pub record Desks : Type 0 where
  pub log : List Event
  pub desk : ℕ → Desk

-- what may happen: an analyst appends an event, looks at the log, learns what another has seen where that is longer, or
-- catches up by one event
pub data Step : Type 0 where
  append : (event : Event) → Step
  look : (who : ℕ) → Step
  learn : (who other : ℕ) → Step
  catch_up : (who : ℕ) → Step

-- all begins at the base
abbrev pub start : Board → Desks
start board = record { log = board.base; desk = λ who. record { seen = board.base; front = board.base } }

-- the same but for one desk
abbrev pub with_desk : Desks → ℕ → Desk → Desks
with_desk s who desk = record { log = s.log; desk = λ n. if n == who then desk else s.desk n }

-- the same but for what one desk has seen
abbrev pub with_seen : Desks → ℕ → List Event → Desks
with_seen s who seen = with_desk s who (record { seen = seen; front = (s.desk who).front })

-- the same but for how far one desk's state has come
abbrev pub with_front : Desks → ℕ → List Event → Desks
with_front s who front = with_desk s who (record { seen = (s.desk who).seen; front = front })

-- the same but for the log
abbrev pub with_log : Desks → List Event → Desks
with_log s log = record { log = log; desk = s.desk }

-- a step of one of the board's desks leads from what was to what is
abbrev pub Leads : Board → Desks → Step → Desks → Type 0
Leads board s (append event) t =
    Contains board.numbers event.who × (append_refusal board.roots s.log event ≡ None)
    × (let log = s.log ++ event ∷ [] in t ≡ with_seen (with_log s log) event.who log)
Leads board s (look who) t = Contains board.numbers who × (t ≡ with_seen s who s.log)
Leads board s (learn who other) t =
    Contains board.numbers who × Contains board.numbers other × (length (s.desk who).seen < length (s.desk other).seen)
    × (t ≡ with_seen s who (s.desk other).seen)
Leads board s (catch_up who) t =
    Contains board.numbers who
    × (event : Event) × IsEvent (s.desk who).seen (length (s.desk who).front) event × (t ≡ with_front s who ((s.desk who).front ++ event ∷ []))

-- a schedule leads from what was to what is, step by step
abbrev pub Runs : Board → Desks → List Step → Desks → Type 0
Runs board s [] t = t ≡ s
Runs board s (step ∷ steps) t = (next : Desks) × Leads board s step next × Runs board next steps t

-- what a schedule from the base makes of a board's desks
pub record Reaches (board : Board) (s : Desks) : Type 0 where
  pub steps : List Step
  pub runs : Runs board (start board) steps s

-- a private board of one desk begins at the front of that desk's state
abbrev pub fork : Board → Desks → ℕ → Board
fork board s who = record { roots = board.roots; base = (s.desk who).front; numbers = who ∷ [] }

-- the events after the base
abbrev pub after_base : Board → List Event → List Event
after_base board log = drop (length board.base) log

-- every event after the base is an event of the board's own analysts
abbrev pub AreMembers : Board → List Event → Type 0
AreMembers board log = All (λ (e : Event). Contains board.numbers e.who) (after_base board log)

-- the desks hold beginnings of one history
pub record IsOneHistory (board : Board) (s : Desks) : Type 0 where
  -- the state of each desk has come to a beginning of what the desk has seen
  pub fronts : (a : ℕ) → Contains board.numbers a → begins_with (s.desk a).seen (s.desk a).front
  -- what each desk has seen is a beginning of the log, and has all events of the desk's own analyst
  pub seen : (a : ℕ) → Contains board.numbers a → Continues a (s.desk a).seen s.log
  -- the log begins with the base
  pub base : begins_with s.log board.base
  -- after the base all events are of the board's analysts
  pub members : AreMembers board s.log
  -- the log stays lawful
  pub lawful : IsLawful board.base → IsLawful s.log

-- the board can be closed with these desks, each a number and what it has seen: every number of the board is a desk's and
-- every desk's is the board's, the log continues what each has seen, and after the base has events of the board's alone
pub record Closes (board : Board) (log : List Event) (desks : List (ℕ × List Event)) : Type 0 where
  pub complete : (a : ℕ) → Contains board.numbers a → (seen : List Event) × Contains desks (a, seen)
  pub ours : (a : ℕ) (seen : List Event) → Contains desks (a, seen) → Contains board.numbers a
  pub continues : (a : ℕ) (seen : List Event) → Contains desks (a, seen) → Continues a seen log
  pub members : AreMembers board log

-- all desks of the board, in the order of its numbers
abbrev pub all_desks : Board → Desks → List (ℕ × List Event)
all_desks board s = map (λ (a : ℕ). (a, (s.desk a).seen)) board.numbers
