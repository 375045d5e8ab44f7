-- What a session remembers from one line to the next.
-- Source: this project.
use Rattle.std.specs.Prelude.{ℕ, Bool, List, [], ◌∷◌, ◌++◌, Option, None, Some}
use Rattle.hd_terms.specs.declared.Event.{Event}

-- the log, the logs of the marks by their numbers, the log to which a private part goes back, if the session is in one, and
-- whether replies show names
pub record Memory : Type 0 where
  pub log : List Event
  pub marks : List (List Event)
  pub home : Option (List Event)
  pub names : Bool

-- a session begins with the log that its desk has seen; mark 0 is the log of the desk's state, which may be shorter; nothing is
-- private; and replies show names, or they don't
abbrev pub beginning : (names : Bool) → (seen front : List Event) → Memory
beginning names seen front = record { log = seen; marks = front ∷ []; home = None; names = names }

-- the same but for the log
abbrev pub at_log : Memory → List Event → Memory
at_log memory log = record memory { log = log }

-- the most marks of a session, mark 0 among them
abbrev pub most_marks : ℕ
most_marks = 16

-- the same with one more mark, of its log
abbrev pub with_mark : Memory → Memory
with_mark memory = record memory { marks = memory.marks ++ memory.log ∷ [] }

-- the same as a private part begins: the log is its home, and it goes on from there
abbrev pub gone_private : Memory → Memory
gone_private memory = record memory { home = Some memory.log }

-- the same as a private part ends: the log is its home again
abbrev pub gone_back : Memory → List Event → Memory
gone_back memory home = record memory { log = home; home = None }

-- the same as replies show names from here on, or no longer
abbrev pub with_names : Memory → Bool → Memory
with_names memory on = record memory { names = on }

-- a private part's home, or the log where there is none
abbrev pub home_or : Option (List Event) → List Event → List Event
home_or None log = log
home_or (Some home) log = home

-- what the session has seen of its board's log, in a private part too
abbrev pub board_log : Memory → List Event
board_log memory = home_or memory.home memory.log
