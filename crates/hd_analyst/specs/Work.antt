-- What an analyst works on.
-- Source: this project.
use Rattle.std.specs.Prelude.{Bool, List, map, Option}
use Rattle.hd_terms.specs.declared.Event.{Event}
use Rattle.hd_lines.specs.Memory.{Memory, beginning}
use Rattle.hd_terms.specs.Schedule.{Board}
use Rattle.hd_lines.specs.Sessions.{Analyst}
use Rattle.hd_board.specs.Replicas.{Replica}
use Rattle.hd_state.specs.Situation.{Situation}

-- the analyst, what the session remembers, and the log to which the state of the analyst's desk has come
pub record Work : Type 0 where
  pub analyst : Analyst
  pub memory : Memory
  pub front : List Event

-- the logs of marks
abbrev pub logs_of : List Situation → List (List Event)
logs_of marks = map (λ (mark : Situation). mark.log) marks

-- what a session remembers under the log of a state, with marks, in a private part if it has a home, and with names or without
abbrev pub memory_at : List Event → List Situation → (home : Option (List Event)) → (names : Bool) → Memory
memory_at log marks home names = record { log = log; marks = logs_of marks; home = home; names = names }

-- the analyst of a desk at a board
abbrev pub analyst_at : Board → Replica → Analyst
analyst_at board desk = record { dump = desk.dump; who = desk.who; roots = board.roots }

-- the dump of a desk under the log of its state
abbrev pub situation_of : Replica → Situation
situation_of desk = record { dump = desk.dump; log = desk.front }

-- a session of a desk at a board begins, with names or without
abbrev pub work_begun : Board → (names : Bool) → Replica → Work
work_begun board names desk = record { analyst = analyst_at board desk; memory = beginning names desk.seen desk.front; front = desk.front }
