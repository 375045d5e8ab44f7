-- What opening and forking a board give.
-- Source: this project.
use Rattle.std.specs.Prelude.{ℕ, List, [], ◌∷◌, length, map}
use Rattle.hd_terms.specs.declared.Event.{Event}
use Rattle.hd_terms.specs.Dump.{Dump}
use Rattle.hd_terms.specs.Schedule.{Board, numbers_from}
use Rattle.hd_board.specs.Replicas.{Replica}

-- a board of `n` desks over a dump
abbrev pub opened_board : Dump → ℕ → Board
opened_board dump n = record { roots = length dump.roots; base = []; numbers = numbers_from 0 n }

-- a desk that has come to a log, and has seen no more
abbrev pub desk_at : Dump → List Event → ℕ → Replica
desk_at dump log who = record { who = who; dump = dump; seen = log; front = log }

-- a desk that has seen nothing yet
abbrev pub opened_desk : Dump → ℕ → Replica
opened_desk dump who = desk_at dump [] who

-- the `n` desks of a board
abbrev pub opened_desks : Dump → ℕ → List Replica
opened_desks dump n = map (opened_desk dump) (numbers_from 0 n)

-- a private board of one desk begins at the log of that desk's state
abbrev pub forked_board : Replica → Board
forked_board desk = record { roots = length desk.dump.roots; base = desk.front; numbers = desk.who ∷ [] }

-- its desk has seen no more
abbrev pub forked_desk : Replica → Replica
forked_desk desk = desk_at desk.dump desk.front desk.who
