-- What closing a board with desks answers.
-- Source: this project.
use Rattle.std.specs.Prelude.{◌≡◌, ℕ, ◌⊎◌, List, Contains}
use Rattle.hd_terms.specs.declared.Event.{Event}
use Rattle.hd_terms.specs.Desks.{IsForeign}
use Rattle.hd_terms.specs.Schedule.{Board, AreMembers}
use Rattle.hd_board.specs.declared.faults.CloseFault.{CloseFault}
use Rattle.hd_board.specs.declared.faults.CloseFault.TheVariants as close_faults
use Rattle.hd_board.specs.Replicas.{Replica}

-- a desk's number, and what it has seen
abbrev pub numbered : Replica → ℕ × List Event
numbered desk = (desk.who, desk.seen)

-- one of the desks has this number
abbrev pub HasDesk : List Replica → ℕ → Type 0
HasDesk desks who = (desk : Replica) × Contains desks desk × (desk.who ≡ who)

-- the log doesn't fit a desk, to which it is foreign, or has an event after the base that is no event of the board's
abbrev pub IsMismatch : Board → List Event → List (ℕ × List Event) → Type 0
IsMismatch board log desks = ((who : ℕ) × (seen : List Event) × Contains desks (who, seen) × IsForeign board.numbers who seen log) ⊎ (AreMembers board log → ⊥)

-- a number of the board is no desk's
abbrev pub IsMissingDesk : Board → List (ℕ × List Event) → Type 0
IsMissingDesk board desks = (who : ℕ) × Contains board.numbers who × ((seen : List Event) → Contains desks (who, seen) → ⊥)

-- why a board can't be closed with these desks; the log is answered
abbrev pub RefusesClose : Board → List (ℕ × List Event) → CloseFault → Type 0
RefusesClose board desks (close_faults.Mismatch log) = IsMismatch board log desks
RefusesClose board desks (close_faults.MissingDesk log) = (IsMismatch board log desks → ⊥) × IsMissingDesk board desks
