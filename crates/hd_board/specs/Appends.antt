-- What an append to a board's log, and a look at it, answer.
-- Source: this project. An append is decided on the log that is found under the lock.
use Rattle.std.specs.Prelude.{◌≡◌, ℕ, List, Contains, None, Some}
use Rattle.hd_terms.specs.declared.Event.{Event}
use Rattle.hd_terms.specs.Appending.{append_refusal}
use Rattle.hd_terms.specs.Desks.{Continues, IsForeign}
use Rattle.hd_board.specs.declared.faults.AppendFault.{AppendFault}
use Rattle.hd_board.specs.declared.faults.AppendFault.TheVariants as append_faults
use Rattle.hd_board.specs.declared.faults.LookFault.{LookFault}
use Rattle.hd_board.specs.declared.faults.LookFault.TheVariants as look_faults

-- on a board with desks of these numbers an analyst who has seen one log can find another
pub record IsFound (numbers : List ℕ) (who : ℕ) (seen log : List Event) : Type 0 where
  pub member : Contains numbers who
  pub continues : Continues who seen log

-- over a dump of `roots` roots a log takes an event up: its analyst can find the log, which shows no refusal of the event
pub record IsTaken (roots : ℕ) (numbers : List ℕ) (seen log : List Event) (event : Event) : Type 0 where
  pub found : IsFound numbers event.who seen log
  pub accepts : append_refusal roots log event ≡ None

-- an event isn't appended to a log: the log is foreign to what its analyst has seen; or it isn't, and shows another reason,
-- the first in order; or memory ran out. But for the last the log is answered
abbrev pub RefusesAppend : (roots : ℕ) (numbers : List ℕ) (seen log : List Event) → Event → AppendFault → Type 0
RefusesAppend roots numbers seen log event (append_faults.Foreign found) = (found ≡ log) × IsForeign numbers event.who seen log
RefusesAppend roots numbers seen log event (append_faults.Refused refusal found) =
    (found ≡ log) × IsFound numbers event.who seen log × (append_refusal roots log event ≡ Some refusal)
RefusesAppend roots numbers seen log event append_faults.OutOfMemory = Unit {0}

-- a look isn't answered: the log is foreign to what the analyst has seen, and is told; or memory ran out
abbrev pub RefusesLook : (numbers : List ℕ) → ℕ → (seen : List Event) → LookFault → Type 0
RefusesLook numbers who seen (look_faults.Foreign found) = IsForeign numbers who seen found
RefusesLook numbers who seen look_faults.OutOfMemory = Unit {0}
