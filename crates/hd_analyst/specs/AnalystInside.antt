-- What is kept for an analyst, and what holds of it.
-- Source: this project.
use Rattle.std.specs.Prelude.{◌≡◌, ◌≤◌, List, length, All, Option, None, Some}
use Rattle.hd_terms.specs.declared.Event.{Event}
use Rattle.hd_lines.specs.Memory.{most_marks}
use Rattle.hd_terms.specs.Schedule.{Board}
use Rattle.hd_board.specs.Replicas.{Replica}
use Rattle.hd_state.specs.Situation.{Situation}
use Rattle.hd_analyst.specs.declared.analyst.Analyst.TheInside.{Inside}
use Rattle.hd_analyst.specs.declared.analyst.PrivatePart.{PrivatePart}
use Rattle.hd_analyst.specs.Work.{Work, analyst_at, memory_at}

-- the log to which a private part goes back, if one is open
abbrev pub home_of : Option PrivatePart → Option (List Event)
home_of None = None
home_of (Some part) = Some part.home.seen

-- the board on which commands run: that of the private part, or else the session's
abbrev pub board_in : Board → Option PrivatePart → Board
board_in board None = board
board_in board (Some part) = part.board

abbrev pub work_of : Inside → Work
work_of a = record { analyst = analyst_at a.board.now a.desk; memory = memory_at a.desk.seen a.marks.items (home_of a.private) a.names; front = a.desk.front }

-- a private part is the desk's: its home is a desk of the same analyst over the same dump, whose roots its board counts
abbrev pub IsPartOf : Replica → Option PrivatePart → Type 0
IsPartOf desk None = Unit {0}
IsPartOf desk (Some part) = (part.home.who ≡ desk.who) × (part.home.dump ≡ desk.dump) × (part.board.roots ≡ length desk.dump.roots)

-- the marks are of the desk's dump, there are no more than there may be, and a private part is the desk's
pub record IsAnalyst (a : Inside) : Type 0 where
  pub of_dump : All (λ (mark : Situation). mark.dump ≡ a.desk.dump) a.marks.items
  pub few : length a.marks.items ≤ most_marks
  pub part : IsPartOf a.desk a.private
