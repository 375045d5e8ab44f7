-- What a board keeps beside its lock.
-- Source: this project.
use Rattle.std.specs.Prelude.{◌≤◌, ◌+◌}
use Rattle.hd_terms.specs.Schedule.{Board, numbers_from}
use Rattle.hd_board.specs.declared.board.Board.TheInside.{Inside}

-- the board as the schedule has it
abbrev pub board_of : Inside → Board
board_of b = record { roots = b.roots; base = b.base; numbers = numbers_from b.first b.count }

-- the numbers of its desks are numbers of analysts
abbrev pub IsBoard : Inside → Type 0
IsBoard b = b.first + b.count ≤ 256
