use Rattle.std.proofs.Common.{ℕ, ◌+◌, ◌<◌}
use Rattle.hd_board.specs.Closing.{HasDesk}
use Rattle.hd_board.proofs.closing.has_all.Given as goal

-- the numbers so far are desks'
abbrev pub invariant-loop-i : goal.invariant-loop-i
invariant-loop-i l = (k : ℕ) → k < l.i → HasDesk l.desks (l.first + k)
