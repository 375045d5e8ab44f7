use Rattle.std.proofs.Common.{◌-◌, length}
use Rattle.hd_board.proofs.Steps.{IsOnTheWay}
use Rattle.hd_board.proofs.desk.Desk.step_to.Given as goal

-- the desk is on the way
abbrev pub invariant-loop-alloc : goal.invariant-loop-alloc
invariant-loop-alloc g l = IsOnTheWay l.fn.self l.self l.count

abbrev pub decreases-loop-alloc : goal.decreases-loop-alloc
decreases-loop-alloc g l = l.count - length l.self.front
