use Rattle.std.proofs.Common.{◌≡◌}
use Rattle.hd_board.specs.Opening.{opened_desks}
use Rattle.hd_board.proofs.board.opened_desks.Given as goal

-- the desks of the numbers so far
abbrev pub invariant-loop-who : goal.invariant-loop-who
invariant-loop-who l = l.desks.items ≡ opened_desks l.state.dump l.who
