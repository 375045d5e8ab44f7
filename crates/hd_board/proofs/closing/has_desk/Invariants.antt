use Rattle.std.proofs.Common.{take, All}
use Rattle.std.specs.Prelude.{◌≢◌}
use Rattle.hd_board.specs.Replicas.{Replica}
use Rattle.hd_board.proofs.closing.has_desk.Given as goal

-- the desks so far have other numbers
abbrev pub invariant-loop-desk : goal.invariant-loop-desk
invariant-loop-desk l = All (λ (d : Replica). d.who ≢ l.who) (take l.desk-index l.desks)
