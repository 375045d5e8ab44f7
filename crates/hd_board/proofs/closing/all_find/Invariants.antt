use Rattle.std.proofs.Common.{take, All}
use Rattle.hd_terms.specs.Schedule.{numbers_from}
use Rattle.hd_board.specs.Appends.{IsFound}
use Rattle.hd_board.specs.Replicas.{Replica}
use Rattle.hd_board.proofs.closing.all_find.Given as goal

-- the desks so far can find the log
abbrev pub invariant-loop-desk : goal.invariant-loop-desk
invariant-loop-desk l = All (λ (d : Replica). IsFound (numbers_from l.first l.count) d.who d.seen l.log) (take l.desk-index l.desks)
