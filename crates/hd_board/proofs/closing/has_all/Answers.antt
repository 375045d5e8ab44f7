use Rattle.std.proofs.Common.{◌+◌, arith}
use Rattle.hd_board.proofs.Numbers.{is_number}
use Rattle.hd_board.proofs.Closings.{one_more_has, all_have}
use Rattle.hd_board.proofs.closing.has_all.Goals as goal

pub returns-then-not-has_desk : goal.returns-then-not-has_desk
returns-then-not-has_desk c =
    let who = c.args.first + c.loop-i.i in
    (who, is_number c.args.first c.args.count who (omega arith) (omega arith), λ has. absurd (cc (c.has_desk.ensures.1 has, c.if-not-has_desk.true)))

pub loop-i-preserved : goal.loop-i-preserved
loop-i-preserved c = one_more_has c.args.desks.now c.args.first c.loop-i.i c.loop-i.invariant (c.has_desk.ensures.0 c.if-not-has_desk.false)

pub returns : goal.returns
returns c = all_have c.args.desks.now c.args.first c.args.count c.loop-i.i (omega arith) c.loop-i.invariant
