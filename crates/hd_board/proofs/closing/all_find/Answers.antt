use Rattle.std.proofs.Common.{arith, subst}
use Rattle.std.specs.List.{All}
use Rattle.std.proofs.lemmas.List.{take_all}
use Rattle.hd_terms.specs.Schedule.{numbers_from}
use Rattle.hd_board.proofs.Closings.{finds, one_more_finds}
use Rattle.hd_board.proofs.closing.all_find.Goals as goal

pub loop-desk-preserved : goal.loop-desk-preserved
loop-desk-preserved c = one_more_finds (numbers_from c.args.first c.args.count) c.args.log.now c.args.desks.now c.loop-desk.desk-index c.desk-item.result
    c.who.result c.seen.result.now c.loop-desk-test.true c.desk-item.is c.who.ensures c.seen.ensures c.loop-desk.invariant c.if-not-is_found.ensures

pub returns : goal.returns
returns c = subst (All (finds (numbers_from c.args.first c.args.count) c.args.log.now))
    (take_all c.loop-desk.desk-index c.args.desks.now (omega arith)) c.loop-desk.invariant
