use Rattle.std.proofs.Common.{◌≡◌, ◌+◌, ◌-◌, length, arith}
use Rattle.hd_board.specs.DeskInside.{replica_of}
use Rattle.hd_board.proofs.Steps.{seeing, sees_log, on_err, comes, one_behind}
use Rattle.hd_board.proofs.desk.Desk.come_to.Goals as goal

pub returns-in_err-done-clause-err : goal.returns-in_err-done-clause-err
returns-in_err-done-clause-err g c =
    let old = c.args.self.now in
    let log = c.args.log in
    let d = replica_of c.self.inside in
    let len : (c.len-last.result - 1) + 1 ≡ length log = omega (arith, c.requires.longer, c.len-last.ensures.len) in
    on_err c.from_residual-in_err-done.result c.from_residual-in_err-done.ensures.0
    (one_behind old (seeing d log) c.step_to.new.self c.step_once.new.self log (c.len-last.result - 1)
    (sees_log old d log c.self.view_is) c.requires.begins c.in_ok-step_to.ensures.ok c.in_err-done.ensures.err c.requires.longer len)

pub returns-clause-ok : goal.returns-clause-ok
returns-clause-ok g c =
    let old = c.args.self.now in
    let log = c.args.log in
    let d = replica_of c.self.inside in
    let len : (c.len-last.result - 1) + 1 ≡ length log = omega (arith, c.requires.longer, c.len-last.ensures.len) in
    comes old (seeing d log) c.step_to.new.self c.step_once.new.self log (c.len-last.result - 1) c.in_ok-done.done
    (sees_log old d log c.self.view_is) c.in_ok-step_to.ensures.ok c.in_ok-done.ensures.ok len
