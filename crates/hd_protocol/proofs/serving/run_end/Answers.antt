use Rattle.std.proofs.Common.{◌≡◌, ◌<◌, ◌∙◌, Err, ap, length, arith}
use Rattle.std.proofs.lemmas.Result.{err_from_is_err_and}
use Rattle.hd_protocol.specs.Steps.{midway}
use Rattle.hd_protocol.proofs.ServedLines.{runs_end_none, runs_end, runs_end_fault}
use Rattle.hd_protocol.proofs.serving.run_end.Goals as goal

pub returns-then-is_empty : goal.returns-then-is_empty
returns-then-is_empty g c =
    let none : length c.args.service.now.line ≡ 0 = grind arith in
    runs_end_none (midway c.args.service.now.analyst c.args.service.now.line) (g.W.Write.contents c.args.writer.now)
    (g.W.Write.contents c.args.writer.now) tt none

pub returns-in_err-_flow : goal.returns-in_err-_flow
returns-in_err-_flow g c =
    let p = err_from_is_err_and c.from_residual.result c.from_residual.ensures.1 in
    let some : 0 < length c.args.service.now.line = grind arith in
    runs_end_fault (midway c.args.service.now.analyst c.args.service.now.line) _ _ tt _ c.in_err-_flow.field-0.0 c.from_residual.result
    (p.1 ∙ ap Err p.2) some c.in_err-_flow.ensures.runs

pub returns : goal.returns
returns g c =
    let some : 0 < length c.args.service.now.line = grind arith in
    runs_end (midway c.args.service.now.analyst c.args.service.now.line) _ _ tt _ c.in_ok-_flow._flow some c.in_ok-_flow.ensures.runs
