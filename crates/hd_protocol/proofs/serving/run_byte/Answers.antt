use Rattle.std.proofs.Common.{◌∙◌, Err, ap, refl}
use Rattle.std.proofs.lemmas.Result.{err_from_is_err_and}
use Rattle.hd_protocol.proofs.ServedLines.{runs_newline, runs_newline_fault, runs_other}
use Rattle.hd_protocol.proofs.serving.run_byte.Goals as goal

pub returns-in_err-flow : goal.returns-in_err-flow
returns-in_err-flow g c =
    let p = err_from_is_err_and c.from_residual.result c.from_residual.ensures.1 in
    runs_newline_fault c.args.service.now.analyst _ c.args.service.now.line c.args.service.now.line c.args.byte _ _ c.if-byte-eq10.true refl
    c.run_line.new.service.line c.in_err-flow.field-0.0 c.from_residual.result (p.1 ∙ ap Err p.2) c.in_err-flow.ensures.runs

pub returns-then-byte-eq10 : goal.returns-then-byte-eq10
returns-then-byte-eq10 g c =
    runs_newline c.args.service.now.analyst _ c.args.service.now.line c.args.service.now.line c.args.byte _ _ c.if-byte-eq10.true refl
    c.clear.new.self c.in_ok-flow.flow c.clear.ensures c.in_ok-flow.ensures.runs

pub returns : goal.returns
returns g c = runs_other c.args.service.now.analyst c.args.service.now.line c.keep.new.line c.args.byte _ c.if-byte-eq10.false c.keep.ensures
