use Rattle.std.proofs.Common.{◌∙◌, Err, ap}
use Rattle.std.proofs.lemmas.Result.{err_from_is_err_and}
use Rattle.hd_analyst.specs.Work.{work_begun}
use Rattle.hd_protocol.proofs.ServedDesks.{served_desk, unserved_desk}
use Rattle.hd_protocol.proofs.serving.serve.Goals as goal

pub returns-in_err-chunk : goal.returns-in_err-chunk
returns-in_err-chunk g c =
    let p = err_from_is_err_and c.from_residual.result c.from_residual.ensures.1 in
    unserved_desk c.args.board.now c.args.names c.args.desk.now _ _ c.from_residual.result (p.1 ∙ ap Err p.2)

pub returns-in_err-line : goal.returns-in_err-line
returns-in_err-line g c =
    let p = err_from_is_err_and c.from_residual-in_err-line.result c.from_residual-in_err-line.ensures.1 in
    unserved_desk c.args.board.now c.args.names c.args.desk.now _ _ c.from_residual-in_err-line.result (p.1 ∙ ap Err p.2)

pub returns-in_err-reply : goal.returns-in_err-reply
returns-in_err-reply g c =
    let p = err_from_is_err_and c.from_residual-in_err-reply.result c.from_residual-in_err-reply.ensures.1 in
    unserved_desk c.args.board.now c.args.names c.args.desk.now _ _ c.from_residual-in_err-reply.result (p.1 ∙ ap Err p.2)

pub returns-in_err-marks : goal.returns-in_err-marks
returns-in_err-marks g c =
    let p = err_from_is_err_and c.from_residual-in_err-marks.result c.from_residual-in_err-marks.ensures.1 in
    unserved_desk c.args.board.now c.args.names c.args.desk.now _ _ c.from_residual-in_err-marks.result (p.1 ∙ ap Err p.2)

pub returns-in_err-_board : goal.returns-in_err-_board
returns-in_err-_board g c =
    let p = err_from_is_err_and c.from_residual-in_err-_board.result c.from_residual-in_err-_board.ensures.1 in
    unserved_desk c.args.board.now c.args.names c.args.desk.now _ _ c.from_residual-in_err-_board.result (p.1 ∙ ap Err p.2)

pub returns : goal.returns
returns g c =
    served_desk c.args.board.now c.args.names c.args.desk.now c.begin-analyst.result c.run_all-ended.new.service.analyst c.leave.result _ _ _ _
    c.run_all-ended.result (c.begin-analyst.ensures ∙ ap (work_begun c.args.board.now c.args.names) c.replace.ensures.value) c.run_all-ended.ensures
    c.leave.ensures.who c.leave.ensures.dump c.leave.ensures.seen
