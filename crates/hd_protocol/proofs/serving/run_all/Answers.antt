use Rattle.std.proofs.Common.{◌∙◌, Err, sym, ap, subst}
use Rattle.std.proofs.lemmas.Result.{err_from_is_err_and}
use Rattle.hd_protocol.specs.Steps.{RunsInput}
use Rattle.hd_protocol.proofs.ServedLines.{served_lost}
use Rattle.hd_protocol.proofs.serving.run_all.Goals as goal

pub returns-in_err-flush : goal.returns-in_err-flush
returns-in_err-flush g c =
    let p = err_from_is_err_and c.from_residual-in_err-flush.result c.from_residual-in_err-flush.ensures.1 in
    subst (RunsInput c.args.service.now.analyst _ _ _ _ _) (sym (p.1 ∙ ap Err p.2 ∙ ap Err c.in_err-flush.ensures.write))
    (served_lost c.args.service.now.analyst _ _ _ _ _ _ _ c.in_ok-run_input.ensures c.in_err-flush.ensures.bytes)
