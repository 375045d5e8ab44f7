use Rattle.std.proofs.Common.{◌∙◌, Err, ap, subst}
use Rattle.std.proofs.lemmas.Result.{err_from_is_err_and}
use Rattle.std.specs.Io.KnownBytes.{Appends}
use Rattle.hd_protocol.specs.declared.run.RunFault.TheVariants as faults
use Rattle.hd_protocol.proofs.Stating.{not_handed_on}
use Rattle.hd_protocol.proofs.stat.stat_bytes.Goals as goal

pub returns-in_err-flush : goal.returns-in_err-flush
returns-in_err-flush g c =
    let p = err_from_is_err_and c.from_residual-in_err-flush.result c.from_residual-in_err-flush.ensures.1 in
    not_handed_on c.args.mode _ _ _ _ _ c.from_residual-in_err-flush.result
    c.in_ok-text.ensures.ok
    (subst (Appends _ _) c.as_bytes.ensures.value c.in_ok-put_all.ensures.ok) c.in_err-flush.ensures.bytes
    (p.1 ∙ ap Err (p.2 ∙ ap faults.Serve c.in_err-flush.ensures.write))
