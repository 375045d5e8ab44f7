use Rattle.std.proofs.lemmas.Result.{err_from_is_err_and}
use Rattle.hd_subs.proofs.Values.{begins_static}
use Rattle.hd_subs.proofs.class_reading.read_static.Goals as goal

pub returns-in_err-typed-clause-err : goal.returns-in_err-typed-clause-err
returns-in_err-typed-clause-err c =
    let p = err_from_is_err_and c.from_residual.result c.from_residual.ensures.1 in
    rw (p.1, p.2, ← c.bytes.ensures) c.in_err-typed.ensures.err

pub returns-clause-ok : goal.returns-clause-ok
returns-clause-ok c =
    begins_static c.args.id_size c.args.from.at c.args.from.rest.now _ c.in_ok-typed.after.rest.now c.in_ok-typed.after.at c.read.result
    (rw (← c.bytes.ensures) c.in_ok-typed.ensures.ok) c.read.ensures
