use Rattle.std.proofs.lemmas.Result.{err_from_is_err_and}
use Rattle.hd_subs.proofs.Values.{field_stop, begins_field}
use Rattle.hd_subs.proofs.class_reading.read_field.Goals as goal

pub returns-in_err-code-clause-err : goal.returns-in_err-code-clause-err
returns-in_err-code-clause-err c =
    let p = err_from_is_err_and c.from_residual.result c.from_residual.ensures.1 in
    rw (p.1, p.2) (field_stop c.args.id_size c.args.from.rest.now c.in_err-code.field-0.0 (rw (← c.bytes.ensures) c.in_err-code.ensures.err))

pub returns-clause-ok : goal.returns-clause-ok
returns-clause-ok c =
    begins_field c.args.id_size c.args.from.at c.args.from.rest.now c.in_ok-code.code c.in_ok-code.field-0-1 c.in_ok-code.after.rest.now c.in_ok-code.after.at
    c.read.result
    (rw (← c.bytes.ensures) c.in_ok-code.ensures.ok) c.read.ensures
