use Rattle.std.proofs.lemmas.Result.{err_from_is_err_and}
use Rattle.hd_subs.proofs.Values.{typed_stop, short_typed, begins_typed}
use Rattle.hd_subs.proofs.class_reading.read_typed.Goals as goal

pub returns-in_err-code-clause-err : goal.returns-in_err-code-clause-err
returns-in_err-code-clause-err c =
    let p = err_from_is_err_and c.from_residual.result c.from_residual.ensures.1 in
    rw (p.1, p.2) (typed_stop c.args.id_size c.args.key_len c.args.from.rest.now c.in_err-code.field-0.0 c.in_err-code.ensures.err)

pub returns-in_default-clause-err : goal.returns-in_default-clause-err
returns-in_default-clause-err c =
    short_typed c.args.id_size c.args.key_len c.args.from.at c.args.from.rest.now c.in_ok-code.code c.in_ok-code.len c.in_ok-code.value.rest.now
    c.in_ok-code.value.at c.in_ok-code.ensures.ok c.in_default.ensures

pub returns-clause-ok : goal.returns-clause-ok
returns-clause-ok c =
    rw (c.in-Some.ensures.1, c.in-Some.ensures.2) (
    begins_typed c.args.id_size c.args.key_len c.args.from.at c.args.from.rest.now c.in_ok-code.code c.in_ok-code.len c.in_ok-code.value.rest.now
    c.in_ok-code.value.at c.in_ok-code.ensures.ok c.in-Some.ensures.0
    )
