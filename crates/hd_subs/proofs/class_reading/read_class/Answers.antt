-- A CLASS DUMP is its head and three lists in a row. Where the head or a list is cut off, so is the sub-record,
-- by a lemma for each (`cut_head`, `constants_stop`, `statics_stop`).
use Rattle.std.proofs.lemmas.Result.{err_from_is_err_and}
use Rattle.std.proofs.Common.{◌+◌, map}
use Rattle.hd_subs.specs.Views.{constant_view, static_view, field_view}
use Rattle.hd_subs.proofs.Wholes.{cut_head, constants_stop, statics_stop, fields_stop, begins_class}
use Rattle.hd_subs.proofs.class_reading.read_class.Goals as goal

pub returns-in_default-clause-err : goal.returns-in_default-clause-err
returns-in_default-clause-err c = cut_head c.args.id_size c.args.fields.now c.in_default.ensures

pub returns-in_err-constants-clause-err : goal.returns-in_err-constants-clause-err
returns-in_err-constants-clause-err c =
    let p = err_from_is_err_and c.from_residual.result c.from_residual.ensures.1 in
    rw (p.1, p.2) (constants_stop c.args.id_size c.args.fields.now
    (c.args.offset + 1) c.in-Some.head c.in-Some.from.rest.now c.in-Some.from.at c.in_err-constants.field-0.0 c.in-Some.ensures
    c.in_err-constants.ensures.err)

pub returns-in_err-statics-clause-err : goal.returns-in_err-statics-clause-err
returns-in_err-statics-clause-err c =
    let p = err_from_is_err_and c.from_residual-in_err-statics.result c.from_residual-in_err-statics.ensures.1 in
    rw (p.1, p.2)
    (statics_stop c.args.id_size c.args.fields.now (c.args.offset + 1) c.in-Some.head c.in-Some.from.rest.now c.in-Some.from.at
    (map constant_view c.in_ok-constants.constants.items) c.in_ok-constants.from.rest.now c.in_ok-constants.from.at c.in_err-statics.field-0.0
    c.in-Some.ensures c.in_ok-constants.ensures.ok c.in_err-statics.ensures.err)

pub returns-in_err-declared-clause-err : goal.returns-in_err-declared-clause-err
returns-in_err-declared-clause-err c =
    let p = err_from_is_err_and c.from_residual-in_err-declared.result c.from_residual-in_err-declared.ensures.1 in
    rw (p.1, p.2)
    (fields_stop c.args.id_size c.args.fields.now (c.args.offset + 1) c.in-Some.head c.in-Some.from.rest.now c.in-Some.from.at
    (map constant_view c.in_ok-constants.constants.items) c.in_ok-constants.from.rest.now c.in_ok-constants.from.at
    (map static_view c.in_ok-statics.statics.items) c.in_ok-statics.from.rest.now c.in_ok-statics.from.at c.in_err-declared.field-0.0 c.in-Some.ensures
    c.in_ok-constants.ensures.ok c.in_ok-statics.ensures.ok c.in_err-declared.ensures.err)

pub returns-clause-ok : goal.returns-clause-ok
returns-clause-ok c =
    begins_class c.args.id_size c.args.offset c.args.fields.now c.in-Some.head c.in-Some.from.rest.now c.in-Some.from.at
    (map constant_view c.in_ok-constants.constants.items) c.in_ok-constants.from.rest.now c.in_ok-constants.from.at
    (map static_view c.in_ok-statics.statics.items) c.in_ok-statics.from.rest.now c.in_ok-statics.from.at
    (map field_view c.in_ok-declared.declared.items) c.in_ok-declared.from.rest.now c.in_ok-declared.from.at
    c.in-Some.ensures c.in_ok-constants.ensures.ok c.in_ok-statics.ensures.ok c.in_ok-declared.ensures.ok
