use Rattle.std.proofs.Common.{inl, refl}
use Rattle.std.proofs.lemmas.Result.{err_from_is_err_and}
use Rattle.hd_graph.proofs.OpenLemmas.{bodies-fault, records-fault}
use Rattle.hd_opening.proofs.opening.read_file.Goals as goal

pub returns-in_err-records-clause-err : goal.returns-in_err-records-clause-err
returns-in_err-records-clause-err g c =
    let p = err_from_is_err_and c.from_residual.result c.from_residual.ensures.1 in
    rw (p.1, p.2) (records-fault c.args.bytes.now c.in_err-records.field-0.0 c.in_err-records.ensures.err)

pub returns-in_err-list-clause-err : goal.returns-in_err-list-clause-err
returns-in_err-list-clause-err g c =
    let p = err_from_is_err_and c.from_residual-in_err-list.result c.from_residual-in_err-list.ensures.1 in
    rw (p.1, p.2) (bodies-fault c.args.bytes.now c.in_ok-records.records.id_size _ _ c.in_ok-records.records.segments c.in_ok-records.ensures.ok
    c.in_err-list.field-0.0 (rw c.in_err-list.was at c.texts_and_subs-texts.ensures.err))

pub returns-in_err-texts-clause-err : goal.returns-in_err-texts-clause-err
returns-in_err-texts-clause-err g c =
    let p = err_from_is_err_and c.from_residual-in_err-texts.result c.from_residual-in_err-texts.ensures.1 in
    rw (p.1, p.2) (inl refl)

pub returns-clause-texts : goal.returns-clause-texts
returns-clause-texts g c = rw c.in_ok-texts.was at c.texts_and_subs-texts.ensures.texts

pub returns-clause-list : goal.returns-clause-list
returns-clause-list g c = rw c.in_ok-list.was at c.texts_and_subs-texts.ensures.list
