use Rattle.std.proofs.Common.{inl, refl}
use Rattle.std.proofs.lemmas.Result.{err_from_is_err_and}
use Rattle.hd_graph.proofs.OpenLemmas.{texts-within, class-fault}
use Rattle.hd_opening.proofs.opening.open_dump.Goals as goal

pub returns-in_err-records-clause-err : goal.returns-in_err-records-clause-err
returns-in_err-records-clause-err g c =
    let p = err_from_is_err_and c.from_residual.result c.from_residual.ensures.1 in
    rw (p.1, p.2) c.in_err-records.ensures.err

pub build-requires : goal.build-requires
build-requires g c = record {
  within = texts-within c.args.bytes.now c.in_ok-records.records.id_size _ _ c.in_ok-records.records.segments c.in_ok-records.ensures.records;
  texts = c.in_ok-records.ensures.texts;
}

pub returns-in_err-classes-clause-err : goal.returns-in_err-classes-clause-err
returns-in_err-classes-clause-err g c =
    let r = c.in_ok-records in
    let p = err_from_is_err_and c.from_residual-in_err-classes.result c.from_residual-in_err-classes.ensures.1 in
    rw (p.1, p.2) (class-fault c.args.bytes.now r.records.id_size _ _ r.records.segments r.ensures.records r.list r.ensures.list c.in_err-classes.field-0.0
    c.in_err-classes.ensures.err)

pub returns-in_err-graph-clause-err : goal.returns-in_err-graph-clause-err
returns-in_err-graph-clause-err g c =
    let p = err_from_is_err_and c.from_residual-in_err-graph.result c.from_residual-in_err-graph.ensures.1 in
    rw (p.1, p.2) c.in_err-graph.ensures.err

pub returns-in_err-graph-2-clause-err : goal.returns-in_err-graph-2-clause-err
returns-in_err-graph-2-clause-err g c =
    let p = err_from_is_err_and c.from_residual-in_err-graph-2.result c.from_residual-in_err-graph-2.ensures.1 in
    rw (p.1, p.2) (inl refl)
