use Rattle.std.proofs.lemmas.Result.{err_from_is_err_and}
use Rattle.hd_classes.proofs.KnownLemmas.{classes-of_file, no-faults, fault-of_file}
use Rattle.hd_classes.proofs.classes.Classes.build.Goals as goal

pub returns-in_err-known-clause-err : goal.returns-in_err-known-clause-err
returns-in_err-known-clause-err c =
    let p = err_from_is_err_and c.from_residual-in_err-known.result c.from_residual-in_err-known.ensures.1 in
    rw (p.1, p.2) (fault-of_file c.args.bytes.now c.args.records.now c.args.list.now c.in_ok-source.source c.in_ok-source.ensures _ c.in_err-known.ensures.err)

pub returns-clause-ok : goal.returns-clause-ok
returns-clause-ok c = rw c.in_ok-classes.ensures
    (classes-of_file c.args.bytes.now c.args.records.now c.args.list.now c.in_ok-source.source c.in_ok-source.ensures c.in_ok-known.known.entries
    c.in_ok-known.ensures.ok)

pub returns-clause-no_cycle : goal.returns-clause-no_cycle
returns-clause-no_cycle c =
    no-faults c.args.bytes.now c.args.records.now c.args.list.now c.in_ok-source.source c.in_ok-source.ensures c.in_ok-known.known.entries
    c.in_ok-known.ensures.ok
