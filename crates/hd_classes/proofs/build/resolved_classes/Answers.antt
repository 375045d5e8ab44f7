use Rattle.std.proofs.Common.{arith}
use Rattle.std.proofs.lemmas.Result.{err_from_is_err_and}
use Rattle.hd_classes.proofs.KnownLemmas.{place-at, fault-first, resolved-next, known-all}
use Rattle.hd_classes.proofs.build.resolved_classes.Goals as goal

pub returns-in_err-add_class-clause-err : goal.returns-in_err-add_class-clause-err
returns-in_err-add_class-clause-err c =
    let s = c.args.source.now in
    let p = err_from_is_err_and c.from_residual.result c.from_residual.ensures.1 in
    rw (p.1, p.2) (fault-first s c.loop-i.i _ _
    (place-at s.list.now s.classes.entries c.loop-i.i _ c.requires.classes c.index.ensures) c.loop-i.invariant.no_cycle c.in_err-add_class.ensures.err)

pub loop-i-preserved : goal.loop-i-preserved
loop-i-preserved c =
    let s = c.args.source.now in
    resolved-next s c.loop-i.i _ _ _ _ _ (place-at s.list.now s.classes.entries c.loop-i.i _ c.requires.classes c.index.ensures) c.loop-i.invariant
    c.in_ok-add_class.ensures.ok

pub returns-clause-ok : goal.returns-clause-ok
returns-clause-ok c = known-all c.args.source.now c.loop-i.i _ _
    (omega (arith, c.loop-i-test.false, c.len-i-end.ensures.len)) c.requires.classes c.loop-i.invariant
