-- The instance is noted by its ID. It stops where the ID is null, or where it is new and its values do not fit.
-- Where it is new and its class is not known it counts as opaque.
use Rattle.std.proofs.Common.{true, false, ap, subst, arith}
use Rattle.std.specs.Prelude.{is_none}
use Rattle.std.proofs.lemmas.Result.{err_from_is_err_and}
use Rattle.hd_terms.specs.SubRecords.{Instance}
use Rattle.hd_classes.specs.declared.fit.Fit.{Fit}
use Rattle.hd_classes.specs.Fits.{IsFit}
use Rattle.hd_classes.specs.Known.{known_at}
use Rattle.hd_graph.specs.Numbering.{size_mismatch}
use Rattle.hd_graph.proofs.KnownLemmas.{misfit-is, unknown-is, fitting-is, fitting-known}
use Rattle.hd_graph.proofs.NumberLemmas.{null-stop, not-noted, was-noted, noted-notes, new-notes}
use Rattle.hd_graph.proofs.number.number_fitted.Goals as goal

pub returns-in_err-number_object-clause-err : goal.returns-in_err-number_object-clause-err
returns-in_err-number_object-clause-err c =
    let p = err_from_is_err_and c.from_residual.result c.from_residual.ensures.1 in
    rw (p.1, p.2) (λ classes size class values is. null-stop
    (known_at classes) size _ c.args.id c.args.offset c.args.ids.now _ c.in_err-number_object.ensures.err)

pub returns-in-Misfit-clause-err : goal.returns-in-Misfit-clause-err
returns-in-Misfit-clause-err c = λ classes size class values is.
    size_mismatch c.in_ok-number_object.ensures.noted.0 (not-noted c.in_ok-number_object.field-0 _ c.in_ok-number_object.ensures.is_new c.if-not-branch.false)
    (misfit-is size values.len (known_at classes class) (subst (λ (f : Fit). IsFit size values.len classes class f) c.in-Misfit.is is))

pub returns-then-not-branch-clause-ok : goal.returns-then-not-branch-clause-ok
returns-then-not-branch-clause-ok c = λ classes size class values is.
    let done = c.in_ok-number_object.ensures in
    noted-notes (known_at classes) size _ c.args.id c.args.ids.now c.args.tally.now _ _ done.noted.0 done.noted.1 done.opaque
    (was-noted c.in_ok-number_object.field-0 _ done.is_new c.if-not-branch.true)

pub returns-in-Unknown-clause-ok : goal.returns-in-Unknown-clause-ok
returns-in-Unknown-clause-ok c = λ classes size class values is.
    let done = c.in_ok-number_object.ensures in
    let unknown = subst (λ (f : Fit). IsFit size values.len classes class f) c.in-Unknown.is is in
    new-notes (known_at classes) size (Instance c.args.id class values) c.args.id c.args.ids.now c.args.tally.now _ _ true done.noted.0 done.noted.1
    (ap is_none unknown) (omega (arith, done.opaque))
    (not-noted c.in_ok-number_object.field-0 _ done.is_new c.if-not-branch.false) (unknown-is size values.len (known_at classes class) unknown)

pub returns-in-Class-clause-ok : goal.returns-in-Class-clause-ok
returns-in-Class-clause-ok c = λ classes size class values is.
    let done = c.in_ok-number_object.ensures in
    let fits = subst (λ (f : Fit). IsFit size values.len classes class f) c.in-Class.is is in
    new-notes (known_at classes) size (Instance c.args.id class values) c.args.id c.args.ids.now c.args.tally.now _ _ false done.noted.0 done.noted.1
    (fitting-known size values.len (known_at classes class) _ fits) (omega (arith, done.opaque))
    (not-noted c.in_ok-number_object.field-0 _ done.is_new c.if-not-branch.false) (fitting-is size values.len (known_at classes class) _ fits)
