use Rattle.std.proofs.Common.{◌∙◌, true, false, sym, arith}
use Rattle.hd_terms.specs.declared.Load.{Load}
use Rattle.hd_classes.proofs.NameLemmas.{next-first, next-repeated, repeated-le}
use Rattle.hd_classes.proofs.names.first_names.Goals as goal
use Rattle.hd_classes.proofs.names.first_names.Goals.{then-branch, else-branch}

pub overflow_add-repeated : goal.overflow_add-repeated
overflow_add-repeated c =
    omega (arith, repeated-le (λ (x : Load). x.class) (λ (x : Load). x.name) c.as_slice-load-items.result.now c.loop-load.load-index _ c.loop-load.invariant.1)

pub loop-load-preserved : goal.loop-load-preserved
loop-load-preserved c =
    let xs = c.as_slice-load-items.result.now in
    let i = c.loop-load.load-index in (
      next-first (λ (x : Load). x.class) (λ (x : Load). x.name) xs i _ _ _ (omega arith) c.in_ok-keep_first.ensures.first c.loop-load.invariant.0,
      elim c.if-branch.branch [
        | then-branch w ↦ w.repeated-is ∙ next-repeated (λ (x : Load). x.class) (λ (x : Load). x.name) xs i _ _ true _ (omega arith)
            (sym w.if-branch.true ∙ c.in_ok-keep_first.ensures.known) c.loop-load.invariant.0 c.loop-load.invariant.1
        | else-branch w ↦ w.repeated-is
            ∙ omega (
              arith,
              next-repeated (λ (x : Load). x.class) (λ (x : Load). x.name) xs i _ _ false _ (omega arith)
                  (sym w.if-branch.false ∙ c.in_ok-keep_first.ensures.known) c.loop-load.invariant.0 c.loop-load.invariant.1,
            )
      ],
    )
