use Rattle.std.proofs.Common.{◌∙◌, sym, arith}
use Rattle.hd_classes.proofs.SideLemmas.{side-known, side-new, side-other, side-le}
use Rattle.hd_classes.proofs.names.first_texts_of_side.Goals as goal
use Rattle.hd_classes.proofs.names.first_texts_of_side.Goals.{then-is_on_side+in_ok-keep_first+then-branch, else-is_on_side}
use Rattle.hd_classes.proofs.names.first_texts_of_side.Goals.{else-is_on_side-via-then-is_on_side+in_ok-keep_first+else-branch}
use Rattle.hd_classes.proofs.names.first_texts_of_side.Goals.{else-is_on_side-via-else-is_on_side}

pub overflow_add-repeated : goal.overflow_add-repeated
overflow_add-repeated c = omega (arith, side-le c.args.odd c.as_slice-text-items.result.now c.loop-text.text-index _ _ c.loop-text.invariant)

pub loop-text-preserved : goal.loop-text-preserved
loop-text-preserved c =
    let odd = c.args.odd in
    let xs = c.as_slice-text-items.result.now in
    let i = c.loop-text.text-index in
    elim c.if-is_on_side.branch [
      | then-is_on_side+in_ok-keep_first+then-branch w ↦
          rw (w.texts-is, w.repeated-is) (side-known odd xs i _ _ _ (omega arith) c.loop-text.invariant (sym c.is_on_side.ensures ∙ w.if-is_on_side.true) _
          (sym w.if-branch.true ∙ w.in_ok-keep_first.ensures.known) w.in_ok-keep_first.ensures.first)
      | else-is_on_side w ↦ elim w.else-is_on_side.branch [
        | else-is_on_side-via-then-is_on_side+in_ok-keep_first+else-branch v ↦
            rw (w.texts-is, w.repeated-is, v.texts-is)
            (side-new odd xs i _ _ _ (omega arith) c.loop-text.invariant (sym c.is_on_side.ensures ∙ v.if-is_on_side.true) _
            (sym v.if-branch.false ∙ v.in_ok-keep_first.ensures.known) v.in_ok-keep_first.ensures.first)
        | else-is_on_side-via-else-is_on_side v ↦
            rw (w.texts-is, w.repeated-is, v.texts-is)
            (side-other odd xs i _ _ _ (omega arith) c.loop-text.invariant (sym c.is_on_side.ensures ∙ v.if-is_on_side.false))
      ]
    ]
