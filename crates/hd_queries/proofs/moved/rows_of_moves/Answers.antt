use Rattle.std.proofs.Common.{◌≡◌, ◌∙◌, ◌+◌, List, [], ◌∷◌, ◌++◌, get_or, ap, sym, subst, refl, arith}
use Rattle.hd_terms.specs.declared.MovedRow.{MovedRow}
use Rattle.hd_totals.specs.declared.total.Total.{Total}
use Rattle.hd_totals.specs.Totals.{no_total}
use Rattle.hd_queries.specs.Moved.{AreMoveRows}
use Rattle.hd_queries.proofs.MovedLemmas.{move-with, move-without}
use Rattle.hd_queries.proofs.moved.rows_of_moves.Goals as goal
use Rattle.hd_queries.proofs.moved.rows_of_moves.Goals.{then-total-gt0+in_ok-push, else-total-gt0}

pub loop-place-preserved : goal.loop-place-preserved
loop-place-preserved c =
    let totals : List Total = c.args.totals.now in
    let place = c.loop-place.place in
    let total : Total = get_or totals place no_total in
    elim c.if-total-gt0.branch [
      | then-total-gt0+in_ok-push w ↦
          let row : MovedRow = record { before = c.strength_at-before.result; after = c.strength_at-after.result; count = total.count; bytes = total.bytes } in
          let is : c.if-total-gt0.rows.items ≡ c.loop-place.rows.items ++ row ∷ [] = ap (λ v. v.items) w.rows-is ∙ w.in_ok-push.ensures.items in
          subst (λ (rows : List MovedRow). AreMoveRows totals (place + 1) rows) (sym is)
          (move-with totals place c.loop-place.rows.items c.loop-place.invariant row c.strength_at-before.ensures c.strength_at-after.ensures refl refl
          (omega (arith, w.if-total-gt0.true)))
      | else-total-gt0 w ↦
          let is : c.if-total-gt0.rows.items ≡ c.loop-place.rows.items = ap (λ v. v.items) w.rows-is in
          subst (λ (rows : List MovedRow). AreMoveRows totals (place + 1) rows) (sym is)
          (move-without totals place c.loop-place.rows.items c.loop-place.invariant (omega (arith, w.if-total-gt0.false)))
    ]
