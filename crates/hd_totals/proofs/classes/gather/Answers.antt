use Rattle.std.proofs.Common.{◌≡◌, ◌∙◌, ◌+◌, ◌<◌, List, [], ◌∷◌, ◌++◌, length, ap, sym, subst, arith}
use Rattle.hd_terms.specs.declared.ClassRow.{ClassRow}
use Rattle.hd_totals.specs.Rows.{AreRowsBefore}
use Rattle.hd_totals.specs.Totals.{Totals}
use Rattle.hd_totals.specs.contracts.group_totals.GroupTotals.{the_view}
use Rattle.hd_totals.proofs.ClassLemmas.{no-rows, gather-step}
use Rattle.hd_totals.proofs.classes.gather.Goals as goal
use Rattle.hd_totals.proofs.classes.gather.Goals.{then-total-gt0+in_ok-push, else-total-gt0}

pub loop-i-init : goal.loop-i-init
loop-i-init c = rw c.new-rows.ensures.items (no-rows c.args.totals.now c.args.strength)

pub loop-i-preserved : goal.loop-i-preserved
loop-i-preserved c =
    let t = c.args.totals.now in
    let s = c.args.strength in
    let i = c.loop-i.i in
    let u : Totals = the_view c.totals.inside in
    let whole : length u.rows ≡ length u.keys = c.totals.invariant.whole in
    let lt : i < length u.rows = omega (arith, c.loop-i-test.true, c.len-i-end.ensures) in
    let step = gather-step u t c.totals.view_is s i c.deref.result.now c.deref.ensures c.get-in-loop-i.ensures.keys.distinct whole lt
    c.loop-i.rows.items c.loop-i.invariant c.get.result c.get.ensures c.get-in-loop-i.result c.get-in-loop-i.ensures.key in
    let count_is = ap (λ total. total.count) c.of-total.ensures in
    elim c.if-total-gt0.branch [
      | then-total-gt0+in_ok-push w ↦
          let row : ClassRow = record { group = c.group_of_key-group.result; count = c.of-total.result.count; bytes = c.of-total.result.bytes } in
          let rows_are : c.if-total-gt0.rows.items ≡ c.loop-i.rows.items ++ row ∷ [] = ap (λ v. v.items) w.rows-is ∙ w.in_ok-push.ensures.items in
          subst (λ (rs : List ClassRow). AreRowsBefore t s (i + 1) rs) (sym rows_are)
          (step.1 row c.group_of_key-group.ensures.range c.group_of_key-group.ensures.key count_is (ap (λ total. total.bytes) c.of-total.ensures)
          (omega (arith, w.if-total-gt0.true)))
      | else-total-gt0 w ↦
          let rows_are : c.if-total-gt0.rows.items ≡ c.loop-i.rows.items = ap (λ v. v.items) w.rows-is in
          subst (λ (rs : List ClassRow). AreRowsBefore t s (i + 1) rs) (sym rows_are) (step.0 (omega (arith, count_is, w.if-total-gt0.false)))
    ]
