use Rattle.std.proofs.Common.{◌≡◌, ◌∙◌, ◌+◌, Some, slice_get, sym, ap, subst}
use Rattle.hd_terms.specs.Dump.{Root}
use Rattle.hd_reverse.proofs.NumberLemmas.{AreRootNumbers, roots_kept, roots_more}
use Rattle.hd_reverse.proofs.reverse.root_numbers.Goals as goal
use Rattle.hd_reverse.proofs.reverse.root_numbers.Goals.{in-Some+in_ok-push, in_default}

pub loop-number-preserved : goal.loop-number-preserved
loop-number-preserved c =
    let dump = c.args.graph.now in
    let r = c.loop-number.number in
    let root : Root = record { kind = c.roots.result.kind; id = c.roots.result.id } in
    let at : slice_get dump.roots r ≡ Some root = c.roots.ensures.entry in
    elim c.match-roots.branch [
      | in-Some+in_ok-push w ↦
          subst (AreRootNumbers dump (r + 1)) (sym (ap (λ v. v.items) w.numbers-is ∙ w.in_ok-push.ensures.items))
          (roots_more dump r root at c.loop-number.numbers.items w.in-Some.object c.loop-number.invariant (sym c.roots.ensures.object ∙ w.in-Some.is))
      | in_default w ↦
          subst (AreRootNumbers dump (r + 1)) (sym (ap (λ v. v.items) w.numbers-is))
          (roots_kept dump r root at c.loop-number.numbers.items c.loop-number.invariant (sym c.roots.ensures.object ∙ w.in_default.is))
    ]
