use Rattle.std.proofs.Common.{◌≡◌, ◌∙◌, ℕ, true, false, List, replicate, map, refl, ap, sym}
use Rattle.hd_terms.specs.declared.Strength.TheVariants as strengths
use Rattle.hd_terms.specs.Settled.{Reached, unreached}
use Rattle.hd_strength.specs.Found.{strength_of}
use Rattle.hd_strength.proofs.Lists.{map-replicate}
use Rattle.hd_strength.proofs.FoundLemmas.{none-seen}
use Rattle.hd_strength.proofs.found.Found.none.Goals as goal
use Rattle.hd_strength.proofs.found.Found.none.Goals.{then-whole, else-whole}

pub invariant_of-result : goal.invariant_of-result
invariant_of-result c = λ is.
    let ss : c.in_ok-strengths.strengths.items ≡ replicate c.args.objects strengths.Unreachable = c.in_ok-strengths.ensures.items_if_clones_equal (λ x y. y) in
    elim c.if-whole.branch [
      | then-whole w ↦
          let ks : c.in_ok-kept.kept.items ≡ replicate c.args.objects unreached = c.in_ok-kept.ensures.items_if_clones_equal (λ x y. y)
          ∙ ap (λ (n : ℕ). replicate n c.unreached.result) w.count-is ∙ ap (replicate c.args.objects) c.unreached.ensures in
          ss ∙ sym (map-replicate strength_of c.args.objects unreached) ∙ ap (map strength_of) (sym ks)
      | else-whole w ↦ let no : false ≡ true = sym w.if-whole.false ∙ is in absurd cc
    ]

pub returns : goal.returns
returns c =
    let ss : c.in_ok-strengths.strengths.items ≡ replicate c.args.objects strengths.Unreachable = c.in_ok-strengths.ensures.items_if_clones_equal (λ x y. y) in
    elim c.if-whole.branch [
      | then-whole w ↦
          let ks : c.in_ok-kept.kept.items ≡ replicate c.args.objects unreached = c.in_ok-kept.ensures.items_if_clones_equal (λ x y. y)
          ∙ ap (λ (n : ℕ). replicate n c.unreached.result) w.count-is ∙ ap (replicate c.args.objects) c.unreached.ensures in
          rw (w.if-whole.true, ks) refl
      | else-whole w ↦ rw (w.if-whole.false, ss) (ap (λ (ks : List Reached). record { whole = false; list = ks }) (none-seen c.args.objects))
    ]
