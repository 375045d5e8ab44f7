-- What a part remembers of the objects that it handed over.
use Rattle.std.proofs.Common.{◌≡◌, ℕ, ◌+◌, ◌%◌, ◌==◌, ◌<◌, ◌∙◌, true, List, inl, inr, length, set, get_or, replicate, sym, ap, subst, arith}
use Rattle.std.proofs.lemmas.Bool.{cases_eq, eqb-true}
use Rattle.std.proofs.lemmas.List.{get_or-set_same, get_or-set_other, get_or-replicate, length-replicate}
use Rattle.hd_strength.specs.Parts.{cells}

-- nothing is remembered at first: the first cell has a number of the second, and the others have one of the first
pub none-remembered : (xs : List ℕ) (o : ℕ) → xs ≡ replicate cells 0 → (get_or (set xs 0 1) (o % cells) (o + 1) == o) ≡ true → ⊥
none-remembered xs o is flag =
    let last : get_or (set xs 0 1) (o % cells) (o + 1) ≡ o = eqb-true (get_or (set xs 0 1) (o % cells) (o + 1)) o flag in
    let many : length xs ≡ cells = ap length is ∙ length-replicate {A = ℕ} cells 0 in
    elim (cases_eq (o % cells) 0) [
      | inl first ↦
          let one : get_or (set xs 0 1) (o % cells) (o + 1) ≡ 1 =
          subst (λ (i : ℕ). get_or (set xs 0 1) i (o + 1) ≡ 1) (sym first) (get_or-set_same xs 0 1 (o + 1) (omega (arith, many))) in
          absurd (omega (arith, first, one, last))
      | inr other ↦
          let within : o % cells < cells = omega arith in
          let none : get_or (replicate cells 0) (o % cells) (o + 1) ≡ 0 = get_or-replicate cells (o % cells) 0 (o + 1) within in
          let kept : get_or (set xs 0 1) (o % cells) (o + 1) ≡ get_or xs (o % cells) (o + 1) = get_or-set_other xs 0 (o % cells) 1 (o + 1) other in
          let zero_there : get_or xs (o % cells) (o + 1) ≡ 0 = ap (λ (ys : List ℕ). get_or ys (o % cells) (o + 1)) is ∙ none in
          absurd (other (omega (arith, kept, zero_there, last)))
    ]
