-- An object has one strength: two that are each the greatest over the paths to it have one rank.
use Rattle.std.proofs.Common.{◌≡◌, ◌≢◌, ℕ, ◌≤◌, inl, inr, ap, arith}
use Rattle.std.proofs.lemmas.Bool.{cases_eq}
use Rattle.hd_terms.specs.declared.Strength.{Strength}
use Rattle.hd_terms.specs.declared.Strength.TheVariants as strengths
use Rattle.hd_terms.specs.Ranks.{rank}
use Rattle.hd_terms.specs.Paths.{Standing, path_strength}
use Rattle.hd_terms.specs.Strengths.{HasStrength}
use Rattle.hd_terms.proofs.RankLemmas.{same_rank}

module _ (g : Standing) (o : ℕ) where
  -- no strength of an object has a greater rank than another
  no_greater : (a b : Strength) → HasStrength g o a → HasStrength g o b → rank a ≤ rank b
  no_greater a b ha hb = elim (cases_eq (rank a) 0) [
    | inl none ↦ omega (arith, none)
    | inr some ↦
        let reached : a ≢ strengths.Unreachable = λ is. some (ap rank is) in
        let f = ha.found reached in
        let most : rank (path_strength f.1) ≤ rank b = hb.greatest f.0 f.1 f.2 in
        let gives : rank (path_strength f.1) ≡ rank a = ap rank f.3 in
        omega (arith, most, gives)
  ]

  pub one_strength : (a b : Strength) → HasStrength g o a → HasStrength g o b → a ≡ b
  one_strength a b ha hb = same_rank a b (omega (arith, no_greater a b ha hb, no_greater b a hb ha))
