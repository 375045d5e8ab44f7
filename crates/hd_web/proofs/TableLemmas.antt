-- Places that are looked at in turn, up to the first that is free.
use Rattle.std.proofs.Common.{◌≡◌, ◌∙◌, ◌<◌, ◌≤◌, ◌+◌, ℕ, List, length, get_or, set, Some, refl, sym, ap, subst, arith, below_more}
use Rattle.std.specs.Prelude.{slice_get}
use Rattle.std.proofs.lemmas.List.{set-get_or}
use Rattle.std.proofs.lemmas.Option.{slice_get_read, slice_get_within}
use Rattle.hd_web.specs.declared.table.Place.{Place}
use Rattle.hd_web.specs.Tables.{IsFree, IsFreeAt, TakesNone}

module _ {S D : Type 0} where
  -- a place that is put back as it was changes nothing
  pub kept_at : (xs ys : List (Place S D)) (n : ℕ) (p q : Place S D) → xs ≡ ys → q ≡ get_or xs n q → p ≡ q → set xs n p ≡ ys
  kept_at xs ys n p q same at kept = ap (λ (x : Place S D). set xs n x) (kept ∙ at) ∙ set-get_or xs n q ∙ same

  -- one more place that isn't free
  pub none_below : (xs ys : List (Place S D)) (n : ℕ) (q : Place S D) → xs ≡ ys → q ≡ get_or xs n q → n < length xs → ¬ (IsFree q)
      → ((k : ℕ) → k < n → ¬ (IsFreeAt ys k))
      → (k : ℕ) → k < n + 1 → ¬ (IsFreeAt ys k)
  none_below xs ys n q same at inside busy before =
      let here : ¬ (IsFreeAt ys n) = λ (found : IsFreeAt ys n).
      let read : slice_get xs n ≡ Some q = slice_get_read xs (length xs) n q refl inside at in
      let same_place : found.0 ≡ q = cc (found.1, read, same) in busy (subst IsFree same_place found.2) in
      below_more (λ k. ¬ (IsFreeAt ys k)) n before here

  -- none of all places is free
  pub none_left : (xs ys : List (Place S D)) (n : ℕ) → xs ≡ ys → length ys ≤ n → ((k : ℕ) → k < n → ¬ (IsFreeAt ys k)) → TakesNone ys xs
  none_left xs ys n same all before = record {
    none_free = λ (k : ℕ) (found : IsFreeAt ys k). before k (omega (arith, slice_get_within ys k found.0 found.1)) found;
    same = same;
  }
