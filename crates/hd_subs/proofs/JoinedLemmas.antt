-- Looking an element up in lists that stand one after another.
use Rattle.std.proofs.Common.{◌≡◌, ◌∙◌, ℕ, zero, suc, ◌+◌, ◌-◌, ◌<◌, ◌≤◌, List, [], ◌∷◌, ◌++◌, length, slice_get, get_or, drop, refl, ap, arith, length-append}
use Rattle.std.proofs.lemmas.List.{at_drop_more}
use Rattle.hd_terms.specs.SubRecords.{Sub}
use Rattle.hd_subs.specs.Joined.{joined}

pub in-front : {X : Type 0} (xs ys : List X) (i : ℕ) → i < length xs → slice_get (xs ++ ys) i ≡ slice_get xs i
in-front [] ys i lt = absurd (omega arith)
in-front (x ∷ xs) ys zero lt = refl
in-front (x ∷ xs) ys (suc i) lt = in-front xs ys i (omega arith)

pub behind : {X : Type 0} (xs ys : List X) (i : ℕ) → length xs ≤ i → slice_get (xs ++ ys) i ≡ slice_get ys (i - length xs)
behind [] ys i le = ap (λ (n : ℕ). slice_get ys n) (omega arith)
behind (x ∷ xs) ys zero le = absurd (omega arith)
behind (x ∷ xs) ys (suc i) le = behind xs ys i (omega arith) ∙ ap (λ (n : ℕ). slice_get ys n) (omega arith)

module _ (parts : List (List Sub)) (k : ℕ) (d : List Sub) (lt : k < length parts) where
  -- the next part is the first of those that are left
  pub more : joined (drop k parts) ≡ get_or parts k d ++ joined (drop (k + 1) parts)
  more = at_drop_more joined parts k d lt

  -- an element of the next part
  pub found-here : (place : ℕ) → place < length (get_or parts k d) → slice_get (joined (drop k parts)) place ≡ slice_get (get_or parts k d) place
  found-here place here = ap (λ (xs : List Sub). slice_get xs place) more ∙ in-front (get_or parts k d) (joined (drop (k + 1) parts)) place here

  -- or of one behind it
  pub found-behind : (place : ℕ) → length (get_or parts k d) ≤ place → slice_get (joined (drop k parts)) place ≡ slice_get (joined (drop (k + 1) parts))
      (place - length (get_or parts k d))
  found-behind place past = ap (λ (xs : List Sub). slice_get xs place) more ∙ behind (get_or parts k d) (joined (drop (k + 1) parts)) place past

  pub length-behind : length (joined (drop k parts)) ≡ length (get_or parts k d) + length (joined (drop (k + 1) parts))
  length-behind = ap (λ (xs : List Sub). length xs) more ∙ length-append (get_or parts k d) (joined (drop (k + 1) parts))
