-- Numbers with repeats: looked up, inserted and taken out.
use Rattle.std.proofs.Common.{◌≡◌, ◌∙◌, inl, inr, ℕ, ◌+◌, ◌-◌, ◌<◌, ◌≤◌, Bool, true, false, cond, nat_eq, nat_lt, ◌||◌, List, [], ◌∷◌, length, get_or, sym, ap}
use Rattle.std.proofs.Common.{refl, arith}
use Rattle.std.specs.Prelude.{count_by}
use Rattle.std.specs.List.{list_any}
use Rattle.std.specs.List.Sorted.{IsNonDecreasing, IsPartitionPoint}
use Rattle.std.proofs.lemmas.Bool.{eq-eqb, eqb-true, ne_eqb, lt-ltb, ltb-true, ltb-false, cases_lt}
use Rattle.std.proofs.lemmas.List.{get_or_default}
use Rattle.std.proofs.lemmas.List.Folds.{list_any_at, list_any_none}
use Rattle.std.proofs.lemmas.List.Sums.{sum_by-cons}
use Rattle.hd_strength.specs.Multiset.{multiplicity, IsPlace}

counted-by : (b any : Bool) (n : ℕ) → any ≡ nat_lt 0 n → (b || any) ≡ nat_lt 0 ((cond b 1 0) + n)
counted-by true any n is = sym (lt-ltb 0 (1 + n) (omega arith))
counted-by false any n is = is ∙ ap (nat_lt 0) (let same : n ≡ 0 + n = omega arith in same)

-- some pass a test where the number of those isn't 0
pub any_counted : {X : Type 0} (p : X → Bool) (xs : List X) → list_any p xs ≡ nat_lt 0 (count_by p xs)
any_counted p [] = refl
any_counted p (x ∷ xs) = counted-by (p x) (list_any p xs) (count_by p xs) (any_counted p xs) ∙ ap (nat_lt 0) (sym (sum_by-cons (λ y. cond (p y) 1 0) x xs))

-- the place that a search found
pub place_found : (numbers : List ℕ) (number at : ℕ) → at ≤ length numbers
    → IsPartitionPoint (λ n. nat_lt n number ≡ true) (λ n. nat_lt n number ≡ false) numbers at → IsPlace numbers number at
place_found numbers number at within found = record {
  within = within;
  below = λ k d lt. ltb-true (get_or numbers k d) number (found.0 k d (omega arith) lt);
  rest = λ k d le lt. ltb-false (get_or numbers k d) number (found.1 k d le lt);
}

zero-by : (n : ℕ) → nat_lt 0 n ≡ false → n ≡ 0
zero-by n none = omega (arith, ltb-false 0 n none)

-- a number at its place
module _ (numbers : List ℕ) (number at : ℕ) (ascending : IsNonDecreasing numbers) (place : IsPlace numbers number at) where
  pub among : at < length numbers → get_or numbers at 0 ≡ number → list_any (nat_eq number) numbers ≡ true
  among lt is = list_any_at (nat_eq number) numbers at 0 lt (eq-eqb number (get_or numbers at 0) (sym is))

  -- a number that isn't there is nowhere
  pub nowhere : ((lt : at < length numbers) → get_or numbers at 0 ≡ number → ⊥) → list_any (nat_eq number) numbers ≡ false
  nowhere other = list_any_none (nat_eq number) numbers (λ k d lt. ne_eqb number (get_or numbers k d) (λ same. elsewhere k d lt same)) where
    elsewhere : (k d : ℕ) → k < length numbers → number ≡ get_or numbers k d → ⊥
    elsewhere k d lt same = elim (cases_lt k at) [
      | inl before ↦ omega (arith, place.below k d before)
      | inr after ↦
          let within : at < length numbers = omega arith in
          let here : get_or numbers at d ≡ number = omega (arith, place.rest at d (omega arith) within, ascending at k d after lt) in
          other within (get_or_default numbers at 0 d within ∙ here)
    ]

  -- and taking it out changes no count
  pub none-fewer : (other : (lt : at < length numbers) → get_or numbers at 0 ≡ number → ⊥) (n : ℕ)
      → multiplicity n numbers ≡ multiplicity n numbers - (cond (nat_eq n number) 1 0)
  none-fewer other n = by-test (nat_eq n number) refl where
    none : multiplicity number numbers ≡ 0
    none = zero-by (multiplicity number numbers) (sym (any_counted (nat_eq number) numbers) ∙ nowhere other)

    by-test : (b : Bool) → nat_eq n number ≡ b → multiplicity n numbers ≡ multiplicity n numbers - (cond b 1 0)
    by-test true is = omega (arith, ap (λ (m : ℕ). multiplicity m numbers) (eqb-true n number is), none)
    by-test false is = omega arith

  -- whether it is there
  by-answer : (b : Bool) → at < length numbers → nat_eq (get_or numbers at 0) number ≡ b → b ≡ list_any (nat_eq number) numbers
  by-answer true lt is = sym (among lt (eqb-true (get_or numbers at 0) number is))
  by-answer false lt is = sym (nowhere (λ within same. let clash : false ≡ true = sym is ∙ eq-eqb (get_or numbers at 0) number same in absurd cc))

  pub found_there : at < length numbers → nat_eq (get_or numbers at 0) number ≡ list_any (nat_eq number) numbers
  found_there lt = by-answer (nat_eq (get_or numbers at 0) number) lt refl

  pub found_none : (at < length numbers → ⊥) → false ≡ list_any (nat_eq number) numbers
  found_none past = sym (nowhere (λ lt same. past lt))
