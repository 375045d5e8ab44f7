-- Lemmas on the number that digits spell.
use Rattle.std.proofs.Common.{◌≡◌, ◌∙◌, ℕ, ◌+◌, ◌*◌, ◌^◌, ◌<◌, ◌≤◌, List, Option, None, Some, length, get_or, drop, refl, sym, ap, arith}
use Rattle.std.specs.Prelude.{fold}
use Rattle.std.specs.Option.{option_map}
use Rattle.std.proofs.Math.Nat.{mul-le-mul_right}
use Rattle.std.proofs.lemmas.Nat.{pow-add}
use Rattle.std.proofs.lemmas.List.{at_drop_more}
use Rattle.std.proofs.lemmas.List.Folds.{fold_stays}
use Rattle.std.proofs.Math.Pow.{pow_mono}
use Rattle.hd_lines.specs.Lines.{with_digit, digit_in, number_in}

-- the number so far and the digits that are left give the number
module _ (base : ℕ) (xs : List ℕ) (number i : ℕ) (lt : i < length xs) (so_far : fold (with_digit base) (Some number) (drop i xs) ≡ number_in base xs) where
  next : (read : Option ℕ) → digit_in base (get_or xs i 0) ≡ read → fold (with_digit base) (option_map (λ digit. base * number + digit) read)
      (drop (i + 1) xs) ≡ number_in base xs
  next read h =
      ap (λ o. fold (with_digit base) (option_map (λ digit. base * number + digit) o) (drop (i + 1) xs)) (sym h)
      ∙ sym (at_drop_more (fold (with_digit base) (Some number)) xs i 0 lt)
      ∙ so_far

  -- one more digit
  pub digit_next : (digit : ℕ) → digit_in base (get_or xs i 0) ≡ Some digit → fold (with_digit base) (Some (base * number + digit))
      (drop (i + 1) xs) ≡ number_in base xs
  digit_next digit h = next (Some digit) h

  -- no digit
  pub digit_none : digit_in base (get_or xs i 0) ≡ None → None ≡ number_in base xs
  digit_none h = sym (fold_stays (with_digit base) None (λ x. refl) (drop (i + 1) xs)) ∙ next None h

-- in a base of at most 16 a number grows as it would in base 16
pub least_growth : (base number digit : ℕ) → base ≤ 16 → digit < base → base * number + digit ≤ 16 * number + 15
least_growth base number digit most small =
    let product : base * number ≤ 16 * number = mul-le-mul_right number most in
    omega arith

-- 20 digits fit
pub digits_fit : (number i digit : ℕ) → number < 2 ^ (4 * i) → i < 20 → digit < 16 → 16 * number + digit < 2 ^ 128
digits_fit number i digit small few digit_small =
    let p : 4 * i ≤ 76 = omega arith in
    let most : 2 ^ (4 * i) ≤ 2 ^ 76 = pow_mono p in
    omega arith

-- one more digit makes the number 16 times larger at most
pub digits_grow : (number i digit : ℕ) → number < 2 ^ (4 * i) → digit < 16 → 16 * number + digit < 2 ^ (4 * (i + 1))
digits_grow number i digit small digit_small =
    let p : 4 * (i + 1) ≡ 4 * i + 4 = omega arith in
    let e : 2 ^ (4 * (i + 1)) ≡ 2 ^ (4 * i) * 16 = ap (λ k. 2 ^ k) p ∙ pow-add 2 (4 * i) 4 in
    omega arith
