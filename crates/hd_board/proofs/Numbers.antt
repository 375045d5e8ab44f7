-- Numbers one after another.
use Rattle.std.proofs.Common.{◌≡◌, ◌∙◌, ◌↔◌, ◌+◌, ◌-◌, ◌<◌, ◌≤◌, ℕ, zero, suc, List, [], ◌∷◌, ◌++◌, length, nat_lt, nat_le, IsTrue, refl, ap, sym, arith}
use Rattle.std.specs.List.{Contains, slice_index_or}
use Rattle.std.proofs.lemmas.Bool.{lt-ltb, ltb-true, leb-true}
use Rattle.hd_terms.specs.Schedule.{numbers_from}

length-numbers_from : (first count : ℕ) → length (numbers_from first count) ≡ count
length-numbers_from first zero = refl
length-numbers_from first (suc count) = ap suc (length-numbers_from (suc first) count)

number_at : (first count k d : ℕ) → k < count → slice_index_or (numbers_from first count) k d ≡ first + k
number_at first zero k d lt = absurd (omega arith)
number_at first (suc count) zero d lt = omega arith
number_at first (suc count) (suc k) d lt = omega (arith, number_at (suc first) count k d (omega arith))

-- they are not below the first, and `count` many
pub number_within : (first count n : ℕ) → Contains (numbers_from first count) n → (first ≤ n) × (n < first + count)
number_within first count n found =
    let lt : found.0 < count = omega (arith, found.1, length-numbers_from first count) in
    let is : first + found.0 ≡ n = sym (number_at first count found.0 n lt) ∙ found.2 in
    (omega arith, omega arith)

pub is_number : (first count n : ℕ) → first ≤ n → n < first + count → Contains (numbers_from first count) n
is_number first count n low high =
    let lt : n - first < count = omega arith in
    let k : ℕ = n - first in
    (k, omega (arith, length-numbers_from first count), number_at first count k n lt ∙ omega arith)

-- the tests
pub above_first : (first count n : ℕ) → first ≤ n → IsTrue (nat_lt (n - first) count) ↔ Contains (numbers_from first count) n
above_first first count n low = (
  λ yes. is_number first count n low (omega (arith, ltb-true (n - first) count yes)),
  λ found. lt-ltb (n - first) count (omega (arith, (number_within first count n found).1, low)),
)

pub below_first : (first count n : ℕ) → n < first → IsTrue (nat_le first n) ↔ Contains (numbers_from first count) n
below_first first count n below =
    (λ yes. absurd (omega (arith, leb-true first n yes)), λ found. absurd (omega (arith, (number_within first count n found).0)))

-- one more number
pub one_more : (first count : ℕ) → numbers_from first (suc count) ≡ numbers_from first count ++ (first + count) ∷ []
one_more first zero = let same : first ≡ first + 0 = omega arith in ap (λ (n : ℕ). n ∷ []) same
one_more first (suc count) =
    let same : suc first + count ≡ first + suc count = omega arith in
    ap (λ (ns : List ℕ). first ∷ ns) (one_more (suc first) count ∙ ap (λ (n : ℕ). numbers_from (suc first) count ++ n ∷ []) same)
