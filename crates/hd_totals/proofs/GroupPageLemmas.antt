-- Buckets and least IDs of pages, as one more object is noted and later pages are put behind.
use Rattle.std.proofs.Common.{◌≡◌, ◌∙◌, ℕ, zero, suc, ◌+◌, ◌*◌, ◌/◌, ◌%◌, ◌<◌, ◌≤◌, ◌^◌, inl, inr, ◌++◌, List, get_or, length, refl, sym, ap, arith}
use Rattle.std.specs.Int.{bit_at}
use Rattle.std.specs.Int.RustNames.{bit_or}
use Rattle.std.proofs.Math.ListN.{set}
use Rattle.std.proofs.lemmas.Bool.{cases_eq, cases_lt}
use Rattle.std.proofs.lemmas.List.{get_or_append_left, get_or-append-add, get_or_past, get_or-set_same, get_or-set_other}
use Rattle.std.proofs.lemmas.Nat.Bits.{bit_at-zero}
use Rattle.std.proofs.lemmas.Nat.{or_comm, or_shr, or_mod, mod_below, shl-shr}
use Rattle.hd_terms.specs.declared.Group.{Group}
use Rattle.hd_totals.specs.GroupPages.{first_bucket, second_bucket, pages_behind, PageMarks, AreWhole, HasBucket, IsNoted}

-- a bit of either of two words is a bit of both together
or-one : (y : ℕ) → y < 2 → bit_or 1 y ≡ 1
or-one zero lt = refl
or-one (suc zero) lt = refl
or-one (suc (suc y)) lt = absurd (omega (arith, lt))

pub keeps-bit : (a b k : ℕ) → bit_at a k ≡ 1 → bit_at (bit_or a b) k ≡ 1
keeps-bit a b k is =
    ap (λ (n : ℕ). n % 2) (or_shr a b k)
    ∙ or_mod (a / 2 ^ k) (b / 2 ^ k) 1
    ∙ ap (λ (n : ℕ). bit_or n (b / 2 ^ k % 2)) is
    ∙ or-one (b / 2 ^ k % 2) (mod_below (b / 2 ^ k) 2 (omega arith))

pub takes-bit : (a b k : ℕ) → bit_at b k ≡ 1 → bit_at (bit_or a b) k ≡ 1
takes-bit a b k is = ap (λ (n : ℕ). bit_at n k) (or_comm a b) ∙ keeps-bit b a k is

own-bit : (k : ℕ) → bit_at (2 ^ k) k ≡ 1
own-bit k =
    let one : 1 * 2 ^ k ≡ 2 ^ k = omega arith in
    ap (λ (n : ℕ). n / 2 ^ k % 2) (sym one) ∙ ap (λ (n : ℕ). n % 2) (shl-shr 1 k)

pub sets-bit : (a k : ℕ) → bit_at (bit_or a (2 ^ k)) k ≡ 1
sets-bit a k = takes-bit a (2 ^ k) k (own-bit k)

-- the number 0 has no bit
no-bit : (k : ℕ) → bit_at 0 k ≡ 1 → ⊥
no-bit k is = absurd (omega (arith, is, bit_at-zero k))

-- one word takes more bits
module _ (words : List ℕ) (i m : ℕ) (within : i < length words) where
  abbrev pub taken : List ℕ
  taken = set words i (bit_or (get_or words i 0) m)

  pub taken-keeps : (j k : ℕ) → bit_at (get_or words j 0) k ≡ 1 → bit_at (get_or taken j 0) k ≡ 1
  taken-keeps j k is = elim (cases_eq j i) [
    | inl same ↦
        let here : get_or taken j 0 ≡ bit_or (get_or words i 0) m = ap (λ (n : ℕ). get_or taken n 0) same
        ∙ get_or-set_same words i (bit_or (get_or words i 0) m) 0 within in
        ap (λ (n : ℕ). bit_at n k) here ∙ keeps-bit (get_or words i 0) m k (ap (λ (n : ℕ). bit_at (get_or words n 0) k) (sym same) ∙ is)
    | inr other ↦ ap (λ (n : ℕ). bit_at n k) (get_or-set_other words i j (bit_or (get_or words i 0) m) 0 other) ∙ is
  ]

  pub taken-has : (k : ℕ) → m ≡ 2 ^ k → bit_at (get_or taken i 0) k ≡ 1
  taken-has k is = ap (λ (n : ℕ). bit_at n k) (get_or-set_same words i (bit_or (get_or words i 0) m) 0 within ∙ ap (bit_or (get_or words i 0)) is)
      ∙ sets-bit (get_or words i 0) k

-- an ID is lowered
pub lowered : (ids : List ℕ) (i id : ℕ) → i < length ids → id ≤ get_or ids i 0 → (j : ℕ) → get_or (set ids i id) j 0 ≤ get_or ids j 0
lowered ids i id within le j = elim (cases_eq j i) [
  | inl same ↦ let here : get_or (set ids i id) j 0 ≡ id = ap (λ (n : ℕ). get_or (set ids i id) n 0) same ∙ get_or-set_same ids i id 0 within in
      omega (arith, here, le, ap (λ (n : ℕ). get_or ids n 0) same)
  | inr other ↦ let there = get_or-set_other ids i j id 0 other in omega (arith, there)
]

-- what is noted at pages is noted where later ones are put behind them
module _ (earlier later : PageMarks) (whole : AreWhole earlier) (page : ℕ) (group : Group) (id : ℕ) where
  marked-in : (b : ℕ) → HasBucket earlier.marks page b → HasBucket (earlier.marks ++ later.marks) page b
  marked-in b has = elim (cases_lt (page * 64 + b / 64) (length earlier.marks)) [
    | inl within ↦ ap (λ (n : ℕ). bit_at n (b % 64)) (get_or_append_left earlier.marks later.marks 0 (page * 64 + b / 64) within) ∙ has
    | inr past ↦
        let none : bit_at 0 (b % 64) ≡ 1 = ap (λ (n : ℕ). bit_at n (b % 64)) (sym (get_or_past earlier.marks (page * 64 + b / 64) 0 past)) ∙ has in
        absurd (no-bit (b % 64) none)
  ]

  pub noted-earlier : page < length earlier.least → IsNoted earlier page group id → IsNoted (pages_behind earlier later) page group id
  noted-earlier within noted = record {
    marked = (marked-in (first_bucket group) noted.marked.0, marked-in (second_bucket group) noted.marked.1);
    above = omega (arith, noted.above, get_or_append_left earlier.least later.least 0 page within);
  }

  behind : (b : ℕ) → HasBucket later.marks page b → HasBucket (earlier.marks ++ later.marks) (length earlier.least + page) b
  behind b has =
      let at : (length earlier.least + page) * 64 + b / 64 ≡ length earlier.marks + (page * 64 + b / 64) = omega (arith, whole) in
      ap (λ (n : ℕ). bit_at n (b % 64)) (ap (λ (i : ℕ). get_or (earlier.marks ++ later.marks) i 0) at
      ∙ get_or-append-add earlier.marks later.marks (page * 64 + b / 64) 0) ∙ has

  pub noted-later : IsNoted later page group id → IsNoted (pages_behind earlier later) (length earlier.least + page) group id
  noted-later noted = record {
    marked = (behind (first_bucket group) noted.marked.0, behind (second_bucket group) noted.marked.1);
    above = omega (arith, noted.above, get_or-append-add earlier.least later.least page 0);
  }
