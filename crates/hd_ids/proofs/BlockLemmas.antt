-- The numbers of a block of places, as one more is put behind them.
use Rattle.std.proofs.Common.{◌≡◌, ◌≢◌, ◌∙◌, ◌⊎◌, inl, inr, ℕ, ◌+◌, ◌-◌, ◌*◌, ◌/◌, ◌%◌, ◌<◌, ◌≤◌, ◌^◌, false, List, refl, sym, ap, arith, ne_eqb}
use Rattle.std.specs.Prelude.{count_ones}
use Rattle.std.specs.Int.{bit_at}
use Rattle.std.proofs.Math.Nat.{add-mul-div_right, add-mul-mod_self_right, mod-eq_of_lt, div-eq_of_lt}
use Rattle.std.proofs.lemmas.Nat.{pow_pos, pow-add, mod_below, div-add-mod'}
use Rattle.std.proofs.lemmas.Bool.{cases_lt}
use Rattle.hd_ids.specs.declared.block.Block.{Block}
use Rattle.hd_ids.specs.Numbers.{is_scattered, number_by, number_in, IsBlockWith}

-- a number that has no bit from a place on
pub low-by-quotient : (n place : ℕ) → n / 2 ^ place ≡ 0 → n < 2 ^ place
low-by-quotient n place e =
    let whole : 0 * 2 ^ place + n % 2 ^ place ≡ n = ap (λ (q : ℕ). q * 2 ^ place + n % 2 ^ place) (sym e) ∙ div-add-mod' n (2 ^ place) in
    omega (arith, whole, mod_below n (2 ^ place) (pow_pos place))

-- a bit is added above all others
module _ (mask place : ℕ) (low : mask < 2 ^ place) where
  as_product : mask + 2 ^ place ≡ mask + 1 * 2 ^ place
  as_product = omega arith

  pub new-bit : bit_at (mask + 2 ^ place) place ≡ 1
  new-bit =
      let shifted : (mask + 2 ^ place) / 2 ^ place ≡ 1 =
      ap (λ (n : ℕ). n / 2 ^ place) as_product ∙ add-mul-div_right mask 1 (pow_pos place) ∙ ap (λ (n : ℕ). n + 1) (div-eq_of_lt low) in
      ap (λ (n : ℕ). n % 2) shifted

  pub below-new : (mask + 2 ^ place) % 2 ^ place ≡ mask
  below-new = ap (λ (n : ℕ). n % 2 ^ place) as_product ∙ add-mul-mod_self_right mask 1 (2 ^ place) ∙ mod-eq_of_lt low

  module _ (p : ℕ) (lt : p < place) where
    abbrev k : ℕ
    k = place - p - 1

    product : 2 ^ place ≡ 2 ^ k * 2 * 2 ^ p
    product =
        let e : place ≡ k + 1 + p = omega (arith, lt) in
        ap (λ (n : ℕ). 2 ^ n) e ∙ pow-add 2 (k + 1) p ∙ ap (λ (n : ℕ). n * 2 ^ p) (pow-add 2 k 1)

    pub old-bit : bit_at (mask + 2 ^ place) p ≡ bit_at mask p
    old-bit =
        ap (λ (n : ℕ). (mask + n) / 2 ^ p % 2) product
        ∙ ap (λ (n : ℕ). n % 2) (add-mul-div_right mask (2 ^ k * 2) (pow_pos p))
        ∙ add-mul-mod_self_right (mask / 2 ^ p) (2 ^ k) 2

    pub below-old : (mask + 2 ^ place) % 2 ^ p ≡ mask % 2 ^ p
    below-old = ap (λ (n : ℕ). (mask + n) % 2 ^ p) product ∙ add-mul-mod_self_right mask (2 ^ k * 2) (2 ^ p)

  module _ (p : ℕ) (lt : place < p) where
    higher : 2 ^ place + 2 ^ place ≤ 2 ^ p
    higher =
        let e : p ≡ p - place - 1 + 1 + place = omega (arith, lt) in
        let product : 2 ^ p ≡ 2 ^ (p - place - 1) * 2 * 2 ^ place = ap (λ (n : ℕ). 2 ^ n) e ∙ pow-add 2 (p - place - 1 + 1) place
        ∙ ap (λ (n : ℕ). n * 2 ^ place) (pow-add 2 (p - place - 1) 1) in
        grind (arith, product, pow_pos (p - place - 1))

    pub no-bit : bit_at (mask + 2 ^ place) p ≡ 0
    no-bit = let lt : mask + 2 ^ place < 2 ^ p = omega (arith, low, higher) in ap (λ (n : ℕ). n % 2) (div-eq_of_lt lt)

    pub no-old-bit : bit_at mask p ≡ 0
    no-old-bit = let lt : mask < 2 ^ p = omega (arith, low, higher) in ap (λ (n : ℕ). n % 2) (div-eq_of_lt lt)

-- a block that has a bit isn't scattered
pub some-follows : (mask first : ℕ) → mask ≢ 0 → is_scattered (record { mask = mask; first = first }) ≡ false
some-follows mask first some = rw (ne_eqb mask 0 some) refl

pub none-follows : is_scattered (record { mask = 0; first = 0 }) ≡ false
none-follows = refl

-- no place of an empty mask has a number
pub no-number : (first place : ℕ) → number_by (record { mask = 0; first = first }) place ≡ 0
no-number first place =
    let e : bit_at 0 place ≡ 0 = ap (λ (n : ℕ). n % 2) (div-eq_of_lt (pow_pos place)) in
    rw e refl

-- two places that differ
apart : (p place : ℕ) → p ≢ place → (p < place) ⊎ (place < p)
apart p place ne = elim (cases_lt p place) [ inl lt ↦ inl lt | inr le ↦ inr (omega (arith, le, ne)) ]

module _ (old : Block) (place n first : ℕ) (low : old.mask < 2 ^ place) (follows : is_scattered old ≡ false) where
  abbrev new : Block
  new = record { mask = old.mask + 2 ^ place; first = first }

  new-follows : is_scattered new ≡ false
  new-follows = some-follows (old.mask + 2 ^ place) first (λ e. omega (arith, e, pow_pos place))

  here : first + count_ones old.mask ≡ n → (scattered : List ℕ) → number_in scattered new place ≡ n
  here e scattered =
      rw new-follows (rw (new-bit old.mask place low) (ap (λ (m : ℕ). first + count_ones m) (below-new old.mask place low) ∙ e))

  lower : first ≡ old.first ⊎ (old.mask ≡ 0) → (p : ℕ) → p < place → number_by new p ≡ number_by old p
  lower (inl same) p lt = rw (old-bit old.mask place low p lt, below-old old.mask place low p lt, same) refl
  lower (inr none) p lt =
      let zero_bit : bit_at old.mask p ≡ 0 = ap (λ (m : ℕ). m / 2 ^ p % 2) none ∙ ap (λ (m : ℕ). m % 2) (div-eq_of_lt (pow_pos p)) in
      let new_zero : bit_at (old.mask + 2 ^ place) p ≡ 0 = old-bit old.mask place low p lt ∙ zero_bit in
      rw (new_zero, zero_bit) refl

  upper : (p : ℕ) → place < p → number_by new p ≡ number_by old p
  upper p lt = rw (no-bit old.mask place low p lt, no-old-bit old.mask place low p lt) refl

  others : first ≡ old.first ⊎ (old.mask ≡ 0) → (scattered : List ℕ) (p : ℕ) → p ≢ place → number_in scattered new p ≡ number_in scattered old p
  others fits scattered p ne = rw (new-follows, follows) (elim (apart p place ne) [ inl lt ↦ lower fits p lt | inr lt ↦ upper p lt ])

  pub with-number : first ≡ old.first ⊎ (old.mask ≡ 0) → first + count_ones old.mask ≡ n → first ≤ 2 ^ 31 → IsBlockWith old place n new
  with-number fits e small = record { here = here e; others = others fits; low = small; follows = new-follows }
