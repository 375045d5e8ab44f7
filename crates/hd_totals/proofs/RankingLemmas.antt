-- Rows of groups in the order of their bytes.
use Rattle.std.proofs.Common.{◌≡◌, ◌≢◌, ◌∙◌, ℕ, ◌+◌, ◌<◌, false, true≢false, eq-eqb, Less, Equal, ◌≤◌, ◌⊎◌, inl, inr, List, length, map, get_or, is_lt, nat_cmp}
use Rattle.std.proofs.Common.{sym, ap, arith}
use Rattle.std.specs.Ordering.{ordering_then}
use Rattle.std.specs.Prelude.{nat_eq}
use Rattle.std.specs.List.{IsDistinct}
use Rattle.std.proofs.lemmas.Bool.Decides.{nat_tests}
use Rattle.std.proofs.lemmas.Bool.{cases_lt}
use Rattle.std.proofs.lemmas.List.{get_or-map, length-map}
use Rattle.std.proofs.lemmas.Map.Keys.{apart_from_distinct, ge_from_not_lt}
use Rattle.std.proofs.lemmas.Option.{get_or_from_slice_get, slice_get_within}
use Rattle.hd_terms.specs.declared.ClassRow.{ClassRow}
use Rattle.hd_terms.specs.Listed.{IsAbove, AreRanked}
use Rattle.hd_totals.specs.Rows.{row_key}

-- a row that isn't below another one, in the order of the sort
abbrev pub IsNotBelow : ClassRow → ClassRow → Type 0
IsNotBelow a b = is_lt (ordering_then (ordering_then (nat_cmp a.bytes b.bytes) (nat_cmp a.count b.count)) (nat_cmp (row_key b) (row_key a))) ≡ false

less : (x y : ℕ) → x < y → nat_cmp x y ≡ Less
less x y lt = grind (arith, nat_tests)

same : (x y : ℕ) → x ≡ y → nat_cmp x y ≡ Equal
same x y e = grind (arith, nat_tests)

-- with its first comparisons decided
at-last : (a b : ClassRow) → a.bytes ≡ b.bytes → a.count ≡ b.count → IsNotBelow a b → is_lt (nat_cmp (row_key b) (row_key a)) ≡ false
at-last a b bytes count h = rw (same a.bytes b.bytes bytes, same a.count b.count count) at h

at-count : (a b : ClassRow) → a.bytes ≡ b.bytes → a.count < b.count → IsNotBelow a b → ⊥
at-count a b bytes count h = let e = rw (same a.bytes b.bytes bytes, less a.count b.count count) at h in cc

at-bytes : (a b : ClassRow) → a.bytes < b.bytes → IsNotBelow a b → ⊥
at-bytes a b bytes h = let e = rw (less a.bytes b.bytes bytes) at h in cc

-- of two rows of different groups the one that isn't below is above
pub is-above : (a b : ClassRow) → row_key a ≢ row_key b → IsNotBelow a b → IsAbove a b
is-above a b differ h = elim (cases_lt b.bytes a.bytes) [
  | inl more ↦ inl more
  | inr le ↦ elim (cases_lt a.bytes b.bytes) [
    | inl fewer ↦ absurd (at-bytes a b fewer h)
    | inr ge ↦ let bytes : a.bytes ≡ b.bytes = omega arith in inr (bytes, below bytes)
  ]
]
  where
    last : a.bytes ≡ b.bytes → a.count ≡ b.count → row_key a < row_key b
    last bytes count = let k = ge_from_not_lt (row_key b) (row_key a) (at-last a b bytes count h) in let le : row_key a ≤ row_key b = k in omega arith

    below : a.bytes ≡ b.bytes → (b.count < a.count) ⊎ ((a.count ≡ b.count) × (row_key a < row_key b))
    below bytes = elim (cases_lt b.count a.count) [
      | inl more ↦ inl more
      | inr le ↦ elim (cases_lt a.count b.count) [
        | inl fewer ↦ absurd (at-count a b bytes fewer h)
        | inr ge ↦ let count : a.count ≡ b.count = omega arith in inr (count, last bytes count)
      ]
    ]

-- rows of different groups, of which none is below the next one
pub are-ranked : (rows : List ClassRow) → IsDistinct nat_eq (map row_key rows)
    → ((k : ℕ) (d : ClassRow) → 0 ≤ k → k + 1 < length rows → IsNotBelow (get_or rows k d) (get_or rows (k + 1) d)) → AreRanked rows
are-ranked rows distinct sorted i a b at next =
    let within : i + 1 < length rows = slice_get_within rows (i + 1) b next in
    let here : get_or rows i a ≡ a = get_or_from_slice_get rows i a a at in
    let there : get_or rows (i + 1) a ≡ b = get_or_from_slice_get rows (i + 1) b a next in
    let apart = apart_from_distinct nat_eq (map row_key rows) i (i + 1) (row_key a) distinct (omega arith) (omega (arith, length-map rows row_key)) in
    let first : get_or (map row_key rows) i (row_key a) ≡ row_key a = get_or-map row_key rows i a (row_key a) (omega arith) ∙ ap row_key here in
    let second : get_or (map row_key rows) (i + 1) (row_key a) ≡ row_key b = get_or-map row_key rows (i + 1) a (row_key a) within ∙ ap row_key there in
    let differ : row_key a ≢ row_key b = λ e. true≢false (sym (eq-eqb (row_key a) (row_key b) e) ∙ (rw (first, second) at apart)) in
    is-above a b differ (rw (here, there) at (sorted i a (omega arith) within))
