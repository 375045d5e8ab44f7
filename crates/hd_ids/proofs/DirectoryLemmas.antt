-- Rows that are told of pages, as entries and pages are added.
use Rattle.std.proofs.Common.{◌≡◌, ◌≢◌, ◌∙◌, ◌⊎◌, inl, inr, ℕ, ◌+◌, ◌-◌, ◌/◌, ◌%◌, ◌<◌, ◌≤◌, ◌==◌, ◌&&◌, not, Bool, true, false, cond, eqb, nat_lt, nat_eq}
use Rattle.std.proofs.Common.{List, [], ◌∷◌, ◌++◌, length, replicate, get_or, slice_set, slice_index, refl, sym, ap, arith, length-append, eq-eqb}
use Rattle.std.proofs.Common.{get_or-set_same, get_or-set_other}
use Rattle.std.specs.List.{IsDistinct}
use Rattle.std.proofs.lemmas.Bool.{eqb-true, le-ltb, ltb-false}
use Rattle.std.proofs.lemmas.Bool.Decides.{eqb_tells}
use Rattle.hd_ids.specs.Rows.{row_of}
use Rattle.hd_ids.specs.Directory.{Entries, told, TellsRows}
use Rattle.hd_ids.proofs.RowLemmas.{zeros, row-others, row-of-place}

-- a row is told of a page that has an entry
told-some : (d : Entries) (page row : ℕ) → told d page ≡ row + 1 → (page % 8 ≡ 0) × (d.first ≤ page / 8) × (slice_index d.rows (page / 8 - d.first) ≡ row + 1)
told-some d page row e = by (page % 8 == 0) (nat_lt (page / 8) d.first) refl refl e
  where
    by : (even below : Bool) → (page % 8 == 0) ≡ even → nat_lt (page / 8) d.first ≡ below
        → cond (even && not below) (slice_index d.rows (page / 8 - d.first)) 0 ≡ row + 1
        → (page % 8 ≡ 0) × (d.first ≤ page / 8) × (slice_index d.rows (page / 8 - d.first) ≡ row + 1)
    by true false a b is = (eqb-true (page % 8) 0 a, ltb-false (page / 8) d.first b, is)
    by true true a b is = absurd (omega (arith, is))
    by false below a b is = absurd (omega (arith, is))

-- nothing is told by zeros
pub zeros-tell : (first n page : ℕ) → told (record { first = first; rows = replicate n 0 }) page ≡ 0
zeros-tell first n page = by (page % 8 == 0 && not (nat_lt (page / 8) first))
  where
    by : (b : Bool) → cond b (slice_index (replicate n 0) (page / 8 - first)) 0 ≡ 0
    by true = zeros n (page / 8 - first) 0
    by false = refl

-- what tells nothing tells nothing wrong
pub none-told : (pages : List ℕ) (d : Entries) → ((page : ℕ) → told d page ≡ 0) → TellsRows pages d
none-told pages d none page row e = absurd (omega (arith, none page, e))

-- an entry is made for a page
pub entry-made : (first : ℕ) (rows : List ℕ) (page place n row : ℕ) → page % 8 ≡ 0 → place + first ≡ page / 8 → place < length rows → n ≡ row + 1 → (p r : ℕ)
    → told (record { first = first; rows = slice_set rows place n }) p ≡ r + 1 → ((p ≡ page) × (r ≡ row))
    ⊎ (told (record { first = first; rows = rows }) p ≡ r + 1)
entry-made first rows page place n row even at lt is p r e = by (eqb_tells (p / 8 - first) place)
  where
    some : (p % 8 ≡ 0) × (first ≤ p / 8) × (slice_index (slice_set rows place n) (p / 8 - first) ≡ r + 1)
    some = told-some (record { first = first; rows = slice_set rows place n }) p r e

    by : ((eqb (p / 8 - first) place ≡ true) × (p / 8 - first ≡ place)) ⊎ ((eqb (p / 8 - first) place ≡ false) × (p / 8 - first ≢ place))
        → ((p ≡ page) × (r ≡ row)) ⊎ (told (record { first = first; rows = rows }) p ≡ r + 1)
    by (inl (_, same)) =
        let own : n ≡ r + 1 = sym (ap (λ (i : ℕ). get_or (slice_set rows place n) i 0) same ∙ get_or-set_same rows place n 0 lt) ∙ some.2 in
        inl (omega (arith, same, some.0, some.1, even, at), omega (arith, own, is))
    by (inr (_, other)) =
        inr (told-here p some.0 some.1 ∙ sym (get_or-set_other rows place (p / 8 - first) n 0 other) ∙ some.2)
      where
        told-here : (q : ℕ) → q % 8 ≡ 0 → first ≤ q / 8 → told (record { first = first; rows = rows }) q ≡ slice_index rows (q / 8 - first)
        told-here q even le = rw (eq-eqb (q % 8) 0 even, le-ltb (q / 8) first le) refl

-- the row of a page is told beside others
pub row-told : (pages : List ℕ) (old new : Entries) (page row : ℕ) → IsDistinct nat_eq pages → row < length pages → slice_index pages row ≡ page
    → ((p r : ℕ) → told new p ≡ r + 1 → ((p ≡ page) × (r ≡ row)) ⊎ (told old p ≡ r + 1)) → TellsRows pages old → TellsRows pages new
row-told pages old new page row distinct lt is told_by tells p r e = by (told_by p r e)
  where
    by : ((p ≡ page) × (r ≡ row)) ⊎ (told old p ≡ r + 1) → (r < length pages) × (row_of pages p ≡ r)
    by (inl (same, own)) = (omega (arith, lt, own), ap (row_of pages) same ∙ row-of-place pages page row distinct lt is ∙ sym own)
    by (inr before) = tells p r before

-- one more page changes no row that is told
pub told-before : (pages : List ℕ) (page : ℕ) (d : Entries) → TellsRows pages d → TellsRows (pages ++ page ∷ []) d
told-before pages page d tells p r e =
    let before = tells p r e in
    let lt : row_of pages p < length pages = omega (arith, before.0, before.1) in
    (omega (arith, before.0, length-append pages (page ∷ [])), row-others pages page p lt ∙ before.1)
