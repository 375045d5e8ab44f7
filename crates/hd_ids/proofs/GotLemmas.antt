-- The rows that further pages get.
use Rattle.std.proofs.Common.{◌≡◌, ◌∙◌, ◌⊎◌, inl, inr, ℕ, ◌+◌, ◌-◌, ◌*◌, ◌<◌, ◌≤◌, ◌^◌, eqb, List, [], ◌∷◌, ◌++◌, length, replicate, get_or, refl, sym, ap}
use Rattle.std.proofs.Common.{arith, All, length-append}
use Rattle.std.proofs.lemmas.Bool.{cases_lt, eqb-true}
use Rattle.std.proofs.lemmas.List.{get_or_append_left, get_or-append_right, length-replicate}
use Rattle.std.proofs.lemmas.List.Elements.{All-push, All-weaker}
use Rattle.std.proofs.lemmas.List.Sums.{passes_at_first}
use Rattle.hd_ids.specs.Rows.{row_of, ids_in}
use Rattle.hd_ids.specs.Put.{HasGotRow, HaveGotRows}
use Rattle.hd_ids.proofs.RowLemmas.{row-added}
use Rattle.hd_ids.proofs.SlotLemmas.{ids-kept}

-- the last of a list
last-of : (xs : List ℕ) (x : ℕ) → get_or (xs ++ x ∷ []) (length xs) 0 ≡ x
last-of xs x = get_or-append_right xs (x ∷ []) (length xs) (length xs) 0 refl (omega arith) ∙ ap (λ (i : ℕ). get_or (x ∷ []) i 0) zero-behind
  where
    zero-behind : length xs - length xs ≡ 0
    zero-behind = omega arith

-- a page that has a row
pub had-row : (pages numbers : List ℕ) (page row : ℕ) → row ≡ row_of pages page → row < length pages → HasGotRow pages numbers page row pages numbers
had-row pages numbers page row is lt = record {
  within = lt;
  is = ap (λ (i : ℕ). get_or pages i 0) is
      ∙ sym (eqb-true page (get_or pages (row_of pages page) 0) (passes_at_first (λ k. eqb page k) pages 0 (omega (arith, is, lt))));
  grown = inl (refl, refl);
}

-- a page that had none
pub new-row : (pages numbers : List ℕ) (page row : ℕ) → row ≡ length pages
    → HasGotRow pages numbers page row (pages ++ page ∷ []) (numbers ++ replicate 512 0)
new-row pages numbers page row is = record {
  within = omega (arith, is, length-append pages (page ∷ []));
  is = ap (λ (i : ℕ). get_or (pages ++ page ∷ []) i 0) is ∙ last-of pages page;
  grown = inr (refl, refl);
}

-- no row yet
pub none-got : (pages numbers more : List ℕ) → length numbers ≡ length pages * 512 → HaveGotRows pages numbers pages numbers [] more 0
none-got pages numbers more whole = record {
  numbers_kept = λ ids h. h;
  ids_kept = λ slots all. refl;
  grown = omega arith;
  few = omega arith;
  whole = whole;
  low = λ all. all;
  count = refl;
  within = λ k lt. absurd (omega (arith, lt));
  are = λ k lt. absurd (omega (arith, lt));
}

module _ (pages numbers pages1 numbers1 rows more : List ℕ) (n : ℕ) (h : HaveGotRows pages numbers pages1 numbers1 rows more n) (page row : ℕ)
    (is : page ≡ get_or more n 0) where
  -- what holds of each row, once one more is known
  module _ (pages2 : List ℕ) (more_pages : length pages1 ≤ length pages2) (same : (k : ℕ) → k < length pages1 → get_or pages2 k 0 ≡ get_or pages1 k 0)
      (within : row < length pages2) (here : get_or pages2 row 0 ≡ page) where
    pub rows-within : (k : ℕ) → k < n + 1 → get_or (rows ++ row ∷ []) k 0 < length pages2
    rows-within k lt = elim (cases_lt k n) [
      | inl below ↦ omega (arith, get_or_append_left rows (row ∷ []) 0 k (omega (arith, below, h.count)), h.within k below, more_pages)
      | inr le ↦
          let last : k ≡ length rows = omega (arith, lt, le, h.count) in
          omega (arith, ap (λ (i : ℕ). get_or (rows ++ row ∷ []) i 0) last, last-of rows row, within)
    ]

    pub rows-are : (k : ℕ) → k < n + 1 → get_or pages2 (get_or (rows ++ row ∷ []) k 0) 0 ≡ get_or more k 0
    rows-are k lt = elim (cases_lt k n) [
      | inl below ↦
          ap (λ (i : ℕ). get_or pages2 i 0) (get_or_append_left rows (row ∷ []) 0 k (omega (arith, below, h.count)))
          ∙ same (get_or rows k 0) (h.within k below)
          ∙ h.are k below
      | inr le ↦
          let last : k ≡ length rows = omega (arith, lt, le, h.count) in
          let number : n ≡ k = omega (arith, lt, le) in
          ap (λ (i : ℕ). get_or pages2 (get_or (rows ++ row ∷ []) i 0) 0) last
          ∙ ap (λ (i : ℕ). get_or pages2 i 0) (last-of rows row)
          ∙ here
          ∙ is
          ∙ ap (λ (i : ℕ). get_or more i 0) number
    ]

  counted : length (rows ++ row ∷ []) ≡ n + 1
  counted = omega (arith, length-append rows (row ∷ []), h.count)

  -- one more row
  pub one-more : (pages2 numbers2 : List ℕ) → page < 2 ^ 55 → HasGotRow pages1 numbers1 page row pages2 numbers2
      → HaveGotRows pages numbers pages2 numbers2 (rows ++ row ∷ []) more (n + 1)
  one-more pages2 numbers2 low g = by g.grown
    where
      by : ((pages2 ≡ pages1) × (numbers2 ≡ numbers1)) ⊎ ((pages2 ≡ pages1 ++ page ∷ []) × (numbers2 ≡ numbers1 ++ replicate 512 0))
          → HaveGotRows pages numbers pages2 numbers2 (rows ++ row ∷ []) more (n + 1)
      by (inl (same_pages, same_numbers)) =
          let fewer : length pages1 ≤ length pages2 = omega (arith, ap length same_pages) in
          let kept : (k : ℕ) → k < length pages1 → get_or pages2 k 0 ≡ get_or pages1 k 0 = λ k lt. ap (λ (ps : List ℕ). get_or ps k 0) same_pages in
          record {
            numbers_kept = λ ids a. rw (same_pages, same_numbers) (h.numbers_kept ids a);
            ids_kept = λ slots all. ap (λ (ps : List ℕ). ids_in ps slots) same_pages ∙ h.ids_kept slots all;
            grown = omega (arith, h.grown, fewer);
            few = omega (arith, h.few, ap length same_pages);
            whole = ap length same_numbers ∙ h.whole ∙ ap (λ (ps : List ℕ). length ps * 512) (sym same_pages);
            low = λ all. rw same_pages (h.low all);
            count = counted;
            within = rows-within pages2 fewer kept g.within g.is;
            are = rows-are pages2 fewer kept g.within g.is;
          }
      by (inr (more_pages, more_numbers)) =
          let one : length pages2 ≡ length pages1 + 1 = ap length more_pages ∙ length-append pages1 (page ∷ []) in
          let fewer : length pages1 ≤ length pages2 = omega (arith, one) in
          let kept : (k : ℕ) → k < length pages1 → get_or pages2 k 0 ≡ get_or pages1 k 0 =
          λ k lt. ap (λ (ps : List ℕ). get_or ps k 0) more_pages ∙ get_or_append_left pages1 (page ∷ []) 0 k lt in
          let wider : (slots : List ℕ) → All (λ (s : ℕ). s < length pages * 512) slots → All (λ (s : ℕ). s < length pages1 * 512) slots =
          λ slots all. All-weaker (λ (s : ℕ). s < length pages * 512) (λ (s : ℕ). s < length pages1 * 512) (λ s lt. omega (arith, lt, h.grown)) slots all in
          record {
            numbers_kept = λ ids a. rw (more_pages, more_numbers) (row-added pages1 numbers1 ids (h.numbers_kept ids a) page 512 refl);
            ids_kept = λ slots all. ap (λ (ps : List ℕ). ids_in ps slots) more_pages ∙ ids-kept pages1 slots page (wider slots all) ∙ h.ids_kept slots all;
            grown = omega (arith, h.grown, fewer);
            few = omega (arith, h.few, one);
            whole = omega (arith, ap length more_numbers, length-append numbers1 (replicate 512 0), length-replicate {A = ℕ} 512 0, h.whole, one);
            low = λ all. rw more_pages (All-push (λ (p : ℕ). p < 2 ^ 55) pages1 page (h.low all) low);
            count = counted;
            within = rows-within pages2 fewer kept g.within g.is;
            are = rows-are pages2 fewer kept g.within g.is;
          }
