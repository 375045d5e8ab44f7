-- IDs by the slots of their numbers, as those of further pages are put behind them.
use Rattle.std.proofs.Common.{◌≡◌, ◌∙◌, ℕ, Bool, true, false, ◌+◌, ◌*◌, ◌<◌, ◌≤◌, ◌^◌, nat_eq, List, ◌++◌, length, map, get_or, sym, ap, subst, arith, All}
use Rattle.std.proofs.Common.{length-append}
use Rattle.std.specs.Prelude.{MatchBool}
use Rattle.std.specs.List.{IsDistinct}
use Rattle.std.proofs.lemmas.List.{get_or_default, length-map}
use Rattle.std.proofs.lemmas.List.Elements.{All-append, All-weaker}
use Rattle.hd_ids.specs.Noted.{are_apart}
use Rattle.hd_ids.specs.Rows.{row_of, id_of_slot, ids_in, AreNumbers, AreRows, AreSlots}
use Rattle.hd_ids.specs.Put.{moved_slot, AreApartRows, AreRowsPut, HaveGotRows, RowsMeet}
use Rattle.hd_ids.proofs.BehindLemmas.{apart-rows, both-have, numbers-low, numbers-behind, are-apart, ids-behind, moved-all}

-- the pages of those behind, once they are called otherwise
pub by-pages : {pages numbers grown kept rows more : List ℕ} (others : List ℕ) → more ≡ others → HaveGotRows pages numbers grown kept rows more (length more)
    → HaveGotRows pages numbers grown kept rows others (length others)
by-pages {pages = pages} {numbers = numbers} {grown = grown} {kept = kept} {rows = rows} others is h =
    subst (λ (ps : List ℕ). HaveGotRows pages numbers grown kept rows ps (length ps)) is h

-- what putting rows answers, for rows that are called otherwise
module _ (old new rows more : List ℕ) (base : ℕ) {others : List ℕ} (is : rows ≡ others) {apart : Bool}
    (h : MatchBool apart (AreRowsPut old new rows more base (length rows)) (RowsMeet old rows more)) where
  answer : (b : Bool) → apart ≡ b → MatchBool b (AreRowsPut old new others more base (length others)) (RowsMeet old others more)
  answer b e =
      subst (λ (rs : List ℕ). MatchBool b (AreRowsPut old new rs more base (length rs)) (RowsMeet old rs more)) is
      (subst (λ (x : Bool). MatchBool x (AreRowsPut old new rows more base (length rows)) (RowsMeet old rows more)) e h)

  pub put-if : apart ≡ true → AreRowsPut old new others more base (length others)
  put-if e = answer true e

  pub meet-if : apart ≡ false → RowsMeet old others more
  meet-if e = answer false e

module _ {pages numbers slots : List ℕ} {last_page last_row : ℕ} (h : AreSlots pages numbers slots last_page last_row)
    {back_pages back_numbers back_slots : List ℕ} {back_page back_row : ℕ} (k : AreSlots back_pages back_numbers back_slots back_page back_row)
    (back_distinct : IsDistinct nat_eq back_pages)
    {grown kept rows : List ℕ} (got : HaveGotRows pages numbers grown kept rows back_pages (length back_pages)) (distinct : IsDistinct nat_eq grown) where
  abbrev front : List ℕ
  front = ids_in pages slots

  abbrev back : List ℕ
  back = ids_in back_pages back_slots

  front-len : length front ≡ length slots
  front-len = length-map slots (id_of_slot pages)

  back-len : length back ≡ length back_slots
  back-len = length-map back_slots (id_of_slot back_pages)

  front-kept : AreNumbers grown kept front
  front-kept = got.numbers_kept front h.rows.numbers_are

  pub rows-apart : AreApartRows rows
  rows-apart = apart-rows grown kept front front-kept distinct back_pages back_numbers back k.rows.numbers_are back_distinct rows got.within got.are got.count

  pub behind-low : (base : ℕ) → base ≡ length slots → length slots + length back_slots ≤ 2 ^ 31 → (q : ℕ) → get_or back_numbers q 0 + base ≤ 2 ^ 31
  behind-low base is few q =
      let low = numbers-low back_pages back_numbers back k.rows.numbers_are back_distinct (length back_slots) (omega (arith, back-len)) q in
      omega (arith, low, is, few)

  pub both-meet : RowsMeet kept rows back_numbers → are_apart front back ≡ false
  both-meet w = both-have grown kept front front-kept distinct back_pages back_numbers back k.rows.numbers_are back_distinct rows got.within got.are w got.count

  pub rows-low : length numbers + length back_numbers ≤ 2 ^ 32 → All (λ (row : ℕ). row < 2 ^ 23) rows
  rows-low few i d lt =
      let same = get_or_default rows i d 0 lt in
      omega (arith, same, got.within i (omega (arith, lt, got.count)), got.few, h.rows.numbers_are.rows, k.rows.numbers_are.rows, few)

  module _ {new : List ℕ} {base : ℕ} (is : base ≡ length slots) (put : AreRowsPut kept new rows back_numbers base (length rows)) where
    put-all : AreRowsPut kept new rows back_numbers (length front) (length back_pages)
    put-all =
        subst (λ (n : ℕ). AreRowsPut kept new rows back_numbers (length front) n) got.count
        (subst (λ (b : ℕ). AreRowsPut kept new rows back_numbers b (length rows)) (is ∙ sym front-len) put)

    abbrev all : List ℕ
    all = slots ++ map (moved_slot rows) back_slots

    ids-are : ids_in grown all ≡ front ++ back
    ids-are =
        ids-behind grown kept front front-kept distinct back_pages back_numbers back k.rows.numbers_are back_distinct rows got.within got.are slots back_slots
        k.within
        ∙ ap (λ (is : List ℕ). is ++ back) (got.ids_kept slots h.within)

    pub both-follow : (are_apart front back ≡ true) × (ids_in grown all ≡ front ++ back)
    both-follow = (
      are-apart grown kept front front-kept distinct back_pages back_numbers back k.rows.numbers_are back_distinct rows got.within got.are new put-all,
      ids-are,
    )

    all-len : length all ≡ length slots + length back_slots
    all-len = length-append slots (map (moved_slot rows) back_slots) ∙ ap (λ (n : ℕ). length slots + n) (length-map back_slots (moved_slot rows))

    new-len : length new ≤ length numbers + length back_numbers
    new-len = omega (arith, put.count, got.whole, got.few, h.rows.numbers_are.rows, k.rows.numbers_are.rows)

    pub slots-behind : (page row : ℕ) → row ≡ row_of grown page → row ≤ length grown
        → length numbers + length back_numbers ≤ (length slots + length back_slots) * 64 + 2 ^ 16
        → length numbers + length back_numbers ≤ 2 ^ 32
        → length slots + length back_slots ≤ 2 ^ 31
        → AreSlots grown new all page row
    slots-behind page row row_is le small most few = record {
      rows = subst (λ (ids : List ℕ). AreRows grown new ids page row) (sym ids-are) (record {
        numbers_are = numbers-behind grown kept front front-kept distinct back_pages back_numbers back k.rows.numbers_are back_distinct rows got.within got.are
            new put-all;
        last = sym row_is;
        within = le;
        small = omega (arith, small, new-len, length-append front back, front-len, back-len);
        few_ids = omega (arith, few, length-append front back, front-len, back-len);
      });
      low = got.low h.low;
      within = All-append (λ (s : ℕ). s < length grown * 512) slots (map (moved_slot rows) back_slots)
          (All-weaker (λ (s : ℕ). s < length pages * 512) (λ (s : ℕ). s < length grown * 512) (λ s lt. omega (arith, lt, got.grown)) slots h.within)
          (moved-all grown kept front front-kept distinct back_pages back_numbers back k.rows.numbers_are back_distinct rows got.within got.are back_slots
          k.within);
      few = omega (arith, most, new-len);
    }
