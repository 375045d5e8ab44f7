-- IDs behind others, once their numbers are put into the rows of their pages.
use Rattle.std.proofs.Common.{◌≡◌, ◌≢◌, ◌∙◌, ◌⊎◌, inl, inr, ℕ, ◌+◌, ◌-◌, ◌*◌, ◌/◌, ◌%◌, ◌<◌, ◌≤◌, Bool, true, false, true≢false, ◌||◌, not, cond, eqb, nat_eq}
use Rattle.std.proofs.Common.{List, [], ◌∷◌, ◌++◌, length, map, get_or, refl, sym, ap, arith, All, eq-eqb, ne_eqb, length-append}
use Rattle.std.specs.List.{list_any, position_or_len, IsDistinct}
use Rattle.std.proofs.lemmas.Bool.{cases_lt, cases_Bool, eqb-true, eqb-false, ltb-true}
use Rattle.std.proofs.Math.Bool.{or-true}
use Rattle.std.proofs.lemmas.List.{get_or_past, get_or_append_left, get_or-append_right, get_or_default, map-append}
use Rattle.std.proofs.lemmas.List.Elements.{All-head, All-tail, All-map, All-weaker}
use Rattle.std.proofs.lemmas.List.Folds.{list_any-append, list_any_at, prefix_len-append}
use Rattle.std.proofs.lemmas.List.Sums.{passes_at_first}
use Rattle.std.proofs.lemmas.Map.Keys.{IsDistinct-from_apart, apart_from_distinct}
use Rattle.hd_ids.specs.Noted.{is_noted, are_apart}
use Rattle.hd_ids.specs.Rows.{page_of, place_of, row_of, slot_of, number_of, id_at, id_of_slot, ids_in, AreNumbers}
use Rattle.hd_ids.specs.Put.{put, moved_slot, AreApartRows, AreRowsPut, RowsMeet}
use Rattle.hd_ids.proofs.RowLemmas.{any-within, past-none, row-of-place, absent-by-number, there-by-number}

-- one of these passes
any-of : (p : ℕ → Bool) (xs : List ℕ) (id : ℕ) → is_noted xs id ≡ true → p id ≡ true → list_any p xs ≡ true
any-of p [] id there passes = absurd (true≢false (sym there))
any-of p (x ∷ xs) id there passes = by (any-of p xs id) (eqb id x) refl there
  where
    by : (is_noted xs id ≡ true → p id ≡ true → list_any p xs ≡ true) → (b : Bool) → eqb id x ≡ b → (b || is_noted xs id) ≡ true → (p x || list_any p xs) ≡ true
    by rest true e t = rw (sym (ap p (eqb-true id x e)) ∙ passes) refl
    by rest false e t = ap (λ (b : Bool). p x || b) (rest t passes) ∙ or-true (p x)

-- none passes where none of those that are noted does
none-of : (p : ℕ → Bool) (xs : List ℕ) → ((id : ℕ) → is_noted xs id ≡ true → p id ≡ false) → list_any p xs ≡ false
none-of p [] h = refl
none-of p (x ∷ xs) h = rw (h x here, none-of p xs (λ id e. h id (there id e))) refl
  where
    here : (eqb x x || is_noted xs x) ≡ true
    here = rw (eq-eqb x x refl) refl

    there : (id : ℕ) → is_noted xs id ≡ true → (eqb id x || is_noted xs id) ≡ true
    there id e = rw e (or-true (eqb id x))

-- distinct IDs behind others that have none of them
module _ (xs ys : List ℕ) (d : IsDistinct nat_eq xs) (e : IsDistinct nat_eq ys) (h : (id : ℕ) → is_noted ys id ≡ true → is_noted xs id ≡ false) where
  differ : (i j : ℕ) → i < length xs → j < length ys → nat_eq (get_or xs i 0) (get_or ys j 0) ≡ false
  differ i j lt below =
      let there : is_noted ys (get_or ys j 0) ≡ true = list_any_at (λ k. eqb (get_or ys j 0) k) ys j 0 below (eq-eqb (get_or ys j 0) (get_or ys j 0) refl) in
      ne_eqb (get_or xs i 0) (get_or ys j 0)
      (λ same. true≢false (sym (list_any_at (λ k. eqb (get_or ys j 0) k) xs i 0 lt (eq-eqb (get_or ys j 0) (get_or xs i 0) (sym same)))
      ∙ h (get_or ys j 0) there))

  both : (i j : ℕ) → i < j → j < length (xs ++ ys) → (i < length xs) ⊎ (length xs ≤ i) → (j < length xs) ⊎ (length xs ≤ j)
      → nat_eq (get_or (xs ++ ys) i 0) (get_or (xs ++ ys) j 0) ≡ false
  both i j lt within _ (inl below) =
      rw (get_or_append_left xs ys 0 i (omega (arith, lt, below)), get_or_append_left xs ys 0 j below) (apart_from_distinct nat_eq xs i j 0 d lt below)
  both i j lt within (inl below) (inr past) =
      rw (get_or_append_left xs ys 0 i below, get_or-append_right xs ys (length xs) j 0 refl past)
      (differ i (j - length xs) below (omega (arith, within, past, length-append xs ys)))
  both i j lt within (inr before) (inr past) =
      rw (get_or-append_right xs ys (length xs) i 0 refl before, get_or-append_right xs ys (length xs) j 0 refl past)
      (apart_from_distinct nat_eq ys (i - length xs) (j - length xs) 0 e (omega (arith, lt, before, past)) (omega (arith, within, past, length-append xs ys)))

-- the number of an ID that is in one of two lists
module _ (front back : List ℕ) (id : ℕ) where
  abbrev p : ℕ → Bool
  p = λ k. eqb id k

  first : position_or_len p (front ++ back) ≡ cond (eqb (position_or_len p front) (length front)) (length front + position_or_len p back)
      (position_or_len p front)
  first = prefix_len-append (λ k. not (p k)) front back

  some : is_noted (front ++ back) id ≡ (is_noted front id || is_noted back id)
  some = list_any-append p front back

  pub number-behind : is_noted front id ≡ false ⊎ (is_noted back id ≡ false) → number_of (front ++ back) id ≡ put (number_of front id) (number_of back id)
      (length front)
  number-behind apart = by (is_noted front id) (is_noted back id) refl refl apart
    where
      by : (a b : Bool) → is_noted front id ≡ a → is_noted back id ≡ b → (is_noted front id ≡ false) ⊎ (is_noted back id ≡ false)
          → number_of (front ++ back) id ≡ put (number_of front id) (number_of back id) (length front)
      by true true e f (inl g) = absurd (true≢false (sym e ∙ g))
      by true true e f (inr g) = absurd (true≢false (sym f ∙ g))
      by true false e f _ =
          let lt = ltb-true (position_or_len p front) (length front) (sym (any-within p front) ∙ e) in
          let place : position_or_len p (front ++ back) ≡ position_or_len p front =
          first ∙ rw (ne_eqb (position_or_len p front) (length front) (λ s. omega (arith, s, lt))) refl in
          rw (some, e, f, place) refl
      by false true e f _ =
          let place : position_or_len p (front ++ back) ≡ length front + position_or_len p back =
          first ∙ rw (eq-eqb (position_or_len p front) (length front) (past-none p front e)) refl in
          let more : eqb (position_or_len p back + 1) 0 ≡ false = ne_eqb (position_or_len p back + 1) 0 (λ s. omega (arith, s)) in
          rw (some, e, f, place, more) (omega arith)
      by false false e f _ = rw (some, e, f) refl

-- no number is higher than there are IDs
number-low : (ids : List ℕ) (id : ℕ) → number_of ids id ≤ length ids
number-low ids id = by (is_noted ids id) refl
  where
    by : (b : Bool) → is_noted ids id ≡ b → number_of ids id ≤ length ids
    by true e =
        let lt = ltb-true (position_or_len (λ k. eqb id k) ids) (length ids) (sym (any-within (λ k. eqb id k) ids) ∙ e) in
        rw e (omega (arith, lt))
    by false e = rw e (omega arith)

-- the page and the place of the ID of a place
page-of-id : (page place : ℕ) → place < 512 → page_of (id_at page place) ≡ page
page-of-id page place lt = omega (arith, lt)

place-of-id : (page place : ℕ) → place < 512 → place_of (id_at page place) ≡ place
place-of-id page place lt = omega (arith, lt)

module _ (pages numbers ids : List ℕ) (h : AreNumbers pages numbers ids) (distinct : IsDistinct nat_eq pages) where
  -- what stands at a place is the number of its ID
  number-at : (row place : ℕ) → row < length pages → place < 512 → get_or numbers (row * 512 + place) 0 ≡ number_of ids (id_at (get_or pages row 0) place)
  number-at row place lt below =
      let id : ℕ = id_at (get_or pages row 0) place in
      let page : page_of id ≡ get_or pages row 0 = page-of-id (get_or pages row 0) place below in
      let here : row_of pages (page_of id) ≡ row = ap (row_of pages) page ∙ row-of-place pages (get_or pages row 0) row distinct lt refl in
      let slot : slot_of pages id ≡ row * 512 + place = omega (arith, here, place-of-id (get_or pages row 0) place below) in
      ap (λ (s : ℕ). get_or numbers s 0) (sym slot) ∙ h.at id

  pub numbers-low : (most : ℕ) → length ids ≤ most → (slot : ℕ) → get_or numbers slot 0 ≤ most
  numbers-low most le slot = elim (cases_lt slot (length numbers)) [
    | inl lt ↦
        let whole : slot / 512 * 512 + slot % 512 ≡ slot = omega arith in
        let here = ap (λ (s : ℕ). get_or numbers s 0) (sym whole) ∙ number-at (slot / 512) (slot % 512) (omega (arith, lt, h.rows)) (omega arith) in
        omega (arith, here, number-low ids (id_at (get_or pages (slot / 512) 0) (slot % 512)), le)
    | inr past ↦ omega (arith, get_or_past numbers slot 0 past)
  ]

module _ (pages numbers front : List ℕ) (h : AreNumbers pages numbers front) (distinct : IsDistinct nat_eq pages)
    (back_pages back_numbers back : List ℕ) (k : AreNumbers back_pages back_numbers back) (back_distinct : IsDistinct nat_eq back_pages)
    (rows : List ℕ) (within : (r : ℕ) → r < length back_pages → get_or rows r 0 < length pages)
    (are : (r : ℕ) → r < length back_pages → get_or pages (get_or rows r 0) 0 ≡ get_or back_pages r 0) where
  -- the row of a page of those behind
  row-is : (id : ℕ) → row_of back_pages (page_of id) < length back_pages → row_of pages (page_of id) ≡ get_or rows (row_of back_pages (page_of id)) 0
  row-is id lt =
      let r : ℕ = row_of back_pages (page_of id) in
      let page : page_of id ≡ get_or back_pages r 0 =
      eqb-true (page_of id) (get_or back_pages r 0) (passes_at_first (λ q. eqb (page_of id) q) back_pages 0 lt) in
      row-of-place pages (page_of id) (get_or rows r 0) distinct (within r lt) (are r lt ∙ sym page)

  -- no two pages have one row
  pub apart-rows : length rows ≡ length back_pages → AreApartRows rows
  apart-rows count i j lt below same =
      let i_lt : i < length back_pages = omega (arith, lt, below, count) in
      let j_lt : j < length back_pages = omega (arith, below, count) in
      eqb-false (get_or back_pages i 0) (get_or back_pages j 0) (apart_from_distinct nat_eq back_pages i j 0 back_distinct lt j_lt)
      (sym (are i i_lt) ∙ ap (λ (r : ℕ). get_or pages r 0) same ∙ are j j_lt)

  -- an ID of both
  pub both-have : RowsMeet numbers rows back_numbers → length rows ≡ length back_pages → are_apart front back ≡ false
  both-have w count =
      let r : ℕ = w.row in
      let place : ℕ = w.meet.place in
      let lt : r < length back_pages = omega (arith, w.row_within, count) in
      let id : ℕ = id_at (get_or back_pages r 0) place in
      let here = number-at pages numbers front h distinct (get_or rows r 0) place (within r lt) w.meet.within in
      let same : get_or numbers (get_or rows r 0 * 512 + place) 0 ≡ number_of front id = here ∙ ap (λ (page : ℕ). number_of front (id_at page place))
      (are r lt) in
      let there = number-at back_pages back_numbers back k back_distinct r place lt w.meet.within in
      let in_front : is_noted front id ≡ true = there-by-number front id (number_of front id) refl (λ e. w.meet.old_some (same ∙ e)) in
      let in_back : is_noted back id ≡ true = there-by-number back id (number_of back id) refl (λ e. w.meet.more_some (there ∙ e)) in
      ap not (any-of (is_noted front) back id in_back in_front)

  module _ (new : List ℕ) (put_all : AreRowsPut numbers new rows back_numbers (length front) (length back_pages)) where
    -- an ID of those behind isn't one of those in front
    none-of-both : (id : ℕ) → is_noted back id ≡ true → is_noted front id ≡ false
    none-of-both id there = elim (cases_lt r (length back_pages)) [
      | inl lt ↦ by lt (put_all.apart r (place_of id) lt (omega arith))
      | inr le ↦
          absurd (past le)
    ]
      where
        r : ℕ
        r = row_of back_pages (page_of id)

        number : get_or back_numbers (r * 512 + place_of id) 0 ≡ position_or_len (λ x. eqb id x) back + 1
        number = k.at id ∙ rw there refl

        past : length back_pages ≤ r → ⊥
        past le =
            let none = get_or_past back_numbers (r * 512 + place_of id) 0 (omega (arith, k.rows, le)) in
            omega (arith, number, none)

        by : r < length back_pages → (get_or numbers (get_or rows r 0 * 512 + place_of id) 0 ≡ 0) ⊎ (get_or back_numbers (r * 512 + place_of id) 0 ≡ 0)
            → is_noted front id ≡ false
        by lt (inl none) =
            absent-by-number front id (sym (h.at id) ∙ ap (λ (q : ℕ). get_or numbers (q * 512 + place_of id) 0) (row-is id lt) ∙ none)
        by lt (inr none) = absurd (omega (arith, number, none))

    pub are-apart : are_apart front back ≡ true
    are-apart = ap not (none-of (is_noted front) back none-of-both)

    one-has : (id : ℕ) → is_noted front id ≡ false ⊎ (is_noted back id ≡ false)
    one-has id = elim (cases_Bool (is_noted back id)) [ inl there ↦ inl (none-of-both id there) | inr none ↦ inr none ]

    -- the page of an ID has a row of those behind, or none
    at-id : (id : ℕ) → (row_of back_pages (page_of id) < length back_pages) ⊎ (length back_pages ≤ row_of back_pages (page_of id))
        → get_or new (slot_of pages id) 0 ≡ put (number_of front id) (number_of back id) (length front)
    at-id id (inl lt) =
        let r : ℕ = row_of back_pages (page_of id) in
        let row = row-is id lt in
        ap (λ (q : ℕ). get_or new (q * 512 + place_of id) 0) row
        ∙ put_all.here r (place_of id) lt (omega arith)
        ∙ ap (λ (q : ℕ). put (get_or numbers (q * 512 + place_of id) 0) (get_or back_numbers (slot_of back_pages id) 0) (length front)) (sym row)
        ∙ ap (λ (n : ℕ). put n (get_or back_numbers (slot_of back_pages id) 0) (length front)) (h.at id)
        ∙ ap (λ (n : ℕ). put (number_of front id) n (length front)) (k.at id)
    at-id id (inr le) =
        let none : number_of back id ≡ 0 = sym (k.at id) ∙ get_or_past back_numbers (slot_of back_pages id) 0 (omega (arith, k.rows, le)) in
        let other : (j : ℕ) → j < length back_pages → get_or rows j 0 ≢ row_of pages (page_of id) = λ j lt same. other-row j lt same in
        put_all.others (row_of pages (page_of id)) (place_of id) (omega arith) other
        ∙ h.at id
        ∙ rw none refl
      where
        -- a page with this row would be one of those behind
        other-row : (j : ℕ) → j < length back_pages → get_or rows j 0 ≢ row_of pages (page_of id)
        other-row j lt same =
            let there : row_of pages (page_of id) < length pages = omega (arith, within j lt, same) in
            let page : page_of id ≡ get_or pages (row_of pages (page_of id)) 0 =
            eqb-true (page_of id) (get_or pages (row_of pages (page_of id)) 0) (passes_at_first (λ q. eqb (page_of id) q) pages 0 there) in
            let is : get_or back_pages j 0 ≡ page_of id = sym (are j lt) ∙ ap (λ (q : ℕ). get_or pages q 0) same ∙ sym page in
            let at_j = row-of-place back_pages (page_of id) j back_distinct lt is in
            omega (arith, at_j, le, lt)

    pub numbers-behind : AreNumbers pages new (front ++ back)
    numbers-behind = record {
      rows = put_all.count ∙ h.rows;
      at = λ id. at-id id (cases_lt (row_of back_pages (page_of id)) (length back_pages)) ∙ sym (number-behind front back id (one-has id));
      distinct = IsDistinct-from_apart nat_eq (front ++ back)
          (λ i j d lt below. ids-differ i j d lt below);
    }
      where
        ids-differ : (i j d : ℕ) → i < j → j < length (front ++ back) → nat_eq (get_or (front ++ back) i d) (get_or (front ++ back) j d) ≡ false
        ids-differ i j d lt below =
            rw (default i (omega (arith, lt, below)), default j below)
            (both front back h.distinct k.distinct none-of-both i j lt below (cases_lt i (length front)) (cases_lt j (length front)))
          where
            default : (q : ℕ) → q < length (front ++ back) → get_or (front ++ back) q d ≡ get_or (front ++ back) q 0
            default q inside = get_or_default (front ++ back) q d 0 inside

  -- the slots of those behind tell their IDs
  moved-id : (s : ℕ) → s < length back_pages * 512 → id_of_slot pages (moved_slot rows s) ≡ id_of_slot back_pages s
  moved-id s lt =
      let row : moved_slot rows s / 512 ≡ get_or rows (s / 512) 0 = omega arith in
      let place : moved_slot rows s % 512 ≡ s % 512 = omega arith in
      ap (λ (r : ℕ). id_at (get_or pages r 0) (moved_slot rows s % 512)) row
      ∙ ap (id_at (get_or pages (get_or rows (s / 512) 0) 0)) place
      ∙ ap (λ (page : ℕ). id_at page (s % 512)) (are (s / 512) (omega (arith, lt)))

  moved-ids : (slots : List ℕ) → All (λ (s : ℕ). s < length back_pages * 512) slots → ids_in pages (map (moved_slot rows) slots) ≡ ids_in back_pages slots
  moved-ids [] all = refl
  moved-ids (s ∷ slots) all =
      ap (λ (i : ℕ). i ∷ ids_in pages (map (moved_slot rows) slots)) (moved-id s (All-head (λ (q : ℕ). q < length back_pages * 512) s slots all))
      ∙ ap (λ (is : List ℕ). id_of_slot back_pages s ∷ is) (moved-ids slots (All-tail (λ (q : ℕ). q < length back_pages * 512) s slots all))

  pub ids-behind : (slots back_slots : List ℕ) → All (λ (s : ℕ). s < length back_pages * 512) back_slots
      → ids_in pages (slots ++ map (moved_slot rows) back_slots) ≡ ids_in pages slots ++ ids_in back_pages back_slots
  ids-behind slots back_slots all =
      map-append (id_of_slot pages) slots (map (moved_slot rows) back_slots) ∙ ap (λ (is : List ℕ). ids_in pages slots ++ is) (moved-ids back_slots all)

  moved-low : (s : ℕ) → s < length back_pages * 512 → moved_slot rows s < length pages * 512
  moved-low s lt = omega (arith, within (s / 512) (omega (arith, lt)))

  pub moved-all : (slots : List ℕ) → All (λ (s : ℕ). s < length back_pages * 512) slots → All (λ (s : ℕ). s < length pages * 512) (map (moved_slot rows) slots)
  moved-all slots all =
      All-map (λ (s : ℕ). s < length pages * 512) (moved_slot rows) slots
      (All-weaker (λ (s : ℕ). s < length back_pages * 512) (λ (s : ℕ). moved_slot rows s < length pages * 512) (λ s lt. moved-low s lt) slots all)
