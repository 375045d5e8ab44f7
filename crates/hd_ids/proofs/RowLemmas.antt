-- The numbers in the rows, as rows and IDs are added.
use Rattle.std.proofs.Common.{◌≡◌, ◌≢◌, ◌∙◌, ℕ, suc, ◌+◌, ◌-◌, ◌*◌, ◌<◌, ◌≤◌, ◌^◌, ◌⊎◌, inl, inr, Bool, true, false, ◌||◌, not, cond, eqb, nat_eq, nat_lt, List}
use Rattle.std.proofs.Common.{[], ◌∷◌, ◌++◌, length, replicate, get_or, slice_set, position, slice_index, Option, None, Some, refl, sym, ap, arith}
use Rattle.std.proofs.Common.{length-append, eq-eqb, get_or-set_same, get_or-set_other, length-set}
use Rattle.std.specs.List.{list_any, position_or_len, IsDistinct}
use Rattle.std.specs.Option.{SomeIff}
use Rattle.std.specs.Cmp.{nat_eq_equiv}
use Rattle.std.proofs.lemmas.Bool.{cases_lt, eqb-true, eqb-false, ne_eqb, lt-ltb, le-ltb, ltb-true}
use Rattle.std.proofs.Math.Bool.{or-false}
use Rattle.std.proofs.lemmas.Bool.Decides.{eqb_tells, nat_tests}
use Rattle.std.proofs.lemmas.List.{get_or_past, get_or_append_left, get_or-append_right, get_or-replicate, length-replicate}
use Rattle.std.proofs.lemmas.List.Folds.{position_or_len_push, list_any-append}
use Rattle.std.proofs.lemmas.List.Sums.{prefix_len-le-length, passes_at_first, position_or_len_is}
use Rattle.std.proofs.lemmas.Map.Keys.{IsDistinct-push, apart_from_distinct}
use Rattle.hd_ids.specs.Noted.{is_noted}
use Rattle.hd_ids.specs.Rows.{page_of, place_of, row_of, slot_of, number_of, AreNumbers, AreRows}

-- the first place that passes, where some element does and where none does
module _ (p : ℕ → Bool) where
  shifted : (a b : ℕ) → nat_lt a b ≡ nat_lt (1 + a) (suc b)
  shifted a b = grind (arith, nat_tests)

  pub any-within : (xs : List ℕ) → list_any p xs ≡ nat_lt (position_or_len p xs) (length xs)
  any-within [] = refl
  any-within (x ∷ xs) = by (p x) (any-within xs)
    where
      by : (b : Bool) → list_any p xs ≡ nat_lt (position_or_len p xs) (length xs) → (b || list_any p xs) ≡ nat_lt (cond (not b) (1 + position_or_len p xs) 0)
          (length (x ∷ xs))
      by true e = sym (lt-ltb 0 (length (x ∷ xs)) (omega arith))
      by false e = e ∙ shifted (position_or_len p xs) (length xs)

  pub position-by-any : (xs : List ℕ) → position p xs ≡ cond (list_any p xs) (Some (position_or_len p xs)) None
  position-by-any xs = ap (λ (b : Bool). cond b (Some (position_or_len p xs)) None) (sym (any-within xs))

  pub none-past : (xs : List ℕ) → None ≡ position p xs → length xs ≡ position_or_len p xs
  none-past xs e = elim (cases_lt (position_or_len p xs) (length xs)) [
    | inl lt ↦ absurd (let s : position p xs ≡ Some (position_or_len p xs) = ap (λ (b : Bool). cond b (Some (position_or_len p xs)) None)
        (lt-ltb (position_or_len p xs) (length xs) lt) in cc)
    | inr le ↦ let most = prefix_len-le-length (λ x. not (p x)) xs in omega arith
  ]

  pub past-none : (xs : List ℕ) → list_any p xs ≡ false → position_or_len p xs ≡ length xs
  past-none xs e = sym (none-past xs (sym (position-by-any xs ∙ ap (λ (b : Bool). cond b (Some (position_or_len p xs)) None) e)))

-- the number of an ID less one is its position, if it isn't 0
pub position-by-number : (ids : List ℕ) (id n : ℕ) (r : Option ℕ) → n ≡ number_of ids id → SomeIff r (1 ≤ n) (n - 1) → r ≡ position (λ k. eqb id k) ids
position-by-number ids id n r e h = by (is_noted ids id) (position_or_len (λ k. eqb id k) ids) r e h ∙ sym (position-by-any (λ k. eqb id k) ids)
  where
    by : (b : Bool) (i : ℕ) (r : Option ℕ) → n ≡ cond b (i + 1) 0 → SomeIff r (1 ≤ n) (n - 1) → r ≡ cond b (Some i) None
    by true i None is h = absurd (h (omega (arith, is)))
    by true i (Some x) is h = let same : x ≡ i = omega (arith, is, h.1) in ap Some same
    by false i None is h = refl
    by false i (Some x) is h = absurd (omega (arith, is, h.0))

-- a row is one of the rows, or one past the last
pub row-le : (pages : List ℕ) (page : ℕ) → row_of pages page ≤ length pages
row-le pages page = prefix_len-le-length (λ k. not (eqb page k)) pages

-- a page whose row is past the last isn't there
pub row-absent : (pages : List ℕ) (page : ℕ) → row_of pages page ≡ length pages → list_any (λ k. eqb page k) pages ≡ false
row-absent pages page new = any-within (λ k. eqb page k) pages ∙ le-ltb (row_of pages page) (length pages) (omega (arith, new))

-- pages of one row are one
same-page : (pages : List ℕ) (p q : ℕ) → row_of pages p < length pages → row_of pages p ≡ row_of pages q → p ≡ q
same-page pages p q lt e =
    let at_p = passes_at_first (λ k. eqb p k) pages 0 lt in
    let at_q = passes_at_first (λ k. eqb q k) pages 0 (omega arith) in
    eqb-true p _ at_p ∙ ap (λ (i : ℕ). get_or pages i 0) e ∙ sym (eqb-true q _ at_q)

-- IDs that stand at one place of the rows are one
pub same-slot : (pages : List ℕ) (a b : ℕ) → row_of pages (page_of a) < length pages → slot_of pages a ≡ slot_of pages b → a ≡ b
same-slot pages a b lt e =
    let rows : row_of pages (page_of a) ≡ row_of pages (page_of b) = omega arith in
    let page : page_of a ≡ page_of b = same-page pages (page_of a) (page_of b) lt rows in
    omega (arith, page, rows)

-- a new page has the next row
pub row-here : (pages : List ℕ) (page : ℕ) → row_of pages page ≡ length pages → row_of (pages ++ page ∷ []) page ≡ length pages
row-here pages page new = position_or_len_push (λ k. eqb page k) pages page ∙ rw (eq-eqb (row_of pages page) (length pages) new, eq-eqb page page refl)
    (omega arith)

-- the others keep theirs, or have none
pub row-others : (pages : List ℕ) (page q : ℕ) → row_of pages q < length pages → row_of (pages ++ page ∷ []) q ≡ row_of pages q
row-others pages page q lt = position_or_len_push (λ k. eqb q k) pages page ∙ rw (ne_eqb (row_of pages q) (length pages) (λ e. omega (arith, e, lt))) refl

row-past : (pages : List ℕ) (page q : ℕ) → row_of pages q ≡ length pages → length pages ≤ row_of (pages ++ page ∷ []) q
row-past pages page q e = rw (position_or_len_push (λ k. eqb q k) pages page, eq-eqb (row_of pages q) (length pages) e) (omega arith)

-- zeros read as zero at any place
pub zeros : (n i z : ℕ) → get_or (replicate n z) i z ≡ z
zeros n i z = elim (cases_lt i n) [ inl lt ↦ get_or-replicate n i z z lt | inr le ↦ get_or_past (replicate n z) i z (omega (arith, length-replicate n z)) ]

module _ (pages numbers ids : List ℕ) (h : AreNumbers pages numbers ids) where
  -- one more row of zeros
  pub row-added : (page n : ℕ) → n ≡ 512 → AreNumbers (pages ++ page ∷ []) (numbers ++ replicate n 0) ids
  row-added page n size = record {
    rows = omega (arith, h.rows, length-append pages (page ∷ []), length-append numbers (replicate n 0), length-replicate {A = ℕ} n 0);
    at = λ id. at_id id (cases_lt (row_of pages (page_of id)) (length pages)) ∙ h.at id;
    distinct = h.distinct;
  }
    where
      at_id : (id : ℕ) → (row_of pages (page_of id) < length pages) ⊎ (length pages ≤ row_of pages (page_of id))
          → get_or (numbers ++ replicate n 0) (slot_of (pages ++ page ∷ []) id) 0 ≡ get_or numbers (slot_of pages id) 0
      at_id id (inl lt) =
          ap (λ (r : ℕ). get_or (numbers ++ replicate n 0) (r * 512 + place_of id) 0) (row-others pages page (page_of id) lt)
          ∙ get_or_append_left numbers (replicate n 0) 0 (slot_of pages id) (omega (arith, h.rows, lt))
      at_id id (inr le) =
          let none : row_of pages (page_of id) ≡ length pages = omega (arith, le, row-le pages (page_of id)) in
          let past : length pages ≤ row_of (pages ++ page ∷ []) (page_of id) = row-past pages page (page_of id) none in
          get_or-append_right numbers (replicate n 0) (length numbers) (slot_of (pages ++ page ∷ []) id) 0 refl (omega (arith, h.rows, past))
          ∙ zeros n (slot_of (pages ++ page ∷ []) id - length numbers) 0
          ∙ sym (get_or_past numbers (slot_of pages id) 0 (omega (arith, h.rows, le)))

  module _ (id : ℕ) (within : row_of pages (page_of id) < length pages) (absent : is_noted ids id ≡ false) where
    number-here : number_of (ids ++ id ∷ []) id ≡ length ids + 1
    number-here =
        let some : is_noted (ids ++ id ∷ []) id ≡ true = list_any-append (λ k. eqb id k) ids (id ∷ []) ∙ rw (absent, eq-eqb id id refl) refl in
        let place : position_or_len (λ k. eqb id k) (ids ++ id ∷ []) ≡ length ids =
        position_or_len_push (λ k. eqb id k) ids id ∙ rw (eq-eqb _ (length ids) (past-none (λ k. eqb id k) ids absent), eq-eqb id id refl) (omega arith) in
        rw (some, place) refl

    number-others : (q : ℕ) → q ≢ id → number_of (ids ++ id ∷ []) q ≡ number_of ids q
    number-others q ne = by (is_noted ids q) refl
      where
        same : is_noted (ids ++ id ∷ []) q ≡ is_noted ids q
        same = list_any-append (λ k. eqb q k) ids (id ∷ []) ∙ rw (ne_eqb q id ne) (or-false (is_noted ids q))

        by : (b : Bool) → is_noted ids q ≡ b → number_of (ids ++ id ∷ []) q ≡ number_of ids q
        by true e =
            let lt = ltb-true (position_or_len (λ k. eqb q k) ids) (length ids) (sym (any-within (λ k. eqb q k) ids) ∙ e) in
            let place : position_or_len (λ k. eqb q k) (ids ++ id ∷ []) ≡ position_or_len (λ k. eqb q k) ids =
            position_or_len_push (λ k. eqb q k) ids id ∙ rw (ne_eqb (position_or_len (λ k. eqb q k) ids) (length ids) (λ s. omega (arith, s, lt))) refl in
            rw (same, e, place) refl
        by false e = rw (same, e) refl

    -- one more ID
    pub id-added : (slot : ℕ) → slot ≡ slot_of pages id → AreNumbers pages (slice_set numbers slot (length ids + 1)) (ids ++ id ∷ [])
    id-added slot is = record {
      rows = length-set numbers slot (length ids + 1) ∙ h.rows;
      at = λ q. at_id q (eqb_tells q id);
      distinct = IsDistinct-push nat_eq_equiv ids id h.distinct absent;
    }
      where
        at_id : (q : ℕ) → ((eqb q id ≡ true) × (q ≡ id)) ⊎ ((eqb q id ≡ false) × (q ≢ id)) → get_or (slice_set numbers slot (length ids + 1))
            (slot_of pages q) 0 ≡ number_of (ids ++ id ∷ []) q
        at_id q (inl (_, e)) = rw e (rw is (get_or-set_same numbers (slot_of pages id) (length ids + 1) 0 (omega (arith, h.rows, within)) ∙ sym number-here))
        at_id q (inr (_, ne)) = get_or-set_other numbers slot (slot_of pages q) (length ids + 1) 0 (λ e. ne (sym (same-slot pages id q within (sym (e ∙ is)))))
            ∙ h.at q ∙ sym (number-others q ne)

-- an ID whose number is 0 isn't there
pub absent-by-number : (ids : List ℕ) (id : ℕ) → number_of ids id ≡ 0 → is_noted ids id ≡ false
absent-by-number ids id zero = by (is_noted ids id) refl
  where
    by : (b : Bool) → is_noted ids id ≡ b → is_noted ids id ≡ false
    by true e =
        let some : number_of ids id ≡ position_or_len (λ k. eqb id k) ids + 1 = rw e refl in
        absurd (omega (arith, zero, some))
    by false e = e

-- a number that isn't 0 is that of an ID that is there
pub there-by-number : (ids : List ℕ) (id n : ℕ) → n ≡ number_of ids id → n ≢ 0 → is_noted ids id ≡ true
there-by-number ids id n e some = by (is_noted ids id) refl
  where
    by : (b : Bool) → is_noted ids id ≡ b → is_noted ids id ≡ true
    by true is = is
    by false is = absurd (some (e ∙ rw is refl))

module _ (pages numbers ids : List ℕ) (last_page last_row : ℕ) (h : AreRows pages numbers ids last_page last_row) (few : length ids < 2 ^ 31)
    (id slot row : ℕ) (row_is : row ≡ row_of pages (page_of id)) (slot_is : slot ≡ row * 512 + place_of id) where
  slot-is : slot ≡ slot_of pages id
  slot-is = slot_is ∙ ap (λ (r : ℕ). r * 512 + place_of id) row_is

  -- a new ID of a page that has a row
  pub id-noted : slot < length numbers → slice_index numbers slot ≡ 0 → AreRows pages (slice_set numbers slot (length ids + 1)) (ids ++ id ∷ [])
      (page_of id) row
  id-noted lt zero =
      let within : row_of pages (page_of id) < length pages = omega (arith, lt, slot_is, row_is, h.numbers_are.rows) in
      let absent = absent-by-number ids id (sym (h.numbers_are.at id) ∙ ap (λ (i : ℕ). get_or numbers i 0) (sym slot-is) ∙ zero) in
      record {
        numbers_are = id-added pages numbers ids h.numbers_are id within absent slot slot-is;
        last = sym row_is;
        within = omega (arith, within, row_is);
        small = omega (arith, h.small, length-set numbers slot (length ids + 1), length-append ids (id ∷ []));
        few_ids = omega (arith, few, length-append ids (id ∷ []));
      }

  -- an ID of a page that has none
  pub new-page : length numbers ≤ slot → row ≡ length pages
  new-page le = omega (arith, le, slot_is, row_is, h.numbers_are.rows, row-le pages (page_of id))

  pub page-noted : length numbers ≤ slot → (n : ℕ) → n ≡ 512 → length numbers + n ≤ length ids * 64 + 2 ^ 16
      → AreRows (pages ++ page_of id ∷ []) (slice_set (numbers ++ replicate n 0) slot (length ids + 1)) (ids ++ id ∷ []) (page_of id) row
  page-noted le n size small =
      let new : row_of pages (page_of id) ≡ length pages = sym row_is ∙ new-page le in
      let here : row_of (pages ++ page_of id ∷ []) (page_of id) ≡ length pages = row-here pages (page_of id) new in
      let one_more = length-append pages (page_of id ∷ []) in
      let absent = absent-by-number ids id (sym (h.numbers_are.at id) ∙ get_or_past numbers (slot_of pages id) 0 (omega (arith, le, slot-is))) in
      let same : slot ≡ slot_of (pages ++ page_of id ∷ []) id = omega (arith, slot_is, row_is, here, new) in
      record {
        numbers_are = id-added (pages ++ page_of id ∷ []) (numbers ++ replicate n 0) ids (row-added pages numbers ids h.numbers_are (page_of id) n size) id
            (omega (arith, here, one_more)) absent slot same;
        last = here ∙ sym new ∙ sym row_is;
        within = omega (arith, one_more, row_is, new);
        small = omega (
          arith,
          small,
          length-set (numbers ++ replicate n 0) slot (length ids + 1),
          length-append numbers
              (replicate n 0),
          length-replicate {A = ℕ} n 0,
          length-append ids (id ∷ []),
        );
        few_ids = omega (arith, few, length-append ids (id ∷ []));
      }

  -- the row alone, where its first ID isn't added
  pub row-noted : length numbers ≤ slot → (n : ℕ) → n ≡ 512 → length numbers + n ≤ length ids * 64 + 2 ^ 16
      → AreRows (pages ++ page_of id ∷ []) (numbers ++ replicate n 0) ids (page_of id) row
  row-noted le n size small =
      let new : row_of pages (page_of id) ≡ length pages = sym row_is ∙ new-page le in
      let here : row_of (pages ++ page_of id ∷ []) (page_of id) ≡ length pages = row-here pages (page_of id) new in
      record {
        numbers_are = row-added pages numbers ids h.numbers_are (page_of id) n size;
        last = here ∙ sym new ∙ sym row_is;
        within = omega (arith, length-append pages (page_of id ∷ []), row_is, new);
        small = omega (arith, small, length-append numbers (replicate n 0), length-replicate {A = ℕ} n 0);
        few_ids = h.few_ids;
      }

-- a page at a place of distinct ones has that row
pub row-of-place : (pages : List ℕ) (page row : ℕ) → IsDistinct nat_eq pages → row < length pages → slice_index pages row ≡ page → row_of pages page ≡ row
row-of-place pages page row distinct lt is =
    position_or_len_is (λ k. eqb page k) pages row 0 (omega arith)
    (λ k below. ne_eqb page (get_or pages k 0)
    (λ e. eqb-false (get_or pages k 0) (get_or pages row 0) (apart_from_distinct nat_eq pages k row 0 distinct below lt) (sym e ∙ sym is)))
    (λ _. eq-eqb page (get_or pages row 0) (sym is))

-- an ID at a place of distinct ones has that position
pub position-of-place : (ids : List ℕ) (id o : ℕ) → IsDistinct nat_eq ids → o < length ids → slice_index ids o ≡ id → position (λ k. eqb id k) ids ≡ Some o
position-of-place ids id o distinct lt is =
    rw (row-of-place ids id o distinct lt is, lt-ltb o (length ids) lt) refl
