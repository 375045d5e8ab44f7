-- IDs by the slots of their numbers, as rows and IDs are added.
use Rattle.std.proofs.Common.{◌≡◌, false, ◌∙◌, ℕ, ◌+◌, ◌*◌, ◌/◌, ◌%◌, ◌<◌, ◌≤◌, ◌^◌, eqb, List, [], ◌∷◌, ◌++◌, length, Result, Ok, Err, replicate, get_or}
use Rattle.std.proofs.Common.{slice_set, slice_index, refl, sym, ap, subst, arith, All, length-append, length-set}
use Rattle.std.specs.Result.{OnErr}
use Rattle.std.proofs.lemmas.Bool.{eqb-true}
use Rattle.std.proofs.lemmas.List.{map-append, length-map, get_or_append_left, get_or_past, length-replicate}
use Rattle.std.proofs.lemmas.List.Elements.{All-head, All-tail, All-push, All-weaker}
use Rattle.std.proofs.lemmas.List.Sums.{passes_at_first}
use Rattle.hd_ids.specs.Rows.{page_of, place_of, row_of, slot_of, id_at, id_of_slot, ids_in, AreRows, AreSlots}
use Rattle.hd_ids.specs.Noted.{is_noted, noted}
use Rattle.hd_ids.proofs.RowLemmas.{absent-by-number, id-noted, page-noted, row-noted, row-here, new-page}

-- what holds anyway holds if there is an error
pub on-err : {T E P : Type 0} (r : Result T E) → P → OnErr r P
on-err (Ok x) p = tt
on-err (Err e) p = p

-- the slot of an ID tells the ID
pub id-of-slot : (pages : List ℕ) (id slot : ℕ) → row_of pages (page_of id) < length pages → slot ≡ slot_of pages id → id_of_slot pages slot ≡ id
id-of-slot pages id slot lt is =
    let page : page_of id ≡ get_or pages (row_of pages (page_of id)) 0 = eqb-true (page_of id) (get_or pages (row_of pages (page_of id)) 0)
    (passes_at_first (λ k. eqb (page_of id) k) pages 0 lt) in
    let row : slot / 512 ≡ row_of pages (page_of id) = omega (arith, is) in
    let place : slot % 512 ≡ place_of id = omega (arith, is) in
    let whole : id_at (page_of id) (place_of id) ≡ id = omega arith in
    ap (λ (r : ℕ). id_at (get_or pages r 0) (slot % 512)) row
    ∙ ap (λ (p : ℕ). id_at p (slot % 512)) (sym page)
    ∙ ap (id_at (page_of id)) place
    ∙ whole

-- one more slot is one more ID
pub ids-more : (pages slots : List ℕ) (id slot : ℕ) → row_of pages (page_of id) < length pages → slot ≡ slot_of pages id
    → ids_in pages (slots ++ slot ∷ []) ≡ ids_in pages slots ++ id ∷ []
ids-more pages slots id slot lt is =
    map-append (id_of_slot pages) slots (slot ∷ []) ∙ ap (λ (i : ℕ). ids_in pages slots ++ i ∷ []) (id-of-slot pages id slot lt is)

-- one more row changes no ID
pub ids-kept : (pages slots : List ℕ) (page : ℕ) → All (λ (s : ℕ). s < length pages * 512) slots → ids_in (pages ++ page ∷ []) slots ≡ ids_in pages slots
ids-kept pages [] page all = refl
ids-kept pages (s ∷ slots) page all =
    let lt : s < length pages * 512 = All-head (λ (s : ℕ). s < length pages * 512) s slots all in
    let same : id_of_slot (pages ++ page ∷ []) s ≡ id_of_slot pages s =
    ap (λ (p : ℕ). id_at p (s % 512)) (get_or_append_left pages (page ∷ []) 0 (s / 512) (omega (arith, lt))) in
    ap (λ (i : ℕ). i ∷ ids_in (pages ++ page ∷ []) slots) same
    ∙ ap (λ (ids : List ℕ). id_of_slot pages s ∷ ids) (ids-kept pages slots page (All-tail (λ (s : ℕ). s < length pages * 512) s slots all))

-- an ID that isn't there comes last
noted-new : (ids : List ℕ) (id : ℕ) → is_noted ids id ≡ false → noted ids id ≡ ids ++ id ∷ []
noted-new ids id e = rw e refl

module _ (pages numbers slots : List ℕ) (last_page last_row : ℕ) (h : AreSlots pages numbers slots last_page last_row) (few : length slots < 2 ^ 31)
    (id slot row : ℕ) (row_is : row ≡ row_of pages (page_of id)) (slot_is : slot ≡ row * 512 + place_of id) where
  abbrev ids : List ℕ
  ids = ids_in pages slots

  len : length ids ≡ length slots
  len = length-map slots (id_of_slot pages)

  few-ids : length ids < 2 ^ 31
  few-ids = omega (arith, len, few)

  slot-is : slot ≡ slot_of pages id
  slot-is = slot_is ∙ ap (λ (r : ℕ). r * 512 + place_of id) row_is

  -- that ID isn't there yet
  new-here : slice_index numbers slot ≡ 0 → is_noted ids id ≡ false
  new-here zero = absent-by-number ids id (sym (h.rows.numbers_are.at id) ∙ ap (λ (i : ℕ). get_or numbers i 0) (sym slot-is) ∙ zero)

  new-past : length numbers ≤ slot → is_noted ids id ≡ false
  new-past le = absent-by-number ids id (sym (h.rows.numbers_are.at id) ∙ get_or_past numbers (slot_of pages id) 0 (omega (arith, le, slot-is)))

  -- a new ID of a page that has a row
  pub id-is-noted : slot < length numbers → slice_index numbers slot ≡ 0 → ids_in pages (slots ++ slot ∷ []) ≡ noted ids id
  id-is-noted lt zero =
      let there : row_of pages (page_of id) < length pages = omega (arith, lt, h.rows.numbers_are.rows, slot-is) in
      ids-more pages slots id slot there slot-is ∙ sym (noted-new ids id (new-here zero))

  pub slot-noted : slot < length numbers → slice_index numbers slot ≡ 0 → AreSlots pages (slice_set numbers slot (length slots + 1)) (slots ++ slot ∷ [])
      (page_of id) row
  slot-noted lt zero =
      let within : slot < length pages * 512 = omega (arith, lt, h.rows.numbers_are.rows) in
      let there : row_of pages (page_of id) < length pages = omega (arith, within, slot-is) in
      record {
        rows = subst (λ (is : List ℕ). AreRows pages (slice_set numbers slot (length slots + 1)) is (page_of id) row)
            (sym (ids-more pages slots id slot there slot-is))
            (subst (λ (n : ℕ). AreRows pages (slice_set numbers slot (n + 1)) (ids ++ id ∷ []) (page_of id) row) len
            (id-noted pages numbers ids last_page last_row h.rows few-ids id slot row row_is slot_is lt zero));
        low = h.low;
        within = All-push (λ (s : ℕ). s < length pages * 512) slots slot h.within within;
        few = omega (arith, h.few, length-set numbers slot (length slots + 1));
      }

  module _ (past : length numbers ≤ slot) (n : ℕ) (size : n ≡ 512) (small : length numbers + n ≤ length slots * 64 + 2 ^ 16)
      (most : length numbers + n ≤ 2 ^ 32) (low : id < 2 ^ 64) where
    one-more : length (pages ++ page_of id ∷ []) ≡ length pages + 1
    one-more = length-append pages (page_of id ∷ [])

    new : row_of pages (page_of id) ≡ length pages
    new = sym row_is ∙ new-page pages numbers ids last_page last_row h.rows few-ids id slot row row_is slot_is past

    here : row_of (pages ++ page_of id ∷ []) (page_of id) ≡ length pages
    here = row-here pages (page_of id) new

    small-ids : length numbers + n ≤ length ids * 64 + 2 ^ 16
    small-ids = omega (arith, small, len)

    pub kept : ids_in (pages ++ page_of id ∷ []) slots ≡ ids
    kept = ids-kept pages slots (page_of id) h.within

    low-page : All (λ (p : ℕ). p < 2 ^ 55) (pages ++ page_of id ∷ [])
    low-page = All-push (λ (p : ℕ). p < 2 ^ 55) pages (page_of id) h.low (omega (arith, low))

    wider : All (λ (s : ℕ). s < length (pages ++ page_of id ∷ []) * 512) slots
    wider = All-weaker (λ (s : ℕ). s < length pages * 512) (λ (s : ℕ). s < length (pages ++ page_of id ∷ []) * 512)
        (λ s lt. omega (arith, lt, one-more)) slots h.within

    -- a new ID of a page that has none
    pub id-is-noted-too : ids_in (pages ++ page_of id ∷ []) (slots ++ slot ∷ []) ≡ noted ids id
    id-is-noted-too =
        let same : slot ≡ slot_of (pages ++ page_of id ∷ []) id = omega (arith, slot_is, row_is, here, new) in
        let there : row_of (pages ++ page_of id ∷ []) (page_of id) < length (pages ++ page_of id ∷ []) = omega (arith, here, one-more) in
        ids-more (pages ++ page_of id ∷ []) slots id slot there same ∙ ap (λ (is : List ℕ). is ++ id ∷ []) kept ∙ sym (noted-new ids id (new-past past))

    pub page-slot-noted : AreSlots (pages ++ page_of id ∷ []) (slice_set (numbers ++ replicate n 0) slot (length slots + 1)) (slots ++ slot ∷ [])
        (page_of id) row
    page-slot-noted =
        let same : slot ≡ slot_of (pages ++ page_of id ∷ []) id = omega (arith, slot_is, row_is, here, new) in
        let there : row_of (pages ++ page_of id ∷ []) (page_of id) < length (pages ++ page_of id ∷ []) = omega (arith, here, one-more) in
        record {
          rows = subst (λ (is : List ℕ). AreRows (pages ++ page_of id ∷ []) (slice_set (numbers ++ replicate n 0) slot (length slots + 1)) is (page_of id) row)
              (sym (ids-more (pages ++ page_of id ∷ []) slots id slot there same ∙ ap (λ (is : List ℕ). is ++ id ∷ []) kept))
              (subst (λ (m : ℕ). AreRows (pages ++ page_of id ∷ []) (slice_set (numbers ++ replicate n 0) slot (m + 1)) (ids ++ id ∷ []) (page_of id) row) len
              (page-noted pages numbers ids last_page last_row h.rows few-ids id slot row row_is slot_is past n size small-ids));
          low = low-page;
          within = All-push (λ (s : ℕ). s < length (pages ++ page_of id ∷ []) * 512) slots slot wider (omega (arith, same, there));
          few = omega (
            arith,
            most,
            length-set (numbers ++ replicate n 0) slot (length slots + 1),
            length-append numbers
                (replicate n 0),
            length-replicate {A = ℕ} n 0,
          );
        }

    -- the row alone, where its first ID isn't added
    pub row-slot-noted : AreSlots (pages ++ page_of id ∷ []) (numbers ++ replicate n 0) slots (page_of id) row
    row-slot-noted = record {
      rows = subst (λ (is : List ℕ). AreRows (pages ++ page_of id ∷ []) (numbers ++ replicate n 0) is (page_of id) row) (sym kept)
          (row-noted pages numbers ids last_page last_row h.rows few-ids id slot row row_is slot_is past n size small-ids);
      low = low-page;
      within = wider;
      few = omega (arith, most, length-append numbers (replicate n 0), length-replicate {A = ℕ} n 0);
    }
