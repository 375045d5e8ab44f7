-- Lemmas on rows of IDs: one more ID, one more row, what a row holds.
use Rattle.std.proofs.Common.{◌≡◌, ◌∙◌, ℕ, suc, ◌+◌, ◌-◌, ◌<◌, ◌≤◌, ◌^◌, Bool, List, [], ◌∷◌, ◌++◌, length, map, take, drop, get_or, None, sym, ap, subst}
use Rattle.std.proofs.Common.{arith, All, eqb, length-append}
use Rattle.std.specs.List.{position}
use Rattle.std.specs.Prelude.{count_by, sum_by}
use Rattle.std.proofs.lemmas.List.{ext_get_or, map-append, length-map, drop-append-le, take_all, length-take, length-drop, get_or-take, get_or-drop, get_or-map}
use Rattle.std.proofs.lemmas.List.{drop_all, get_or_append_left}
use Rattle.std.proofs.lemmas.List.Elements.{All-push, All-weaker}
use Rattle.hd_terms.specs.declared.IdSize.{IdSize}
use Rattle.hd_slots.specs.Table.{Rows, Table, row_at, id_at, IsIdWithin}
use Rattle.hd_slots.specs.Resolving.{AreCodesOf}
use Rattle.hd_slots.specs.Codes.{id_of_code, object_of_code, IsCode}
use Rattle.hd_slots.specs.Cuts.{rows_from, last_from, AreRising}
use Rattle.hd_slots.specs.Parts.{rows_of, AreParts, table_from, AreOffsets}
use Rattle.hd_slots.proofs.CutLemmas.{rows_from-append, rows_from-push, last_from-push, last_from-within, length-rows_from, row-at, rising-further, rising-push}
use Rattle.hd_slots.proofs.CutLemmas.{rows-counted}

-- rows by offsets of IDs in a file
module _ (bytes : List ℕ) (size : IdSize) (ids starts offsets : List ℕ) (h : AreOffsets bytes size ids starts offsets) where
  abbrev values : List ℕ
  values = map (id_at bytes size) offsets

  -- one more ID
  module _ (offset : ℕ) where
    more : map (id_at bytes size) (offsets ++ offset ∷ []) ≡ values ++ id_at bytes size offset ∷ []
    more = map-append (id_at bytes size) offsets (offset ∷ [])

    many : length (offsets ++ offset ∷ []) ≡ length offsets + 1
    many = length-append offsets (offset ∷ [])

    pub table-push : table_from bytes size ids starts (offsets ++ offset ∷ [])
        ≡ record (table_from bytes size ids starts offsets) {
          filling = (table_from bytes size ids starts offsets).filling ++ id_at bytes size offset ∷ [];
          count = length offsets + 1;
        }
    table-push =
        let long : length values ≡ length offsets = length-map offsets (id_at bytes size) in
        let within : All (λ s. s ≤ length values) starts = subst (λ (n : ℕ). All (λ s. s ≤ n) starts) (sym long) h.within in
        let rows : rows_from starts (map (id_at bytes size) (offsets ++ offset ∷ [])) ≡ rows_from starts values = ap (rows_from starts) more
        ∙ rows_from-append starts values (id_at bytes size offset ∷ []) within in
        let rest : drop (last_from 0 starts) (map (id_at bytes size) (offsets ++ offset ∷ [])) ≡ drop (last_from 0 starts) values
        ++ id_at bytes size offset ∷ [] =
        ap (drop (last_from 0 starts)) more ∙ drop-append-le (last_from 0 starts) values (id_at bytes size offset ∷ [])
        (last_from-within (length values) 0 starts (omega arith) within) in
        let t : List (List ℕ) → List ℕ → ℕ → Table = λ rs fs n. record { bytes = bytes; size = size; ids = ids; rows = rs; filling = fs; count = n } in
        ap (λ rs. t rs (drop (last_from 0 starts) (map (id_at bytes size) (offsets ++ offset ∷ []))) (length (offsets ++ offset ∷ []))) rows
        ∙ ap (λ fs. t (rows_from starts values) fs (length (offsets ++ offset ∷ []))) rest
        ∙ ap (λ n. t (rows_from starts values) (drop (last_from 0 starts) values ++ id_at bytes size offset ∷ []) n) many

    pub offsets-push : IsIdWithin size (length bytes) offset → length ids + length offsets < 2 ^ 32 - 1
        → AreOffsets bytes size ids starts (offsets ++ offset ∷ [])
    offsets-push in_file room = record {
      small = h.small;
      few = h.few;
      no_null = h.no_null;
      in_file = All-push (IsIdWithin size (length bytes)) offsets offset h.in_file in_file;
      within = All-weaker (λ s. s ≤ length offsets) (λ s. s ≤ length (offsets ++ offset ∷ [])) (λ s le. omega (arith, many)) starts h.within;
      rising = rising-further 0 starts (length offsets) (length (offsets ++ offset ∷ [])) (omega (arith, many)) h.rising;
      begins = h.begins;
      from_zero = h.from_zero;
      room = omega (arith, many);
    }

  -- one more row
  pub table-end : table_from bytes size ids (starts ++ length offsets ∷ []) offsets
      ≡ record (table_from bytes size ids starts offsets) {
        rows = (table_from bytes size ids starts offsets).rows
            ++ (table_from bytes size ids starts offsets).filling ∷ [];
        filling = [];
      }
  table-end =
      let s = last_from 0 starts in
      let long : length values ≡ length offsets = length-map offsets (id_at bytes size) in
      let part : take (length offsets - s) (drop s values) ≡ drop s values =
      take_all (length offsets - s) (drop s values) (omega (arith, length-drop s values)) in
      let rows : rows_from (starts ++ length offsets ∷ []) values ≡ rows_from starts values ++ drop s values ∷ [] =
      rows_from-push starts (length offsets) values h.begins ∙ ap (λ (p : List ℕ). rows_from starts values ++ p ∷ []) part in
      let rest : drop (last_from 0 (starts ++ length offsets ∷ [])) values ≡ [] = ap (λ (n : ℕ). drop n values) (last_from-push 0 starts (length offsets))
      ∙ drop_all (length offsets) values (omega arith) in
      let t : List (List ℕ) → List ℕ → Table = λ rs fs. record { bytes = bytes; size = size; ids = ids; rows = rs; filling = fs; count = length offsets } in
      ap (λ rs. t rs (drop (last_from 0 (starts ++ length offsets ∷ [])) values)) rows ∙ ap (λ fs. t (rows_from starts values ++ drop s values ∷ []) fs) rest

  pub offsets-end : AreOffsets bytes size ids (starts ++ length offsets ∷ []) offsets
  offsets-end = record {
    small = h.small;
    few = h.few;
    no_null = h.no_null;
    in_file = h.in_file;
    within = All-push (λ s. s ≤ length offsets) starts (length offsets) h.within (omega arith);
    rising = rising-push 0 starts (length offsets) h.rising;
    begins = omega (arith, length-append starts (length offsets ∷ []));
    from_zero = get_or_append_left starts (length offsets ∷ []) 0 0 h.begins ∙ h.from_zero;
    room = h.room;
  }

  -- no row is being filled: the last one ends where the list does
  pub ends-whole : drop (last_from 0 starts) values ≡ [] → last_from 0 starts ≡ length offsets
  ends-whole none =
      let most = last_from-within (length offsets) 0 starts (omega arith) h.within in
      omega (arith, most, ap (λ (xs : List ℕ). length xs) none, length-drop (last_from 0 starts) values, length-map offsets (id_at bytes size))

  -- numbers that stand for the IDs have the same rows
  module _ (codes absent : List ℕ) (is : AreCodesOf ids values codes absent) (as_many : length codes ≡ length offsets) where
    pub parts-resolved : drop (last_from 0 starts) values ≡ [] → AreParts ids starts codes absent
    parts-resolved filled = record {
      few = h.few;
      no_null = h.no_null;
      codes = is.codes_are;
      within = subst (λ (n : ℕ). All (λ s. s ≤ n) starts) (sym as_many) h.within;
      rising = subst (AreRising 0 starts) (sym as_many) h.rising;
      begins = h.begins;
      from_zero = h.from_zero;
      whole = ends-whole filled ∙ sym as_many;
      room = omega (arith, as_many, h.room);
    }

    pub rows-resolved : rows_of ids starts codes absent ≡ record { ids = ids; rows = rows_from starts values }
    rows-resolved = ap (λ (xs : List ℕ). let t : Rows = record { ids = ids; rows = rows_from starts xs } in t) is.ids_are

module _ (ids starts items absent : List ℕ) (h : AreParts ids starts items absent) where
  -- what is counted of the IDs of all rows
  pub ids-counted : (p : ℕ → Bool) → sum_by (count_by p) (rows_of ids starts items absent).rows ≡ count_by p (map (id_of_code ids absent) items)
  ids-counted p =
      let long : length (map (id_of_code ids absent) items) ≡ length items = length-map items (id_of_code ids absent) in
      rows-counted p (map (id_of_code ids absent) items) starts h.begins h.from_zero (subst (AreRising 0 starts) (sym long) h.rising) (h.whole ∙ sym long)

  -- the row of an object
  module _ (o : ℕ) (lt : o < length (rows_from starts (map (id_of_code ids absent) items))) where
    pub starts-before : suc o < length starts
    starts-before = omega (arith, length-rows_from starts (map (id_of_code ids absent) items))

    abbrev pub start : ℕ
    start = get_or starts o 0

    abbrev pub end : ℕ
    end = get_or starts (suc o) 0

    pub start-within : start ≤ length items
    start-within = h.within o 0 (omega (arith, starts-before))

    pub end-within : end ≤ length items
    end-within = h.within (suc o) 0 starts-before

    row_is : row_at (rows_of ids starts items absent) o ≡ take (end - start) (drop start (map (id_of_code ids absent) items))
    row_is = row-at starts (map (id_of_code ids absent) items) o lt

    pub length-row : length (row_at (rows_of ids starts items absent) o) ≡ end - start
    length-row = ap length row_is
        ∙ omega (
          arith,
          length-take (end - start) (drop start (map (id_of_code ids absent) items)),
          length-drop start
              (map (id_of_code ids absent) items),
          length-map items (id_of_code ids absent),
          end-within,
        )

    -- the same of rows that are these
    pub length-row_of : (t : Rows) → rows_of ids starts items absent ≡ t → length (row_at t o) ≡ end - start
    length-row_of t is = ap (λ (u : Rows). length (row_at u o)) (sym is) ∙ length-row

    -- the numbers of the row
    abbrev pub codes : List ℕ
    codes = take (end - start) (drop start items)

    length-codes : length codes ≡ end - start
    length-codes = omega (arith, length-take (end - start) (drop start items), length-drop start items, end-within)

    -- an index of the row
    module _ (i : ℕ) (offset : i < length (row_at (rows_of ids starts items absent) o)) where
      pub item-within : start + i < length items
      item-within = omega (arith, length-row, end-within)

      pub get_or-row : get_or (row_at (rows_of ids starts items absent) o) i 0 ≡ id_of_code ids absent (get_or items (start + i) 0)
      get_or-row =
          let ds = map (id_of_code ids absent) items in
          ap (λ (xs : List ℕ). get_or xs i 0) row_is ∙ get_or-take (end - start) (drop start ds) i 0 (omega (arith, length-row)) ∙ get_or-drop start ds i 0
          ∙ get_or-map (id_of_code ids absent) items (start + i) 0 0 item-within

      pub item-code : IsCode ids absent (get_or items (start + i) 0)
      item-code = h.codes (start + i) 0 item-within

      code-at : get_or codes i 0 ≡ get_or items (start + i) 0
      code-at = get_or-take (end - start) (drop start items) i 0 (omega (arith, length-row)) ∙ get_or-drop start items i 0

      target-at : get_or (map (object_of_code (length ids)) codes) i None ≡ get_or
          (map (λ id. position (λ x. eqb id x) ids) (row_at (rows_of ids starts items absent) o)) i None
      target-at =
          let row = row_at (rows_of ids starts items absent) o in
          get_or-map (object_of_code (length ids)) codes i 0 None (omega (arith, length-codes, length-row))
          ∙ ap (object_of_code (length ids)) code-at
          ∙ sym item-code.target
          ∙ ap (λ (id : ℕ). position (λ x. eqb id x) ids) (sym get_or-row)
          ∙ sym (get_or-map (λ id. position (λ x. eqb id x) ids) row i 0 None offset)

    -- the objects that the row refers to
    pub targets-row : map (object_of_code (length ids)) codes ≡ map (λ id. position (λ x. eqb id x) ids) (row_at (rows_of ids starts items absent) o)
    targets-row =
        let row = row_at (rows_of ids starts items absent) o in
        let long : length (map (object_of_code (length ids)) codes) ≡ length (map (λ id. position (λ x. eqb id x) ids) row) =
        length-map codes (object_of_code (length ids)) ∙ length-codes ∙ sym length-row ∙ sym (length-map row (λ id. position (λ x. eqb id x) ids)) in
        ext_get_or None (map (object_of_code (length ids)) codes) (map (λ id. position (λ x. eqb id x) ids) row) long
        (λ i lt. target-at i (omega (arith, length-map codes (object_of_code (length ids)), length-codes, length-row)))
