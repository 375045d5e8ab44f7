-- Lemmas on resolving: offsets of IDs become numbers of objects.
use Rattle.std.proofs.Common.{◌≡◌, ◌≢◌, ◌∙◌, ℕ, zero, suc, ◌+◌, ◌-◌, ◌<◌, ◌≤◌, ◌^◌, inl, inr, List, [], ◌∷◌, ◌++◌, length, map, get_or, take, drop, set, Option}
use Rattle.std.proofs.Common.{Some, None, refl, sym, ap, subst, arith, All, eqb, eqb-true, ne_eqb, length-append, add-zero}
use Rattle.std.specs.List.{position}
use Rattle.std.specs.Option.{option_map_or}
use Rattle.std.proofs.lemmas.Bool.{cases_eq, lt-ltb, le-ltb}
use Rattle.std.proofs.lemmas.List.{take_more, take_more_set, map-append, drop-set-lt, get_or-drop, get_or-take, length-take, length-drop, length-set}
use Rattle.std.proofs.lemmas.List.{append-nil, set-get_or}
use Rattle.std.proofs.lemmas.List.Elements.{All-head, All-tail, All-push, All-nil, All-cons}
use Rattle.std.proofs.lemmas.List.Quantifiers.{position-Some}
use Rattle.std.proofs.lemmas.Grind.{drop_more_same}
use Rattle.hd_terms.specs.declared.IdSize.{IdSize}
use Rattle.hd_terms.specs.declared.IdSize.TheVariants as sizes
use Rattle.hd_slots.specs.Table.{null_code, id_at, IsIdWithin}
use Rattle.hd_slots.specs.Codes.{id_of_code, target_of_code, IsCode, IsLonger}
use Rattle.hd_slots.specs.Resolving.{mark, found_for, found_code, id_of_found, IsFound, IsUnmarked, AreKeptSoFar}
use Rattle.hd_slots.proofs.CodeLemmas.{null-nowhere, null-code, absent-code, id-object, codes-longer, ids-longer}

-- what stands at an index, where nothing from it on has changed
at-rest : (before items : List ℕ) (i : ℕ) → drop i items ≡ drop i before → get_or items i 0 ≡ get_or before i 0
at-rest before items i rest =
    ap (λ (n : ℕ). get_or items n 0) (sym (add-zero i)) ∙ sym (get_or-drop i items 0 0) ∙ ap (λ (xs : List ℕ). get_or xs 0 0) rest ∙ get_or-drop i before 0 0
    ∙ ap (λ (n : ℕ). get_or before n 0) (add-zero i)

-- what holds of all that stood from an earlier index on
pub still-holds : (P : ℕ → Type 0) (before items : List ℕ) (start i : ℕ) → drop i items ≡ drop i before → start ≤ i → i < length before
    → All P (drop start before) → P (get_or items i 0)
still-holds P before items start i rest le lt all =
    let k : ℕ = i - start in
    let there : k < length (drop start before) = omega (arith, le, lt, length-drop start before) in
    let index : start + k ≡ i = omega (arith, le) in
    subst P (get_or-drop start before k 0 ∙ ap (λ (j : ℕ). get_or before j 0) index ∙ sym (at-rest before items i rest)) (all k 0 there)

module _ (f : ℕ → ℕ) (before : List ℕ) where
  -- the numbers before an index are mapped, those from it on are as they were
  pub record AreMapped (items : List ℕ) (i : ℕ) : Type 0 where
    pub done : take i items ≡ map f (take i before)
    pub rest : drop i items ≡ drop i before
    pub len : length items ≡ length before

  -- the number at the index is as it was
  pub as-it-was : (items : List ℕ) (i : ℕ) → AreMapped items i → get_or items i 0 ≡ get_or before i 0
  as-it-was items i h = at-rest before items i h.rest

  -- it is mapped
  pub mapped-next : (items : List ℕ) (i : ℕ) → AreMapped items i → i < length items → (x : ℕ) → x ≡ f (get_or items i 0) → AreMapped (set items i x) (i + 1)
  mapped-next items i h lt x is = record {
    done =
        take_more_set items i x lt
        ∙ ap (λ (xs : List ℕ). xs ++ x ∷ []) h.done
        ∙ ap (λ (y : ℕ). map f (take i before) ++ y ∷ []) (is ∙ ap f (as-it-was items i h))
        ∙ sym (map-append f (take i before) (get_or before i 0 ∷ []))
        ∙ ap (map f) (sym (take_more before i 0 (omega (arith, lt, h.len))));
    rest = drop-set-lt (i + 1) items i x (omega arith) ∙ drop_more_same items before i h.rest;
    len = length-set items i x ∙ h.len;
  }

module _ (ids bytes : List ℕ) (size : IdSize) where
  -- the ID of a number that is an object's, and of a marked offset
  found-object : (item : ℕ) → length ids < 2 ^ 31 → item < length ids → id_of_found ids bytes size item ≡ get_or ids item 0
  found-object item few lt = rw (ne_eqb item null_code (omega arith), lt-ltb item (length ids) lt) refl

  found-marked : (item : ℕ) → item ≢ null_code → length ids ≤ item → id_of_found ids bytes size item ≡ id_at bytes size (item - mark)
  found-marked item other le = rw (ne_eqb item null_code other, le-ltb item (length ids) le) refl

  -- what is found for an ID stands for it
  module _ (few : length ids < 2 ^ 31) (small : length bytes < 2 ^ 31) (no_null : All (λ id. 0 < id) ids) (offset : ℕ)
      (within : IsIdWithin size (length bytes) offset) where
    abbrev id : ℕ
    id = id_at bytes size offset

    past : (item : ℕ) → length ids ≤ item → target_of_code ids item ≡ None
    past item le = rw (le-ltb item (length ids) le) refl

    low : offset < 2 ^ 31 - 1
    low = by_size size within
      where
        by_size : (s : IdSize) → IsIdWithin s (length bytes) offset → offset < 2 ^ 31 - 1
        by_size sizes.Four h = omega arith
        by_size sizes.Eight h = omega arith

    abbrev Found : ℕ → Type 0
    Found item = IsFound ids bytes size item × (id_of_found ids bytes size item ≡ id)

    null-found : id ≡ 0 → Found (found_code ids bytes size offset)
    null-found null =
        let code : found_for ids offset id ≡ null_code = ap (found_for ids offset) null in
        let is : IsFound ids bytes size null_code = record { target = null-nowhere ids no_null ∙ sym (past null_code (omega arith)); known = inl refl } in
        subst Found (sym code) (is, sym null)

    module _ (some : id ≢ 0) where
      of_position : (p : Option ℕ) → position (λ x. eqb id x) ids ≡ p → found_code ids bytes size offset ≡ option_map_or (λ (o : ℕ). o) p (mark + offset)
      of_position p is = rw (ne_eqb id 0 some, is) refl

      object-found : (o : ℕ) → position (λ x. eqb id x) ids ≡ Some o → Found (found_code ids bytes size offset)
      object-found o is =
          let at = position-Some (λ x. eqb id x) ids o 0 is in
          let stands : id_of_found ids bytes size o ≡ id = found-object o few at.0 ∙ sym (eqb-true id (get_or ids o 0) at.1) in
          let found : IsFound ids bytes size o = record {
            target = ap (λ (i : ℕ). position (λ x. eqb i x) ids) stands ∙ is ∙ rw (lt-ltb o (length ids) at.0) refl;
            known = inr (inl at.0);
          } in
          subst Found (sym (of_position (Some o) is)) (found, stands)

      marked-found : position (λ x. eqb id x) ids ≡ None → Found (found_code ids bytes size offset)
      marked-found is =
          let back : mark + offset - mark ≡ offset = omega arith in
          let stands : id_of_found ids bytes size (mark + offset) ≡ id = found-marked (mark + offset) (λ e. absurd (omega (arith, e, low))) (omega arith)
          ∙ ap (id_at bytes size) back in
          let found : IsFound ids bytes size (mark + offset) = record {
            target = ap (λ (i : ℕ). position (λ x. eqb i x) ids) stands ∙ is ∙ sym (past (mark + offset) (omega arith));
            known = inr (inr (omega arith, (λ e. absurd (omega (arith, e, low))), subst (IsIdWithin size (length bytes)) (sym back) within));
          } in
          subst Found (sym (of_position None is)) (found, stands)

      by_position : (p : Option ℕ) → position (λ x. eqb id x) ids ≡ p → Found (found_code ids bytes size offset)
      by_position (Some o) is = object-found o is
      by_position None is = marked-found is

    pub found-is : Found (found_code ids bytes size offset)
    found-is = elim (cases_eq id 0) [ inl null ↦ null-found null | inr some ↦ by_position some (position (λ x. eqb id x) ids) refl ]

  -- and so for all offsets
  pub all-found : length ids < 2 ^ 31 → length bytes < 2 ^ 31 → All (λ id. 0 < id) ids → (offsets : List ℕ) → All (IsIdWithin size (length bytes)) offsets
      → All (IsFound ids bytes size) (map (found_code ids bytes size) offsets)
      × (map (id_of_found ids bytes size) (map (found_code ids bytes size) offsets) ≡ map (id_at bytes size) offsets)
  all-found few small no_null [] h = (All-nil (IsFound ids bytes size), refl)
  all-found few small no_null (p ∷ offsets) h =
      let here = found-is few small no_null p (All-head (IsIdWithin size (length bytes)) p offsets h) in
      let more = all-found few small no_null offsets (All-tail (IsIdWithin size (length bytes)) p offsets h) in (
        All-cons (IsFound ids bytes size) (found_code ids bytes size p) (map (found_code ids bytes size) offsets) here.0 more.0,
        ap (λ (x : ℕ). x ∷ map (id_of_found ids bytes size) (map (found_code ids bytes size) offsets)) here.1
            ∙ ap (λ (xs : List ℕ). id_at bytes size p ∷ xs) more.1,
      )

  module _ (before items absent : List ℕ) (i : ℕ) (h : AreKeptSoFar ids bytes size before items absent i) (lt : i < length items)
      (lt' : i < length before) where
    -- the number at the index is as it was found
    pub as-found : get_or items i 0 ≡ get_or before i 0
    as-found = at-rest before items i h.rest

    abbrev item : ℕ
    item = get_or items i 0

    -- it becomes this number
    pub becomes : (longer : List ℕ) (code : ℕ) → IsLonger absent longer → IsCode ids longer code → id_of_code ids longer code ≡ id_of_found ids bytes size item
        → AreKeptSoFar ids bytes size before (set items i code) longer (i + 1)
    becomes longer code grown is stands = record {
      codes = rw (take_more_set items i code lt)
          (All-push (IsCode ids longer) (take i items) code
          (subst (λ (xs : List ℕ). All (IsCode ids xs) (take i items)) (sym grown.is) (codes-longer ids absent grown.more (take i items) h.codes)) is);
      ids_are =
          ap (map (id_of_code ids longer)) (take_more_set items i code lt) ∙ map-append (id_of_code ids longer) (take i items) (code ∷ [])
          ∙ ap (λ (xs : List ℕ). xs ++ id_of_code ids longer code ∷ []) (ap (λ (ys : List ℕ). map (id_of_code ids ys) (take i items)) grown.is
          ∙ ids-longer ids absent grown.more (take i items) h.codes ∙ h.ids_are)
          ∙ ap (λ (x : ℕ). map (id_of_found ids bytes size) (take i before) ++ x ∷ []) (stands ∙ ap (id_of_found ids bytes size) as-found)
          ∙ sym (map-append (id_of_found ids bytes size) (take i before) (get_or before i 0 ∷ []))
          ∙ ap (map (id_of_found ids bytes size)) (sym (take_more before i 0 lt'));
      rest = drop-set-lt (i + 1) items i code (omega arith) ∙ drop_more_same items before i h.rest;
      few = let long : length longer ≡ length absent + length grown.more = ap length grown.is ∙ length-append absent grown.more in
          omega (arith, h.few, grown.one, long);
    }

    -- it stays as it is
    pub stays : IsCode ids absent item → id_of_code ids absent item ≡ id_of_found ids bytes size item → AreKeptSoFar ids bytes size before items absent (i + 1)
    stays is stands =
        let same : IsLonger absent absent = record { more = []; is = sym (append-nil absent); one = omega arith } in
        subst (λ (xs : List ℕ). AreKeptSoFar ids bytes size before xs absent (i + 1)) (set-get_or items i 0) (becomes absent item same is stands)

  -- a number that isn't marked is a number as it is
  pub unmarked : (absent : List ℕ) (item : ℕ) → length ids < 2 ^ 31 → All (λ id. 0 < id) ids → IsFound ids bytes size item → IsUnmarked item
      → IsCode ids absent item × (id_of_code ids absent item ≡ id_of_found ids bytes size item)
  unmarked absent item few no_null found plain = elim found.known [
    | inl null ↦ rw null (null-code ids absent (omega arith) no_null, refl)
    | inr (inl lt) ↦
        let same : id_of_code ids absent item ≡ id_of_found ids bytes size item = id-object ids absent item (omega arith) lt ∙ sym (found-object item few lt) in
        (record { target = rw same found.target; known = inr (omega arith) }, same)
    | inr (inr m) ↦ absurd (m.1 (plain m.0))
  ]

  -- those of a block but the last, and the last
  first-of : (start n : ℕ) (items : List ℕ) → All IsUnmarked (take (suc n) (drop start items)) → All IsUnmarked (take n (drop start items))
  first-of start n items plain k d k-lt =
      let shorter : k < n = omega (arith, k-lt, length-take n (drop start items)) in
      let there : k < length (take (suc n) (drop start items)) =
      omega (arith, k-lt, length-take n (drop start items), length-take (suc n) (drop start items)) in
      subst IsUnmarked (get_or-take (suc n) (drop start items) k d (omega (arith, shorter)) ∙ sym (get_or-take n (drop start items) k d shorter))
      (plain k d there)

  last-of : (start n : ℕ) (items : List ℕ) → start + suc n ≤ length items → All IsUnmarked (take (suc n) (drop start items))
      → IsUnmarked (get_or items (start + n) 0)
  last-of start n items within plain =
      let there : n < length (take (suc n) (drop start items)) = omega (arith, within, length-take (suc n) (drop start items), length-drop start items) in
      subst IsUnmarked (get_or-take (suc n) (drop start items) n 0 (omega arith) ∙ get_or-drop start items n 0) (plain n 0 there)

  -- so are many, one after another
  pub all-unmarked : (before items absent : List ℕ) (start n : ℕ) → length ids < 2 ^ 31 → All (λ id. 0 < id) ids → All (IsFound ids bytes size) before
      → length items ≡ length before
      → start + n ≤ length items → All IsUnmarked (take n (drop start items)) → AreKeptSoFar ids bytes size before items absent start
      → AreKeptSoFar ids bytes size before items absent (start + n)
  all-unmarked before items absent start zero few no_null found len within plain h = subst (λ (i : ℕ). AreKeptSoFar ids bytes size before items absent i)
      (sym (add-zero start)) h
  all-unmarked before items absent start (suc n) few no_null found len within plain h =
      let i : ℕ = start + n in
      let lt : i < length items = omega arith in
      let lt' : i < length before = omega (arith, len) in
      let so_far = all-unmarked before items absent start n few no_null found len (omega arith) (λ k d k-lt. first-of start n items plain k d k-lt) h in
      let same : get_or items i 0 ≡ get_or before i 0 = as-found before items absent i so_far lt lt' in
      let item : IsFound ids bytes size (get_or items i 0) = subst (IsFound ids bytes size) (sym same) (found i 0 lt') in
      let code = unmarked absent (get_or items i 0) few no_null item (last-of start n items within plain) in
      let next : i + 1 ≡ start + suc n = omega arith in
      subst (λ (j : ℕ). AreKeptSoFar ids bytes size before items absent j) next (stays before items absent i so_far lt lt' code.0 code.1)

  -- a marked one gets the number of the next absent ID
  pub marked : (absent : List ℕ) (item : ℕ) → length ids < 2 ^ 31 → length ids + length absent < 2 ^ 32 - 1 → IsFound ids bytes size item → mark ≤ item
      → item ≢ null_code
      → IsCode ids (absent ++ id_at bytes size (item - mark) ∷ []) (length ids + length absent)
      × (id_of_code ids (absent ++ id_at bytes size (item - mark) ∷ []) (length ids + length absent) ≡ id_of_found ids bytes size item)
  marked absent item few room found high other =
      let stands : id_of_found ids bytes size item ≡ id_at bytes size (item - mark) = found-marked item other (omega arith) in
      let none : position (λ x. eqb (id_at bytes size (item - mark)) x) ids ≡ None = ap (λ (id : ℕ). position (λ x. eqb id x) ids) (sym stands) ∙ found.target
      ∙ rw (le-ltb item (length ids) (omega arith)) refl in
      let code = absent-code ids absent (id_at bytes size (item - mark)) room none in
      (code.0, code.1 ∙ sym stands)
