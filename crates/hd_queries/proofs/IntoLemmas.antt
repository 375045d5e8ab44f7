-- The references to an object, by the slots that refer to it.
use Rattle.std.proofs.Common.{◌≡◌, ◌∙◌, ℕ, suc, ◌+◌, ◌<◌, ◌≤◌, Bool, true, false, cond, List, [], ◌∷◌, ◌++◌, length, map, take, Contains, Some, slice_get, refl}
use Rattle.std.proofs.Common.{sym, ap, subst, arith, zero-add}
use Rattle.std.specs.List.{filter, flat_map, enumerate_from}
use Rattle.std.proofs.lemmas.List.{length-map, map-append, take_all, take_more}
use Rattle.std.proofs.lemmas.List.Elements.{filter-append}
use Rattle.std.proofs.lemmas.Option.{get_or_from_slice_get, slice_get-map, slice_get_within}
use Rattle.hd_terms.specs.declared.IntoRow.{IntoRow}
use Rattle.hd_terms.specs.declared.Event.{Event}
use Rattle.hd_terms.specs.Dump.{SlotEntry, Object, Dump, no_object, object_at}
use Rattle.hd_terms.specs.IntoRows.{refers_to, into_row, into_from, into_rows}
use Rattle.hd_reverse.specs.declared.referrer.Referrer.{Referrer}
use Rattle.hd_reverse.specs.Referrers.{PlacedSlot, placed_slot, slots_of, all_slots, place_of, referrers_to}
use Rattle.hd_strength.proofs.Lists.{Contains-slice_get, flat_map_only, filter_only, enumerate_only}
use Rattle.hd_view.proofs.PickLemmas.{mapped_some, map_only}
use Rattle.hd_queries.specs.IntoShown.{slots_into, placed_row, rows_before}

module _ (dump : Dump) (log : List Event) (o : ℕ) where
  abbrev refers : PlacedSlot → Bool
  refers p = refers_to dump o p.entry

  -- one slot more, by whether it refers to the object
  by-case : (x : Object) (s : SlotEntry) (p : PlacedSlot) (ss : List SlotEntry) (ps : List PlacedSlot) (b : Bool) → into_row log o x s ≡ placed_row dump log o p
      → map (into_row log o x) ss ≡ map (placed_row dump log o) ps
      → map (into_row log o x) (cond b (s ∷ ss) ss) ≡ map (placed_row dump log o) (cond b (p ∷ ps) ps)
  by-case x s p ss ps true one rest = ap (λ (rows : List IntoRow). into_row log o x s ∷ rows) rest
      ∙ ap (λ (row : IntoRow). row ∷ map (placed_row dump log o) ps) one
  by-case x s p ss ps false one rest = rest

  -- the slots of the object of a number, from an index on
  slots-rows : (k : ℕ) (x : Object) → object_at dump k ≡ x → (j : ℕ) (ss : List SlotEntry) → map (into_row log o x) (filter (refers_to dump o) ss) ≡ map
      (placed_row dump log o) (filter refers (map (placed_slot k) (enumerate_from j ss)))
  slots-rows k x same j [] = refl
  slots-rows k x same j (s ∷ ss) =
      by-case x s (placed_slot k (j, s)) (filter (refers_to dump o) ss) (filter refers (map (placed_slot k) (enumerate_from (j + 1) ss))) (refers_to dump o s)
      (ap (λ (y : Object). into_row log o y s) (sym same)) (slots-rows k x same (j + 1) ss)

  -- the objects from a number on
  objects-rows : (j : ℕ) (xs : List Object) → ((i : ℕ) (x : Object) → slice_get xs i ≡ Some x → object_at dump (j + i) ≡ x)
      → flat_map (into_from dump log o) xs ≡ map (placed_row dump log o) (filter refers (flat_map slots_of (enumerate_from j xs)))
  objects-rows j [] at = refl
  objects-rows j (x ∷ xs) at =
      let own : List PlacedSlot = slots_of (j, x) in
      let rest : List PlacedSlot = flat_map slots_of (enumerate_from (j + 1) xs) in
      let here : object_at dump j ≡ x = let same : j + 0 ≡ j = omega arith in ap (object_at dump) (sym same) ∙ at 0 x refl in
      let later : (i : ℕ) (y : Object) → slice_get xs i ≡ Some y → object_at dump ((j + 1) + i) ≡ y = λ i y is. let same : (j + 1) + i ≡ j + suc i =
      omega arith in ap (object_at dump) same ∙ at (suc i) y is in
      ap (λ (rows : List IntoRow). rows ++ flat_map (into_from dump log o) xs) (slots-rows j x here 0 x.slots)
      ∙ ap (λ (rows : List IntoRow). map (placed_row dump log o) (filter refers own) ++ rows) (objects-rows (j + 1) xs later)
      ∙ sym (ap (map (placed_row dump log o)) (filter-append refers own rest) ∙ map-append (placed_row dump log o) (filter refers own) (filter refers rest))

  -- the rows of all references are those of the slots that refer to the object
  into-is : into_rows dump log o ≡ map (placed_row dump log o) (slots_into dump o)
  into-is = objects-rows 0 dump.objects (λ i x is. ap (object_at dump) (zero-add i) ∙ get_or_from_slice_get dump.objects i x no_object is)

  -- where a slot of the dump is
  placed-there : (p : PlacedSlot) → Contains (all_slots dump) p → (p.source < length dump.objects)
      × (slice_get (object_at dump p.source).slots p.index ≡ Some p.entry)
  placed-there p c =
      let (n, at, from) = flat_map_only slots_of (enumerate_from 0 dump.objects) p c in
      let (s, numbered, made) = map_only (placed_slot n.0) (enumerate_from 0 n.1.slots) p from in
      let there : slice_get dump.objects n.0 ≡ Some n.1 = enumerate_only dump.objects n at in
      let object : object_at dump n.0 ≡ n.1 = get_or_from_slice_get dump.objects n.0 n.1 no_object there in
      let slot : slice_get (object_at dump n.0).slots s.0 ≡ Some s.1 = ap (λ (x : Object). slice_get x.slots s.0) object
      ∙ enumerate_only n.1.slots s numbered in
      let P : PlacedSlot → Type 0 = λ q. (q.source < length dump.objects) × (slice_get (object_at dump q.source).slots q.index ≡ Some q.entry) in
      subst P made (slice_get_within dump.objects n.0 n.1 there, slot)

  -- as many slots as places
  pub length-slots_into : length (referrers_to dump o) ≡ length (slots_into dump o)
  length-slots_into = length-map (slots_into dump o) place_of

  -- what is known of the place at an index of those that refer to the object
  pub record IsPlace (i : ℕ) (r : Referrer) : Type 0 where
    pub slot : PlacedSlot
    pub at : slice_get (slots_into dump o) i ≡ Some slot
    pub source : slot.source ≡ r.source
    pub object : r.source < length dump.objects
    pub there : slice_get (object_at dump r.source).slots r.index ≡ Some slot.entry

  pub is_place : (rs : List Referrer) (i : ℕ) (r : Referrer) → rs ≡ referrers_to dump o → slice_get rs i ≡ Some r → IsPlace i r
  is_place rs i r all at =
      let kept : List PlacedSlot = slots_into dump o in
      let mapped : slice_get (map place_of kept) i ≡ Some r = ap (λ (xs : List Referrer). slice_get xs i) (sym all) ∙ at in
      let (p, there, same) = mapped_some place_of (slice_get kept i) r (sym (slice_get-map place_of kept i) ∙ mapped) in
      let among : Contains kept p = Contains-slice_get kept i p (slice_get_within kept i p there) there in
      let known = placed-there p (filter_only refers (all_slots dump) p among) in
      let place : IsPlace i (place_of p) = record { slot = p; at = there; source = refl; object = known.0; there = known.1 } in
      subst (IsPlace i) same place

  -- one row more
  pub row-more : (i : ℕ) (r : Referrer) (rows rows' : List IntoRow) (row : IntoRow) → IsPlace i r → rows ≡ rows_before dump log o i → rows' ≡ rows ++ row ∷ []
      → ((s : SlotEntry) → slice_get (object_at dump r.source).slots r.index ≡ Some s → row ≡ into_row log o (object_at dump r.source) s)
      → rows' ≡ rows_before dump log o (i + 1)
  row-more i r rows rows' row place so_far pushed is =
      let kept : List PlacedSlot = slots_into dump o in
      let p : PlacedSlot = place.slot in
      let more : take (i + 1) kept ≡ take i kept ++ p ∷ [] = take_more kept i p (slice_get_within kept i p place.at)
      ∙ ap (λ (q : PlacedSlot). take i kept ++ q ∷ []) (get_or_from_slice_get kept i p p place.at) in
      let own : row ≡ placed_row dump log o p = is p.entry place.there ∙ ap (λ (k : ℕ). into_row log o (object_at dump k) p.entry) (sym place.source) in
      pushed
      ∙ ap (λ (xs : List IntoRow). xs ++ row ∷ []) so_far
      ∙ ap (λ (x : IntoRow). rows_before dump log o i ++ x ∷ []) own
      ∙ sym (ap (map (placed_row dump log o)) more ∙ map-append (placed_row dump log o) (take i kept) (p ∷ []))

  -- after all
  pub all-rows : (i : ℕ) → length (slots_into dump o) ≤ i → rows_before dump log o i ≡ into_rows dump log o
  all-rows i end = ap (map (placed_row dump log o)) (take_all i (slots_into dump o) end) ∙ sym into-is
