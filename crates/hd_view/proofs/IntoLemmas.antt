-- Edges to an object, by the slots that refer to it.
use Rattle.std.proofs.Common.{◌≡◌, ◌∙◌, ℕ, ◌+◌, ◌<◌, ◌==◌, Bool, true, false, cond, is_some, List, [], ◌∷◌, ◌++◌, length, map, get_or, slice_get, All, Contains}
use Rattle.std.proofs.Common.{Option, Some, None, refl, sym, ap, subst, arith, zero-add}
use Rattle.std.specs.Option.{option_map, option_map_or}
use Rattle.std.specs.List.{filter, filter_map, cons_option, flat_map, enumerate_from}
use Rattle.std.proofs.lemmas.Option.{same_Some, slice_get-map, slice_get_within, get_or_from_slice_get}
use Rattle.std.proofs.lemmas.List.{get_or_default, length-map}
use Rattle.std.proofs.lemmas.List.FromFn.{length-enumerate_from, get_or-enumerate_from}
use Rattle.std.proofs.lemmas.List.Elements.{filter_map-append, filter_passes, All-head, All-tail, All-weaker, All-contains}
use Rattle.hd_terms.specs.declared.Event.{Event}
use Rattle.hd_terms.specs.Dump.{SlotEntry, Object, Dump, no_object, object_at}
use Rattle.hd_terms.specs.Edges.{index_of}
use Rattle.hd_terms.specs.EditedDump.{is_untouched}
use Rattle.hd_terms.specs.EdgeRows.{MarkedEdge, marked_edge, edges_of, edges_into}
use Rattle.hd_terms.specs.IntoRows.{refers_to}
use Rattle.hd_strength.proofs.Lists.{Contains-slice_get, flat_map_only, filter_only, enumerate_only}
use Rattle.hd_reverse.specs.declared.referrer.Referrer.{Referrer}
use Rattle.hd_reverse.specs.Referrers.{PlacedSlot, placed_slot, slots_of, all_slots, place_of, referrers_to}
use Rattle.hd_view.specs.Finding.{is_edge, IsMark}
use Rattle.hd_view.specs.Lawful.{mark_to}
use Rattle.hd_view.proofs.PickLemmas.{all_picked, length_all_picked, mapped_some, map_only}
use Rattle.hd_view.proofs.OutLemmas.{is_some-marked}

-- an ID that is the object's of a number is one's
found-some : (o : ℕ) (t : Option ℕ) → option_map_or (λ (target : ℕ). target == o) t false ≡ true → (is_some t ≡ true)
found-some o None hit = absurd cc
found-some o (Some u) hit = refl

-- where a slot of a dump is
placed-there : (dump : Dump) (p : PlacedSlot) → Contains (all_slots dump) p → (p.source < length dump.objects)
    × (slice_get (object_at dump p.source).slots p.index ≡ Some p.entry)
placed-there dump p c =
    let (n, at, from) = flat_map_only slots_of (enumerate_from 0 dump.objects) p c in
    let (s, numbered, made) = map_only (placed_slot n.0) (enumerate_from 0 n.1.slots) p from in
    let there : slice_get dump.objects n.0 ≡ Some n.1 = enumerate_only dump.objects n at in
    let object : object_at dump n.0 ≡ n.1 = get_or_from_slice_get dump.objects n.0 n.1 no_object there in
    let slot : slice_get (object_at dump n.0).slots s.0 ≡ Some s.1 = ap (λ (x : Object). slice_get x.slots s.0) object ∙ enumerate_only n.1.slots s numbered in
    let P : PlacedSlot → Type 0 = λ q. (q.source < length dump.objects) × (slice_get (object_at dump q.source).slots q.index ≡ Some q.entry) in
    subst P made (slice_get_within dump.objects n.0 n.1 there, slot)

-- the numbered objects of a dump are its objects
numbered-all : (dump : Dump) → All (λ (n : ℕ × Object). object_at dump n.0 ≡ n.1) (enumerate_from 0 dump.objects)
numbered-all dump k d lt =
    let k_lt : k < length dump.objects = omega (arith, length-enumerate_from 0 dump.objects) in
    let is : get_or (enumerate_from 0 dump.objects) k d ≡ (0 + k, get_or dump.objects k d.1) = get_or-enumerate_from 0 dump.objects k d k_lt in
    let P : ℕ × Object → Type 0 = λ n. object_at dump n.0 ≡ n.1 in
    subst P (sym is) (ap (object_at dump) (zero-add k) ∙ get_or_default dump.objects k no_object d.1 k_lt)

module _ (dump : Dump) (log : List Event) where
  -- the edge of a slot, with whether it stands
  abbrev mark_at : PlacedSlot → Option MarkedEdge
  mark_at p = marked_edge dump log (object_at dump p.source) p.source p.entry

  slots-marked : (k : ℕ) (x : Object) (j : ℕ) (ss : List SlotEntry) → object_at dump k ≡ x → filter_map (marked_edge dump log x k) ss ≡ filter_map mark_at
      (map (placed_slot k) (enumerate_from j ss))
  slots-marked k x j [] same = refl
  slots-marked k x j (s ∷ ss) same =
      ap (λ (y : Object). cons_option (marked_edge dump log y k s) (filter_map (marked_edge dump log x k) ss)) (sym same)
      ∙ ap (cons_option (mark_at (placed_slot k (j, s)))) (slots-marked k x (j + 1) ss same)

  objects-marked : (ns : List (ℕ × Object)) → All (λ (n : ℕ × Object). object_at dump n.0 ≡ n.1) ns → flat_map (edges_of dump log) ns ≡ filter_map mark_at
      (flat_map slots_of ns)
  objects-marked [] all = refl
  objects-marked ((k, x) ∷ ns) all =
      ap (λ (ms : List MarkedEdge). ms ++ flat_map (edges_of dump log) ns)
      (slots-marked k x 0 x.slots (All-head (λ (n : ℕ × Object). object_at dump n.0 ≡ n.1) (k, x) ns all))
      ∙ ap (λ (ms : List MarkedEdge). filter_map mark_at (slots_of (k, x)) ++ ms)
      (objects-marked ns (All-tail (λ (n : ℕ × Object). object_at dump n.0 ≡ n.1) (k, x) ns all))
      ∙ sym (filter_map-append mark_at (slots_of (k, x)) (flat_map slots_of ns))

  module _ (o : ℕ) where
    abbrev test : MarkedEdge → Bool
    test m = m.edge.target == o

    abbrev refers : PlacedSlot → Bool
    refers p = refers_to dump o p.entry

    by-case : (b : Bool) (p : PlacedSlot) (m : MarkedEdge) (rest : List MarkedEdge) (more : List PlacedSlot) → mark_at p ≡ Some m
        → filter test rest ≡ filter_map mark_at more
        → cond b (m ∷ filter test rest) (filter test rest) ≡ filter_map mark_at (cond b (p ∷ more) more)
    by-case true p m rest more is same = ap (λ (ms : List MarkedEdge). m ∷ ms) same ∙ ap (λ (q : Option MarkedEdge). cons_option q (filter_map mark_at more))
        (sym is)
    by-case false p m rest more is same = same

    -- the edge of a slot, by what the slot refers to
    abbrev mark_by : PlacedSlot → Option ℕ → Option MarkedEdge
    mark_by p t = option_map (λ e. record { edge = e; stands = is_untouched log (object_at dump p.source) p.entry })
        (option_map (λ (target : ℕ). record { source = p.source; slot = p.entry.slot; target = target; kind = p.entry.kind }) t)

    by-target : (p : PlacedSlot) (t : Option ℕ) (rest : List MarkedEdge) (more : List PlacedSlot) → index_of dump.objects p.entry.id ≡ t
        → filter test rest ≡ filter_map mark_at more
        → filter test (cons_option (mark_at p) rest) ≡ filter_map mark_at (cond (refers p) (p ∷ more) more)
    by-target p None rest more is same =
        ap (λ (u : Option ℕ). filter test (cons_option (mark_by p u) rest)) is
        ∙ same
        ∙ ap (λ (u : Option ℕ). filter_map mark_at (cond (option_map_or (λ (target : ℕ). target == o) u false) (p ∷ more) more)) (sym is)
    by-target p (Some t) rest more is same =
        ap (λ (u : Option ℕ). filter test (cons_option (mark_by p u) rest)) is
        ∙ by-case (t == o) p (mark_to p.source p.entry t (is_untouched log (object_at dump p.source) p.entry)) rest more (ap (mark_by p) is) same
        ∙ ap (λ (u : Option ℕ). filter_map mark_at (cond (option_map_or (λ (target : ℕ). target == o) u false) (p ∷ more) more)) (sym is)

    into-marked : (ps : List PlacedSlot) → filter test (filter_map mark_at ps) ≡ filter_map mark_at (filter refers ps)
    into-marked [] = refl
    into-marked (p ∷ ps) = by-target p (index_of dump.objects p.entry.id) (filter_map mark_at ps) (filter refers ps) refl (into-marked ps)

    -- the edges to an object are those of the slots that refer to it
    into-is : edges_into dump log o ≡ filter_map mark_at (filter refers (all_slots dump))
    into-is = ap (filter test) (objects-marked (enumerate_from 0 dump.objects) (numbered-all dump)) ∙ into-marked (all_slots dump)

    each-marked : All (λ (p : PlacedSlot). is_some (mark_at p) ≡ true) (filter refers (all_slots dump))
    each-marked =
        All-weaker (λ (p : PlacedSlot). refers p ≡ true) (λ (p : PlacedSlot). is_some (mark_at p) ≡ true)
        (λ p yes. is_some-marked dump log (object_at dump p.source) p.source p.entry ∙ found-some o (index_of dump.objects p.entry.id) yes)
        (filter refers (all_slots dump)) (filter_passes refers (all_slots dump))

    -- how many edges there are
    pub length_into : length (edges_into dump log o) ≡ length (referrers_to dump o)
    length_into =
        ap (λ (ms : List MarkedEdge). length ms) into-is
        ∙ length_all_picked mark_at (filter refers (all_slots dump)) each-marked
        ∙ sym (length-map (filter refers (all_slots dump)) place_of)

    -- what is known of a slot that refers to an object
    pub record IsReferrer (r : Referrer) : Type 0 where
      pub object : r.source < length dump.objects
      pub entry : SlotEntry
      pub there : slice_get (object_at dump r.source).slots r.index ≡ Some entry
      pub edge : is_edge dump entry ≡ true

    referrer-slot : (i : ℕ) (r : Referrer) → slice_get (referrers_to dump o) i ≡ Some r → (p : PlacedSlot)
        × (slice_get (filter refers (all_slots dump)) i ≡ Some p) × (place_of p ≡ r)
    referrer-slot i r at = mapped_some place_of (slice_get (filter refers (all_slots dump)) i) r
        (sym (slice_get-map place_of (filter refers (all_slots dump)) i) ∙ at)

    pub is_referrer : (i : ℕ) (r : Referrer) → slice_get (referrers_to dump o) i ≡ Some r → IsReferrer r
    is_referrer i r at =
        let (p, there, same) = referrer-slot i r at in
        let kept : List PlacedSlot = filter refers (all_slots dump) in
        let among : Contains kept p = Contains-slice_get kept i p (slice_get_within kept i p there) there in
        let place = placed-there dump p (filter_only refers (all_slots dump) p among) in
        let yes : refers p ≡ true = All-contains (λ (q : PlacedSlot). refers q ≡ true) kept p (filter_passes refers (all_slots dump)) among in
        let known : IsReferrer (place_of p) =
        record { object = place.0; entry = p.entry; there = place.1; edge = found-some o (index_of dump.objects p.entry.id) yes } in
        subst IsReferrer same known

    -- an edge to the object by its index
    pub into_there : (i : ℕ) (r : Referrer) (m : MarkedEdge) → slice_get (referrers_to dump o) i ≡ Some r → IsMark dump log r.source r.index m
        → slice_get (edges_into dump log o) i ≡ Some m
    into_there i r m at mark =
        let (p, there, same) = referrer-slot i r at in
        let kept : List PlacedSlot = filter refers (all_slots dump) in
        let among : Contains kept p = Contains-slice_get kept i p (slice_get_within kept i p there) there in
        let place = placed-there dump p (filter_only refers (all_slots dump) p among) in
        let own : IsMark dump log p.source p.index m = subst (λ (q : Referrer). IsMark dump log q.source q.index m) (sym same) mark in
        let entry : own.entry ≡ p.entry = same_Some own.entry p.entry (sym own.there ∙ place.1) in
        let is : mark_at p ≡ Some m = ap (marked_edge dump log (object_at dump p.source) p.source) (sym entry) ∙ own.is in
        ap (λ (ms : List MarkedEdge). slice_get ms i) into-is ∙ all_picked mark_at kept i p each-marked there ∙ is
