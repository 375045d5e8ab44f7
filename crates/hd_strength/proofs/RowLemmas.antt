use Rattle.std.proofs.Common.{◌≡◌, ◌∙◌, ℕ, suc, nat_lt, ◌<◌, inl, inr, List, [], ◌∷◌, Contains, length, cond, not, Bool, false, ◌+◌, ◌-◌, ◌≤◌, get_or, Option}
use Rattle.std.proofs.Common.{None, Some, slice_get, true, refl, sym, ap, subst, arith}
use Rattle.std.specs.Prelude.{◌==◌, ◌&&◌, ◌||◌, map}
use Rattle.std.specs.Option.{option_map, option_and_then}
use Rattle.std.specs.List.{filter, filter_map, enumerate_from}
use Rattle.std.proofs.lemmas.Bool.{cases_lt, lt-ltb, lt-leb}
use Rattle.std.proofs.lemmas.List.Elements.{Contains-append_left, Contains-append_right, Contains-append_cases}
use Rattle.std.proofs.lemmas.Option.{slice_get_past, slice_get_within, get_or_from_slice_get, slice_get-get_or}
use Rattle.std.proofs.lemmas.List.{get_or_past}
use Rattle.std.proofs.lemmas.List.Quantifiers.{position-Some}
use Rattle.hd_terms.specs.declared.Edit.{Edit}
use Rattle.hd_terms.specs.declared.Edit.TheVariants as edits
use Rattle.hd_terms.specs.declared.RootKind.TheVariants as kinds
use Rattle.hd_terms.specs.declared.Event.{Event}
use Rattle.hd_terms.specs.declared.What.{What}
use Rattle.hd_terms.specs.declared.What.TheVariants as whats
use Rattle.hd_log.proofs.LastLemmas.{by_event}
use Rattle.hd_terms.specs.Paths.{Edge, RootEntry}
use Rattle.hd_terms.specs.Dump.{SlotEntry, Object, Root, Dump, no_object, object_at}
use Rattle.hd_terms.specs.Edges.{index_of, edge_of}
use Rattle.hd_terms.specs.EditedDump.{RootOn, standing, standing_from, is_untouched, is_dropped, is_root, adds_root, live_edit_at, root_stands, root_entries}
use Rattle.hd_terms.specs.EditedDump.{dump_root, root_added, added_root, held_by}
use Rattle.hd_terms.specs.Log.{live_edit, edit_of, stays}
use Rattle.hd_strength.specs.Rows.{width, edge_by, edge_at, added_id, root_by, root_by_event, root_count, root_at, standing_root, standing_dump_root}
use Rattle.hd_strength.specs.Rows.{standing_added_root, added_by}
use Rattle.hd_strength.proofs.Lists.{Contains-nil, Contains-head, Contains-tail, Contains-cons_cases, Contains-slice_get, flat_map_contains, flat_map_only}
use Rattle.hd_strength.proofs.Lists.{filter_map_contains, filter_map_only, filter_contains, filter_only, enumerate_contains, enumerate_only}

-- the edge of a slot to the object of a number
abbrev pub edge_to : ℕ → SlotEntry → ℕ → Edge
edge_to o s t = record { source = o; slot = s.slot; target = t; kind = s.kind }

-- the entry of a root on the object of a number
abbrev pub entry_to : ℕ → ℕ → RootEntry
entry_to r t = record { number = r; target = t }

-- the number of an object is below their count
pub index_of_within : (xs : List Object) (id t : ℕ) → index_of xs id ≡ Some t → t < length xs
index_of_within xs id t h = (position-Some (λ (x : Object). id == x.id) xs t no_object h).0

-- the slot at an index
slot-there : (ss : List SlotEntry) (i : ℕ) → i < length ss → (s : SlotEntry) × (slice_get ss i ≡ Some s)
slot-there [] i lt = absurd (omega arith)
slot-there (s ∷ ss) i lt = (get_or (s ∷ ss) i s, slice_get-get_or (s ∷ ss) i s lt)

-- the entry of a slot that an object has
pub slot_at : (dump : Dump) (o i : ℕ) → i < width dump o → (s : SlotEntry) × (slice_get (object_at dump o).slots i ≡ Some s)
slot_at dump o i lt = slot-there (object_at dump o).slots i lt

-- the edge of a slot, by the number that its ID has
by_target : (o : ℕ) (s : SlotEntry) (t : Option ℕ) (e : Edge) → option_map (λ (target : ℕ). edge_to o s target) t ≡ Some e → (t ≡ Some e.target)
    × (e ≡ edge_to o s e.target)
by_target o s None e h = absurd (cc)
by_target o s (Some t) e h = let same : edge_to o s t ≡ e = cc in
    (ap (λ (x : Edge). Some x.target) same, sym same ∙ ap (λ (x : Edge). edge_to o s x.target) same)

-- tests
pub not-true : (b : Bool) → not b ≡ true → b ≡ false
not-true true h = absurd cc
not-true false h = refl

pub not-false : (b : Bool) → not b ≡ false → b ≡ true
not-false true h = refl
not-false false h = absurd cc

-- an edge of a slot that stands
edge-by : (stands : Bool) (edge : Option Edge) (e : Edge) → cond stands edge None ≡ Some e → (stands ≡ true) × (edge ≡ Some e)
edge-by true edge e h = (refl, h)
edge-by false edge e h = absurd cc

-- the index of a slot of an object, with what stands there
module _ (dump : Dump) (log : List Event) (o i : ℕ) (s : SlotEntry) (entry : slice_get (object_at dump o).slots i ≡ Some s) where
  at_index : edge_at dump log o i ≡ cond (is_untouched log (object_at dump o) s) (edge_of dump.objects o s) None
  unfolding edge_at
  at_index = ap (edge_by dump log o) entry

  at_parts : (e : Edge) → edge_at dump log o i ≡ Some e → (is_untouched log (object_at dump o) s ≡ true) × (edge_of dump.objects o s ≡ Some e)
  at_parts e is = edge-by (is_untouched log (object_at dump o) s) (edge_of dump.objects o s) e (sym at_index ∙ is)

  pub at_none : index_of dump.objects s.id ≡ None → (e : Edge) → edge_at dump log o i ≡ Some e → ⊥
  at_none none e is =
      let other : edge_of dump.objects o s ≡ None = ap (option_map (λ (target : ℕ). edge_to o s target)) none in
      let same : None ≡ Some e = sym other ∙ (at_parts e is).1 in absurd (cc)

  pub at_cut : is_untouched log (object_at dump o) s ≡ false → (e : Edge) → edge_at dump log o i ≡ Some e → ⊥
  at_cut cut e is = let same : false ≡ true = sym cut ∙ (at_parts e is).0 in absurd (cc)

  pub at_some : (t : ℕ) → index_of dump.objects s.id ≡ Some t → is_untouched log (object_at dump o) s ≡ true → edge_at dump log o i ≡ Some (edge_to o s t)
  at_some t some stands =
      at_index ∙ ap (λ (b : Bool). cond b (edge_of dump.objects o s) None) stands ∙ ap (option_map (λ (target : ℕ). edge_to o s target)) some

  -- an edge at an index is that of its slot
  pub at_edge : (e : Edge) → edge_at dump log o i ≡ Some e → (index_of dump.objects s.id ≡ Some e.target) × (e ≡ edge_to o s e.target)
  at_edge e is = by_target o s (index_of dump.objects s.id) e (at_parts e is).1

  -- an edge at an index leads to the object of its slot's ID
  pub at_target : (t : ℕ) (e : Edge) → index_of dump.objects s.id ≡ Some t → edge_at dump log o i ≡ Some e → edge_to o s t ≡ e
  at_target t e some is =
      let found = at_edge e is in
      let same : Some t ≡ Some e.target = sym some ∙ found.0 in
      let target : t ≡ e.target = cc in
      ap (edge_to o s) target ∙ sym found.1

  pub at_stands : (e : Edge) → edge_at dump log o i ≡ Some e → is_untouched log (object_at dump o) s ≡ true
  at_stands e is = (at_parts e is).0

-- what is known of an edge at an index
pub record IsAt (dump : Dump) (log : List Event) (o i : ℕ) (e : Edge) : Type 0 where
  pub object : o < length dump.objects
  pub within : i < width dump o
  pub target : e.target < length dump.objects
  pub entry : SlotEntry
  pub there : slice_get (object_at dump o).slots i ≡ Some entry
  pub is : e ≡ edge_to o entry e.target
  pub index : index_of dump.objects entry.id ≡ Some e.target
  pub stands : is_untouched log (object_at dump o) entry ≡ true

-- where there is no slot there is no edge
none_past : (dump : Dump) (log : List Event) (o i : ℕ) (e : Edge) → edge_at dump log o i ≡ Some e → slice_get (object_at dump o).slots i ≡ None → ⊥
unfolding edge_at
none_past dump log o i e is none = let same : None ≡ Some e = sym (ap (edge_by dump log o) none) ∙ is in absurd (cc)

-- an edge at an index is one of the dump's
pub is_at : (dump : Dump) (log : List Event) (o i : ℕ) (e : Edge) → edge_at dump log o i ≡ Some e → IsAt dump log o i e
is_at dump log o i e is =
    let within : i < width dump o = elim (cases_lt i (width dump o)) [
      | inl lt ↦ lt
      | inr le ↦ absurd (none_past dump log o i e is (slice_get_past (object_at dump o).slots i le))
    ] in
    let object : o < length dump.objects = elim (cases_lt o (length dump.objects)) [
      | inl lt ↦ lt
      | inr le ↦ let none : width dump o ≡ 0 = ap (λ (x : Object). length x.slots) (get_or_past dump.objects o no_object le) in absurd (omega arith)
    ] in
    let s : SlotEntry = get_or (object_at dump o).slots i (record { slot = e.slot; kind = e.kind; id = 0 }) in
    let there : slice_get (object_at dump o).slots i ≡ Some s =
    slice_get-get_or (object_at dump o).slots i (record { slot = e.slot; kind = e.kind; id = 0 }) within in
    let found : (index_of dump.objects s.id ≡ Some e.target) × (e ≡ edge_to o s e.target) = at_edge dump log o i s there e is in
    record {
      object = object;
      within = within;
      target = index_of_within dump.objects s.id e.target found.0;
      entry = s;
      there = there;
      is = found.1;
      index = found.0;
      stands = at_stands dump log o i s there e is;
    }

-- an edge at an index of an object starts there
pub at_source : (dump : Dump) (log : List Event) (o i : ℕ) (e : Edge) → edge_at dump log o i ≡ Some e → e.source ≡ o
at_source dump log o i e is = ap (λ (x : Edge). x.source) (is_at dump log o i e is).is

-- an edge at an index stands
pub edge_stands_at : (dump : Dump) (log : List Event) (o i : ℕ) (e : Edge) → edge_at dump log o i ≡ Some e → Contains (standing dump log).edges e
edge_stands_at dump log o i e is =
    let at : IsAt dump log o i e = is_at dump log o i e is in
    let x : Object = object_at dump o in
    flat_map_contains (standing_from dump log) (enumerate_from 0 dump.objects) (o, x) e
    (enumerate_contains dump.objects o x (slice_get-get_or dump.objects o no_object at.object))
    (filter_map_contains (edge_of dump.objects o) (filter (is_untouched log x) x.slots) at.entry e
    (filter_contains (is_untouched log x) x.slots at.entry (Contains-slice_get x.slots i at.entry at.within at.there) at.stands)
    (ap (option_map (λ (target : ℕ). edge_to o at.entry target)) at.index ∙ ap (λ (y : Edge). Some y) (sym at.is)))

-- what is in the filtered list passes
passes-cases : {X : Type 0} (p : X → Bool) (b : Bool) (z : X) (zs : List X) (x : X) → p z ≡ b → ((Contains (filter p zs) x) → p x ≡ true)
    → Contains (cond b (z ∷ filter p zs) (filter p zs)) x → p x ≡ true
passes-cases p true z zs x is later c = elim (Contains-cons_cases z (filter p zs) x c) [ inl same ↦ ap p (sym same) ∙ is | inr rest ↦ later rest ]
passes-cases p false z zs x is later c = later c

filter_passes : {X : Type 0} (p : X → Bool) (xs : List X) (x : X) → Contains (filter p xs) x → p x ≡ true
filter_passes p [] x c = absurd (Contains-nil x c)
filter_passes p (z ∷ zs) x c = passes-cases p (p z) z zs x refl (filter_passes p zs x) c

-- each edge that stands is at an index
pub edge_has_index : (dump : Dump) (log : List Event) (e : Edge) → Contains (standing dump log).edges e → (i : ℕ) × (edge_at dump log e.source i ≡ Some e)
unfolding edge_at
edge_has_index dump log e c =
    let (n, numbered, from) = flat_map_only (standing_from dump log) (enumerate_from 0 dump.objects) e c in
    let (s, kept, gives) = filter_map_only (edge_of dump.objects n.0) (filter (is_untouched log n.1) n.1.slots) e from in
    let (i, lt, is) = filter_only (is_untouched log n.1) n.1.slots s kept in
    let edge : e ≡ edge_to n.0 s e.target = (by_target n.0 s (index_of dump.objects s.id) e gives).1 in
    let source : e.source ≡ n.0 = ap (λ (x : Edge). x.source) edge in
    let there : slice_get dump.objects n.0 ≡ Some n.1 = enumerate_only dump.objects n numbered in
    let object : object_at dump n.0 ≡ n.1 = get_or_from_slice_get dump.objects n.0 n.1 no_object there in
    let slot : slice_get (object_at dump n.0).slots i ≡ Some s = ap (λ (x : Object). slice_get x.slots i) object ∙ slice_get-get_or n.1.slots i s lt
    ∙ ap (λ (y : SlotEntry). Some y) is in
    let stands : is_untouched log (object_at dump n.0) s ≡ true =
    ap (λ (x : Object). is_untouched log x s) object ∙ filter_passes (is_untouched log n.1) n.1.slots s kept in (
      i,
      subst (λ (m : ℕ). edge_at dump log m i ≡ Some e) (sym source)
          (ap (edge_by dump log n.0) slot ∙ ap (λ (b : Bool). cond b (edge_of dump.objects n.0 s) None) stands ∙ gives),
    )

not-below : (a b : ℕ) → b ≤ a → nat_lt a b ≡ false
not-below a b le = lt-leb (suc a) b (omega arith)

-- the root of a number, by where it comes from
pub root_of_dump : (dump : Dump) (log : List Event) (r : ℕ) (root : Root) → slice_get dump.roots r ≡ Some root
    → root_at dump log r ≡ standing_dump_root dump log (r, root)
unfolding root_at
root_of_dump dump log r root at =
    let lt : r < length dump.roots = slice_get_within dump.roots r root at in
    rw (lt-ltb r (length dump.roots) lt) (ap (root_by dump log r) at)

pub root_of_event : (dump : Dump) (log : List Event) (k : ℕ) (event : Event) → slice_get log k ≡ Some event
    → root_at dump log (length dump.roots + k) ≡ standing_added_root dump log (k, event)
unfolding root_at
root_of_event dump log k event at =
    let number : (length dump.roots + k) - length dump.roots ≡ k = omega arith in
    rw (not-below (length dump.roots + k) (length dump.roots) (omega arith), number) (ap (root_by_event dump log k) at)

-- the entry of a root has its number, and its object is one of the dump's
pub record IsEntry (dump : Dump) (r : ℕ) (x : RootEntry) : Type 0 where
  pub number : x.number ≡ r
  pub object : x.target < length dump.objects

standing-entry : (dump : Dump) (r id : ℕ) (x : RootEntry) (dropped : Bool) (t : Option ℕ) → index_of dump.objects id ≡ t
    → cond dropped None (option_map (λ (target : ℕ). entry_to r target) t) ≡ Some x → IsEntry dump r x
standing-entry dump r id x true t found is = absurd cc
standing-entry dump r id x false None found is = absurd cc
standing-entry dump r id x false (Some t) found is =
    let same : entry_to r t ≡ x = cc in
    let target : t ≡ x.target = ap (λ (y : RootEntry). y.target) same in
    record { number = sym (ap (λ (y : RootEntry). y.number) same); object = omega (arith, index_of_within dump.objects id t found, target) }

dump-entry : (dump : Dump) (log : List Event) (r : ℕ) (x : RootEntry) (at : Option Root) → root_by dump log r at ≡ Some x → IsEntry dump r x
dump-entry dump log r x None is = absurd cc
dump-entry dump log r x (Some root) is = standing-entry dump r root.id x (is_dropped log r) (index_of dump.objects root.id) refl is

edit-entry : (dump : Dump) (log : List Event) (k : ℕ) (x : RootEntry) (edit : Option Edit) → added_by dump log k edit ≡ Some x
    → IsEntry dump (length dump.roots + k) x
edit-entry dump log k x None is = absurd cc
edit-entry dump log k x (Some (edits.Cut id slot)) is = absurd cc
edit-entry dump log k x (Some (edits.Clear id)) is = absurd cc
edit-entry dump log k x (Some (edits.Drop r)) is = absurd cc
edit-entry dump log k x (Some (edits.ClearAll references)) is = absurd cc
edit-entry dump log k x (Some (edits.CutAll class i)) is = absurd cc
edit-entry dump log k x (Some (edits.Add id)) is = standing-entry dump (length dump.roots + k) id x (is_dropped log (length dump.roots + k))
    (index_of dump.objects id) refl is

event-entry : (dump : Dump) (log : List Event) (k : ℕ) (x : RootEntry) (at : Option Event) → root_by_event dump log k at ≡ Some x
    → IsEntry dump (length dump.roots + k) x
event-entry dump log k x None is = absurd cc
event-entry dump log k x (Some event) is = edit-entry dump log k x (live_edit log (k, event)) is

pub is_entry : (dump : Dump) (log : List Event) (r : ℕ) (x : RootEntry) → root_at dump log r ≡ Some x → IsEntry dump r x
unfolding root_at
is_entry dump log r x is = elim (cases_lt r (length dump.roots)) [
  | inl lt ↦ dump-entry dump log r x (slice_get dump.roots r) (rw (lt-ltb r (length dump.roots) lt) at is)
  | inr le ↦
      let number : length dump.roots + (r - length dump.roots) ≡ r = omega arith in
      subst (λ (n : ℕ). IsEntry dump n x) number
      (event-entry dump log (r - length dump.roots) x (slice_get log (r - length dump.roots)) (rw (not-below r (length dump.roots) le) at is))
]

-- the object that the root of a number holds, if it holds one
abbrev pub held_at : Dump → List Event → ℕ → Option ℕ
held_at dump log r = option_map (λ (x : RootEntry). x.target) (root_at dump log r)

held-some : (entry : Option RootEntry) (t : ℕ) → option_map (λ (x : RootEntry). x.target) entry ≡ Some t → (x : RootEntry) × (entry ≡ Some x) × (x.target ≡ t)
held-some None t is = absurd cc
held-some (Some x) t is = let same : x.target ≡ t = cc in (x, refl, same)

pub root_none : (dump : Dump) (log : List Event) (r : ℕ) → None ≡ held_at dump log r → (x : RootEntry) → root_at dump log r ≡ Some x → ⊥
root_none dump log r none x is = let same : None ≡ Some x.target = none ∙ ap (option_map (λ (x : RootEntry). x.target)) is in absurd (cc)

pub root_some : (dump : Dump) (log : List Event) (r t : ℕ) → Some t ≡ held_at dump log r → root_at dump log r ≡ Some (entry_to r t)
root_some dump log r t some =
    let found : (x : RootEntry) × (root_at dump log r ≡ Some x) × (x.target ≡ t) = held-some (root_at dump log r) t (sym some) in
    let number : found.0.number ≡ r = (is_entry dump log r found.0 found.1).number in
    found.1 ∙ ap (λ (n : ℕ). Some (entry_to n found.0.target)) number ∙ ap (λ (n : ℕ). Some (entry_to r n)) found.2

-- the number of the object that a root holds is below their count
pub held_within : (dump : Dump) (log : List Event) (r t : ℕ) → Some t ≡ held_at dump log r → t < length dump.objects
held_within dump log r t some =
    let found : (x : RootEntry) × (root_at dump log r ≡ Some x) × (x.target ≡ t) = held-some (root_at dump log r) t (sym some) in
    omega (arith, (is_entry dump log r found.0 found.1).object, found.2)

target-of-entry : (r : ℕ) (t : Option ℕ) → option_map (λ (x : RootEntry). x.target) (option_map (λ (target : ℕ). entry_to r target) t) ≡ t
target-of-entry r None = refl
target-of-entry r (Some t) = refl

standing-held : (dump : Dump) (log : List Event) (r id : ℕ) → is_dropped log r ≡ false
    → option_map (λ (x : RootEntry). x.target) (standing_root dump log r id) ≡ index_of dump.objects id
standing-held dump log r id stays =
    ap (λ (b : Bool). option_map (λ (x : RootEntry). x.target) (cond b None (option_map (λ (target : ℕ). entry_to r target) (index_of dump.objects id)))) stays
    ∙ target-of-entry r (index_of dump.objects id)

standing-dropped : (dump : Dump) (log : List Event) (r id : ℕ) → is_dropped log r ≡ true
    → option_map (λ (x : RootEntry). x.target) (standing_root dump log r id) ≡ None
standing-dropped dump log r id dropped =
    ap (λ (b : Bool). option_map (λ (x : RootEntry). x.target) (cond b None (option_map (λ (target : ℕ). entry_to r target) (index_of dump.objects id))))
    dropped

-- what a root of the dump holds, by whether it is dropped
module _ (dump : Dump) (log : List Event) (r : ℕ) (root : Root) (at : slice_get dump.roots r ≡ Some root) where
  dump-held : option_map (λ (x : RootEntry). x.target) (standing_root dump log r root.id) ≡ held_at dump log r
  dump-held = ap (option_map (λ (x : RootEntry). x.target)) (sym (root_of_dump dump log r root at))

  pub dump_held : is_dropped log r ≡ false → index_of dump.objects root.id ≡ held_at dump log r
  dump_held stays = sym (standing-held dump log r root.id stays) ∙ dump-held

  pub dump_dropped : is_dropped log r ≡ true → None ≡ held_at dump log r
  dump_dropped dropped = sym (standing-dropped dump log r root.id dropped) ∙ dump-held

root-by : (dump : Dump) (log : List Event) (r : ℕ) (at : Option Root) → slice_get dump.roots r ≡ at → is_dropped log r ≡ true → r < length dump.roots
    → None ≡ held_at dump log r
root-by dump log r None at dropped lt = let some : slice_get dump.roots r ≡ Some (get_or dump.roots r (record { kind = kinds.Unknown; id = 0 })) =
    slice_get-get_or dump.roots r (record { kind = kinds.Unknown; id = 0 }) lt in
    let same : None ≡ Some (get_or dump.roots r (record { kind = kinds.Unknown; id = 0 })) = sym at ∙ some in absurd (cc)
root-by dump log r (Some root) at dropped lt = dump_dropped dump log r root at dropped

-- a root of the dump that is dropped holds nothing
pub dump_dropped_at : (dump : Dump) (log : List Event) (r : ℕ) → r < length dump.roots → is_dropped log r ≡ true → None ≡ held_at dump log r
dump_dropped_at dump log r lt dropped = root-by dump log r (slice_get dump.roots r) refl dropped lt

-- what an edit adds
addition : (dump : Dump) (log : List Event) (k : ℕ) (edit : Edit) (id : ℕ) → added_id edit ≡ Some id
    → option_map (λ (x : RootEntry). x.target) (added_by dump log k (Some edit)) ≡ option_map (λ (x : RootEntry). x.target)
    (standing_root dump log (length dump.roots + k) id)
addition dump log k (edits.Cut i slot) id is = absurd cc
addition dump log k (edits.Clear i) id is = absurd cc
addition dump log k (edits.Drop n) id is = absurd cc
addition dump log k (edits.ClearAll references) id is = absurd cc
addition dump log k (edits.CutAll class i) id is = absurd cc
addition dump log k (edits.Add i) id is = let same : i ≡ id = cc in
    ap (λ (j : ℕ). option_map (λ (x : RootEntry). x.target) (standing_root dump log (length dump.roots + k) j)) same

no-addition : (dump : Dump) (log : List Event) (k : ℕ) (edit : Edit) → added_id edit ≡ None
    → option_map (λ (x : RootEntry). x.target) (added_by dump log k (Some edit)) ≡ None
no-addition dump log k (edits.Cut i slot) is = refl
no-addition dump log k (edits.Clear i) is = refl
no-addition dump log k (edits.Drop n) is = refl
no-addition dump log k (edits.ClearAll references) is = refl
no-addition dump log k (edits.CutAll class i) is = refl
no-addition dump log k (edits.Add i) is = absurd cc

-- what the root holds that an event adds, by its live edit
module _ (dump : Dump) (log : List Event) (k : ℕ) (r : Option Edit) (lt : k < length log)
    (is : (e : Event) → slice_get log k ≡ Some e → r ≡ live_edit log (k, e)) where
  event-held : option_map (λ (x : RootEntry). x.target) (added_by dump log k r) ≡ held_at dump log (length dump.roots + k)
  event-held = by_event log k lt (λ e at. ap (λ (o : Option Edit). option_map (λ (x : RootEntry). x.target) (added_by dump log k o)) (is e at)
      ∙ ap (option_map (λ (x : RootEntry). x.target)) (sym (root_of_event dump log k e at)))

  pub no_live_edit : r ≡ None → None ≡ held_at dump log (length dump.roots + k)
  no_live_edit none = sym (ap (λ (o : Option Edit). option_map (λ (x : RootEntry). x.target) (added_by dump log k o)) none) ∙ event-held

  added-held : (edit : Edit) → r ≡ Some edit → option_map (λ (x : RootEntry). x.target) (added_by dump log k (Some edit)) ≡ held_at dump log
      (length dump.roots + k)
  added-held edit some = sym (ap (λ (o : Option Edit). option_map (λ (x : RootEntry). x.target) (added_by dump log k o)) some) ∙ event-held

  pub adds_none : (edit : Edit) → r ≡ Some edit → added_id edit ≡ None → None ≡ held_at dump log (length dump.roots + k)
  adds_none edit some none = sym (no-addition dump log k edit none) ∙ added-held edit some

  pub added_dropped : (edit : Edit) (id : ℕ) → r ≡ Some edit → added_id edit ≡ Some id → is_dropped log (length dump.roots + k) ≡ true
      → None ≡ held_at dump log (length dump.roots + k)
  added_dropped edit id some adds dropped = sym (standing-dropped dump log (length dump.roots + k) id dropped) ∙ sym (addition dump log k edit id adds)
      ∙ added-held edit some

  pub added_held : (edit : Edit) (id : ℕ) → r ≡ Some edit → added_id edit ≡ Some id → is_dropped log (length dump.roots + k) ≡ false
      → index_of dump.objects id ≡ held_at dump log (length dump.roots + k)
  added_held edit id some adds stays = sym (standing-held dump log (length dump.roots + k) id stays) ∙ sym (addition dump log k edit id adds)
      ∙ added-held edit some

-- a root that holds an object isn't dropped
standing-parts : (dropped : Bool) (held : Option RootEntry) (x : RootEntry) → cond dropped None held ≡ Some x → (dropped ≡ false) × (held ≡ Some x)
standing-parts true held x is = absurd cc
standing-parts false held x is = (refl, is)

-- an edit that adds a root, and the entry of the root
adding : (r : ℕ) (what : What) (id : ℕ) → edit_of what ≡ Some (edits.Add id) → root_added r what ≡ Some (record { number = r; kind = None; id = id })
adding r (whats.Do (edits.Cut i slot)) id is = absurd cc
adding r (whats.Do (edits.Clear i)) id is = absurd cc
adding r (whats.Do (edits.Drop s)) id is = absurd cc
adding r (whats.Do (edits.ClearAll references)) id is = absurd cc
adding r (whats.Do (edits.CutAll class i)) id is = absurd cc
adding r (whats.Do (edits.Add i)) id is = let same : i ≡ id = cc in
    ap (λ (n : ℕ). let root : RootOn = record { number = r; kind = None; id = n } in Some root) same
adding r (whats.Undo k) id is = absurd cc

added-only : (r : ℕ) (what : What) (root : RootOn) → root_added r what ≡ Some root → (r ≡ root.number) × (edit_of what ≡ Some (edits.Add root.id))
added-only r (whats.Do (edits.Cut i slot)) root is = absurd cc
added-only r (whats.Do (edits.Clear i)) root is = absurd cc
added-only r (whats.Do (edits.Drop s)) root is = absurd cc
added-only r (whats.Do (edits.ClearAll references)) root is = absurd cc
added-only r (whats.Do (edits.CutAll class i)) root is = absurd cc
added-only r (whats.Do (edits.Add i)) root is =
    let entry : RootOn = record { number = r; kind = None; id = i } in
    let same : entry ≡ root = cc in
    (ap (λ (x : RootOn). x.number) same, ap (λ (x : RootOn). Some (edits.Add x.id)) same)
added-only r (whats.Undo k) root is = absurd cc

-- a live edit of an event is what the event does
live-does : (b : Bool) (what : What) (edit : Edit) → cond b (edit_of what) None ≡ Some edit → edit_of what ≡ Some edit
live-does true what edit is = is
live-does false what edit is = absurd cc

-- an event that adds a root, where its edit is live
live-adds : (b : Bool) (what : What) (id : ℕ) → edit_of what ≡ Some (edits.Add id) → adds_root (cond b (edit_of what) None) ≡ true
    → cond b (edit_of what) None ≡ Some (edits.Add id)
live-adds true what id is adds = is
live-adds false what id is adds = absurd cc

-- the entry of a root that stands is among those that stand
among : (dump : Dump) (log : List Event) (root : RootOn) (x : RootEntry) → Contains (root_entries dump log) root
    → root_stands (length dump.roots) log root.number ≡ true → held_by dump root ≡ Some x → Contains (standing dump log).roots x
among dump log root x c stands holds =
    filter_map_contains (held_by dump) (filter (λ (r : RootOn). root_stands (length dump.roots) log r.number) (root_entries dump log)) root x
    (filter_contains (λ (r : RootOn). root_stands (length dump.roots) log r.number) (root_entries dump log) root c stands) holds

-- what a list has a mapped list has
map_contains : {X Y : Type 0} (f : X → Y) (xs : List X) (x : X) → Contains xs x → Contains (map f xs) (f x)
map_contains f [] x c = absurd (Contains-nil x c)
map_contains f (z ∷ zs) x c = elim (Contains-cons_cases z zs x c) [
  | inl same ↦ (0, omega arith, ap f same)
  | inr later ↦ Contains-tail (f z) (map f zs) (f x) (map_contains f zs x later)
]

-- what a mapped list has is made of an element
map_only : {X Y : Type 0} (f : X → Y) (xs : List X) (y : Y) → Contains (map f xs) y → (x : X) × Contains xs x × (f x ≡ y)
map_only f [] y c = absurd (Contains-nil y c)
map_only f (z ∷ zs) y c = elim (Contains-cons_cases (f z) (map f zs) y c) [
  | inl same ↦ (z, Contains-head z zs, same)
  | inr later ↦ let r : (x : _) × Contains zs x × (f x ≡ y) = map_only f zs y later in (r.0, Contains-tail z zs r.0 r.1, r.2)
]

-- the numbers of roots that are there
pub number_of_dump : (dump : Dump) (log : List Event) (r : ℕ) → r < length dump.roots → is_dropped log r ≡ false → root_stands (length dump.roots) log r ≡ true
number_of_dump dump log r lt stays = rw (lt-ltb r (length dump.roots) lt, stays) refl

pub number_of_event : (dump : Dump) (log : List Event) (k : ℕ) (event : Event) → slice_get log k ≡ Some event
    → is_root (length dump.roots) log (length dump.roots + k) ≡ adds_root (live_edit log (k, event))
number_of_event dump log k event at =
    let number : (length dump.roots + k) - length dump.roots ≡ k = omega arith in
    ap (λ (b : Bool). b || adds_root (live_edit_at log ((length dump.roots + k) - length dump.roots)))
    (not-below (length dump.roots + k) (length dump.roots) (omega arith))
    ∙ ap (λ (n : ℕ). adds_root (live_edit_at log n)) number
    ∙ ap (λ (e : Option Event). adds_root (option_and_then (λ (x : Event). live_edit log (k, x)) e)) at

-- the entry of a root stands
stands-in_dump : (dump : Dump) (log : List Event) (r : ℕ) (x : RootEntry) (at : Option Root) → slice_get dump.roots r ≡ at → root_by dump log r at ≡ Some x
    → Contains (standing dump log).roots x
stands-in_dump dump log r x None at is = absurd cc
stands-in_dump dump log r x (Some root) at is =
    let lt : r < length dump.roots = slice_get_within dump.roots r root at in
    let parts = standing-parts (is_dropped log r) (held_by dump (dump_root (r, root))) x is in
    among dump log (dump_root (r, root)) x
    (Contains-append_left (map dump_root (enumerate_from 0 dump.roots)) (filter_map (added_root (length dump.roots)) (enumerate_from 0 log))
    (dump_root (r, root))
    (map_contains dump_root (enumerate_from 0 dump.roots) (r, root) (enumerate_contains dump.roots r root at)))
    (number_of_dump dump log r lt parts.0) parts.1

stands-by : (dump : Dump) (log : List Event) (k : ℕ) (x : RootEntry) (event : Event) (edit : Option Edit) → slice_get log k ≡ Some event
    → live_edit log (k, event) ≡ edit → added_by dump log k edit ≡ Some x → Contains (standing dump log).roots x
stands-by dump log k x event None at live is = absurd cc
stands-by dump log k x event (Some (edits.Cut id slot)) at live is = absurd cc
stands-by dump log k x event (Some (edits.Clear id)) at live is = absurd cc
stands-by dump log k x event (Some (edits.Drop r)) at live is = absurd cc
stands-by dump log k x event (Some (edits.ClearAll references)) at live is = absurd cc
stands-by dump log k x event (Some (edits.CutAll class i)) at live is = absurd cc
stands-by dump log k x event (Some (edits.Add id)) at live is =
    let root : RootOn = record { number = length dump.roots + k; kind = None; id = id } in
    let parts = standing-parts (is_dropped log (length dump.roots + k)) (held_by dump root) x is in
    let does : edit_of event.what ≡ Some (edits.Add id) = live-does (stays log k) event.what (edits.Add id) live in
    let there : is_root (length dump.roots) log (length dump.roots + k) ≡ true = number_of_event dump log k event at ∙ ap adds_root live in
    among dump log root x
    (Contains-append_right (map dump_root (enumerate_from 0 dump.roots)) (filter_map (added_root (length dump.roots)) (enumerate_from 0 log)) root
    (filter_map_contains (added_root (length dump.roots)) (enumerate_from 0 log) (k, event) root (enumerate_contains log k event at)
    (adding (length dump.roots + k) event.what id does)))
    (rw (there, parts.0) refl) parts.1

stands-added : (dump : Dump) (log : List Event) (k : ℕ) (x : RootEntry) (at : Option Event) → slice_get log k ≡ at → root_by_event dump log k at ≡ Some x
    → Contains (standing dump log).roots x
stands-added dump log k x None at is = absurd cc
stands-added dump log k x (Some event) at is = stands-by dump log k x event (live_edit log (k, event)) at refl is

pub root_stands_at : (dump : Dump) (log : List Event) (r : ℕ) (x : RootEntry) → root_at dump log r ≡ Some x → Contains (standing dump log).roots x
unfolding root_at
root_stands_at dump log r x is = elim (cases_lt r (length dump.roots)) [
  | inl lt ↦ stands-in_dump dump log r x (slice_get dump.roots r) refl (rw (lt-ltb r (length dump.roots) lt) at is)
  | inr le ↦ stands-added dump log (r - length dump.roots) x (slice_get log (r - length dump.roots)) refl (rw (not-below r (length dump.roots) le) at is)
]

-- both parts of what stands
both-parts : (a b : Bool) → (a && not b) ≡ true → (a ≡ true) × (b ≡ false)
both-parts true false h = (refl, refl)
both-parts true true h = absurd cc
both-parts false b h = absurd cc

-- each entry that stands is that of a root
pub root_has_number : (dump : Dump) (log : List Event) (x : RootEntry) → Contains (standing dump log).roots x → (r : ℕ) × (r < root_count dump log)
    × (root_at dump log r ≡ Some x)
root_has_number dump log x c =
    let n_roots = length dump.roots in
    let stands : RootOn → Bool = λ r. root_stands n_roots log r.number in
    let found : (root : RootOn) × Contains (filter stands (root_entries dump log)) root × (held_by dump root ≡ Some x) =
    filter_map_only (held_by dump) (filter stands (root_entries dump log)) x c in
    let root = found.0 in
    let passes = both-parts (is_root n_roots log root.number) (is_dropped log root.number) (filter_passes stands (root_entries dump log) root found.1) in
    elim (Contains-append_cases (map dump_root (enumerate_from 0 dump.roots)) (filter_map (added_root n_roots) (enumerate_from 0 log)) root
    (filter_only stands (root_entries dump log) root found.1)) [
      | inl first ↦
          let made : (n : ℕ × Root) × Contains (enumerate_from 0 dump.roots) n × (dump_root n ≡ root) =
          map_only dump_root (enumerate_from 0 dump.roots) root first in
          let n = made.0 in
          let entry : slice_get dump.roots n.0 ≡ Some n.1 = enumerate_only dump.roots n made.1 in
          let lt : n.0 < length dump.roots = slice_get_within dump.roots n.0 n.1 entry in
          let stays : is_dropped log n.0 ≡ false = ap (λ (y : RootOn). is_dropped log y.number) made.2 ∙ passes.1 in
          let holds : held_by dump (dump_root n) ≡ Some x = ap (held_by dump) made.2 ∙ found.2 in
          (n.0, omega arith, root_of_dump dump log n.0 n.1 entry ∙ ap (λ (b : Bool). cond b None (held_by dump (dump_root n))) stays ∙ holds)
      | inr later ↦
          let made : (n : ℕ × Event) × Contains (enumerate_from 0 log) n × (added_root n_roots n ≡ Some root) =
          filter_map_only (added_root n_roots) (enumerate_from 0 log) root later in
          let n = made.0 in
          let entry : slice_get log n.0 ≡ Some n.1 = enumerate_only log n made.1 in
          let lt : n.0 < length log = slice_get_within log n.0 n.1 entry in
          let adds = added-only (length dump.roots + n.0) n.1.what root made.2 in
          let there : adds_root (live_edit log n) ≡ true = sym (number_of_event dump log n.0 n.1 entry) ∙ ap (is_root n_roots log) adds.0 ∙ passes.0 in
          let live : live_edit log n ≡ Some (edits.Add root.id) = live-adds (stays log n.0) n.1.what root.id adds.1 there in
          let undropped : is_dropped log (length dump.roots + n.0) ≡ false = ap (is_dropped log) adds.0 ∙ passes.1 in
          let entry_of : ℕ → Option RootEntry = λ m. option_map (λ (target : ℕ). entry_to m target) (index_of dump.objects root.id) in
          let holds : entry_of (length dump.roots + n.0) ≡ Some x = ap entry_of adds.0 ∙ found.2 in (
            length dump.roots + n.0,
            omega arith,
            root_of_event dump log n.0 n.1 entry ∙ ap (added_by dump log n.0) live
                ∙ ap (λ (b : Bool). cond b None (entry_of (length dump.roots + n.0))) undropped ∙ holds,
          )
    ]
