-- The rows of a dump under a log are those of what stands.
use Rattle.std.proofs.Common.{◌≡◌, ◌∙◌, inl, inr, ℕ, ◌<◌, ◌==◌, Bool, true, List, length, slice_get, Contains, Option, Some, None, refl, sym, ap, subst, arith}
use Rattle.std.specs.Option.{option_map}
use Rattle.std.specs.List.{filter, filter_map, flat_map, enumerate_from}
use Rattle.std.proofs.lemmas.Bool.{cases_lt, eqb-true, eq-eqb}
use Rattle.std.proofs.lemmas.Option.{get_or_from_slice_get, slice_get-get_or, slice_get_within}
use Rattle.std.proofs.lemmas.List.{get_or_past}
use Rattle.std.proofs.lemmas.List.Elements.{All-contains, filter_passes}
use Rattle.hd_terms.specs.declared.Event.{Event}
use Rattle.hd_terms.specs.Paths.{Edge, RootEntry}
use Rattle.hd_terms.specs.Dump.{SlotEntry, Object, Dump, no_object, object_at}
use Rattle.hd_terms.specs.Edges.{index_of, edge_of}
use Rattle.hd_terms.specs.EditedDump.{RootOn, is_untouched, standing_from, standing_edges, standing_roots, root_stands, root_entries, held_by}
use Rattle.hd_terms.specs.EdgeRows.{MarkedEdge, MarkedRoot, AreRows, marked_edge, edges_of, edges_into, marked_root, roots_on, rows_of}
use Rattle.hd_strength.proofs.Lists.{Contains-nil, flat_map_contains, flat_map_only, filter_map_contains, filter_map_only, filter_contains, filter_only}
use Rattle.hd_strength.proofs.Lists.{enumerate_contains, enumerate_only}
use Rattle.hd_strength.proofs.RowLemmas.{edge_to, index_of_within}

-- what is in a filtered list passes
passes : {X : Type 0} (p : X → Bool) (xs : List X) (x : X) → Contains (filter p xs) x → p x ≡ true
passes p xs x c = All-contains (λ y. p y ≡ true) (filter p xs) x (filter_passes p xs) c

-- an edge with whether it stands
abbrev pub mark_to : ℕ → SlotEntry → ℕ → Bool → MarkedEdge
mark_to o s target stands = record { edge = edge_to o s target; stands = stands }

-- the edge of a slot is of that slot
edge-by : (o : ℕ) (s : SlotEntry) (stands : Bool) (t : Option ℕ) (m : MarkedEdge)
    → option_map (λ (e : Edge). record { edge = e; stands = stands }) (option_map (λ (target : ℕ). edge_to o s target) t) ≡ Some m
    → (t ≡ Some m.edge.target) × (m ≡ mark_to o s m.edge.target stands)
edge-by o s stands None m is = absurd cc
edge-by o s stands (Some t) m is =
    let same : mark_to o s t stands ≡ m = cc in
    (ap (λ (x : MarkedEdge). Some x.edge.target) same, sym same ∙ ap (λ (x : MarkedEdge). mark_to o s x.edge.target stands) same)

-- a root with whether it stands is on what the root holds
root-by : (stands : Bool) (held : Option RootEntry) (m : MarkedRoot) → option_map (λ (x : RootEntry). record { root = x; stands = stands }) held ≡ Some m
    → (held ≡ Some m.root) × (m.stands ≡ stands)
root-by stands None m is = absurd cc
root-by stands (Some x) m is =
    let made : MarkedRoot = record { root = x; stands = stands } in
    let same : made ≡ m = cc in
    (ap (λ (y : MarkedRoot). Some y.root) same, sym (ap (λ (y : MarkedRoot). y.stands) same))

module _ (dump : Dump) (log : List Event) where
  -- an object by its number
  numbered : (n : ℕ × Object) → Contains (enumerate_from 0 dump.objects) n → (n.0 < length dump.objects) × (object_at dump n.0 ≡ n.1)
  numbered n c =
      let there : slice_get dump.objects n.0 ≡ Some n.1 = enumerate_only dump.objects n c in
      (slice_get_within dump.objects n.0 n.1 there, get_or_from_slice_get dump.objects n.0 n.1 no_object there)

  number-of : (o : ℕ) → o < length dump.objects → Contains (enumerate_from 0 dump.objects) (o, object_at dump o)
  number-of o lt = enumerate_contains dump.objects o (object_at dump o) (slice_get-get_or dump.objects o no_object lt)

  -- what is known of an edge from an object
  record IsOut (x : Object) (o : ℕ) (m : MarkedEdge) : Type 0 where
    slot : SlotEntry
    there : Contains x.slots slot
    target : index_of dump.objects slot.id ≡ Some m.edge.target
    is : m ≡ mark_to o slot m.edge.target (is_untouched log x slot)

  out-known : (x : Object) (o : ℕ) (m : MarkedEdge) → Contains (edges_of dump log (o, x)) m → IsOut x o m
  out-known x o m c =
      let (s, there, is) = filter_map_only (marked_edge dump log x o) x.slots m c in
      let parts = edge-by o s (is_untouched log x s) (index_of dump.objects s.id) m is in
      record { slot = s; there = there; target = parts.0; is = parts.1 }

  out-made : (x : Object) (o t : ℕ) (s : SlotEntry) → Contains x.slots s → index_of dump.objects s.id ≡ Some t
      → Contains (edges_of dump log (o, x)) (mark_to o s t (is_untouched log x s))
  out-made x o t s there is =
      filter_map_contains (marked_edge dump log x o) x.slots s (mark_to o s t (is_untouched log x s)) there
      (ap (λ (u : Option ℕ). option_map (λ (e : Edge). record { edge = e; stands = is_untouched log x s }) (option_map (λ (target : ℕ). edge_to o s target) u))
      is)

  out-source : (x : Object) (o : ℕ) (m : MarkedEdge) → Contains (edges_of dump log (o, x)) m → m.edge.source ≡ o
  out-source x o m c = ap (λ (y : MarkedEdge). y.edge.source) (out-known x o m c).is

  -- where there are edges there is an object
  out-within : (o : ℕ) (m : MarkedEdge) → Contains (edges_of dump log (o, object_at dump o)) m → o < length dump.objects
  out-within o m c = elim (cases_lt o (length dump.objects)) [
    | inl lt ↦ lt
    | inr past ↦
        let none : object_at dump o ≡ no_object = get_or_past dump.objects o no_object past in
        let nothing : Contains (edges_of dump log (o, no_object)) m = subst (λ (x : Object). Contains (edges_of dump log (o, x)) m) none c in
        absurd (Contains-nil m nothing)
  ]

  out-target : (o : ℕ) (m : MarkedEdge) → Contains (edges_of dump log (o, object_at dump o)) m → m.edge.target < length dump.objects
  out-target o m c =
      let known = out-known (object_at dump o) o m c in
      index_of_within dump.objects known.slot.id m.edge.target known.target

  out-stands : (o : ℕ) (m : MarkedEdge) → Contains (edges_of dump log (o, object_at dump o)) m → m.stands ≡ true → Contains (standing_edges dump log) m.edge
  out-stands o m c stands =
      let x : Object = object_at dump o in
      let known = out-known x o m c in
      let untouched : is_untouched log x known.slot ≡ true = sym (ap (λ (y : MarkedEdge). y.stands) known.is) ∙ stands in
      flat_map_contains (standing_from dump log) (enumerate_from 0 dump.objects) (o, x) m.edge (number-of o (out-within o m c))
      (filter_map_contains (edge_of dump.objects o) (filter (is_untouched log x) x.slots) known.slot m.edge
      (filter_contains (is_untouched log x) x.slots known.slot known.there untouched)
      (ap (option_map (λ (target : ℕ). edge_to o known.slot target)) known.target ∙ ap (λ (y : MarkedEdge). Some y.edge) (sym known.is)))

  out-all : (e : Edge) → Contains (standing_edges dump log) e → Contains (edges_of dump log (e.source, object_at dump e.source))
      (record { edge = e; stands = true })
  out-all e c =
      let (n, at, from) = flat_map_only (standing_from dump log) (enumerate_from 0 dump.objects) e c in
      let (s, kept, gives) = filter_map_only (edge_of dump.objects n.0) (filter (is_untouched log n.1) n.1.slots) e from in
      let untouched : is_untouched log n.1 s ≡ true = passes (is_untouched log n.1) n.1.slots s kept in
      let parts = edge-by n.0 s true (index_of dump.objects s.id) (record { edge = e; stands = true })
      (ap (option_map (λ (x : Edge). record { edge = x; stands = true })) gives) in
      let source : e.source ≡ n.0 = ap (λ (m : MarkedEdge). m.edge.source) parts.1 in
      let here : Contains (edges_of dump log (n.0, n.1)) (mark_to n.0 s e.target (is_untouched log n.1 s)) =
      out-made n.1 n.0 e.target s (filter_only (is_untouched log n.1) n.1.slots s kept) parts.0 in
      let same : mark_to n.0 s e.target (is_untouched log n.1 s) ≡ record { edge = e; stands = true } = ap (mark_to n.0 s e.target) untouched ∙ sym parts.1 in
      let there : Contains (edges_of dump log (n.0, n.1)) (record { edge = e; stands = true }) = subst (Contains (edges_of dump log (n.0, n.1))) same here in
      let of_object : Contains (edges_of dump log (n.0, object_at dump n.0)) (record { edge = e; stands = true }) =
      subst (λ (x : Object). Contains (edges_of dump log (n.0, x)) (record { edge = e; stands = true })) (sym (numbered n at).1) there in
      subst (λ (o : ℕ). Contains (edges_of dump log (o, object_at dump o)) (record { edge = e; stands = true })) (sym source) of_object

  -- an edge to an object is one from its source
  into-known : (o : ℕ) (m : MarkedEdge) → Contains (edges_into dump log o) m → (m.edge.source < length dump.objects) × (m.edge.target ≡ o)
      × Contains (edges_of dump log (m.edge.source, object_at dump m.edge.source)) m
  into-known o m c =
      let test : MarkedEdge → Bool = λ x. x.edge.target == o in
      let all : List MarkedEdge = flat_map (edges_of dump log) (enumerate_from 0 dump.objects) in
      let (n, at, from) = flat_map_only (edges_of dump log) (enumerate_from 0 dump.objects) m (filter_only test all m c) in
      let number = numbered n at in
      let source : m.edge.source ≡ n.0 = out-source n.1 n.0 m from in
      let of_object : Contains (edges_of dump log (n.0, object_at dump n.0)) m = subst (λ (x : Object). Contains (edges_of dump log (n.0, x)) m)
      (sym number.1) from in (
        omega (arith, number.0, source),
        eqb-true m.edge.target o (passes test all m c),
        subst (λ (k : ℕ). Contains (edges_of dump log (k, object_at dump k)) m) (sym source) of_object,
      )

  into-made : (o : ℕ) (m : MarkedEdge) → m.edge.target ≡ o → Contains (edges_of dump log (m.edge.source, object_at dump m.edge.source)) m
      → Contains (edges_into dump log o) m
  into-made o m target c =
      let source : ℕ = m.edge.source in
      filter_contains (λ (x : MarkedEdge). x.edge.target == o) (flat_map (edges_of dump log) (enumerate_from 0 dump.objects)) m
      (flat_map_contains (edges_of dump log) (enumerate_from 0 dump.objects) (source, object_at dump source) m (number-of source (out-within source m c)) c)
      (eq-eqb m.edge.target o target)

  -- roots
  abbrev stands_by : RootOn → Bool
  stands_by root = root_stands (length dump.roots) log root.number

  roots-only : (o : ℕ) (m : MarkedRoot) → Contains (roots_on dump log o) m → Contains (filter_map (marked_root dump log) (root_entries dump log)) m
  roots-only o m c = filter_only (λ (x : MarkedRoot). x.root.target == o) (filter_map (marked_root dump log) (root_entries dump log)) m c

  root-target : (o : ℕ) (m : MarkedRoot) → Contains (roots_on dump log o) m → m.root.target ≡ o
  root-target o m c = eqb-true m.root.target o (passes (λ (x : MarkedRoot). x.root.target == o) (filter_map (marked_root dump log) (root_entries dump log)) m c)

  root-stands : (o : ℕ) (m : MarkedRoot) → Contains (roots_on dump log o) m → m.stands ≡ true → Contains (standing_roots dump log) m.root
  root-stands o m c stands =
      let (root, among, is) = filter_map_only (marked_root dump log) (root_entries dump log) m (roots-only o m c) in
      let parts = root-by (stands_by root) (held_by dump root) m is in
      filter_map_contains (held_by dump) (filter (λ (r : RootOn). root_stands (length dump.roots) log r.number) (root_entries dump log)) root m.root
      (filter_contains (λ (r : RootOn). root_stands (length dump.roots) log r.number) (root_entries dump log) root among (sym parts.1 ∙ stands))
      parts.0

  root-all : (x : RootEntry) → Contains (standing_roots dump log) x → Contains (roots_on dump log x.target) (record { root = x; stands = true })
  root-all x c =
      let m : MarkedRoot = record { root = x; stands = true } in
      let test : RootOn → Bool = λ r. root_stands (length dump.roots) log r.number in
      let (root, kept, holds) = filter_map_only (held_by dump) (filter test (root_entries dump log)) x c in
      let stands : test root ≡ true = passes test (root_entries dump log) root kept in
      filter_contains (λ (y : MarkedRoot). y.root.target == x.target) (filter_map (marked_root dump log) (root_entries dump log)) m
      (filter_map_contains (marked_root dump log) (root_entries dump log) root m (filter_only test (root_entries dump log) root kept)
      (ap (option_map (λ (y : RootEntry). record { root = y; stands = test root })) holds
      ∙ ap (λ (b : Bool). let made : MarkedRoot = record { root = x; stands = b } in Some made) stands))
      (eq-eqb x.target x.target refl)

  -- the rows of every dump under every log are those of what stands
  pub lawful_rows : AreRows (rows_of dump log)
  lawful_rows = record {
    out_source = λ o x c. out-source (object_at dump o) o x c;
    out_target = out-target;
    out_stands = out-stands;
    out_all = out-all;
    into_source = λ o x c. (into-known o x c).0;
    into_out = λ o x. (λ c. let known = into-known o x c in (known.1, known.2), λ known. into-made o x known.0 known.1);
    root_target = root-target;
    root_stands = root-stands;
    root_all = root-all;
  }
