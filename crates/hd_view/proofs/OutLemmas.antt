-- Edges from an object, slot by slot.
use Rattle.std.proofs.Common.{◌≡◌, ◌∙◌, ℕ, ◌+◌, ◌≤◌, Bool, true, false, not, ◌==◌, ◌&&◌, nat_le, is_some, List, length, take, slice_get, Option, Some, None}
use Rattle.std.proofs.Common.{refl, sym, ap, subst, arith}
use Rattle.std.specs.Option.{option_map}
use Rattle.std.specs.List.{count_by}
use Rattle.std.proofs.lemmas.Bool.{cond_both, and_parts, eqb-true, leb-true}
use Rattle.std.proofs.lemmas.Option.{get_or_from_slice_get, slice_get_within}
use Rattle.std.proofs.lemmas.List.{take_all, length-take-le}
use Rattle.std.proofs.lemmas.List.Sums.{count_by_more_yes, count_by_more_no, count_by-le-length}
use Rattle.hd_terms.specs.declared.Event.{Event}
use Rattle.hd_terms.specs.Paths.{Edge}
use Rattle.hd_terms.specs.Dump.{SlotEntry, Object, Dump, object_at}
use Rattle.hd_terms.specs.Edges.{index_of}
use Rattle.hd_terms.specs.EditedDump.{is_untouched}
use Rattle.hd_terms.specs.EdgeRows.{MarkedEdge, marked_edge, edges_of}
use Rattle.hd_view.specs.declared.finding.Cursor.{Cursor}
use Rattle.hd_view.specs.Finding.{is_edge, edges_before, edge_count, start_from, IsCursor, IsEdgeAt, IsMark}
use Rattle.hd_view.proofs.PickLemmas.{not_not, count_same, length_picked, picked_at}

-- a slot gives an edge where its ID is an object's
some-twice : {A B C : Type 0} (f : A → B) (g : B → C) (o : Option A) → is_some (option_map g (option_map f o)) ≡ is_some o
some-twice f g None = refl
some-twice f g (Some x) = refl

module _ (dump : Dump) (log : List Event) (x : Object) (o : ℕ) where
  pub is_some-marked : (s : SlotEntry) → is_some (marked_edge dump log x o s) ≡ is_edge dump s
  is_some-marked s = some-twice _ _ (index_of dump.objects s.id)

module _ (dump : Dump) (o : ℕ) where
  -- a slot that is an edge, and one that is none
  pub edges_more : (i : ℕ) (s : SlotEntry) → slice_get (object_at dump o).slots i ≡ Some s → is_edge dump s ≡ true
      → edges_before dump o (i + 1) ≡ edges_before dump o i + 1
  edges_more i s at hit =
      count_by_more_yes (is_edge dump) (object_at dump o).slots i s (slice_get_within (object_at dump o).slots i s at)
      (ap (is_edge dump) (get_or_from_slice_get (object_at dump o).slots i s s at) ∙ hit)

  pub edges_kept : (i : ℕ) (s : SlotEntry) → slice_get (object_at dump o).slots i ≡ Some s → is_edge dump s ≡ false
      → edges_before dump o (i + 1) ≡ edges_before dump o i
  edges_kept i s at miss =
      count_by_more_no (is_edge dump) (object_at dump o).slots i s (slice_get_within (object_at dump o).slots i s at)
      (ap (is_edge dump) (get_or_from_slice_get (object_at dump o).slots i s s at) ∙ miss)

  -- no more edges than slots
  pub edges_le : (i : ℕ) → i ≤ length (object_at dump o).slots → edges_before dump o i ≤ i
  edges_le i le = omega (arith, count_by-le-length (is_edge dump) (take i (object_at dump o).slots), length-take-le i (object_at dump o).slots le)

  -- all slots
  pub edges_all : (i : ℕ) → length (object_at dump o).slots ≤ i → edges_before dump o i ≡ edge_count dump o
  edges_all i end = ap (count_by (is_edge dump)) (take_all i (object_at dump o).slots end)

  module _ (log : List Event) where
    -- how many edges there are
    pub length_edges : length (edges_of dump log (o, object_at dump o)) ≡ edge_count dump o
    length_edges =
        length_picked (marked_edge dump log (object_at dump o) o) (object_at dump o).slots
        ∙ count_same (λ (s : SlotEntry). is_some (marked_edge dump log (object_at dump o) o s)) (is_edge dump) (is_some-marked dump log (object_at dump o) o)
        (object_at dump o).slots

    -- an edge by its index among the edges
    pub edge_there : (i slot : ℕ) (m : MarkedEdge) → IsEdgeAt dump o i slot → IsMark dump log o slot m
        → slice_get (edges_of dump log (o, object_at dump o)) i ≡ Some m
    edge_there i slot m at mark =
        let h : SlotEntry → Option MarkedEdge = marked_edge dump log (object_at dump o) o in
        let index : count_by (λ (s : SlotEntry). is_some (h s)) (take slot (object_at dump o).slots) ≡ i =
        count_same (λ (s : SlotEntry). is_some (h s)) (is_edge dump) (is_some-marked dump log (object_at dump o) o) (take slot (object_at dump o).slots)
        ∙ at.before in
        subst (λ (n : ℕ). slice_get (edges_of dump log (o, object_at dump o)) n ≡ Some m) index
        (picked_at h (object_at dump o).slots slot mark.entry m mark.there mark.is)

-- an edge that was found is where the next search begins
pub cursor_at : (dump : Dump) (o i slot : ℕ) → IsEdgeAt dump o i slot → IsCursor dump (record { object = o; edges = i; slot = slot })
cursor_at dump o i slot at = record { within = omega (arith, at.within); edges = sym at.before }

-- before the first slot there is no edge
pub cursor_first : (dump : Dump) (o : ℕ) → IsCursor dump (record { object = o; edges = 0; slot = 0 })
cursor_first dump o = record { within = omega arith; edges = refl }

-- an edge that is being looked for among the slots before one
pub record IsSought (dump : Dump) (o edge edges slot : ℕ) : Type 0 where
  pub within : slot ≤ length (object_at dump o).slots
  pub before : edges ≡ edges_before dump o slot
  pub upto : edges ≤ edge

-- where the search starts
pub start_is : (dump : Dump) (cursor : Cursor) (o edge : ℕ) → IsCursor dump cursor → IsSought dump o edge (start_from cursor o edge).edges
    (start_from cursor o edge).slot
start_is dump cursor o edge at =
    let first : Cursor = record { object = o; edges = 0; slot = 0 } in
    let test : Bool = (cursor.object == o) && nat_le cursor.edges edge in
    cond_both test cursor first (λ (c : Cursor). IsSought dump o edge c.edges c.slot)
    (λ hit.
    let parts = and_parts (cursor.object == o) (nat_le cursor.edges edge) hit in
    let same : cursor.object ≡ o = eqb-true cursor.object o parts.0 in
    let known : IsSought dump cursor.object edge cursor.edges cursor.slot =
    record { within = at.within; before = at.edges; upto = leb-true cursor.edges edge parts.1 } in
    subst (λ (n : ℕ). IsSought dump n edge cursor.edges cursor.slot) same known)
    (λ miss. record { within = omega arith; before = refl; upto = omega arith })

-- the edge of a slot that was read
pub mark_made : (dump : Dump) (log : List Event) (o index : ℕ) (s : SlotEntry) (t : ℕ) (removed : Bool) → slice_get (object_at dump o).slots index ≡ Some s
    → index_of dump.objects s.id ≡ Some t
    → removed ≡ not (is_untouched log (object_at dump o) s)
    → IsMark dump log o index (record { edge = record { source = o; slot = s.slot; target = t; kind = s.kind }; stands = not removed })
mark_made dump log o index s t removed at is taken =
    let x : Object = object_at dump o in
    let stands : not removed ≡ is_untouched log x s = ap not taken ∙ not_not (is_untouched log x s) in
    record {
      entry = s;
      there = at;
      is =
          ap (λ (u : Option ℕ). option_map (λ (e : Edge). record { edge = e; stands = is_untouched log x s })
          (option_map (λ (target : ℕ). record { source = o; slot = s.slot; target = target; kind = s.kind }) u)) is
          ∙ ap (λ (b : Bool). let m : MarkedEdge = record { edge = record { source = o; slot = s.slot; target = t; kind = s.kind }; stands = b } in Some m)
          (sym stands);
    }
