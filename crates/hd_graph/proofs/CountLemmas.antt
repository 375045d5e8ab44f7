-- Counting the slots of objects.
use Rattle.std.proofs.Common.{◌≡◌, ◌∙◌, ℕ, ◌+◌, Bool, not, ◌&&◌, List, [], ◌∷◌, length, map, get_or, cond, eqb, Option, Some, None, refl, sym, ap, arith}
use Rattle.std.proofs.Common.{zero-add}
use Rattle.std.specs.Prelude.{count_by, sum_by, is_some, is_none}
use Rattle.std.specs.Option.{option_map}
use Rattle.std.specs.List.{filter_map, cons_option, enumerate_from}
use Rattle.std.proofs.lemmas.List.{ext_get_or, get_or-map, length-map}
use Rattle.std.proofs.lemmas.List.Concat.{length-flat_map}
use Rattle.std.proofs.lemmas.List.Sums.{sum_by-cons}
use Rattle.std.proofs.lemmas.Option.{get_or_from_slice_get}
use Rattle.hd_terms.specs.Dump.{SlotEntry, Object, Dump}
use Rattle.hd_terms.specs.Edges.{index_of, edge_of, edges_from, edges}
use Rattle.hd_terms.specs.Paths.{Edge}
use Rattle.hd_terms.specs.Counts.{is_unresolved, unresolved_of, counts_of}
use Rattle.hd_slots.specs.Table.{is_known, is_absent}
use Rattle.hd_shapes.specs.Shapes.{ObjectShape}
use Rattle.hd_graph.specs.Shapes.{HasShape, AreColumns, row_object, row_objects, shape_slots, slot_name, slot_kind}
use Rattle.hd_graph.specs.Counting.{is_edge, edges_of}
use Rattle.hd_graph.proofs.ArrayLemmas.{index_of-row_objects, rest-columns}
use Rattle.hd_graph.proofs.ShapeLemmas.{slot_of, slot-at, length-shape_slots}

-- what is counted or summed of a list by one rule, and by another that says the same of each element
module _ {X : Type 0} where
  count_by-alike : (p q : X → Bool) → ((x : X) → p x ≡ q x) → (xs : List X) → count_by p xs ≡ count_by q xs
  count_by-alike p q same [] = refl
  count_by-alike p q same (x ∷ xs) =
      sum_by-cons (λ y. cond (p y) 1 0) x xs ∙ ap (λ (b : Bool). cond b 1 0 + count_by p xs) (same x)
      ∙ ap (λ (n : ℕ). cond (q x) 1 0 + n) (count_by-alike p q same xs) ∙ sym (sum_by-cons (λ y. cond (q y) 1 0) x xs)

  sum_by-alike : (f g : X → ℕ) → ((x : X) → f x ≡ g x) → (xs : List X) → sum_by f xs ≡ sum_by g xs
  sum_by-alike f g same [] = refl
  sum_by-alike f g same (x ∷ xs) = sum_by-cons f x xs ∙ ap (λ (n : ℕ). n + sum_by f xs) (same x) ∙ ap (λ (n : ℕ). g x + n) (sum_by-alike f g same xs)
      ∙ sym (sum_by-cons g x xs)

-- the IDs in slots
count_by-ids : (p : ℕ → Bool) (ss : List SlotEntry) → count_by (λ (s : SlotEntry). p s.id) ss ≡ count_by p (map (λ (s : SlotEntry). s.id) ss)
count_by-ids p [] = refl
count_by-ids p (s ∷ ss) =
    sum_by-cons (λ (x : SlotEntry). cond (p x.id) 1 0) s ss ∙ ap (λ (n : ℕ). cond (p s.id) 1 0 + n) (count_by-ids p ss)
    ∙ sym (sum_by-cons (λ (x : ℕ). cond (p x) 1 0) s.id (map (λ (x : SlotEntry). x.id) ss))

-- those of an object's slots are those of its row
ids-of-slots : (shape : ObjectShape) (row : List ℕ) → HasShape shape row → map (λ (s : SlotEntry). s.id) (shape_slots shape row) ≡ row
ids-of-slots shape row fits =
    let ids : SlotEntry → ℕ = λ s. s.id in
    let ss = shape_slots shape row in
    let long : length (map ids ss) ≡ length row = length-map ss ids ∙ length-shape_slots shape row fits in
    ext_get_or 0 (map ids ss) row long
    (λ i lt.
    let entry = slot_of (slot_name shape (length row) i) (slot_kind shape (slot_name shape (length row) i)) (get_or row i 0) in
    get_or-map ids ss i entry 0 (omega (arith, lt, length-map ss ids))
    ∙ ap ids (get_or_from_slice_get ss i entry entry (slot-at shape row i fits (omega (arith, lt, long)))))

-- what is counted of the IDs in the slots of all objects is what is counted of their rows
rows-counted : (p : ℕ → Bool) (shapes : List ObjectShape) (ids : List ℕ) (rows : List (List ℕ)) → AreColumns shapes ids rows
    → sum_by (λ (x : Object). count_by (λ (s : SlotEntry). p s.id) x.slots) (row_objects shapes ids rows) ≡ sum_by (count_by p) rows
rows-counted p shapes [] [] h = refl
rows-counted p shapes [] (row ∷ rows) h = absurd (omega (arith, h.rows))
rows-counted p shapes (id ∷ ids) [] h = absurd (omega (arith, h.rows))
rows-counted p [] (id ∷ ids) (row ∷ rows) h = absurd (omega (arith, h.shapes))
rows-counted p (shape ∷ shapes) (id ∷ ids) (row ∷ rows) h =
    let f : Object → ℕ = λ x. count_by (λ (s : SlotEntry). p s.id) x.slots in
    let here : count_by (λ (s : SlotEntry). p s.id) (shape_slots shape row) ≡ count_by p row = count_by-ids p (shape_slots shape row)
    ∙ ap (count_by p) (ids-of-slots shape row h.fit.0) in
    sum_by-cons f (row_object shape id row) (row_objects shapes ids rows)
    ∙ ap (λ (n : ℕ). n + sum_by f (row_objects shapes ids rows)) here
    ∙ ap (λ (n : ℕ). count_by p row + n) (rows-counted p shapes ids rows (rest-columns shape shapes id ids row rows h))
    ∙ sym (sum_by-cons (count_by p) row rows)

module _ (shapes : List ObjectShape) (ids : List ℕ) (rows : List (List ℕ)) (columns : AreColumns shapes ids rows) where
  abbrev objects : List Object
  objects = row_objects shapes ids rows

  known-alike : (s : SlotEntry) → is_edge objects s ≡ is_known ids s.id
  known-alike s = ap is_some (index_of-row_objects shapes s.id ids rows columns)

  absent-alike : (s : SlotEntry) → is_unresolved objects s ≡ is_absent ids s.id
  absent-alike s = ap (λ (o : Option ℕ). not (eqb s.id 0) && is_none o) (index_of-row_objects shapes s.id ids rows columns)

  -- the slots that are edges are as many as the IDs that are objects'
  pub edges-known : sum_by (edges_of objects) objects ≡ sum_by (count_by (is_known ids)) rows
  edges-known =
      sum_by-alike (edges_of objects) (λ (x : Object). count_by (λ (s : SlotEntry). is_known ids s.id) x.slots)
      (λ x. count_by-alike (is_edge objects) (λ (s : SlotEntry). is_known ids s.id) known-alike x.slots) objects
      ∙ rows-counted (is_known ids) shapes ids rows columns

  -- and those that are unresolved as many as the IDs that are neither null nor an object's
  pub unresolved-absent : sum_by (unresolved_of objects) objects ≡ sum_by (count_by (is_absent ids)) rows
  unresolved-absent =
      sum_by-alike (unresolved_of objects) (λ (x : Object). count_by (λ (s : SlotEntry). is_absent ids s.id) x.slots)
      (λ x. count_by-alike (is_unresolved objects) (λ (s : SlotEntry). is_absent ids s.id) absent-alike x.slots) objects
      ∙ rows-counted (is_absent ids) shapes ids rows columns

module _ (objects : List Object) where
  -- the edges of one object are its slots that are edges
  slot-edge : (o : Option ℕ) (source : ℕ) (s : SlotEntry) (rest : List Edge)
      → length (cons_option (option_map (λ (target : ℕ). record { source = source; slot = s.slot; target = target; kind = s.kind }) o) rest) ≡ cond
      (is_some o) 1 0 + length rest
  slot-edge None source s rest = sym (zero-add (length rest))
  slot-edge (Some target) source s rest = omega arith

  edges-counted : (source : ℕ) (ss : List SlotEntry) → length (filter_map (edge_of objects source) ss) ≡ count_by (is_edge objects) ss
  edges-counted source [] = refl
  edges-counted source (s ∷ ss) =
      slot-edge (index_of objects s.id) source s (filter_map (edge_of objects source) ss) ∙ ap (λ (n : ℕ). cond (is_edge objects s) 1 0 + n)
      (edges-counted source ss)
      ∙ sym (sum_by-cons (λ x. cond (is_edge objects x) 1 0) s ss)

  all-counted : (n : ℕ) (xs : List Object) → sum_by (λ p. length (edges_from objects p)) (enumerate_from n xs) ≡ sum_by (edges_of objects) xs
  all-counted n [] = refl
  all-counted n (x ∷ xs) =
      sum_by-cons (λ p. length (edges_from objects p)) (n, x) (enumerate_from (n + 1) xs)
      ∙ ap (λ (m : ℕ). m + sum_by (λ p. length (edges_from objects p)) (enumerate_from (n + 1) xs)) (edges-counted n x.slots)
      ∙ ap (λ (m : ℕ). edges_of objects x + m) (all-counted (n + 1) xs)
      ∙ sym (sum_by-cons (edges_of objects) x xs)

-- the edges of a dump are the slots that are edges
pub length-edges : (dump : Dump) → length (edges dump) ≡ sum_by (edges_of dump.objects) dump.objects
length-edges dump = length-flat_map (edges_from dump.objects) (enumerate_from 0 dump.objects) ∙ all-counted dump.objects 0 dump.objects

-- the counts of a dump, one by one
pub counts-are : (dump : Dump) (objects roots slots unresolved repeated strings loads opaque : ℕ) → objects ≡ length dump.objects → roots ≡ length dump.roots
    → slots ≡ sum_by (edges_of dump.objects) dump.objects
    → unresolved ≡ sum_by (unresolved_of dump.objects) dump.objects → repeated ≡ dump.repeated.objects → strings ≡ dump.repeated.strings
    → loads ≡ dump.repeated.loads → opaque ≡ dump.opaque
    → (record {
      objects = objects;
      roots = roots;
      edges = slots;
      unresolved = unresolved;
      repeated_objects = repeated;
      repeated_strings = strings;
      repeated_loads = loads;
      opaque = opaque;
    }) ≡ counts_of dump
counts-are dump objects roots slots unresolved repeated strings loads opaque e1 e2 e3 e4 e5 e6 e7 e8 = let edges_are = e3 ∙ sym (length-edges dump) in cc
