-- The edges that go through referents: one of an object at most, and object by object all of them.
use Rattle.std.proofs.Common.{◌≡◌, ◌∙◌, ℕ, zero, suc, ◌+◌, ◌-◌, ◌*◌, ◌<◌, ◌≤◌, ◌^◌, inl, inr, List, [], ◌∷◌, ◌++◌, length, map, get_or, take, Option, Some}
use Rattle.std.proofs.Common.{None, Result, Ok, IfOk, is_some, Bool, true, false, not, ◌&&◌, true≢false, refl, sym, ap, subst, arith, cond, eqb, eq-eqb, drop}
use Rattle.std.proofs.Common.{rules, length-append}
use Rattle.std.specs.Option.{option_map, option_and_then}
use Rattle.std.specs.List.{position, prefix_len, slice_get, slice_range, AllByRecursion, filter_map, flat_map, cons_option, enumerate_from}
use Rattle.std.proofs.lemmas.Bool.{cases_lt, lt-ltb, le-ltb}
use Rattle.std.proofs.lemmas.List.{append-nil, map-append, take_all, take-take, take-append-drop, drop-take, drop-drop, length-map}
use Rattle.std.proofs.lemmas.List.Edits.{between_none, between_more}
use Rattle.std.proofs.lemmas.List.FromFn.{length-enumerate_from, get_or-enumerate_from}
use Rattle.std.proofs.lemmas.Grind.{flat_map-append}
use Rattle.std.proofs.lemmas.Option.{same_Some, get_or_from_slice_get, slice_get_within}
use Rattle.hd_terms.specs.declared.Slot.{Slot}
use Rattle.hd_terms.specs.declared.Slot.TheVariants as slots
use Rattle.hd_terms.specs.declared.EdgeKind.{EdgeKind}
use Rattle.hd_terms.specs.declared.EdgeKind.TheVariants as kinds
use Rattle.hd_terms.specs.declared.RefKind.{RefKind}
use Rattle.hd_terms.specs.declared.RefKind.TheVariants as references
use Rattle.hd_terms.specs.Ranks.{kind_of_references, same_kind}
use Rattle.hd_terms.specs.Paths.{Edge}
use Rattle.hd_terms.specs.Dump.{SlotEntry, Object, no_object}
use Rattle.hd_terms.specs.EditedDump.{same_slot, slot_code}
use Rattle.hd_terms.specs.Edges.{index_of, edge_of, edges_from}
use Rattle.hd_terms.specs.Slots.{strong_slot}
use Rattle.hd_graph.specs.declared.kinds.KeptEdge.{KeptEdge}
use Rattle.hd_graph.specs.declared.kinds.KindLists.{KindLists}
use Rattle.hd_graph.specs.Arrays.{row_slots}
use Rattle.hd_shapes.specs.Shapes.{ObjectShape, ObjectArray, PrimitiveArray, ClassObject, Instance}
use Rattle.hd_graph.specs.Shapes.{named_slots, with_kind, referent_kind, shape_slots, shape_index, shape_referent, slot_name, slot_kind, row_objects}
use Rattle.hd_graph.specs.Shapes.{ComesBefore, IsRising, HasShape, HasFewNames, AreColumns}
use Rattle.hd_graph.specs.Kinds.{kept_of, kept_edge, of_kind, AreKept, edges_at, IsOnlyEdge, IsReferentEdge, KeepsEdgesOf, edges_between, AreKindsBetween}
use Rattle.hd_graph.specs.Kinds.{AreKindsOfPart, AreKinds, part_start}
use Rattle.hd_graph.proofs.ShapeLemmas.{differs, slot-at, slot_of, few-names}
use Rattle.hd_graph.proofs.ArrayLemmas.{any_shape, length-row_objects, slots-at, fit-at, index_of-row_objects}

-- where a part begins
pub part-order : (n part : ℕ) → part_start n part ≤ part_start n (part + 1)
part-order n part = let more : n * (part + 1) ≡ n * part + n = search rules in omega (arith, more)

pub part-within : (n part : ℕ) → part ≤ 4 → part_start n part ≤ n
part-within n part le = let few : n * part ≤ n * 4 = search rules in omega (arith, few)

-- an option that is no something
pub none-from_not : {X : Type 0} (o : Option X) → ((x : X) → o ≡ Some x → ⊥) → o ≡ None
none-from_not None h = refl
none-from_not (Some x) h = absurd (h x refl)

-- strong slots give no edge of a kind
abbrev IsStrong : SlotEntry → Type 0
IsStrong s = s.kind ≡ kinds.Strong

strong-other : (k : RefKind) → same_kind kinds.Strong (kind_of_references k) ≡ false
strong-other references.Soft = refl
strong-other references.Weak = refl
strong-other references.Final = refl
strong-other references.Phantom = refl

all-append : {X : Type 0} (P : X → Type 0) (xs ys : List X) → AllByRecursion P xs → AllByRecursion P ys → AllByRecursion P (xs ++ ys)
all-append P [] ys hx hy = hy
all-append P (x ∷ xs) ys hx hy = (hx.0, all-append P xs ys hx.1 hy)

row-strong : (n : ℕ) (row : List ℕ) → AllByRecursion IsStrong (row_slots n row)
row-strong n [] = tt
row-strong n (id ∷ []) = (refl, tt)
row-strong n (id ∷ next ∷ row) = (refl, row-strong (n + 1) (next ∷ row))

named-strong : (names : List Slot) (ids : List ℕ) → AllByRecursion IsStrong (named_slots names ids)
named-strong [] ids = tt
named-strong (name ∷ names) [] = tt
named-strong (name ∷ names) (id ∷ ids) = (refl, named-strong names ids)

no-referent-strong : (kind : EdgeKind) (es : List SlotEntry) → AllByRecursion IsStrong (map (with_kind None kind) es)
no-referent-strong kind [] = tt
no-referent-strong kind (e ∷ es) = (refl, no-referent-strong kind es)

-- the slots of other names
abbrev IsOther : Slot → Slot → Type 0
IsOther r name = same_slot name r ≡ false

others-strong : (r : Slot) (kind : EdgeKind) (names : List Slot) (ids : List ℕ) → AllByRecursion (IsOther r) names
    → AllByRecursion IsStrong (map (with_kind (Some r) kind) (named_slots names ids))
others-strong r kind [] ids all = tt
others-strong r kind (name ∷ names) [] all = tt
others-strong r kind (name ∷ names) (id ∷ ids) all = (ap (λ (b : Bool). cond b kind kinds.Strong) all.0, others-strong r kind names ids all.1)

-- names that come after one are others
after-others : (r name : Slot) (names : List Slot) → same_slot name r ≡ true → AllByRecursion (ComesBefore name) names → AllByRecursion (IsOther r) names
after-others r name [] same all = tt
after-others r name (n ∷ names) same all = (by_case (same_slot n r) refl, after-others r name names same all.1)
  where
    by_case : (b : Bool) → same_slot n r ≡ b → IsOther r n
    by_case false e = e
    by_case true e = absurd (true≢false (sym same ∙ differs name n r all.0 e))

-- where none is found, all are others
none-found : (r : Slot) (names : List Slot) → length names ≤ prefix_len (λ (name : Slot). not (same_slot name r)) names → AllByRecursion (IsOther r) names
none-found r [] le = tt
none-found r (name ∷ names) le = by_case (same_slot name r) refl le (λ rest. none-found r names rest)
  where
    by_case : (b : Bool) → same_slot name r ≡ b → suc (length names) ≤ cond (not b) (1 + prefix_len (λ (n : Slot). not (same_slot n r)) names) 0
        → (length names ≤ prefix_len (λ (n : Slot). not (same_slot n r)) names → AllByRecursion (IsOther r) names) → AllByRecursion (IsOther r) (name ∷ names)
    by_case true e past more = absurd (omega (arith, past))
    by_case false e past more = (e, more (omega (arith, past)))

position-none : (r : Slot) (names : List Slot) → position (λ (name : Slot). same_slot name r) names ≡ None → AllByRecursion (IsOther r) names
position-none r names none =
    let n = prefix_len (λ (name : Slot). not (same_slot name r)) names in
    elim (cases_lt n (length names)) [
      | inl lt ↦
          let e : Some n ≡ None = sym (ap (λ (b : Bool). cond b (Some n) None) (lt-ltb n (length names) lt)) ∙ none in
          absurd cc
      | inr le ↦ none-found r names le
    ]

position-some : (r : Slot) (names : List Slot) (i : ℕ) → position (λ (name : Slot). same_slot name r) names ≡ Some i → (i < length names)
    × (prefix_len (λ (name : Slot). not (same_slot name r)) names ≡ i)
position-some r names i some =
    let n = prefix_len (λ (name : Slot). not (same_slot name r)) names in
    elim (cases_lt n (length names)) [
      | inl lt ↦
          let e : n ≡ i = same_Some n i (sym (ap (λ (b : Bool). cond b (Some n) None) (lt-ltb n (length names) lt)) ∙ some) in
          (omega (arith, e, lt), e)
      | inr le ↦
          let e : None ≡ Some i = sym (ap (λ (b : Bool). cond b (Some n) None) (le-ltb n (length names) le)) ∙ some in
          absurd cc
    ]

-- the first that is found has the name
name-at : (r : Slot) (names : List Slot) (i : ℕ) → i < length names → prefix_len (λ (name : Slot). not (same_slot name r)) names ≡ i
    → same_slot (get_or names i slots.OfClass) r ≡ true
name-at r [] i lt at = absurd (omega arith)
name-at r (name ∷ names) zero lt at = by_case (same_slot name r) at
  where
    by_case : (b : Bool) → cond (not b) (1 + prefix_len (λ (n : Slot). not (same_slot n r)) names) 0 ≡ 0 → b ≡ true
    by_case false first = absurd (omega (arith, first))
    by_case true first = refl
name-at r (name ∷ names) (suc i) lt at = by_case (same_slot name r) at (λ first. name-at r names i (omega (arith, lt)) first)
  where
    by_case : (b : Bool) → cond (not b) (1 + prefix_len (λ (n : Slot). not (same_slot n r)) names) 0 ≡ suc i
        → (prefix_len (λ (n : Slot). not (same_slot n r)) names ≡ i → same_slot (get_or names i slots.OfClass) r ≡ true)
        → same_slot (get_or names i slots.OfClass) r ≡ true
    by_case true first more = absurd (omega (arith, first))
    by_case false first more = more (omega (arith, first))

same-itself : (r : Slot) → same_slot r r ≡ true
same-itself r =
    ap (λ (b : Bool). b && eqb (slot_code r).1 (slot_code r).1) (eq-eqb (slot_code r).0 (slot_code r).0 refl)
    ∙ eq-eqb (slot_code r).1 (slot_code r).1 refl

module _ (objects : List Object) (o : ℕ) (k : RefKind) where
  abbrev among : List SlotEntry → List Edge
  among es = of_kind k (filter_map (edge_of objects o) es)

  -- a strong slot before others
  pass : (s : SlotEntry) (found : Option ℕ) (rest : List Edge) → s.kind ≡ kinds.Strong
      → of_kind k (cons_option (option_map (λ (target : ℕ). record { source = o; slot = s.slot; target = target; kind = s.kind }) found) rest) ≡ of_kind k rest
  pass s None rest strong = refl
  pass s (Some target) rest strong =
      let e : Edge = record { source = o; slot = s.slot; target = target; kind = s.kind } in
      ap (λ (kind : EdgeKind). cond (same_kind kind (kind_of_references k)) (e ∷ of_kind k rest) (of_kind k rest)) strong
      ∙ ap (λ (b : Bool). cond b (e ∷ of_kind k rest) (of_kind k rest)) (strong-other k)

  none-of-strong : (es : List SlotEntry) → AllByRecursion IsStrong es → among es ≡ []
  none-of-strong [] all = refl
  none-of-strong (s ∷ es) all = pass s (index_of objects s.id) (filter_map (edge_of objects o) es) all.0 ∙ none-of-strong es all.1

  -- one slot before such that give none
  alone : (found : Option Edge) (rest : List Edge) → of_kind k rest ≡ [] → of_kind k (cons_option found rest) ≡ of_kind k (cons_option found [])
  alone None rest none = none
  alone (Some e) rest none = ap (λ (es : List Edge). cond (same_kind e.kind (kind_of_references k)) (e ∷ es) es) none

  module _ (r : Slot) (kind : EdgeKind) where
    abbrev entry : List Slot → List ℕ → ℕ → SlotEntry
    entry names ids i = with_kind (Some r) kind (strong_slot (get_or names i slots.OfClass) (get_or ids i 0))

    only-one : (names : List Slot) (ids : List ℕ) (i : ℕ) → length names ≡ length ids → IsRising names → i < length names
        → prefix_len (λ (name : Slot). not (same_slot name r)) names ≡ i
        → among (map (with_kind (Some r) kind) (named_slots names ids)) ≡ of_kind k (cons_option (edge_of objects o (entry names ids i)) [])
    only-one [] ids i many rising lt at = absurd (omega arith)
    only-one (name ∷ names) [] i many rising lt at = absurd (omega arith)
    only-one (name ∷ names) (id ∷ ids) zero many rising lt at = by_case (same_slot name r) refl at
      where
        by_case : (b : Bool) → same_slot name r ≡ b → cond (not b) (1 + prefix_len (λ (n : Slot). not (same_slot n r)) names) 0 ≡ 0
            → among (map (with_kind (Some r) kind) (named_slots (name ∷ names) (id ∷ ids))) ≡ of_kind k
            (cons_option (edge_of objects o (entry (name ∷ names) (id ∷ ids) zero)) [])
        by_case false e first = absurd (omega (arith, first))
        by_case true e first =
            alone (edge_of objects o (with_kind (Some r) kind (strong_slot name id)))
            (filter_map (edge_of objects o) (map (with_kind (Some r) kind) (named_slots names ids)))
            (none-of-strong (map (with_kind (Some r) kind) (named_slots names ids)) (others-strong r kind names ids (after-others r name names e rising.0)))
    only-one (name ∷ names) (id ∷ ids) (suc i) many rising lt at =
        by_case (same_slot name r) refl at (λ first. only-one names ids i (omega (arith, many)) rising.1 (omega (arith, lt)) first)
      where
        by_case : (b : Bool) → same_slot name r ≡ b → cond (not b) (1 + prefix_len (λ (n : Slot). not (same_slot n r)) names) 0 ≡ suc i
            → (prefix_len (λ (n : Slot). not (same_slot n r)) names ≡ i → among (map (with_kind (Some r) kind) (named_slots names ids)) ≡ of_kind k
            (cons_option (edge_of objects o (entry names ids i)) []))
            → among (map (with_kind (Some r) kind) (named_slots (name ∷ names) (id ∷ ids))) ≡ of_kind k (cons_option (edge_of objects o (entry names ids i)) [])
        by_case true e first more = absurd (omega (arith, first))
        by_case false e first more =
            let s = with_kind (Some r) kind (strong_slot name id) in
            pass s (index_of objects s.id) (filter_map (edge_of objects o) (map (with_kind (Some r) kind) (named_slots names ids)))
            (ap (λ (b : Bool). cond b kind kinds.Strong) e)
            ∙ more (omega (arith, first))

  -- an object without a referent
  pub without-referent : (shape : ObjectShape) (row : List ℕ) → shape_referent shape ≡ None → among (shape_slots shape row) ≡ []
  without-referent (ObjectArray bytes) row none = none-of-strong (row_slots 0 row) (row-strong 0 row)
  without-referent (PrimitiveArray element bytes) row none = none-of-strong (row_slots 0 row) (row-strong 0 row)
  without-referent (ClassObject bytes names) row none = none-of-strong (named_slots names row) (named-strong names row)
  without-referent (Instance bytes names None kind) row none = none-of-strong (map (with_kind None kind) (named_slots names row))
      (no-referent-strong kind (named_slots names row))
  without-referent (Instance bytes names (Some r) kind) row none = absurd cc

  -- one whose referent is none of its slots
  pub without-slot : (shape : ObjectShape) (row : List ℕ) (r : Slot) → shape_referent shape ≡ Some r → shape_index shape (length row) r ≡ None
      → among (shape_slots shape row) ≡ []
  without-slot (ObjectArray bytes) row r is none = absurd cc
  without-slot (PrimitiveArray element bytes) row r is none = absurd cc
  without-slot (ClassObject bytes names) row r is none = absurd cc
  without-slot (Instance bytes names None kind) row r is none = absurd cc
  without-slot (Instance bytes names (Some q) kind) row r is none =
      let e : q ≡ r = same_Some q r is in
      ap (λ (x : Slot). among (map (with_kind (Some x) kind) (named_slots names row))) e
      ∙ none-of-strong (map (with_kind (Some r) kind) (named_slots names row)) (others-strong r kind names row (position-none r names none))

  -- one whose referent is the slot at an index
  pub with-slot : (shape : ObjectShape) (row : List ℕ) (r : Slot) (i : ℕ) → HasShape shape row → shape_referent shape ≡ Some r
      → shape_index shape (length row) r ≡ Some i
      → among (shape_slots shape row) ≡ of_kind k
      (cons_option (edge_of objects o (slot_of (slot_name shape (length row) i) (slot_kind shape (slot_name shape (length row) i)) (get_or row i 0))) [])
  with-slot (ObjectArray bytes) row r i fit is at = absurd cc
  with-slot (PrimitiveArray element bytes) row r i fit is at = absurd cc
  with-slot (ClassObject bytes names) row r i fit is at = absurd cc
  with-slot (Instance bytes names None kind) row r i fit is at = absurd cc
  with-slot (Instance bytes names (Some q) kind) row r i fit is at =
      let e : r ≡ q = sym (same_Some q r is) in
      let found = position-some q names i (subst (λ (x : Slot). position (λ (name : Slot). same_slot name x) names ≡ Some i) e at) in
      only-one q kind names row i fit.0 fit.1 found.0 found.1

-- that index is one of the row's
pub slot-within : (shape : ObjectShape) (row : List ℕ) (r : Slot) (i : ℕ) → HasShape shape row → shape_referent shape ≡ Some r
    → shape_index shape (length row) r ≡ Some i → i < length row
slot-within (ObjectArray bytes) row r i fit is at = absurd cc
slot-within (PrimitiveArray element bytes) row r i fit is at = absurd cc
slot-within (ClassObject bytes names) row r i fit is at = absurd cc
slot-within (Instance bytes names None kind) row r i fit is at = absurd cc
slot-within (Instance bytes names (Some q) kind) row r i fit is at = omega (arith, fit.0, (position-some r names i at).0)

-- the slot there has the kind of the referent
pub kind-there : (shape : ObjectShape) (row : List ℕ) (r : Slot) (i : ℕ) → shape_referent shape ≡ Some r → shape_index shape (length row) r ≡ Some i
    → slot_kind shape (slot_name shape (length row) i) ≡ slot_kind shape r
kind-there (ObjectArray bytes) row r i is at = absurd cc
kind-there (PrimitiveArray element bytes) row r i is at = absurd cc
kind-there (ClassObject bytes names) row r i is at = absurd cc
kind-there (Instance bytes names None kind) row r i is at = absurd cc
kind-there (Instance bytes names (Some q) kind) row r i is at =
    let e : r ≡ q = sym (same_Some q r is) in
    let found = position-some q names i (subst (λ (x : Slot). position (λ (name : Slot). same_slot name x) names ≡ Some i) e at) in
    ap (λ (b : Bool). cond b kind kinds.Strong) (name-at q names i found.0 found.1)
    ∙ sym (ap (λ (x : Slot). referent_kind (Some q) kind x) e ∙ ap (λ (b : Bool). cond b kind kinds.Strong) (same-itself q))

-- of the object of a number, by its shape and how many slots it has
module _ (shapes : List ObjectShape) (ids : List ℕ) (rows : List (List ℕ)) (h : AreColumns shapes ids rows) (o : ℕ) (lt : o < length ids) (shape : ObjectShape)
    (shaped : slice_get shapes o ≡ Some shape) (n : ℕ) (many : n ≡ length (get_or rows o [])) where
  abbrev made : List Object
  made = row_objects shapes ids rows

  abbrev row : List ℕ
  row = get_or rows o []

  there : o < length made
  there = omega (arith, lt, length-row_objects shapes ids rows h)

  shape-is : get_or shapes o any_shape ≡ shape
  shape-is = get_or_from_slice_get shapes o shape any_shape shaped

  slots-are : (get_or made o no_object).slots ≡ shape_slots shape row
  slots-are = slots-at shapes ids rows h any_shape o there ∙ ap (λ (s : ObjectShape). shape_slots s row) shape-is

  fit-there : HasShape shape row
  fit-there = subst (λ (s : ObjectShape). HasShape s row) shape-is (fit-at shapes rows h.fit any_shape o (omega (arith, lt, h.rows)))

  pub few-there : n < 2 ^ 32 → HasFewNames shape
  few-there few = few-names shape row fit-there (omega (arith, many, few))

  pub no-referent : shape_referent shape ≡ None → IsReferentEdge made o None
  no-referent none = λ (k : RefKind). ap (λ (ss : List SlotEntry). of_kind k (filter_map (edge_of made o) ss)) slots-are
      ∙ without-referent made o k shape row none

  pub no-slot : (r : Slot) → shape_referent shape ≡ Some r → shape_index shape n r ≡ None → IsReferentEdge made o None
  no-slot r is none = λ (k : RefKind).
      ap (λ (ss : List SlotEntry). of_kind k (filter_map (edge_of made o) ss)) slots-are
      ∙ without-slot made o k shape row r is (sym (ap (λ (m : ℕ). shape_index shape m r) many) ∙ none)

  module _ (r : Slot) (i : ℕ) (is : shape_referent shape ≡ Some r) (at_n : shape_index shape n r ≡ Some i) where
    at : shape_index shape (length row) r ≡ Some i
    at = sym (ap (λ (m : ℕ). shape_index shape m r) many) ∙ at_n

    pub within : i < length row
    within = slot-within shape row r i fit-there is at

    abbrev here : SlotEntry
    here = slot_of (slot_name shape (length row) i) (slot_kind shape (slot_name shape (length row) i)) (get_or row i 0)

    edges-are : (found : Option ℕ) → index_of made (get_or row i 0) ≡ found → (k : RefKind)
        → of_kind k (edges_at made o) ≡ of_kind k
        (cons_option (option_map (λ (target : ℕ). record { source = o; slot = here.slot; target = target; kind = here.kind }) found) [])
    edges-are found e k =
        ap (λ (ss : List SlotEntry). of_kind k (filter_map (edge_of made o) ss)) slots-are
        ∙ with-slot made o k shape row r i fit-there is at
        ∙ ap (λ (f : Option ℕ). of_kind k
        (cons_option (option_map (λ (target : ℕ). record { source = o; slot = here.slot; target = target; kind = here.kind }) f) [])) e

    slice_get-there : {X : Type 0} (xs : List X) (m : ℕ) (d : X) → m < length xs → slice_get xs m ≡ Some (get_or xs m d)
    slice_get-there [] m d le = absurd (omega arith)
    slice_get-there (x ∷ xs) zero d le = refl
    slice_get-there (x ∷ xs) (suc m) d le = slice_get-there xs m d (omega arith)

    -- the ID there, and the object that was found for it
    module _ (id : ℕ) (id_is : id ≡ get_or row i 0) (found : Option ℕ) (found_is : found ≡ position (λ x. eqb id x) ids) where
      found-there : index_of made (get_or row i 0) ≡ found
      found-there = index_of-row_objects shapes (get_or row i 0) ids rows h ∙ ap (λ (m : ℕ). position (λ x. eqb m x) ids) (sym id_is) ∙ sym found_is

      pub no-object : is_some found ≡ false → IsReferentEdge made o None
      no-object none = λ (k : RefKind). edges-are found found-there k ∙ by_case found none k
        where
          by_case : (f : Option ℕ) → is_some f ≡ false → (k : RefKind)
              → of_kind k (cons_option (option_map (λ (target : ℕ). record { source = o; slot = here.slot; target = target; kind = here.kind }) f) []) ≡ []
          by_case None e k = refl
          by_case (Some target) e k = absurd cc

      pub an-object : (kind : EdgeKind) → kind ≡ slot_kind shape r → is_some found ≡ true → IsOnlyEdge made o i kind
      an-object kind kind_is some = by_case found found-there some
        where
          by_case : (f : Option ℕ) → index_of made (get_or row i 0) ≡ f → is_some f ≡ true → IsOnlyEdge made o i kind
          by_case None e some = absurd cc
          by_case (Some target) e some = record {
            edge = record { source = o; slot = here.slot; target = target; kind = here.kind };
            kept =
                ap (option_and_then (λ (x : Object). option_and_then (edge_of made o) (slice_get x.slots i))) (slice_get-there made o no_object there)
                ∙ ap (λ (ss : List SlotEntry). option_and_then (edge_of made o) (slice_get ss i)) slots-are
                ∙ ap (option_and_then (edge_of made o)) (slot-at shape row i fit-there within)
                ∙ ap (option_map (λ (t : ℕ). record { source = o; slot = here.slot; target = t; kind = here.kind })) e;
            through = kind-there shape row r i is at ∙ sym kind_is;
            only = edges-are (Some target) e;
          }

-- lists of which none has anything
pub all-empty : (lists : KindLists) → lists.soft.items ≡ [] → lists.weak.items ≡ [] → lists.finals.items ≡ [] → lists.phantom.items ≡ [] → (k : RefKind)
    → kept_of lists k ≡ []
all-empty lists soft weak finals phantom references.Soft = soft
all-empty lists soft weak finals phantom references.Weak = weak
all-empty lists soft weak finals phantom references.Final = finals
all-empty lists soft weak finals phantom references.Phantom = phantom

-- what is kept of one object more
pub keeps-none : (objects : List Object) (o : ℕ) (lists : KindLists) → IsReferentEdge objects o None → KeepsEdgesOf objects o lists lists
keeps-none objects o lists none = λ (k : RefKind). record {
  more = [];
  goes_on = sym (append-nil (kept_of lists k));
  kept = sym (ap (λ (es : List Edge). map (λ (e : Edge). Some e) es) (none k));
  few = omega arith;
}

one-kept : (objects : List Object) (kept : KeptEdge) (e : Edge) → kept_edge objects kept ≡ Some e → (b : Bool)
    → AreKept objects (cond b (kept ∷ []) []) (cond b (e ∷ []) [])
one-kept objects kept e is true = ap (λ (x : Option Edge). x ∷ []) is
one-kept objects kept e is false = refl

one-or-none : (kept : KeptEdge) (b : Bool) → length (cond b (kept ∷ []) []) ≤ 1
one-or-none kept true = omega arith
one-or-none kept false = omega arith

pub keeps-one : (objects : List Object) (o index : ℕ) (kind : EdgeKind) (old new : KindLists) → IsOnlyEdge objects o index kind
    → ((k : RefKind) → kept_of new k ≡ kept_of old k ++ cond (same_kind kind (kind_of_references k)) ((record { source = o; index = index }) ∷ []) [])
    → KeepsEdgesOf objects o old new
keeps-one objects o index kind old new one pushed = λ (k : RefKind).
    let kept : KeptEdge = record { source = o; index = index } in
    let b = same_kind kind (kind_of_references k) in
    record {
      more = cond b (kept ∷ []) [];
      goes_on = pushed k;
      kept =
          one-kept objects kept one.edge one.kept b
          ∙ sym (ap (λ (es : List Edge). map (λ (e : Edge). Some e) es)
          (one.only k ∙ ap (λ (x : EdgeKind). cond (same_kind x (kind_of_references k)) (one.edge ∷ []) []) one.through));
      few = one-or-none kept b;
    }

filter-append : (k : RefKind) (xs ys : List Edge) → of_kind k (xs ++ ys) ≡ of_kind k xs ++ of_kind k ys
filter-append k [] ys = refl
filter-append k (x ∷ xs) ys = by_case (same_kind x.kind (kind_of_references k)) (filter-append k xs ys)
  where
    by_case : (b : Bool) → of_kind k (xs ++ ys) ≡ of_kind k xs ++ of_kind k ys → cond b (x ∷ of_kind k (xs ++ ys)) (of_kind k (xs ++ ys)) ≡ cond b
        (x ∷ of_kind k xs) (of_kind k xs) ++ of_kind k ys
    by_case true e = ap (λ (es : List Edge). x ∷ es) e
    by_case false e = e

-- two stretches of a list side by side
range-join : {X : Type 0} (xs : List X) (a b c : ℕ) → a ≤ b → b ≤ c → slice_range xs a c ≡ slice_range xs a b ++ slice_range xs b c
range-join xs a b c ab bc =
    let m = b - a in
    let n = c - b in
    let ys = drop a xs in
    ap (λ (k : ℕ). take k ys) (omega arith)
    ∙ sym (take-append-drop m (take (m + n) ys))
    ∙ ap (λ l. l ++ drop m (take (m + n) ys)) (take-take m (m + n) ys (omega arith))
    ∙ ap (λ l. take m ys ++ l) (drop-take m n ys ∙ ap (take n) (drop-drop m a xs ∙ ap (λ (k : ℕ). drop k xs) (omega arith)))

module _ (objects : List Object) where
  -- what is kept of two lists of edges
  kept-both : (k : RefKind) (xs ys : List KeptEdge) (es fs : List Edge) → AreKept objects xs (of_kind k es) → AreKept objects ys (of_kind k fs)
      → AreKept objects (xs ++ ys) (of_kind k (es ++ fs))
  kept-both k xs ys es fs one other =
      map-append (kept_edge objects) xs ys
      ∙ ap (λ (zs : List (Option Edge)). zs ++ map (kept_edge objects) ys) one
      ∙ ap (λ (zs : List (Option Edge)). map (λ (e : Edge). Some e) (of_kind k es) ++ zs) other
      ∙ sym (map-append (λ (e : Edge). Some e) (of_kind k es) (of_kind k fs))
      ∙ ap (λ (gs : List Edge). map (λ (e : Edge). Some e) gs) (sym (filter-append k es fs))

  -- of no object nothing is kept
  pub kinds-none : (start : ℕ) (lists : KindLists) → ((k : RefKind) → kept_of lists k ≡ []) → AreKindsBetween objects start start lists
  kinds-none start lists none = record {
    edges = λ (k : RefKind).
        ap (λ (ks : List KeptEdge). map (kept_edge objects) ks) (none k)
        ∙ ap (λ (ps : List (ℕ × Object)). map (λ (e : Edge). Some e) (of_kind k (flat_map (edges_from objects) ps)))
        (sym (between_none (enumerate_from 0 objects) start));
    few = λ (k : RefKind). omega (arith, ap (λ (ks : List KeptEdge). length ks) (none k));
  }

  -- the edges of one object more
  edges-next : (start o : ℕ) → start ≤ o → o < length objects → edges_between objects start (o + 1) ≡ edges_between objects start o ++ edges_at objects o
  edges-next start o le lt =
      let all = enumerate_from 0 objects in
      let d : ℕ × Object = (0, no_object) in
      ap (flat_map (edges_from objects)) (between_more all start o d le (omega (arith, lt, length-enumerate_from 0 objects)))
      ∙ flat_map-append (edges_from objects) (slice_range all start o) (get_or all o d ∷ [])
      ∙ ap (λ (p : ℕ × Object). edges_between objects start o ++ (edges_from objects p ++ [])) (get_or-enumerate_from 0 objects o d lt)
      ∙ ap (λ (n : ℕ). edges_between objects start o ++ (edges_from objects (n, get_or objects o no_object) ++ [])) (omega arith)
      ∙ ap (λ (es : List Edge). edges_between objects start o ++ es) (append-nil (edges_at objects o))

  pub kinds-next : (start o : ℕ) (old new : KindLists) → o < length objects → AreKindsBetween objects start o old → KeepsEdgesOf objects o old new
      → AreKindsBetween objects start (o + 1) new
  kinds-next start o old new lt h keeps = record {
    edges = λ (k : RefKind).
        let more = keeps k in
        ap (λ (ks : List KeptEdge). map (kept_edge objects) ks) more.goes_on
        ∙ kept-both k (kept_of old k) more.more (edges_between objects start o) (edges_at objects o) (h.edges k) more.kept
        ∙ ap (λ (es : List Edge). map (λ (e : Edge). Some e) (of_kind k es)) (sym (edges-next start o (omega (arith, h.few references.Soft)) lt));
    few = λ (k : RefKind).
        let more = keeps k in
        omega (arith, ap (λ (ks : List KeptEdge). length ks) more.goes_on, length-append (kept_of old k) more.more, more.few, h.few k);
  }

  -- two stretches of objects side by side
  pub kinds-join : (start middle end : ℕ) (one other both : KindLists) → AreKindsBetween objects start middle one → AreKindsBetween objects middle end other
      → ((k : RefKind) → kept_of both k ≡ kept_of one k ++ kept_of other k) → AreKindsBetween objects start end both
  kinds-join start middle end one other both h more joined =
      let all = enumerate_from 0 objects in
      let first : start ≤ middle = omega (arith, h.few references.Soft) in
      let second : middle ≤ end = omega (arith, more.few references.Soft) in
      let edges : edges_between objects start end ≡ edges_between objects start middle ++ edges_between objects middle end =
      ap (flat_map (edges_from objects)) (range-join all start middle end first second) ∙ flat_map-append (edges_from objects) (slice_range all start middle)
      (slice_range all middle end) in
      record {
        edges = λ (k : RefKind).
            ap (λ (ks : List KeptEdge). map (kept_edge objects) ks) (joined k)
            ∙ kept-both k (kept_of one k) (kept_of other k) (edges_between objects start middle) (edges_between objects middle end) (h.edges k) (more.edges k)
            ∙ ap (λ (es : List Edge). map (λ (e : Edge). Some e) (of_kind k es)) (sym edges);
        few = λ (k : RefKind). omega
            (arith, ap (λ (ks : List KeptEdge). length ks) (joined k), length-append (kept_of one k) (kept_of other k), h.few k, more.few k);
      }

  pub kinds-all : (n : ℕ) (lists : KindLists) → n ≡ length objects → n < 2 ^ 31 → AreKindsBetween objects 0 n lists → AreKinds objects lists
  kinds-all n lists is small h = record {
    edges = λ (k : RefKind).
        h.edges k ∙ ap (λ (ps : List (ℕ × Object)). map (λ (e : Edge). Some e) (of_kind k (flat_map (edges_from objects) ps)))
        (take_all (n - 0) (enumerate_from 0 objects) (omega (arith, is, length-enumerate_from 0 objects)));
    few = λ (k : RefKind). omega (arith, h.few k, small);
  }

  module _ {E : Type 0} where
    -- the parts from one on, each with its edges or with no memory for them
    abbrev pub ArePartsFrom : ℕ → List (Result KindLists E) → Type 0
    ArePartsFrom part [] = Unit {0}
    ArePartsFrom part (r ∷ rs) = IfOk r (AreKindsOfPart objects part) × ArePartsFrom (part + 1) rs

    parts-from : (part : ℕ) (rs : List (Result KindLists E)) (d : Result KindLists E)
        → ((i : ℕ) → i < length rs → IfOk (get_or rs i d) (AreKindsOfPart objects (part + i))) → ArePartsFrom part rs
    parts-from part [] d each = tt
    parts-from part (r ∷ rs) d each = (
      subst (λ (n : ℕ). IfOk r (AreKindsOfPart objects n)) (omega arith) (each 0 (omega arith)),
      parts-from (part + 1) rs d (λ i lt. subst (λ (n : ℕ). IfOk (get_or rs i d) (AreKindsOfPart objects n)) (omega arith) (each (suc i) (omega (arith, lt)))),
    )

    -- the first parts are joined, and the others are left
    pub record AreJoined (rest : List (Result KindLists E)) (lists : KindLists) : Type 0 where
      pub joined : ℕ
      pub four : joined + length rest ≡ 4
      pub left : ArePartsFrom joined rest
      pub kinds : AreKindsBetween objects 0 (part_start (length objects) joined) lists

    pub none-joined : (rs : List (Result KindLists E)) (d : Result KindLists E) (lists : KindLists) → length rs ≡ 4
        → ((i : ℕ) → i < 4 → IfOk (get_or rs i d) (AreKindsOfPart objects i))
        → ((k : RefKind) → kept_of lists k ≡ []) → AreJoined rs lists
    none-joined rs d lists four each none = record {
      joined = 0;
      four = omega (arith, four);
      left = parts-from 0 rs d (λ i lt. subst (λ (n : ℕ). IfOk (get_or rs i d) (AreKindsOfPart objects n)) (omega arith) (each i (omega (arith, lt, four))));
      kinds = subst (λ (n : ℕ). AreKindsBetween objects 0 n lists) (omega arith) (kinds-none 0 lists none);
    }

    pub next-joined : (rest rs : List (Result KindLists E)) (old part new : KindLists) → AreJoined rest old → rest ≡ Ok part ∷ rs
        → ((k : RefKind) → kept_of new k ≡ kept_of old k ++ kept_of part k) → AreJoined rs new
    next-joined rest rs old part new h next joined =
        let left : ArePartsFrom h.joined (Ok part ∷ rs) = subst (ArePartsFrom h.joined) next h.left in
        record {
          joined = h.joined + 1;
          four = omega (arith, h.four, ap (λ (xs : List (Result KindLists E)). length xs) next);
          left = left.1;
          kinds = kinds-join 0 (part_start (length objects) h.joined) (part_start (length objects) (h.joined + 1)) old part new h.kinds left.0 joined;
        }

    pub all-joined : (rest : List (Result KindLists E)) (lists : KindLists) → length objects < 2 ^ 31 → AreJoined rest lists → length rest ≡ 0
        → AreKinds objects lists
    all-joined rest lists few h none =
        let four : h.joined ≡ 4 = omega (arith, h.four, none) in
        let all : part_start (length objects) h.joined ≡ length objects = ap (part_start (length objects)) four ∙ omega arith in
        kinds-all (part_start (length objects) h.joined) lists all (omega (arith, all, few)) h.kinds

  -- as many are kept as there are edges
  pub as-many-kept : (kept : List KeptEdge) (es : List Edge) → AreKept objects kept es → length kept ≡ length es
  as-many-kept kept es are = sym (length-map kept (kept_edge objects)) ∙ ap (λ (xs : List (Option Edge)). length xs) are ∙ length-map es (λ (e : Edge). Some e)

  -- what is kept at an index is an edge
  pub kept-at : (kept : List KeptEdge) (es : List Edge) (i : ℕ) (d : KeptEdge) → AreKept objects kept es → i < length es → (e : Edge)
      × (slice_get es i ≡ Some e) × (kept_edge objects (get_or kept i d) ≡ Some e)
  kept-at [] [] i d are lt = absurd (omega arith)
  kept-at [] (e ∷ es) i d are lt = absurd (omega (arith, as-many-kept [] (e ∷ es) are))
  kept-at (x ∷ kept) [] i d are lt = absurd (omega arith)
  kept-at (x ∷ kept) (e ∷ es) zero d are lt = (e, refl, ap (λ (xs : List (Option Edge)). get_or xs 0 None) are)
  kept-at (x ∷ kept) (e ∷ es) (suc i) d are lt = kept-at kept es i d (ap (λ (xs : List (Option Edge)). drop 1 xs) are) (omega (arith, lt))

  -- so it is a slot's
  pub slot-of-kept : (kept : KeptEdge) (e : Edge) → kept_edge objects kept ≡ Some e
      → (kept.source < length objects) × (s : SlotEntry) × (slice_get (get_or objects kept.source no_object).slots kept.index ≡ Some s)
      × (e.source ≡ kept.source) × (e.slot ≡ s.slot)
  slot-of-kept kept e is = of_object (slice_get objects kept.source) refl is
    where
      of_target : (s : SlotEntry) (found : Option ℕ)
          → option_map (λ (target : ℕ). record { source = kept.source; slot = s.slot; target = target; kind = s.kind }) found ≡ Some e
          → (e.source ≡ kept.source) × (e.slot ≡ s.slot)
      of_target s None none = absurd cc
      of_target s (Some target) some =
          let same : (record { source = kept.source; slot = s.slot; target = target; kind = s.kind }) ≡ e = same_Some _ _ some in
          (ap (λ (x : Edge). x.source) (sym same), ap (λ (x : Edge). x.slot) (sym same))

      of_slot : (x : Object) (found : Option SlotEntry) → slice_get x.slots kept.index ≡ found → option_and_then (edge_of objects kept.source) found ≡ Some e
          → (s : SlotEntry) × (slice_get x.slots kept.index ≡ Some s) × (e.source ≡ kept.source) × (e.slot ≡ s.slot)
      of_slot x None at some = absurd cc
      of_slot x (Some s) at some = let both = of_target s (index_of objects s.id) some in (s, at, both.0, both.1)

      of_object : (found : Option Object) → slice_get objects kept.source ≡ found
          → option_and_then (λ (x : Object). option_and_then (edge_of objects kept.source) (slice_get x.slots kept.index)) found ≡ Some e
          → (kept.source < length objects) × (s : SlotEntry) × (slice_get (get_or objects kept.source no_object).slots kept.index ≡ Some s)
          × (e.source ≡ kept.source) × (e.slot ≡ s.slot)
      of_object None at some = absurd cc
      of_object (Some x) at some =
          let slot = of_slot x (slice_get x.slots kept.index) refl some in
          let is_x : get_or objects kept.source no_object ≡ x = get_or_from_slice_get objects kept.source x no_object at in
          (slice_get_within objects kept.source x at, slot.0, ap (λ (y : Object). slice_get y.slots kept.index) is_x ∙ slot.1, slot.2, slot.3)
