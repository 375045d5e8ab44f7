-- Lemmas on the slots of objects of any shape, and on their indexes.
use Rattle.std.proofs.Common.{◌≡◌, ◌∙◌, ℕ, zero, suc, ◌+◌, ◌-◌, ◌<◌, ◌≤◌, ◌^◌, inl, inr, List, [], ◌∷◌, length, map, get_or, Option, Some, None, Bool, true}
use Rattle.std.proofs.Common.{false, ◌&&◌, true≢false, refl, sym, ap, subst, arith, cond, eqb, eqb-true, eq-eqb, ne_eqb, ltb}
use Rattle.std.specs.List.{position, prefix_len, slice_get, AllByRecursion}
use Rattle.std.specs.Prelude.{not}
use Rattle.std.proofs.lemmas.List.{length-map}
use Rattle.std.proofs.lemmas.Bool.{cases_lt, lt-ltb, le-ltb}
use Rattle.std.proofs.lemmas.List.Sums.{prefix_len_passes, prefix_len_stops}
use Rattle.std.proofs.lemmas.Option.{slice_get_within, same_Some}
use Rattle.hd_terms.specs.declared.Slot.{Slot}
use Rattle.hd_terms.specs.declared.Slot.TheVariants as slots
use Rattle.hd_terms.specs.declared.EdgeKind.{EdgeKind}
use Rattle.hd_terms.specs.Dump.{SlotEntry}
use Rattle.hd_terms.specs.EditedDump.{same_slot, slot_code}
use Rattle.hd_terms.specs.Slots.{strong_slot}
use Rattle.hd_graph.specs.Arrays.{row_slots}
use Rattle.hd_shapes.specs.Shapes.{ObjectShape, ObjectArray, PrimitiveArray, ClassObject, Instance}
use Rattle.hd_graph.specs.Shapes.{named_slots, with_kind, shape_slots, slot_name, slot_kind, shape_index, ComesBefore, IsRising, HasShape, IsNamedAt}
use Rattle.hd_graph.specs.Shapes.{HasFewNames}
use Rattle.hd_graph.proofs.RowSlots.{length-row_slots, row_slots-class, row_slots-element, index-of-slot, first-index}

-- as many slots as IDs

length-named_slots : (names : List Slot) (ids : List ℕ) → length names ≡ length ids → length (named_slots names ids) ≡ length ids
length-named_slots [] [] many = refl
length-named_slots [] (id ∷ ids) many = absurd (omega arith)
length-named_slots (name ∷ names) [] many = absurd (omega arith)
length-named_slots (name ∷ names) (id ∷ ids) many = ap suc (length-named_slots names ids (omega arith))

pub length-shape_slots : (shape : ObjectShape) (row : List ℕ) → HasShape shape row → length (shape_slots shape row) ≡ length row
length-shape_slots (ObjectArray bytes) row fit = length-row_slots 0 row
length-shape_slots (PrimitiveArray element bytes) row fit = length-row_slots 0 row
length-shape_slots (ClassObject bytes names) row fit = length-named_slots names row fit.0
length-shape_slots (Instance bytes names referent kind) row fit = length-map (named_slots names row) (with_kind referent kind)
    ∙ length-named_slots names row fit.0

-- the slot at an index

named-at : (names : List Slot) (ids : List ℕ) (i : ℕ) → length names ≡ length ids → i < length ids
    → slice_get (named_slots names ids) i ≡ Some (strong_slot (get_or names i slots.OfClass) (get_or ids i 0))
named-at [] [] i many lt = absurd (omega arith)
named-at [] (id ∷ ids) i many lt = absurd (omega arith)
named-at (name ∷ names) [] i many lt = absurd (omega arith)
named-at (name ∷ names) (id ∷ ids) zero many lt = refl
named-at (name ∷ names) (id ∷ ids) (suc i) many lt = named-at names ids i (omega arith) (omega arith)

element-or-class : (row : List ℕ) (i : ℕ) → i < length row
    → slice_get (row_slots 0 row) i ≡ Some (strong_slot (cond (eqb i (length row - 1)) slots.OfClass (slots.Element i)) (get_or row i 0))
element-or-class row i lt = elim (cases_lt (suc i) (length row)) [
  | inl before ↦
      row_slots-element 0 row i before
      ∙ ap (λ (n : ℕ). Some (strong_slot (slots.Element n) (get_or row i 0))) (omega arith)
      ∙ ap (λ (b : Bool). Some (strong_slot (cond b slots.OfClass (slots.Element i)) (get_or row i 0)))
      (sym (ne_eqb i (length row - 1) (λ e. omega (arith, e))))
  | inr past ↦
      row_slots-class 0 row i (omega arith)
      ∙ ap (λ (b : Bool). Some (strong_slot (cond b slots.OfClass (slots.Element i)) (get_or row i 0))) (sym (eq-eqb i (length row - 1) (omega arith)))
]

-- a slot of a name, with a kind
abbrev pub slot_of : Slot → EdgeKind → ℕ → SlotEntry
slot_of slot kind id = record { slot = slot; kind = kind; id = id }

-- the slot at an index, with the kind that its name has
get-map : {X Y : Type 0} (f : X → Y) (xs : List X) (i : ℕ) (x : X) → slice_get xs i ≡ Some x → slice_get (map f xs) i ≡ Some (f x)
get-map f [] i x is = absurd cc
get-map f (y ∷ xs) zero x is = ap (λ z. Some (f z)) (same_Some _ _ is)
get-map f (y ∷ xs) (suc i) x is = get-map f xs i x is

get-unmap : {X Y : Type 0} (f : X → Y) (xs : List X) (i : ℕ) (y : Y) → slice_get (map f xs) i ≡ Some y → (x : X) × (slice_get xs i ≡ Some x) × (f x ≡ y)
get-unmap f [] i y is = absurd cc
get-unmap f (x ∷ xs) zero y is = (x, refl, same_Some _ _ is)
get-unmap f (x ∷ xs) (suc i) y is = get-unmap f xs i y is

pub slot-at : (shape : ObjectShape) (row : List ℕ) (i : ℕ) → HasShape shape row → i < length row
    → slice_get (shape_slots shape row) i ≡ Some (slot_of (slot_name shape (length row) i) (slot_kind shape (slot_name shape (length row) i)) (get_or row i 0))
slot-at (ObjectArray bytes) row i fit lt = element-or-class row i lt
slot-at (PrimitiveArray element bytes) row i fit lt = element-or-class row i lt
slot-at (ClassObject bytes names) row i fit lt = named-at names row i fit.0 lt
slot-at (Instance bytes names referent kind) row i fit lt = get-map (with_kind referent kind) (named_slots names row) i _ (named-at names row i fit.0 lt)

pub named-there : (shape : ObjectShape) (row : List ℕ) (i : ℕ) → HasShape shape row → i < length row → IsNamedAt shape i
named-there (ObjectArray bytes) row i fit lt = tt
named-there (PrimitiveArray element bytes) row i fit lt = tt
named-there (ClassObject bytes names) row i fit lt = omega (arith, fit.0)
named-there (Instance bytes names referent kind) row i fit lt = omega (arith, fit.0)

pub few-names : (shape : ObjectShape) (row : List ℕ) → HasShape shape row → length row < 2 ^ 32 → HasFewNames shape
few-names (ObjectArray bytes) row fit few = tt
few-names (PrimitiveArray element bytes) row fit few = tt
few-names (ClassObject bytes names) row fit few = omega (arith, fit.0)
few-names (Instance bytes names referent kind) row fit few = omega (arith, fit.0)

-- the index of a slot

and-left : (a b : Bool) → (a && b) ≡ true → a ≡ true
and-left true b e = refl
and-left false b e = absurd cc

and-right : (a b : Bool) → (a && b) ≡ true → b ≡ true
and-right true b e = e
and-right false b e = absurd cc

and-false-left : (a b : Bool) → a ≡ false → (a && b) ≡ false
and-false-left true b e = absurd cc
and-false-left false b e = refl

and-false-right : (a b : Bool) → b ≡ false → (a && b) ≡ false
and-false-right true b e = e
and-false-right false b e = refl

-- names of which those before an index are others, and the one at it is the slot
pub found-among : (names : List Slot) (slot : Slot) (i : ℕ) (d : Slot) → i < length names → i ≤ prefix_len (λ (name : Slot). not (same_slot name slot)) names
    → same_slot (get_or names i d) slot ≡ true
    → position (λ (name : Slot). same_slot name slot) names ≡ Some i
found-among names slot i d lt before here =
    let n = prefix_len (λ (name : Slot). not (same_slot name slot)) names in
    let at : n ≡ i = elim (cases_lt i n) [
      | inl more ↦ absurd (true≢false (sym (prefix_len_passes (λ (name : Slot). not (same_slot name slot)) names i d more) ∙ ap not here))
      | inr le ↦ omega arith
    ] in
    ap (λ (k : ℕ). cond (ltb k (length names)) (Some k) None) at ∙ ap (λ (b : Bool). cond b (Some i) None) (lt-ltb i (length names) lt)

-- one more is another
pub one-more-among : (names : List Slot) (slot : Slot) (i : ℕ) (d : Slot) → i < length names → i ≤ prefix_len (λ (name : Slot). not (same_slot name slot)) names
    → same_slot (get_or names i d) slot ≡ false
    → i + 1 ≤ prefix_len (λ (name : Slot). not (same_slot name slot)) names
one-more-among names slot i d lt before other = elim (cases_lt i (prefix_len (λ (name : Slot). not (same_slot name slot)) names)) [
  | inl more ↦ omega arith
  | inr le ↦
      let n = prefix_len (λ (name : Slot). not (same_slot name slot)) names in
      let at : n ≡ i = omega arith in
      let stops : not (same_slot (get_or names n d) slot) ≡ false = prefix_len_stops (λ (name : Slot). not (same_slot name slot)) names d (omega arith) in
      absurd (true≢false (sym (ap not other) ∙ sym (ap (λ (k : ℕ). not (same_slot (get_or names k d) slot)) at) ∙ stops))
]

-- all are others
pub none-among : (names : List Slot) (slot : Slot) → length names ≤ prefix_len (λ (name : Slot). not (same_slot name slot)) names
    → None ≡ position (λ (name : Slot). same_slot name slot) names
none-among names slot past =
    let n = prefix_len (λ (name : Slot). not (same_slot name slot)) names in
    sym (ap (λ (b : Bool). cond b (Some n) None) (le-ltb n (length names) past))

-- a slot that comes before another isn't that one
pub differs : (a b c : Slot) → ComesBefore a b → same_slot b c ≡ true → same_slot a c ≡ false
differs a b c before same =
    let kind : (slot_code b).0 ≡ (slot_code c).0 =
    eqb-true (slot_code b).0 (slot_code c).0 (and-left (eqb (slot_code b).0 (slot_code c).0) (eqb (slot_code b).1 (slot_code c).1) same) in
    let number : (slot_code b).1 ≡ (slot_code c).1 =
    eqb-true (slot_code b).1 (slot_code c).1 (and-right (eqb (slot_code b).0 (slot_code c).0) (eqb (slot_code b).1 (slot_code c).1) same) in
    by_case before kind number
  where
    by_case : ComesBefore a b → (slot_code b).0 ≡ (slot_code c).0 → (slot_code b).1 ≡ (slot_code c).1 → same_slot a c ≡ false
    by_case (inl less) kind number =
        and-false-left (eqb (slot_code a).0 (slot_code c).0) (eqb (slot_code a).1 (slot_code c).1)
        (ne_eqb (slot_code a).0 (slot_code c).0 (λ e. omega (arith, e, kind, less)))
    by_case (inr (even, less)) kind number =
        and-false-right (eqb (slot_code a).0 (slot_code c).0) (eqb (slot_code a).1 (slot_code c).1)
        (ne_eqb (slot_code a).1 (slot_code c).1 (λ e. omega (arith, e, number, less)))

-- what holds of all names holds of the name at an index
named-in : (P : Slot → Type 0) (names : List Slot) (ids : List ℕ) (i : ℕ) (e : SlotEntry) → AllByRecursion P names
    → slice_get (named_slots names ids) i ≡ Some e → P e.slot
named-in P [] ids i e all at = absurd cc
named-in P (name ∷ names) [] i e all at = absurd cc
named-in P (name ∷ names) (id ∷ ids) zero e all at = subst (λ (x : SlotEntry). P x.slot) (same_Some _ _ at) all.0
named-in P (name ∷ names) (id ∷ ids) (suc i) e all at = named-in P names ids i e all.1 at

-- the names before the one of a slot are others
prefix-at : (names : List Slot) (ids : List ℕ) (slot : Slot) (i : ℕ) (e : SlotEntry) → IsRising names → slice_get (named_slots names ids) i ≡ Some e
    → same_slot e.slot slot ≡ true
    → prefix_len (λ (name : Slot). not (same_slot name slot)) names ≡ i
prefix-at [] ids slot i e rising at same = absurd cc
prefix-at (name ∷ names) [] slot i e rising at same = absurd cc
prefix-at (name ∷ names) (id ∷ ids) slot zero e rising at same =
    let here : same_slot name slot ≡ true = ap (λ (x : SlotEntry). same_slot x.slot slot) (same_Some _ _ at) ∙ same in
    ap (λ (b : Bool). cond (not b) (1 + prefix_len (λ (n : Slot). not (same_slot n slot)) names) 0) here
prefix-at (name ∷ names) (id ∷ ids) slot (suc i) e rising at same =
    let more : 1 + i ≡ suc i = omega arith in
    let other : same_slot name slot ≡ false = differs name e.slot slot (named-in (ComesBefore name) names ids i e rising.0 at) same in
    ap (λ (b : Bool). cond (not b) (1 + prefix_len (λ (n : Slot). not (same_slot n slot)) names) 0) other
    ∙ ap (λ (n : ℕ). 1 + n) (prefix-at names ids slot i e rising.1 at same) ∙ more

index-of-named : (names : List Slot) (ids : List ℕ) (slot : Slot) (i : ℕ) (e : SlotEntry) → length names ≡ length ids → IsRising names
    → slice_get (named_slots names ids) i ≡ Some e → same_slot e.slot slot ≡ true
    → position (λ (name : Slot). same_slot name slot) names ≡ Some i
index-of-named names ids slot i e many rising at same =
    let within : i < length names = omega (arith, slice_get_within (named_slots names ids) i e at, length-named_slots names ids many) in
    ap (λ (n : ℕ). cond (ltb n (length names)) (Some n) None) (prefix-at names ids slot i e rising at same)
    ∙ ap (λ (b : Bool). cond b (Some i) None) (lt-ltb i (length names) within)

prefix-named : (names : List Slot) (ids : List ℕ) (slot : Slot) → length names ≡ length ids
    → prefix_len (λ (name : Slot). not (same_slot name slot)) names ≡ prefix_len (λ (e : SlotEntry). not (same_slot e.slot slot)) (named_slots names ids)
prefix-named [] ids slot many = refl
prefix-named (name ∷ names) [] slot many = absurd (omega arith)
prefix-named (name ∷ names) (id ∷ ids) slot many = ap (λ (n : ℕ). cond (not (same_slot name slot)) (1 + n) 0) (prefix-named names ids slot (omega arith))

first-named : (names : List Slot) (ids : List ℕ) (slot : Slot) → length names ≡ length ids
    → position (λ (name : Slot). same_slot name slot) names ≡ position (λ (e : SlotEntry). same_slot e.slot slot) (named_slots names ids)
first-named names ids slot many =
    ap (λ (n : ℕ). cond (ltb n (length names)) (Some n) None) (prefix-named names ids slot many)
    ∙ ap (λ (m : ℕ). cond (ltb (prefix_len (λ (e : SlotEntry). not (same_slot e.slot slot)) (named_slots names ids)) m)
    (Some (prefix_len (λ (e : SlotEntry). not (same_slot e.slot slot)) (named_slots names ids))) None)
    (many ∙ sym (length-named_slots names ids many))

-- a kind makes no difference to a slot's index
prefix-with-kind : (referent : Option Slot) (kind : EdgeKind) (slot : Slot) (es : List SlotEntry)
    → prefix_len (λ (e : SlotEntry). not (same_slot e.slot slot)) (map (with_kind referent kind) es) ≡ prefix_len
    (λ (e : SlotEntry). not (same_slot e.slot slot)) es
prefix-with-kind referent kind slot [] = refl
prefix-with-kind referent kind slot (e ∷ es) = ap (λ (n : ℕ). cond (not (same_slot e.slot slot)) (1 + n) 0) (prefix-with-kind referent kind slot es)

index-with-kind : (referent : Option Slot) (kind : EdgeKind) (slot : Slot) (es : List SlotEntry)
    → position (λ (e : SlotEntry). same_slot e.slot slot) (map (with_kind referent kind) es) ≡ position (λ (e : SlotEntry). same_slot e.slot slot) es
index-with-kind referent kind slot es =
    ap (λ (n : ℕ). cond (ltb n (length (map (with_kind referent kind) es))) (Some n) None) (prefix-with-kind referent kind slot es)
    ∙ ap (λ (m : ℕ). cond (ltb (prefix_len (λ (e : SlotEntry). not (same_slot e.slot slot)) es) m)
    (Some (prefix_len (λ (e : SlotEntry). not (same_slot e.slot slot)) es)) None) (length-map es (with_kind referent kind))

pub first-slot_index : (shape : ObjectShape) (row : List ℕ) (slot : Slot) → HasShape shape row → shape_index shape (length row) slot ≡ position
    (λ (e : SlotEntry). same_slot e.slot slot) (shape_slots shape row)
first-slot_index (ObjectArray bytes) row slot fit = first-index row slot
first-slot_index (PrimitiveArray element bytes) row slot fit = first-index row slot
first-slot_index (ClassObject bytes names) row slot fit = first-named names row slot fit.0
first-slot_index (Instance bytes names referent kind) row slot fit = first-named names row slot fit.0
    ∙ sym (index-with-kind referent kind slot (named_slots names row))

pub slot_index-of : (shape : ObjectShape) (row : List ℕ) (slot : Slot) (i : ℕ) (e : SlotEntry) → HasShape shape row
    → slice_get (shape_slots shape row) i ≡ Some e → same_slot e.slot slot ≡ true
    → shape_index shape (length row) slot ≡ Some i
slot_index-of (ObjectArray bytes) row slot i e fit at same = index-of-slot row slot i e at same
slot_index-of (PrimitiveArray element bytes) row slot i e fit at same = index-of-slot row slot i e at same
slot_index-of (ClassObject bytes names) row slot i e fit at same = index-of-named names row slot i e fit.0 fit.1 at same
slot_index-of (Instance bytes names referent kind) row slot i e fit at same =
    let plain = get-unmap (with_kind referent kind) (named_slots names row) i e at in
    index-of-named names row slot i plain.0 fit.0 fit.1 plain.1 (ap (λ (x : SlotEntry). same_slot x.slot slot) plain.2 ∙ same)
