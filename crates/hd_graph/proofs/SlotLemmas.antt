-- The slots of objects that are made of shapes, IDs and rows.
use Rattle.std.proofs.Common.{◌≡◌, ◌∙◌, ℕ, ◌<◌, List, [], length, map, get_or, eqb, Option, Some, None, is_some, false, Bor, refl, ap, sym, subst, arith}
use Rattle.std.specs.List.{slice_get, position}
use Rattle.std.proofs.lemmas.List.{ext_get_or, get_or-map, length-map}
use Rattle.std.proofs.lemmas.Option.{same_Some, get_or_from_slice_get, slice_get-get_or}
use Rattle.hd_terms.specs.Dump.{SlotEntry, no_object}
use Rattle.hd_terms.specs.Edges.{index_of}
use Rattle.hd_terms.specs.declared.EdgeKind.{EdgeKind}
use Rattle.hd_terms.specs.declared.EdgeKind.TheVariants as kinds
use Rattle.hd_terms.specs.declared.Slot.{Slot}
use Rattle.hd_terms.specs.declared.Slot.TheVariants as slots
use Rattle.hd_shapes.specs.declared.shape.LayoutShape.{LayoutShape}
use Rattle.hd_shapes.specs.declared.shape.Shape as declared_shape
use Rattle.hd_shapes.specs.declared.shape.Shape.TheVariants as read
use Rattle.hd_shapes.specs.PackedShapes.{shape_view, layout_view}
use Rattle.hd_shapes.specs.Shapes.{ObjectShape}
use Rattle.hd_graph.specs.Shapes.{HasShape, IsNamedAt, referent_kind, slot_name, slot_kind, row_objects, AreColumns}
use Rattle.hd_graph.proofs.ArrayLemmas.{length-row_objects, index_of-row_objects, slots-at, length-slots-at, fit-at, any_shape}
use Rattle.hd_graph.proofs.ShapeLemmas.{slot_of, slot-at, named-there}

module _ (shapes : List ObjectShape) (ids : List ℕ) (rows : List (List ℕ)) (columns : AreColumns shapes ids rows) (o i : ℕ)
    (lt : o < length (row_objects shapes ids rows)) (within : i < length (get_or (row_objects shapes ids rows) o no_object).slots) where
  abbrev pub shape_here : ObjectShape
  shape_here = get_or shapes o any_shape

  abbrev pub row_here : List ℕ
  row_here = get_or rows o []

  -- the slot is one of the row
  pub in-row : i < length row_here
  in-row = omega (arith, within, length-slots-at shapes ids rows columns o lt)

  pub fits-here : HasShape shape_here row_here
  fits-here = fit-at shapes rows columns.fit any_shape o (omega (arith, lt, length-row_objects shapes ids rows columns, columns.rows))

  -- its name, its kind and its ID are those of the shape and of the row
  pub slot-here : slice_get (get_or (row_objects shapes ids rows) o no_object).slots i
      ≡ Some (slot_of (slot_name shape_here (length row_here) i) (slot_kind shape_here (slot_name shape_here (length row_here) i)) (get_or row_here i 0))
  slot-here = ap (λ (ss : List SlotEntry). slice_get ss i) (slots-at shapes ids rows columns any_shape o lt) ∙ slot-at shape_here row_here i fits-here in-row

  pub entry-here : (s : SlotEntry) → slice_get (get_or (row_objects shapes ids rows) o no_object).slots i ≡ Some s
      → slot_of (slot_name shape_here (length row_here) i) (slot_kind shape_here (slot_name shape_here (length row_here) i)) (get_or row_here i 0) ≡ s
  entry-here s at = same_Some _ s (sym slot-here ∙ at)

  -- the object that the slot refers to
  target-here : get_or (map (λ (s : SlotEntry). index_of (row_objects shapes ids rows) s.id) (get_or (row_objects shapes ids rows) o no_object).slots) i None
      ≡ get_or (map (λ (id : ℕ). position (λ x. eqb id x) ids) row_here) i None
  target-here =
      let objects = row_objects shapes ids rows in
      let entries = (get_or objects o no_object).slots in
      let entry = slot_of (slot_name shape_here (length row_here) i) (slot_kind shape_here (slot_name shape_here (length row_here) i)) (get_or row_here i 0) in
      get_or-map (λ (s : SlotEntry). index_of objects s.id) entries i entry None within
      ∙ ap (λ (s : SlotEntry). index_of objects s.id) (get_or_from_slice_get entries i entry entry slot-here)
      ∙ index_of-row_objects shapes (get_or row_here i 0) ids rows columns
      ∙ sym (get_or-map (λ (id : ℕ). position (λ x. eqb id x) ids) row_here i 0 None in-row)

  -- of the object's shape, as it was looked up
  module _ (shape : ObjectShape) (shaped : slice_get shapes o ≡ Some shape) where
    shape-is : get_or shapes o any_shape ≡ shape
    shape-is = get_or_from_slice_get shapes o shape any_shape shaped

    pub named-here : IsNamedAt shape i
    named-here = subst (λ (x : ObjectShape). IsNamedAt x i) shape-is (named-there shape_here row_here i fits-here in-row)

    pub kind-here : (s : SlotEntry) → slice_get (get_or (row_objects shapes ids rows) o no_object).slots i ≡ Some s
        → slot_kind shape (slot_name shape (length row_here) i) ≡ s.kind
    kind-here s at = ap (λ (x : ObjectShape). slot_kind x (slot_name x (length row_here) i)) (sym shape-is) ∙ ap (λ (e : SlotEntry). e.kind) (entry-here s at)

-- the objects that the slots of an object refer to
pub targets-here : (shapes : List ObjectShape) (ids : List ℕ) (rows : List (List ℕ)) → AreColumns shapes ids rows → (o : ℕ)
    → o < length (row_objects shapes ids rows)
    → map (λ (id : ℕ). position (λ x. eqb id x) ids) (get_or rows o []) ≡ map (λ (s : SlotEntry). index_of (row_objects shapes ids rows) s.id)
    (get_or (row_objects shapes ids rows) o no_object).slots
targets-here shapes ids rows columns o lt =
    let entries = (get_or (row_objects shapes ids rows) o no_object).slots in
    let by_entry : SlotEntry → Option ℕ = λ s. index_of (row_objects shapes ids rows) s.id in
    let by_id : ℕ → Option ℕ = λ id. position (λ x. eqb id x) ids in
    let long = length-map (get_or rows o []) by_id in
    let many = length-slots-at shapes ids rows columns o lt in
    ext_get_or None (map by_id (get_or rows o [])) (map by_entry entries) (long ∙ sym many ∙ sym (length-map entries by_entry))
    (λ i at. sym (target-here shapes ids rows columns o i lt (omega (arith, long, many))))

-- what isn't an instance has strong slots
pub strong-elsewhere : (shape : declared_shape.Shape) → ((layout : Bor LayoutShape) → shape ≡ read.Instance layout → ⊥) → (slot : Slot)
    → slot_kind (shape_view shape) slot ≡ kinds.Strong
strong-elsewhere (read.ObjectArray bytes) other slot = refl
strong-elsewhere (read.PrimitiveArray element bytes) other slot = refl
strong-elsewhere (read.Class class) other slot = refl
strong-elsewhere (read.Instance layout) other slot = absurd (other layout refl)

-- without a referent every slot is strong
strong-without : (referent : Option Slot) (kind : EdgeKind) (slot : Slot) → is_some referent ≡ false → referent_kind referent kind slot ≡ kinds.Strong
strong-without None kind slot none = refl
strong-without (Some r) kind slot none = absurd cc

-- the slots of an instance: the kind at an index where none is the referent, and the name there
module _ (layout : LayoutShape) (n i : ℕ) where
  pub strong-instance : is_some layout.referent ≡ false → slot_kind (layout_view layout) (slot_name (layout_view layout) n i) ≡ kinds.Strong
  strong-instance none = strong-without layout.referent layout.kind (slot_name (layout_view layout) n i) none

  pub name-of-instance : i < length layout.names.items → (name : Slot) → name ≡ get_or layout.names.items i name → slot_name (layout_view layout) n i ≡ name
  name-of-instance named name there = get_or_from_slice_get layout.names.items i name slots.OfClass (slice_get-get_or layout.names.items i name named
      ∙ ap (λ (s : Slot). Some s) (sym there))
