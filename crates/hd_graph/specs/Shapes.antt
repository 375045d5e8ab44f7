-- What an object is, as far as its row of IDs doesn't say it, and the object of a shape, an ID and a row.
use Rattle.std.specs.Prelude.{◌≡◌, ℕ, ◌^◌, ◌-◌, ◌==◌, if◌then◌else◌, ◌<◌, ◌≤◌, ◌⊎◌, List, [], ◌∷◌, length, map, Option, None}
use Rattle.std.specs.List.{zip, position, slice_index_or, AllByRecursion, AllZip}
use Rattle.hd_terms.specs.declared.Group.{Group}
use Rattle.hd_terms.specs.declared.Group.TheVariants as groups
use Rattle.hd_terms.specs.declared.Slot.{Slot}
use Rattle.hd_terms.specs.declared.Slot.TheVariants as slots
use Rattle.hd_terms.specs.Records.{largest_file}
use Rattle.hd_terms.specs.Dump.{SlotEntry, Object}
use Rattle.hd_terms.specs.Slots.{strong_slot}
use Rattle.hd_terms.specs.declared.EdgeKind.{EdgeKind}
use Rattle.hd_terms.specs.declared.EdgeKind.TheVariants as kinds
use Rattle.hd_terms.specs.EditedDump.{slot_code, same_slot, is_slot}
use Rattle.hd_slots.specs.Cuts.{last_from}
use Rattle.hd_shapes.specs.Shapes.{ObjectShape, ObjectArray, PrimitiveArray, ClassObject, Instance, shape_bytes}
use Rattle.hd_graph.specs.Arrays.{row_slots, row_index}

-- what an object is counted under: an instance or an object array under its class, the last ID of its row
abbrev pub shape_group : ObjectShape → List ℕ → Group
shape_group (ObjectArray bytes) row = groups.Class (last_from 0 row)
shape_group (PrimitiveArray element bytes) row = groups.Prim element
shape_group (ClassObject bytes names) row = groups.Classes
shape_group (Instance bytes names referent kind) row = groups.Class (last_from 0 row)

-- the slots of names and the IDs in them
abbrev pub named_slots : List Slot → List ℕ → List SlotEntry
named_slots [] ids = []
named_slots (name ∷ names) [] = []
named_slots (name ∷ names) (id ∷ ids) = strong_slot name id ∷ named_slots names ids

-- the kind of the reference in a slot: a kind in the referent, and else strong
abbrev pub referent_kind : Option Slot → EdgeKind → Slot → EdgeKind
referent_kind referent kind slot = if is_slot slot referent then kind else kinds.Strong

-- a slot with that kind
abbrev pub with_kind : Option Slot → EdgeKind → SlotEntry → SlotEntry
with_kind referent kind e = record { slot = e.slot; kind = referent_kind referent kind e.slot; id = e.id }

abbrev pub shape_slots : ObjectShape → List ℕ → List SlotEntry
shape_slots (ObjectArray bytes) row = row_slots 0 row
shape_slots (PrimitiveArray element bytes) row = row_slots 0 row
shape_slots (ClassObject bytes names) row = named_slots names row
shape_slots (Instance bytes names referent kind) row = map (with_kind referent kind) (named_slots names row)

-- the name of the slot at the index `i` of an object with `n` slots: the last of an array is its class
abbrev pub slot_name : ObjectShape → ℕ → ℕ → Slot
slot_name (ObjectArray bytes) n i = if i == n - 1 then slots.OfClass else slots.Element i
slot_name (PrimitiveArray element bytes) n i = if i == n - 1 then slots.OfClass else slots.Element i
slot_name (ClassObject bytes names) n i = slice_index_or names i slots.OfClass
slot_name (Instance bytes names referent kind) n i = slice_index_or names i slots.OfClass

-- the kind of the reference in a slot of an object
abbrev pub slot_kind : ObjectShape → Slot → EdgeKind
slot_kind (ObjectArray bytes) slot = kinds.Strong
slot_kind (PrimitiveArray element bytes) slot = kinds.Strong
slot_kind (ClassObject bytes names) slot = kinds.Strong
slot_kind (Instance bytes names referent kind) slot = referent_kind referent kind slot

-- a class object or an instance has a name for an index
abbrev pub IsNamedAt : ObjectShape → ℕ → Type 0
IsNamedAt (ObjectArray bytes) i = Unit {0}
IsNamedAt (PrimitiveArray element bytes) i = Unit {0}
IsNamedAt (ClassObject bytes names) i = i < length names
IsNamedAt (Instance bytes names referent kind) i = i < length names

-- a class object or an instance has no more names than numbers of four bytes count
abbrev pub HasFewNames : ObjectShape → Type 0
HasFewNames (ObjectArray bytes) = Unit {0}
HasFewNames (PrimitiveArray element bytes) = Unit {0}
HasFewNames (ClassObject bytes names) = length names < 2 ^ 32
HasFewNames (Instance bytes names referent kind) = length names < 2 ^ 32

-- the index of a slot in an object with `n` slots
abbrev pub shape_index : ObjectShape → ℕ → Slot → Option ℕ
shape_index (ObjectArray bytes) n slot = row_index n slot
shape_index (PrimitiveArray element bytes) n slot = row_index n slot
shape_index (ClassObject bytes names) n slot = position (λ (name : Slot). same_slot name slot) names
shape_index (Instance bytes names referent kind) n slot = position (λ (name : Slot). same_slot name slot) names

-- the slot that is an object's referent
abbrev pub shape_referent : ObjectShape → Option Slot
shape_referent (ObjectArray bytes) = None
shape_referent (PrimitiveArray element bytes) = None
shape_referent (ClassObject bytes names) = None
shape_referent (Instance bytes names referent kind) = referent

-- the object of a shape, an ID and a row
abbrev pub row_object : ObjectShape → ℕ → List ℕ → Object
row_object shape id row = record {
  id = id;
  group = shape_group shape row;
  bytes = shape_bytes shape;
  slots = shape_slots shape row;
  referent = shape_referent shape;
}

-- the objects of shapes, IDs and rows
abbrev pub row_objects : List ObjectShape → List ℕ → List (List ℕ) → List Object
row_objects shapes ids rows = map (λ (p : ℕ × (List ℕ × ObjectShape)). row_object p.1.1 p.0 p.1.0) (zip ids (zip rows shapes))

-- no more bytes are recorded of an object than a file has
abbrev pub IsSmall : ObjectShape → Type 0
IsSmall shape = shape_bytes shape ≤ largest_file

-- a slot comes before another: by its kind, and then by its number
abbrev pub ComesBefore : Slot → Slot → Type 0
ComesBefore a b = ((slot_code a).0 < (slot_code b).0) ⊎ (((slot_code a).0 ≡ (slot_code b).0) × ((slot_code a).1 < (slot_code b).1))

-- each slot comes before all that follow
abbrev pub IsRising : List Slot → Type 0
IsRising [] = Unit {0}
IsRising (s ∷ ss) = AllByRecursion (ComesBefore s) ss × IsRising ss

-- the row of a class object or an instance has an ID for each of its names, and these rise
abbrev pub HasShape : ObjectShape → List ℕ → Type 0
HasShape (ObjectArray bytes) row = Unit {0}
HasShape (PrimitiveArray element bytes) row = Unit {0}
HasShape (ClassObject bytes names) row = (length names ≡ length row) × IsRising names
HasShape (Instance bytes names referent kind) row = (length names ≡ length row) × IsRising names

-- there is a row and a shape for each ID, and they fit
pub record AreColumns (ss : List ObjectShape) (ids : List ℕ) (rs : List (List ℕ)) : Type 0 where
  pub rows : length rs ≡ length ids
  pub shapes : length ss ≡ length ids
  pub fit : AllZip HasShape ss rs
