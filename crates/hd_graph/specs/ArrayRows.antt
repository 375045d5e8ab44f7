-- The rows and shapes of objects, read from the file by their sub-records' spans.
-- Source: HPROF binary format, CLASS DUMP, INSTANCE DUMP, OBJECT ARRAY DUMP and PRIMITIVE ARRAY DUMP.
use Rattle.std.specs.Prelude.{◌≡◌, ℕ, zero, suc, ◌+◌, ◌*◌, ◌/◌, ◌≤◌, ◌==◌, if◌then◌else◌, map, List, [], ◌∷◌, ◌++◌, length, drop, sum_by, All, Option, Some}
use Rattle.std.specs.Prelude.{None}
use Rattle.std.specs.Option.{option_map, option_map_or, option_and_then}
use Rattle.std.specs.List.{filter_map}
use Rattle.byteorder.specs.Endian.{big_number}
use Rattle.hd_terms.specs.declared.IdSize.{IdSize}
use Rattle.hd_terms.specs.declared.Span.{Span}
use Rattle.hd_terms.specs.Records.{id_len}
use Rattle.hd_terms.specs.SubRecords.{ConstantItem, StaticItem, ClassItem, Item, ObjArray, PrimArray, Sub}
use Rattle.hd_terms.specs.SubRecords as subs
use Rattle.hd_terms.specs.Types.{element_len, is_id_type, value_len}
use Rattle.hd_subs.specs.Layout.{class_offset, array_class_offset}
use Rattle.hd_terms.specs.FirstRecords.{id_of_item}
use Rattle.hd_terms.specs.Classes.{LayoutField, ResolvedClass, layout_len, KnownClasses}
use Rattle.hd_terms.specs.Dump.{Root}
use Rattle.hd_terms.specs.declared.Slot.{Slot}
use Rattle.hd_terms.specs.declared.Slot.TheVariants as slots
use Rattle.hd_shapes.specs.Shapes.{ObjectShape, ObjectArray, PrimitiveArray, ClassObject, Instance}
use Rattle.hd_classes.specs.Firsts.{firsts}
use Rattle.hd_classes.specs.Known.{Known, known_by_number}
use Rattle.hd_slots.specs.Table.{id_at, HasIdAt}

-- `count` IDs of `n` bytes that stand one after another
abbrev pub ids_in : ℕ → ℕ → List ℕ → List ℕ
ids_in n zero bytes = []
ids_in n (suc count) bytes = big_number n bytes ∷ ids_in n count (drop n bytes)

-- how many IDs of a size a span has
abbrev pub id_count : IdSize → Span → ℕ
id_count size span = span.len / id_len size

-- the row of an array: its elements, and then its class
abbrev pub array_row : List ℕ → IdSize → ℕ → Span → List ℕ
array_row bytes size class elements = ids_in (id_len size) (id_count size elements) (drop elements.start bytes) ++ class ∷ []

-- the types and values of statics, and of constants
abbrev pub values_of_statics : List StaticItem → List (ℕ × Span)
values_of_statics statics = map (λ (s : StaticItem). (s.code, s.value)) statics

abbrev pub values_of_constants : List ConstantItem → List (ℕ × Span)
values_of_constants constants = map (λ (c : ConstantItem). (c.code, c.value)) constants

-- the IDs among values
abbrev pub value_ids : List ℕ → IdSize → List (ℕ × Span) → List ℕ
value_ids bytes size [] = []
value_ids bytes size (v ∷ vs) = if is_id_type v.0 then big_number (id_len size) (drop v.1.start bytes) ∷ value_ids bytes size vs else value_ids bytes size vs

-- the slots of those values, numbered from a number on
abbrev pub value_names : (ℕ → Slot) → ℕ → List (ℕ × Span) → List Slot
value_names slot i [] = []
value_names slot i (v ∷ vs) = if is_id_type v.0 then slot i ∷ value_names slot (i + 1) vs else value_names slot (i + 1) vs

-- the row of a class: the IDs in its statics and constants, then those of its super class, loader, signers and domain
abbrev pub class_row : List ℕ → IdSize → ClassItem → List ℕ
class_row bytes size c =
    value_ids bytes size (values_of_statics c.statics) ++ value_ids bytes size (values_of_constants c.constants)
    ++ c.super ∷ c.loader ∷ c.signers ∷ c.domain ∷ []

-- the names of its slots
abbrev pub class_names : ClassItem → List Slot
class_names c =
    value_names (λ i. slots.Static i) 0 (values_of_statics c.statics)
    ++ value_names (λ i. slots.Const i) 0 (values_of_constants c.constants)
    ++ slots.Super ∷ slots.Loader ∷ slots.Signers ∷ slots.Domain ∷ []

-- the bytes of its statics' values
abbrev pub static_bytes : List StaticItem → ℕ
static_bytes statics = sum_by (λ (s : StaticItem). s.value.len) statics

-- the types of the fields of a layout, and where their values lie, if they begin at an offset
abbrev pub placed_fields : IdSize → ℕ → List LayoutField → List (ℕ × Span)
placed_fields size at [] = []
placed_fields size at (f ∷ fs) = (f.code, record { start = at; len = value_len size f.code }) ∷ placed_fields size (at + value_len size f.code) fs

-- the layout of the class of a number
abbrev pub layout_by_number : Known → ℕ → List LayoutField
layout_by_number classes i = option_map_or (λ (k : ResolvedClass). k.layout) (known_by_number classes i) []

-- the row of an instance: the IDs in its fields, and then its class
abbrev pub instance_row : List ℕ → IdSize → ℕ → ℕ → List LayoutField → List ℕ
instance_row bytes size at class layout = value_ids bytes size (placed_fields size at layout) ++ class ∷ []

-- the slots of the fields of a layout that are references, numbered from a number on
abbrev pub field_names : ℕ → List LayoutField → List Slot
field_names i [] = []
field_names i (f ∷ fs) = if is_id_type f.code then slots.Field i ∷ field_names (i + 1) fs else field_names (i + 1) fs

-- the names of the slots of a layout: its fields that are references, and then the class
abbrev pub layout_names : List LayoutField → List Slot
layout_names layout = field_names 0 layout ++ slots.OfClass ∷ []

-- the shape of the instances of a class
abbrev pub layout_shape : IdSize → ResolvedClass → ObjectShape
layout_shape size k = Instance (layout_len size k.layout) (layout_names k.layout) (option_map (λ (i : ℕ). slots.Field i) k.referent) k.kind

-- an object by its ID, its row and its shape
abbrev pub ObjectEntry : Type 0
ObjectEntry = ℕ × List ℕ × ObjectShape

-- the class by whose layout `len` bytes of values are read
abbrev pub fitting : IdSize → ℕ → Option ResolvedClass → Option ResolvedClass
fitting size len k = option_and_then (λ (x : ResolvedClass). if len == layout_len size x.layout then Some x else None) k

-- an instance by the class by whose layout it is read, if there is one
abbrev pub instance_entry : List ℕ → IdSize → ℕ → ℕ → Span → Option ResolvedClass → ObjectEntry
instance_entry bytes size id class values None = (id, class ∷ [], ObjectArray values.len)
instance_entry bytes size id class values (Some k) = (id, instance_row bytes size values.start class k.layout, layout_shape size k)

-- the object of a sub-record. A primitive array has an empty row
abbrev pub entry_of_item : KnownClasses → List ℕ → IdSize → Item → Option ObjectEntry
entry_of_item known bytes size (subs.Root kind id) = None
entry_of_item known bytes size (subs.Class c) = Some (c.id, class_row bytes size c, ClassObject (static_bytes c.statics) (class_names c))
entry_of_item known bytes size (subs.Instance id class values) = Some (instance_entry bytes size id class values (fitting size values.len (known class)))
entry_of_item known bytes size (ObjArray id class elements) = Some (id, array_row bytes size class elements, ObjectArray elements.len)
entry_of_item known bytes size (PrimArray id element count) = Some (id, [], PrimitiveArray element (count * element_len element))

abbrev pub entry_of : KnownClasses → List ℕ → IdSize → Sub → Option ObjectEntry
entry_of known bytes size s = entry_of_item known bytes size s.item

-- the shape of the object of a sub-record, if it is one; the bytes of the file say nothing of it
abbrev pub shape_of_item : KnownClasses → IdSize → Item → Option ObjectShape
shape_of_item known size item = option_map (λ (a : ObjectEntry). a.2) (entry_of_item known [] size item)

-- the objects of sub-records, the first of each ID
abbrev pub entries_of : KnownClasses → List ℕ → IdSize → List Sub → List ObjectEntry
entries_of known bytes size list = firsts (λ (a : ObjectEntry). a.0) (filter_map (entry_of known bytes size) list)

abbrev pub object_id : Sub → Option ℕ
object_id s = id_of_item s.item

-- the IDs of the objects of sub-records, each once
abbrev pub object_ids : List Sub → List ℕ
object_ids list = firsts (λ (id : ℕ). id) (filter_map object_id list)

-- the root of a root sub-record
abbrev pub root_of_item : Item → Option Root
root_of_item (subs.Root kind id) = Some (record { kind = kind; id = id })
root_of_item (subs.Class c) = None
root_of_item (subs.Instance id class values) = None
root_of_item (ObjArray id class elements) = None
root_of_item (PrimArray id element count) = None

abbrev pub roots_in : List Sub → List Root
roots_in list = filter_map (λ (s : Sub). root_of_item s.item) list

abbrev pub class_weight : ClassItem → ℕ
class_weight c = 5 + length c.statics + length c.constants + static_bytes c.statics

-- at most how many slots, objects and recorded bytes a sub-record makes
abbrev pub item_weight : Item → ℕ
item_weight (subs.Root kind id) = 1
item_weight (subs.Class c) = class_weight c
item_weight (subs.Instance id class values) = 1 + values.len
item_weight (ObjArray id class elements) = 1 + elements.len
item_weight (PrimArray id element count) = 1 + count * element_len element

abbrev pub weight : List Sub → ℕ
weight list = sum_by (λ (s : Sub). item_weight s.item) list

-- a value lies in a file of `n` bytes, and has those of its type
pub record IsValueWithin (size : IdSize) (n : ℕ) (v : ℕ × Span) : Type 0 where
  pub within : v.1.start + v.1.len ≤ n
  pub typed : v.1.len ≡ value_len size v.0

-- so do the statics and constants of a class, and there are no more bytes of statics than in the file
pub record IsClassWithin (size : IdSize) (n : ℕ) (c : ClassItem) : Type 0 where
  pub statics : All (IsValueWithin size n) (values_of_statics c.statics)
  pub constants : All (IsValueWithin size n) (values_of_constants c.constants)
  pub bytes : static_bytes c.statics ≤ n

-- IDs that stand one after another from an offset of the file on: a class's super class, loader, signers and protection domain
abbrev pub links_at : List ℕ → IdSize → ℕ → List ℕ
links_at bytes size offset =
    id_at bytes size offset ∷ id_at bytes size (offset + id_len size) ∷ id_at bytes size (offset + 2 * id_len size) ∷ id_at bytes size
    (offset + 3 * id_len size) ∷ []

-- a class has these, and they lie in the file
pub record HasLinks (bytes : List ℕ) (size : IdSize) (offset : ℕ) (c : ClassItem) : Type 0 where
  pub within : offset + 4 * id_len size ≤ length bytes
  pub are : links_at bytes size offset ≡ c.super ∷ c.loader ∷ c.signers ∷ c.domain ∷ []

-- what the sub-record at an offset has lies in the file: values and elements, and the IDs of classes behind the tag, the ID and
-- the serial number, in an array behind its count too
abbrev pub IsItemWithin : IdSize → List ℕ → ℕ → Item → Type 0
IsItemWithin size bytes at (subs.Root kind id) = Unit {0}
IsItemWithin size bytes at (subs.Class c) = IsClassWithin size (length bytes) c × HasLinks bytes size (class_offset size at) c
IsItemWithin size bytes at (subs.Instance id class values) = (values.start + values.len ≤ length bytes) × HasIdAt bytes size (class_offset size at) class
IsItemWithin size bytes at (ObjArray id class elements) = (elements.start + elements.len ≤ length bytes) × HasIdAt bytes size (array_class_offset size at) class
IsItemWithin size bytes at (PrimArray id element count) = count * element_len element ≤ length bytes

abbrev pub IsSubWithin : IdSize → List ℕ → Sub → Type 0
IsSubWithin size bytes s = IsItemWithin size bytes s.offset s.item

-- sub-records whose values and elements lie in the file, and that are few enough for numbers of four bytes
pub record AreWithin (size : IdSize) (bytes : List ℕ) (list : List Sub) : Type 0 where
  pub each : All (IsSubWithin size bytes) list
  pub few : weight list ≤ 2147483647
