-- Sub-records of a segment, one after another.
-- Source: HPROF binary format, HEAP DUMP and HEAP DUMP SEGMENT. Any other tag than theirs is unknown.
use Rattle.std.specs.Prelude.{◌≡◌, ◌<◌, ℕ, ◌+◌, ◌*◌, Bool, true, ◌||◌, ◌==◌, nat_le, ◌&&◌, List, [], ◌∷◌, ◌++◌, length, map}
use Rattle.std.specs.List.{flat_map, concat, filter, zip, AllZip, AllByRecursion}
use Rattle.byteorder.specs.Endian.{big_number}
use Rattle.hd_terms.specs.declared.IdSize.{IdSize}
use Rattle.hd_terms.specs.declared.RootKind.{RootKind}
use Rattle.hd_terms.specs.declared.RootKind.TheVariants as roots
use Rattle.hd_terms.specs.declared.Span.{Span}
use Rattle.hd_terms.specs.Records.{id_len, Record, is_segment}
use Rattle.hd_terms.specs.Types.{is_element_type, element_len, is_type, value_len}

-- the tag of the ROOT sub-record of a kind
abbrev pub root_tag : RootKind → ℕ
root_tag roots.Unknown = 0xff
root_tag roots.JniGlobal = 0x01
root_tag roots.JniLocal = 0x02
root_tag roots.JavaFrame = 0x03
root_tag roots.NativeStack = 0x04
root_tag roots.StickyClass = 0x05
root_tag roots.ThreadBlock = 0x06
root_tag roots.MonitorUsed = 0x07
root_tag roots.Thread = 0x08

-- the bytes of a ROOT sub-record behind the object's ID: the ID of the JNI reference, u4 thread serial and u4 frame number,
-- u4 thread serial, u4 thread serial and u4 stack trace serial, or none
abbrev pub root_more : IdSize → RootKind → ℕ
root_more size roots.Unknown = 0
root_more size roots.JniGlobal = id_len size
root_more size roots.JniLocal = 8
root_more size roots.JavaFrame = 8
root_more size roots.NativeStack = 4
root_more size roots.StickyClass = 0
root_more size roots.ThreadBlock = 4
root_more size roots.MonitorUsed = 0
root_more size roots.Thread = 8

-- a list whose length stands before it in two bytes
pub record Counted (A : Type 0) : Type 0 where
  pub count : List ℕ
  pub items : List A

-- how such a list is spelled
abbrev pub counted_text : {A : Type 0} → (A → List ℕ) → Counted A → List ℕ
counted_text text c = c.count ++ flat_map text c.items

-- the count reads as the number of items, and each is one
pub record IsCounted {A : Type 0} (Is : A → Type 0) (c : Counted A) : Type 0 where
  pub count : length c.count ≡ 2
  pub many : length c.items ≡ big_number 2 c.count
  pub each : AllByRecursion Is c.items

-- the first items of such a list, which has more
pub record IsBegun {A : Type 0} (Is : A → Type 0) (c : Counted A) : Type 0 where
  pub count : length c.count ≡ 2
  pub more : length c.items < big_number 2 c.count
  pub each : AllByRecursion Is c.items

-- a constant or a static of a class: what names it, u1 type, the value. A constant is named by a u2 index into the constant
-- pool, a static by the ID of its name
pub record ClassValue : Type 0 where
  pub key : List ℕ
  pub code : ℕ
  pub value : List ℕ

abbrev pub value_text : ClassValue → List ℕ
value_text v = v.key ++ v.code ∷ v.value

-- its key has `n` bytes, and its value those of its type
pub record IsClassValue (size : IdSize) (n : ℕ) (v : ClassValue) : Type 0 where
  pub key : length v.key ≡ n
  pub known : is_type v.code ≡ true
  pub value : length v.value ≡ value_len size v.code

-- an instance field that a class declares: the ID of its name, u1 type
pub record ClassField : Type 0 where
  pub name : List ℕ
  pub code : ℕ

abbrev pub field_text : ClassField → List ℕ
field_text f = f.name ++ f.code ∷ []

pub record IsClassField (size : IdSize) (f : ClassField) : Type 0 where
  pub name : length f.name ≡ id_len size
  pub known : is_type f.code ≡ true

-- what stands in a CLASS DUMP before its lists: the ID of the class, u4 stack trace serial, the IDs of the super class, the
-- loader, the signers, the protection domain and two reserved ones, u4 instance size
pub record ClassHead : Type 0 where
  pub id : List ℕ
  pub serial : List ℕ
  pub super : List ℕ
  pub loader : List ℕ
  pub signers : List ℕ
  pub domain : List ℕ
  pub reserved : List ℕ
  pub instance : List ℕ

abbrev pub class_head_text : ClassHead → List ℕ
class_head_text h = h.id ++ h.serial ++ h.super ++ h.loader ++ h.signers ++ h.domain ++ h.reserved ++ h.instance

pub record IsClassHead (size : IdSize) (h : ClassHead) : Type 0 where
  pub id : length h.id ≡ id_len size
  pub serial : length h.serial ≡ 4
  pub super : length h.super ≡ id_len size
  pub loader : length h.loader ≡ id_len size
  pub signers : length h.signers ≡ id_len size
  pub domain : length h.domain ≡ id_len size
  pub reserved : length h.reserved ≡ 2 * id_len size
  pub instance : length h.instance ≡ 4

-- a sub-record by the bytes of its fields, in their order; what nobody asks for is kept as bytes too
pub data SubRecord : Type 0 where
  -- a ROOT of a kind: the object's ID, and what stands behind it
  RootOf : (kind : RootKind) → (id more : List ℕ) → SubRecord
  -- CLASS DUMP: its head, constants, statics, and the instance fields that it declares
  ClassDump : (head : ClassHead) → (constants statics : Counted ClassValue) → (fields : Counted ClassField) → SubRecord
  -- INSTANCE DUMP: ID, u4 stack trace serial, ID of the class, u4 bytes of the values, the values of the instance fields
  InstanceDump : (id serial class count values : List ℕ) → SubRecord
  -- OBJECT ARRAY DUMP: ID, u4 stack trace serial, u4 count, ID of the array class, the element IDs
  ObjectArray : (id serial count class : List ℕ) → (elements : List (List ℕ)) → SubRecord
  -- PRIMITIVE ARRAY DUMP: ID, u4 stack trace serial, u4 count, u1 type of the elements, the elements
  PrimitiveArray : (id serial count : List ℕ) → (element : ℕ) → (elements : List ℕ) → SubRecord

-- how a sub-record is spelled: its tag, and its fields
abbrev pub sub_record_text : SubRecord → List ℕ
sub_record_text (RootOf kind id more) = root_tag kind ∷ id ++ more
sub_record_text (ClassDump head constants statics fields) =
    0x20 ∷ class_head_text head ++ counted_text value_text constants ++ counted_text value_text statics ++ counted_text field_text fields
sub_record_text (InstanceDump id serial class count values) = 0x21 ∷ id ++ serial ++ class ++ count ++ values
sub_record_text (ObjectArray id serial count class elements) = 0x22 ∷ id ++ serial ++ count ++ class ++ concat elements
sub_record_text (PrimitiveArray id serial count element elements) = 0x23 ∷ id ++ serial ++ count ++ element ∷ elements

-- the bytes of an object array's elements
pub record AreElements (n : ℕ) (count : List ℕ) (elements : List (List ℕ)) : Type 0 where
  pub many : length elements ≡ big_number 4 count
  pub each : AllByRecursion (λ element. length element ≡ n) elements

-- each field has the bytes of its type
abbrev pub IsSubRecord : IdSize → SubRecord → Type 0
IsSubRecord size (RootOf kind id more) = (length id ≡ id_len size) × (length more ≡ root_more size kind)
IsSubRecord size (ClassDump head constants statics fields) =
    IsClassHead size head × IsCounted (IsClassValue size 2) constants × IsCounted (IsClassValue size (id_len size)) statics
    × IsCounted (IsClassField size) fields
IsSubRecord size (InstanceDump id serial class count values) =
    (length id ≡ id_len size) × (length serial ≡ 4) × (length class ≡ id_len size) × (length count ≡ 4) × (length values ≡ big_number 4 count)
IsSubRecord size (ObjectArray id serial count class elements) =
    (length id ≡ id_len size) × (length serial ≡ 4) × (length count ≡ 4) × (length class ≡ id_len size)
    × AreElements (id_len size) count elements
IsSubRecord size (PrimitiveArray id serial count element elements) =
    (length id ≡ id_len size) × (length serial ≡ 4) × (length count ≡ 4) × (is_element_type element ≡ true)
    × (length elements ≡ element_len element * big_number 4 count)

-- the sub-records of a body: their spellings, joined, are the body
pub record AreSubRecords (size : IdSize) (body : List ℕ) (subs : List SubRecord) : Type 0 where
  pub whole : body ≡ flat_map sub_record_text subs
  pub each : AllByRecursion (IsSubRecord size) subs

-- a tag that is read
abbrev pub is_known_tag : ℕ → Bool
is_known_tag tag = (tag == 0xff) || (nat_le 0x01 tag && nat_le tag 0x08) || (tag == 0x20) || (tag == 0x21) || (tag == 0x22) || (tag == 0x23)

-- a constant: its type, and where its value lies in the file
pub record ConstantItem : Type 0 where
  pub code : ℕ
  pub value : Span

-- a static: the ID of its name, its type, and where its value lies in the file
pub record StaticItem : Type 0 where
  pub name : ℕ
  pub code : ℕ
  pub value : Span

-- an instance field: the ID of its name, and its type
pub record FieldItem : Type 0 where
  pub name : ℕ
  pub code : ℕ

-- a class, by the IDs of its head and its lists
pub record ClassItem : Type 0 where
  pub id : ℕ
  pub super : ℕ
  pub loader : ℕ
  pub signers : ℕ
  pub domain : ℕ
  pub constants : List ConstantItem
  pub statics : List StaticItem
  pub fields : List FieldItem

-- the constants whose spellings begin at a place of the file, and the statics
abbrev pub constants_at : IdSize → ℕ → List ClassValue → List ConstantItem
constants_at size at [] = []
constants_at size at (v ∷ vs) =
    (record { code = v.code; value = record { start = at + 3; len = value_len size v.code } }) ∷ constants_at size (at + length (value_text v)) vs

abbrev pub statics_at : IdSize → ℕ → List ClassValue → List StaticItem
statics_at size at [] = []
statics_at size at (v ∷ vs) =
    (record { name = big_number (id_len size) v.key; code = v.code; value = record { start = at + id_len size + 1; len = value_len size v.code } })
    ∷ statics_at size (at + length (value_text v)) vs

abbrev pub field_item : IdSize → ClassField → FieldItem
field_item size f = record { name = big_number (id_len size) f.name; code = f.code }

-- the class of a CLASS DUMP whose tag lies at a place
abbrev pub class_item : IdSize → ℕ → ClassHead → Counted ClassValue → Counted ClassValue → Counted ClassField → ClassItem
class_item size at head constants statics fields = record {
  id = big_number (id_len size) head.id;
  super = big_number (id_len size) head.super;
  loader = big_number (id_len size) head.loader;
  signers = big_number (id_len size) head.signers;
  domain = big_number (id_len size) head.domain;
  constants = constants_at size (at + 1 + length (class_head_text head) + 2) constants.items;
  statics = statics_at size (at + 1 + length (class_head_text head) + length (counted_text value_text constants) + 2) statics.items;
  fields = map (field_item size) fields.items;
}

-- what a sub-record holds: numbers are what their bytes read as, values and element IDs a span of the file. Of a primitive
-- array its elements' type and how many there are
pub data Item : Type 0 where
  Root : (kind : RootKind) (id : ℕ) → Item
  Class : (class : ClassItem) → Item
  Instance : (id class : ℕ) (values : Span) → Item
  ObjArray : (id class : ℕ) (elements : Span) → Item
  PrimArray : (id element count : ℕ) → Item

-- a sub-record and the place of its tag in the file
pub record Sub : Type 0 where
  pub offset : ℕ
  pub item : Item

-- what a sub-record at a place holds
abbrev pub item_at : IdSize → ℕ → SubRecord → Item
item_at size at (RootOf kind id more) = Root kind (big_number (id_len size) id)
item_at size at (ClassDump head constants statics fields) = Class (class_item size at head constants statics fields)
item_at size at (InstanceDump id serial class count values) =
    Instance (big_number (id_len size) id) (big_number (id_len size) class) (record { start = at + 9 + 2 * id_len size; len = big_number 4 count })
item_at size at (ObjectArray id serial count class elements) =
    ObjArray (big_number (id_len size) id) (big_number (id_len size) class)
    (record { start = at + 9 + 2 * id_len size; len = id_len size * big_number 4 count })
item_at size at (PrimitiveArray id serial count element elements) = PrimArray (big_number (id_len size) id) element (big_number 4 count)

-- sub-records that begin at a place of the file, each with its own
abbrev pub subs_at : IdSize → ℕ → List SubRecord → List Sub
subs_at size at [] = []
subs_at size at (s ∷ ss) = (record { offset = at; item = item_at size at s }) ∷ subs_at size (at + length (sub_record_text s)) ss

-- the sub-records of a dump with their places: those of its segments' bodies, joined in file order
abbrev pub dump_subs_at : IdSize → List Span → List (List SubRecord) → List Sub
dump_subs_at size spans segments = flat_map (λ (p : Span × List SubRecord). subs_at size p.0.start p.1) (zip spans segments)

-- each segment among the records has these sub-records
abbrev pub AreDumpSubRecords : IdSize → List Record → List (List SubRecord) → Type 0
AreDumpSubRecords size records segments = AllZip (λ (r : Record) (subs : List SubRecord). AreSubRecords size r.body subs) (filter is_segment records) segments
