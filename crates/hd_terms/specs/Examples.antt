-- The worked examples of docs/DEFINITIONS.md as data: files, dumps, logs and lines. What the definitions say of them is
-- proved in `examples`.
-- Source: this project.
use Rattle.std.specs.Prelude.{ℕ, ◌+◌, ◌*◌, ◌/◌, ◌%◌, List, [], ◌∷◌, ◌++◌, length, drop, slice_set, replicate, codes, Option, Some, None}
use Rattle.std.specs.List.{flat_map}
use Rattle.hd_terms.specs.declared.Slot.{Slot}
use Rattle.hd_terms.specs.declared.Slot.TheVariants as slots
use Rattle.hd_terms.specs.declared.EdgeKind.{EdgeKind}
use Rattle.hd_terms.specs.declared.EdgeKind.TheVariants as kinds
use Rattle.hd_terms.specs.declared.Group.TheVariants as groups
use Rattle.hd_terms.specs.declared.RootKind.{RootKind}
use Rattle.hd_terms.specs.declared.RootKind.TheVariants as roots
use Rattle.hd_terms.specs.declared.RootMode.{RootMode}
use Rattle.hd_terms.specs.declared.RootRow.{RootRow}
use Rattle.hd_terms.specs.declared.RefKind.TheVariants as references
use Rattle.hd_terms.specs.declared.Edit.{Edit}
use Rattle.hd_terms.specs.declared.Edit.TheVariants as edits
use Rattle.hd_terms.specs.declared.Event.{Event}
use Rattle.hd_terms.specs.declared.What.TheVariants as whats
use Rattle.hd_terms.specs.declared.SlotMode.{SlotMode}
use Rattle.hd_terms.specs.declared.Mode.TheVariants as modes
use Rattle.hd_terms.specs.declared.SlotRow.{SlotRow}
use Rattle.hd_terms.specs.declared.IntoRow.{IntoRow}
use Rattle.hd_terms.specs.Paths.{Edge, RootEntry}
use Rattle.hd_terms.specs.Dump.{NamedField, NamedClass, SlotEntry, Object, Root, Repeated, Dump}
use Rattle.hd_terms.specs.EditedDump.{RootOn}

-- files

-- a header of 31 bytes whose identifier size ends with a byte
abbrev pub head_of : ℕ → List ℕ
head_of n =
    0x4a ∷ 0x41 ∷ 0x56 ∷ 0x41 ∷ 0x20 ∷ 0x50 ∷ 0x52 ∷ 0x4f ∷ 0x46 ∷ 0x49 ∷ 0x4c ∷ 0x45 ∷ 0x20 ∷ 0x31 ∷ 0x2e ∷ 0x30 ∷ 0x2e ∷ 0x32 ∷ 0x00
    ∷ 0x00 ∷ 0x00 ∷ 0x00 ∷ n ∷ 0x00 ∷ 0x00 ∷ 0x00 ∷ 0x00 ∷ 0x00 ∷ 0x00 ∷ 0x00 ∷ 0x00 ∷ []

-- the head of a HEAP DUMP SEGMENT whose body has a number of bytes below 256
abbrev pub segment_head : ℕ → List ℕ
segment_head n = 0x1c ∷ 0x00 ∷ 0x00 ∷ 0x00 ∷ 0x00 ∷ 0x00 ∷ 0x00 ∷ 0x00 ∷ n ∷ []

-- a number below 256 in four bytes
abbrev pub four : ℕ → List ℕ
four n = 0x00 ∷ 0x00 ∷ 0x00 ∷ n ∷ []

-- the header alone
abbrev pub empty_dump_file : List ℕ
empty_dump_file = head_of 4

-- the same with the text of version 1.0.1, as JDK 8 writes it
abbrev pub jdk_8_file : List ℕ
jdk_8_file = slice_set empty_dump_file 17 0x31

-- one root and two object arrays, in one segment: 91 bytes
abbrev pub two_arrays_file : List ℕ
two_arrays_file =
    head_of 4 ++ segment_head 0x33
    ++ 0xff ∷ four 1
    ++ 0x22 ∷ four 1 ++ four 0 ++ four 3 ++ four 0 ++ four 2 ++ four 0 ++ four 9
    ++ 0x22 ∷ four 2 ++ four 0 ++ four 0 ++ four 0

-- an object array with ID 0
abbrev pub null_object_file : List ℕ
null_object_file = head_of 4 ++ segment_head 17 ++ 0x22 ∷ four 0 ++ four 0 ++ four 0 ++ four 0

-- a segment with the one byte 9
abbrev pub unknown_sub_record_file : List ℕ
unknown_sub_record_file = head_of 4 ++ segment_head 1 ++ 0x09 ∷ []

-- a header and eight zero bytes
abbrev pub cut_record_file : List ℕ
cut_record_file = head_of 4 ++ four 0 ++ four 0

-- a segment with four of the five bytes of a ROOT UNKNOWN
abbrev pub short_sub_record_file : List ℕ
short_sub_record_file = head_of 4 ++ segment_head 4 ++ 0xff ∷ 0x00 ∷ 0x00 ∷ 0x00 ∷ []

-- a record whose length says 5, and four bytes of its body
abbrev pub cut_body_file : List ℕ
cut_body_file = head_of 4 ++ segment_head 5 ++ 0xff ∷ 0x00 ∷ 0x00 ∷ 0x00 ∷ []

-- that of two_arrays behind a record of a tag that has no meaning
abbrev pub skipped_record_file : List ℕ
skipped_record_file = head_of 4 ++ 0x77 ∷ four 0 ++ four 2 ++ 0xab ∷ 0xcd ∷ [] ++ drop 31 two_arrays_file

-- [1: 2]  [2:]  [1: 5]
abbrev pub repeated_id_file : List ℕ
repeated_id_file =
    head_of 4 ++ segment_head 59
    ++ 0x22 ∷ four 1 ++ four 0 ++ four 1 ++ four 0 ++ four 2
    ++ 0x22 ∷ four 2 ++ four 0 ++ four 0 ++ four 0
    ++ 0x22 ∷ four 1 ++ four 0 ++ four 1 ++ four 0 ++ four 5

-- an unknown tag, and behind its segment three bytes of a record that is cut off
abbrev pub two_mistakes_file : List ℕ
two_mistakes_file = head_of 4 ++ segment_head 1 ++ 0x09 ∷ 0x00 ∷ 0x00 ∷ 0x00 ∷ []

-- a number below 65536 in four bytes, and in eight
abbrev pub narrow : ℕ → List ℕ
narrow n = 0x00 ∷ 0x00 ∷ n / 256 ∷ n % 256 ∷ []

abbrev pub wide : ℕ → List ℕ
wide n = four 0 ++ narrow n

-- a UTF8 record
abbrev pub text_record : ℕ → List ℕ → List ℕ
text_record id text = 0x01 ∷ four 0 ++ four (4 + length text) ++ narrow id ++ text

-- a LOAD CLASS record
abbrev pub load_record : ℕ → ℕ → List ℕ
load_record class name = 0x02 ∷ four 0 ++ four 16 ++ four 1 ++ narrow class ++ four 0 ++ narrow name

-- two texts of one ID, and a class that is loaded twice
abbrev pub repeated_strings_and_loads_file : List ℕ
repeated_strings_and_loads_file = head_of 4 ++ text_record 0xc1 (0x41 ∷ []) ++ text_record 0xc1 (0x42 ∷ []) ++ load_record 0x11 0xc1 ++ load_record 0x11 0xc1

-- two texts of one ID, a class that is loaded under their ID and then under another, and a class whose name has no text
abbrev pub first_names_file : List ℕ
first_names_file =
    head_of 4 ++ text_record 0xc1 (0x41 ∷ []) ++ text_record 0xc1 (0x42 ∷ []) ++ text_record 0xc2 (0x43 ∷ [])
    ++ load_record 0x11 0xc1 ++ load_record 0x11 0xc2 ++ load_record 0x12 0xc3

-- a UTF8 record of three bytes, fewer than an ID has
abbrev pub short_record_file : List ℕ
short_record_file = head_of 4 ++ 0x01 ∷ four 0 ++ four 3 ++ 0x00 ∷ 0x00 ∷ 0x00 ∷ []

-- that record, and behind it a byte of a record that is cut off
abbrev pub short_and_cut_file : List ℕ
short_and_cut_file = short_record_file ++ 0x01 ∷ []

-- a primitive array of no elements of a type 2
abbrev pub unknown_type_file : List ℕ
unknown_type_file = head_of 4 ++ segment_head 14 ++ 0x23 ∷ four 1 ++ four 0 ++ four 0 ++ 0x02 ∷ []

-- a root of each kind, on the IDs 1 to 9, with the ID 0x66 of a JNI reference, the serial numbers 0x77 and the frame numbers 0x88
abbrev pub root_kinds_file : List ℕ
root_kinds_file =
    head_of 4 ++ segment_head 81
    ++ 0xff ∷ four 1
    ++ 0x01 ∷ four 2 ++ four 0x66
    ++ 0x02 ∷ four 3 ++ four 0x77 ++ four 0x88
    ++ 0x03 ∷ four 4 ++ four 0x77 ++ four 0x88
    ++ 0x04 ∷ four 5 ++ four 0x77
    ++ 0x05 ∷ four 6
    ++ 0x06 ∷ four 7 ++ four 0x77
    ++ 0x07 ∷ four 8
    ++ 0x08 ∷ four 9 ++ four 0x77 ++ four 0x77

-- an array of the ints 1 and 2
abbrev pub primitive_array_file : List ℕ
primitive_array_file = head_of 4 ++ segment_head 22 ++ 0x23 ∷ four 6 ++ four 0 ++ four 2 ++ 0x0a ∷ four 1 ++ four 2

-- a number below 256 in two bytes
abbrev pub two : ℕ → List ℕ
two n = 0x00 ∷ n ∷ []

-- the name 0x2nn of a static or a field
abbrev pub name : ℕ → List ℕ
name n = 0x00 ∷ 0x00 ∷ 0x02 ∷ n ∷ []

-- the front of a class up to its constants: 37 bytes
abbrev pub class_front : List ℕ
class_front = 0x20 ∷ four 0x11 ++ four 0 ++ four 0 ++ four 5 ++ four 0 ++ four 0 ++ four 0 ++ four 0 ++ four 4

-- one constant, the object 2: 9 bytes
abbrev pub class_constants : List ℕ
class_constants = two 1 ++ two 1 ++ 0x02 ∷ four 2

-- two statics, the int 7 and the object 3: 20 bytes
abbrev pub class_statics : List ℕ
class_statics = two 2 ++ name 1 ++ 0x0a ∷ four 7 ++ name 2 ++ 0x02 ∷ four 3

-- a class that is held as a sticky class, the arrays that it leads to, and an array of the ints 1 and 2
abbrev pub class_object_and_primitive_array_file : List ℕ
class_object_and_primitive_array_file =
    head_of 4 ++ segment_head 0x92
    ++ 0x05 ∷ four 0x11
    ++ class_front ++ class_constants ++ class_statics ++ two 0
    ++ 0x22 ∷ four 2 ++ four 0 ++ four 0 ++ four 0
    ++ 0x22 ∷ four 3 ++ four 0 ++ four 0 ++ four 0
    ++ 0x22 ∷ four 5 ++ four 0 ++ four 0 ++ four 0
    ++ 0x23 ∷ four 6 ++ four 0 ++ four 2 ++ 0x0a ∷ four 1 ++ four 2

-- the same, with the name of the class and those of its statics
abbrev pub named_statics_file : List ℕ
named_statics_file =
    head_of 4 ++ text_record 0x201 (codes "size") ++ text_record 0x202 (codes "cache") ++ text_record 0x301 (codes "Store") ++ load_record 0x11 0x301
    ++ drop 31 class_object_and_primitive_array_file

-- that root, and behind it a class whose second static has two of the four bytes of its value
abbrev pub short_class_file : List ℕ
short_class_file =
    head_of 4 ++ segment_head 69 ++ 0x05 ∷ four 0x11 ++ class_front ++ class_constants
    ++ two 2 ++ name 1 ++ 0x0a ∷ four 7 ++ name 2 ++ 0x02 ∷ 0x00 ∷ 0x00 ∷ []

-- a class whose constant has a type 3
abbrev pub unknown_constant_file : List ℕ
unknown_constant_file = head_of 4 ++ segment_head 68 ++ class_front ++ two 1 ++ two 1 ++ 0x03 ∷ four 2 ++ class_statics ++ two 0

-- nothing stands behind that type
abbrev pub unknown_and_short_file : List ℕ
unknown_and_short_file = head_of 4 ++ segment_head 42 ++ class_front ++ two 1 ++ two 1 ++ 0x03 ∷ []

-- a class with a static of a type 0, behind one of a type that there is
abbrev pub unknown_static_file : List ℕ
unknown_static_file = head_of 4 ++ segment_head 62 ++ class_front ++ class_constants ++ two 2 ++ name 1 ++ 0x0a ∷ four 7 ++ name 2 ++ 0x00 ∷ []

-- a class with a field of a type 12
abbrev pub unknown_field_file : List ℕ
unknown_field_file = head_of 4 ++ segment_head 73 ++ class_front ++ class_constants ++ class_statics ++ two 1 ++ name 3 ++ 0x0c ∷ []

-- a HEAP DUMP SEGMENT whose body has less than 65536 bytes
abbrev pub segment_of : List ℕ → List ℕ
segment_of body = 0x1c ∷ four 0 ++ narrow (length body) ++ body

-- sub-records by the way in which IDs are spelled. Of a class its super class, and the names and types of the fields that it
-- declares; of an instance its class and its values; of an object array its class and its elements
abbrev pub root_of : (ℕ → List ℕ) → ℕ → List ℕ
root_of spell id = 0xff ∷ spell id

abbrev pub class_of : (ℕ → List ℕ) → ℕ → ℕ → List (ℕ × ℕ) → List ℕ
class_of spell id super fields =
    0x20 ∷ spell id ++ four 0 ++ spell super ++ spell 0 ++ spell 0 ++ spell 0 ++ spell 0 ++ spell 0 ++ four 4
    ++ two 0 ++ two 0 ++ two (length fields) ++ flat_map (λ (f : ℕ × ℕ). spell f.0 ++ f.1 ∷ []) fields

abbrev pub instance_of : (ℕ → List ℕ) → ℕ → ℕ → List ℕ → List ℕ
instance_of spell id class values = 0x21 ∷ spell id ++ four 0 ++ spell class ++ four (length values) ++ values

abbrev pub array_of : (ℕ → List ℕ) → ℕ → ℕ → List ℕ → List ℕ
array_of spell id class elements = 0x22 ∷ spell id ++ four 0 ++ four (length elements) ++ spell class ++ flat_map spell elements

-- a class that is its own super class
abbrev pub cycle_file : List ℕ
cycle_file = head_of 4 ++ segment_of (class_of narrow 0x11 0x11 [])

-- a class above which there is a cycle of two
abbrev pub cycle_above_file : List ℕ
cycle_above_file = head_of 4 ++ segment_of (class_of narrow 1 2 [] ++ class_of narrow 2 3 [] ++ class_of narrow 3 2 [])

-- a class above which there is one that isn't there
abbrev pub absent_super_file : List ℕ
absent_super_file = head_of 4 ++ segment_of (class_of narrow 1 2 [] ++ class_of narrow 2 9 [])

-- a class with ID 0, and behind it one that is its own super class
abbrev pub null_class_before_a_cycle_file : List ℕ
null_class_before_a_cycle_file = head_of 4 ++ segment_of (class_of narrow 0 5 [] ++ class_of narrow 5 5 [])

-- a class with ID 0 alone
abbrev pub null_class_file : List ℕ
null_class_file = head_of 4 ++ segment_of (class_of narrow 0 5 [])

-- an instance with one byte of values, and its class, which declares no fields
abbrev pub size_mismatch_file : List ℕ
size_mismatch_file = head_of 4 ++ segment_of (instance_of narrow 0x20 0x11 (0x00 ∷ []) ++ class_of narrow 0x11 0 [])

-- the same, and then a byte that is no tag
abbrev pub size_mismatch_before_unknown_file : List ℕ
size_mismatch_before_unknown_file = head_of 4 ++ segment_of (instance_of narrow 0x20 0x11 (0x00 ∷ []) ++ class_of narrow 0x11 0 [] ++ 0x09 ∷ [])

-- an instance of the wrong size that repeats the ID of an instance that fits its class
abbrev pub repeated_size_mismatch_file : List ℕ
repeated_size_mismatch_file = head_of 4
    ++ segment_of (class_of narrow 0x11 0 ((0x107, 2) ∷ []) ++ instance_of narrow 2 0x11 (four 5) ++ instance_of narrow 2 0x11 (0x00 ∷ []))

-- behind an instance and its root, with identifiers of eight bytes: its super class, its class, and two arrays
abbrev pub behind_instance : List ℕ
behind_instance =
    root_of wide 0x20 ++ class_of wide 0x11 0 ((0x107, 2) ∷ []) ++ class_of wide 0x12 0x11 ((0x108, 2) ∷ (0x109, 4) ∷ [])
    ++ array_of wide 5 0 [] ++ array_of wide 6 0 []

-- an instance with a reference and a boolean of its class and a reference of its super class
abbrev pub wide_instance_file : List ℕ
wide_instance_file = head_of 8 ++ segment_of (instance_of wide 0x20 0x12 (wide 5 ++ 0x01 ∷ wide 6) ++ behind_instance)

-- the same without the last byte of its values
abbrev pub wide_size_mismatch_file : List ℕ
wide_size_mismatch_file = head_of 8 ++ segment_of (instance_of wide 0x20 0x12 (wide 5 ++ 0x01 ∷ four 0 ++ 0x00 ∷ 0x00 ∷ 0x00 ∷ []) ++ behind_instance)

-- an object array of a class that isn't there, an instance that is there twice, and one of a class that isn't there
abbrev pub opaque_and_repeated_file : List ℕ
opaque_and_repeated_file =
    head_of 4
    ++ segment_of (
    root_of narrow 1
    ++ array_of narrow 1 0x99 (2 ∷ 3 ∷ [])
    ++ class_of narrow 0x11 0 []
    ++ instance_of narrow 2 0x11 []
    ++ instance_of narrow 2 0x11 []
    ++ instance_of narrow 3 0x98 (four 5)
    )

-- the class Reference, whose field has a name, the class WeakReference below it, and the names of both
abbrev pub reference_names : List ℕ → List ℕ → List ℕ
reference_names reference weak =
    text_record 0x101 reference ++ text_record 0x103 weak ++ text_record 0x107 (codes "referent") ++ load_record 0x11 0x101 ++ load_record 0x13 0x103

abbrev pub reference_classes : List ℕ
reference_classes = class_of narrow 0x11 0 ((0x107, 2) ∷ []) ++ class_of narrow 0x13 0x11 []

-- a weak reference to an array
abbrev pub weak_reference_file : List ℕ
weak_reference_file =
    head_of 4 ++ reference_names (codes "java/lang/ref/Reference") (codes "java/lang/ref/WeakReference")
    ++ segment_of (reference_classes ++ instance_of narrow 0x21 0x13 (four 5) ++ array_of narrow 5 0 [])

-- the same, with dots in the names of the classes
abbrev pub dotted_names_file : List ℕ
dotted_names_file =
    head_of 4 ++ reference_names (codes "java.lang.ref.Reference") (codes "java.lang.ref.WeakReference")
    ++ segment_of (reference_classes ++ instance_of narrow 0x21 0x13 (four 5) ++ array_of narrow 5 0 [])

-- the same, where that class is loaded under another name before
abbrev pub other_name_first_file : List ℕ
other_name_first_file =
    head_of 4 ++ load_record 0x13 0x107 ++ reference_names (codes "java/lang/ref/Reference") (codes "java/lang/ref/WeakReference")
    ++ segment_of (reference_classes ++ instance_of narrow 0x21 0x13 (four 5) ++ array_of narrow 5 0 [])

-- a weak reference of a class below WeakReference that declares another field of the same name
abbrev pub two_referents_file : List ℕ
two_referents_file =
    head_of 4 ++ reference_names (codes "java/lang/ref/Reference") (codes "java/lang/ref/WeakReference")
    ++ segment_of (reference_classes ++ class_of narrow 0x14 0x13 ((0x107, 2) ∷ []) ++ instance_of narrow 0x22 0x14 (four 6 ++ four 5) ++ array_of narrow 5 0 []
    ++ array_of narrow 6 0 [])

-- dumps

-- a slot of kind strong
abbrev pub strong : Slot → ℕ → SlotEntry
strong slot id = record { slot = slot; kind = kinds.Strong; id = id }

-- the elements of an array, numbered from a number on
abbrev pub elements : ℕ → List ℕ → List SlotEntry
elements i [] = []
elements i (id ∷ ids) = strong (slots.Element i) id ∷ elements (i + 1) ids

-- [id: ids]
abbrev pub array : ℕ → List ℕ → Object
array id ids = record {
  id = id;
  group = groups.Class 0;
  bytes = 4 * length ids;
  slots = elements 0 ids ++ strong slots.OfClass 0 ∷ [];
  referent = None;
}

-- <id: super>
abbrev pub class_object : ℕ → ℕ → Object
class_object id super = record {
  id = id;
  group = groups.Classes;
  bytes = 0;
  slots = strong slots.Super super ∷ strong slots.Loader 0 ∷ strong slots.Signers 0 ∷ strong slots.Domain 0 ∷ [];
  referent = None;
}

-- (id of class: slots), with `bytes` bytes of values
abbrev pub instance : ℕ → ℕ → ℕ → List SlotEntry → Object
instance id class bytes slots_of_fields = record {
  id = id;
  group = groups.Class class;
  bytes = bytes;
  slots = slots_of_fields ++ strong slots.OfClass class ∷ [];
  referent = None;
}

-- (id of class: kind referent)
abbrev pub reference : ℕ → ℕ → EdgeKind → ℕ → Object
reference id class kind referent = record {
  id = id;
  group = groups.Class class;
  bytes = 4;
  slots = (record { slot = slots.Field 0; kind = kind; id = referent }) ∷ strong slots.OfClass class ∷ [];
  referent = Some (slots.Field 0);
}

-- root id
abbrev pub root : ℕ → Root
root id = record { kind = roots.Unknown; id = id }

-- the classes of references and of finalizers
abbrev pub refs : List Object
refs = class_object 0x11 0 ∷ class_object 0x12 0x11 ∷ class_object 0x13 0x11 ∷ class_object 0x14 0x11 ∷ class_object 0x15 0x11 ∷ class_object 0x16 0x14 ∷ []

-- nothing repeated
abbrev pub none_repeated : Repeated
none_repeated = record { objects = 0; strings = 0; loads = 0 }

-- a field of a layout by the class that declares it and its name
abbrev pub field_named : ℕ → Option (List ℕ) → NamedField
field_named owner name = record { owner = owner; name = name }

-- a class object without statics, by the fields of its layout
abbrev pub class_with : ℕ → List NamedField → NamedClass
class_with id fields = record { class = id; fields = fields; statics = [] }

-- the field of the class Reference, and the classes whose layout is that field alone
abbrev pub referent_field : NamedField
referent_field = field_named 0x11 (Some (codes "referent"))

abbrev pub reference_layouts : List NamedClass
reference_layouts = class_with 0x11 (referent_field ∷ []) ∷ class_with 0x13 (referent_field ∷ []) ∷ []

-- the names of the classes Reference and WeakReference
abbrev pub reference_class_names : List (ℕ × List ℕ)
reference_class_names = (0x11, codes "java/lang/ref/Reference") ∷ (0x13, codes "java/lang/ref/WeakReference") ∷ []

-- nothing
abbrev pub empty_dump : Dump
empty_dump = record { mode = modes.Direct; objects = []; roots = []; repeated = none_repeated; opaque = 0; names = []; classes = [] }

-- the same in mode Closure
abbrev pub empty_closure : Dump
empty_closure = record empty_dump { mode = modes.Closure }

-- nothing, but a text and a load are repeated
abbrev pub repeated_strings_and_loads : Dump
repeated_strings_and_loads = record empty_dump { repeated = record { objects = 0; strings = 1; loads = 1 }; names = (0x11, 0x41 ∷ []) ∷ [] }

-- nothing but names: that of a class is the first text of the ID under which it is loaded first
abbrev pub first_names : Dump
first_names = record {
  mode = modes.Direct;
  objects = [];
  roots = [];
  repeated = record { objects = 0; strings = 1; loads = 1 };
  opaque = 0;
  names = (0x11, 0x41 ∷ []) ∷ [];
  classes = [];
}

-- a root of each kind, on IDs that are no object's
abbrev pub root_kinds : Dump
root_kinds = record {
  mode = modes.Direct;
  objects = [];
  roots =
      (record { kind = roots.Unknown; id = 1 })
      ∷ (record { kind = roots.JniGlobal; id = 2 })
      ∷ (record { kind = roots.JniLocal; id = 3 })
      ∷ (record { kind = roots.JavaFrame; id = 4 })
      ∷ (record { kind = roots.NativeStack; id = 5 })
      ∷ (record { kind = roots.StickyClass; id = 6 })
      ∷ (record { kind = roots.ThreadBlock; id = 7 })
      ∷ (record { kind = roots.MonitorUsed; id = 8 })
      ∷ (record { kind = roots.Thread; id = 9 })
      ∷ [];
  repeated = none_repeated;
  opaque = 0;
  names = [];
  classes = [];
}

-- an array of two ints
abbrev pub primitive_array : Dump
primitive_array = record {
  mode = modes.Direct;
  objects = (record { id = 6; group = groups.Prim 10; bytes = 8; slots = []; referent = None }) ∷ [];
  roots = [];
  repeated = none_repeated;
  opaque = 0;
  names = [];
  classes = [];
}

-- a class with its slots, the arrays 2, 3 and 5, and an array of two ints
abbrev pub class_object_and_primitive_array : Dump
class_object_and_primitive_array = record {
  mode = modes.Direct;
  objects =
      (record {
        id = 0x11;
        group = groups.Classes;
        bytes = 8;
        slots =
            strong (slots.Static 1) 3 ∷ strong (slots.Const 0) 2 ∷ strong slots.Super 0 ∷ strong slots.Loader 5 ∷ strong slots.Signers 0
            ∷ strong slots.Domain 0 ∷ [];
        referent = None;
      })
      ∷ (record { id = 2; group = groups.Class 0; bytes = 0; slots = strong slots.OfClass 0 ∷ []; referent = None })
      ∷ (record { id = 3; group = groups.Class 0; bytes = 0; slots = strong slots.OfClass 0 ∷ []; referent = None })
      ∷ (record { id = 5; group = groups.Class 0; bytes = 0; slots = strong slots.OfClass 0 ∷ []; referent = None })
      ∷ (record { id = 6; group = groups.Prim 10; bytes = 8; slots = []; referent = None })
      ∷ [];
  roots = (record { kind = roots.StickyClass; id = 0x11 }) ∷ [];
  repeated = none_repeated;
  opaque = 0;
  names = [];
  classes = (record { class = 0x11; fields = []; statics = None ∷ None ∷ [] }) ∷ [];
}

-- the same, with the name of the class and those of its statics
abbrev pub named_statics : Dump
named_statics = record class_object_and_primitive_array {
  names = (0x11, codes "Store") ∷ [];
  classes = (record { class = 0x11; fields = []; statics = Some (codes "size") ∷ Some (codes "cache") ∷ [] }) ∷ [];
}

-- root 1  [1: 2 0 9]  [2:]
abbrev pub two_arrays : Dump
two_arrays = record {
  mode = modes.Direct;
  objects =
      (record {
        id = 1;
        group = groups.Class 0;
        bytes = 12;
        slots = strong (slots.Element 0) 2 ∷ strong (slots.Element 1) 0 ∷ strong (slots.Element 2) 9 ∷ strong slots.OfClass 0 ∷ [];
        referent = None;
      })
      ∷ (record { id = 2; group = groups.Class 0; bytes = 0; slots = strong slots.OfClass 0 ∷ []; referent = None })
      ∷ [];
  roots = (record { kind = roots.Unknown; id = 1 }) ∷ [];
  repeated = none_repeated;
  opaque = 0;
  names = [];
  classes = [];
}

-- [1: 2]  [2:]
abbrev pub repeated_id : Dump
repeated_id = record empty_dump { objects = array 1 (2 ∷ []) ∷ array 2 [] ∷ []; repeated = record { objects = 1; strings = 0; loads = 0 } }

-- <1: 2>  <2: 9>
abbrev pub absent_super : Dump
absent_super = record empty_dump { objects = class_object 1 2 ∷ class_object 2 9 ∷ []; classes = class_with 1 [] ∷ class_with 2 [] ∷ [] }

-- <11: 0>  (2 of 11: 5)
abbrev pub repeated_size_mismatch : Dump
repeated_size_mismatch = record {
  mode = modes.Direct;
  objects = class_object 0x11 0 ∷ instance 2 0x11 4 (strong (slots.Field 0) 5 ∷ []) ∷ [];
  roots = [];
  repeated = record { objects = 1; strings = 0; loads = 0 };
  opaque = 0;
  names = [];
  classes = class_with 0x11 (field_named 0x11 None ∷ []) ∷ [];
}

-- root 20  (20 of 12: 5 6)  <11: 0>  <12: 11>  [5:]  [6:]
abbrev pub wide_instance : Dump
wide_instance = record {
  mode = modes.Direct;
  objects =
      instance 0x20 0x12 17 (strong (slots.Field 0) 5 ∷ strong (slots.Field 2) 6 ∷ []) ∷ class_object 0x11 0 ∷ class_object 0x12 0x11 ∷ array 5 [] ∷ array 6 []
      ∷ [];
  roots = root 0x20 ∷ [];
  repeated = none_repeated;
  opaque = 0;
  names = [];
  classes = class_with 0x11 (field_named 0x11 None ∷ []) ∷ class_with 0x12 (field_named 0x12 None ∷ field_named 0x12 None ∷ field_named 0x11 None ∷ []) ∷ [];
}

-- root 1  [1 of 99: 2 3]  <11: 0>  (2 of 11:)  (3 of 98:)
abbrev pub opaque_and_repeated : Dump
opaque_and_repeated = record {
  mode = modes.Direct;
  objects =
      (record {
        id = 1;
        group = groups.Class 0x99;
        bytes = 8;
        slots = strong (slots.Element 0) 2 ∷ strong (slots.Element 1) 3 ∷ strong slots.OfClass 0x99 ∷ [];
        referent = None;
      })
      ∷ class_object 0x11 0
      ∷ instance 2 0x11 0 []
      ∷ instance 3 0x98 4 []
      ∷ [];
  roots = root 1 ∷ [];
  repeated = record { objects = 1; strings = 0; loads = 0 };
  opaque = 1;
  names = [];
  classes = class_with 0x11 [] ∷ [];
}

-- <11: 0>  <13: 11>  (21 of 13: weak 5)  [5:]
abbrev pub weak_reference : Dump
weak_reference = record {
  mode = modes.Direct;
  objects = class_object 0x11 0 ∷ class_object 0x13 0x11 ∷ reference 0x21 0x13 kinds.Weak 5 ∷ array 5 [] ∷ [];
  roots = [];
  repeated = none_repeated;
  opaque = 0;
  names = reference_class_names;
  classes = reference_layouts;
}

-- the same, with dots in the names
abbrev pub dotted_names : Dump
dotted_names = record weak_reference { names = (0x11, codes "java.lang.ref.Reference") ∷ (0x13, codes "java.lang.ref.WeakReference") ∷ [] }

-- <11: 0>  <13: 11>  (21 of 13: 5)  [5:]
abbrev pub other_name_first : Dump
other_name_first = record {
  mode = modes.Direct;
  objects = class_object 0x11 0 ∷ class_object 0x13 0x11 ∷ reference 0x21 0x13 kinds.Strong 5 ∷ array 5 [] ∷ [];
  roots = [];
  repeated = record { objects = 0; strings = 0; loads = 1 };
  opaque = 0;
  names = (0x13, codes "referent") ∷ (0x11, codes "java/lang/ref/Reference") ∷ [];
  classes = reference_layouts;
}

-- <11: 0>  <13: 11>  <14: 13>  (22 of 14: 6 weak 5)  [5:]  [6:]
abbrev pub two_referents : Dump
two_referents = record {
  mode = modes.Direct;
  objects =
      class_object 0x11 0
      ∷ class_object 0x13 0x11
      ∷ class_object 0x14 0x13
      ∷ (record {
        id = 0x22;
        group = groups.Class 0x14;
        bytes = 8;
        slots = strong (slots.Field 0) 6 ∷ (record { slot = slots.Field 1; kind = kinds.Weak; id = 5 }) ∷ strong slots.OfClass 0x14 ∷ [];
        referent = Some (slots.Field 1);
      })
      ∷ array 5 []
      ∷ array 6 []
      ∷ [];
  roots = [];
  repeated = none_repeated;
  opaque = 0;
  names = reference_class_names;
  classes = reference_layouts ++ class_with 0x14 (field_named 0x14 (Some (codes "referent")) ∷ referent_field ∷ []) ∷ [];
}

-- refs  root 1  [1: 21 31]  (21 of 13: weak 5)  (31 of 16: final 5)  [5:]
abbrev pub weak_and_final_referents : Dump
weak_and_final_referents = record {
  mode = modes.Direct;
  objects = refs ++ array 1 (0x21 ∷ 0x31 ∷ []) ∷ reference 0x21 0x13 kinds.Weak 5 ∷ reference 0x31 0x16 kinds.Final 5 ∷ array 5 [] ∷ [];
  roots = root 1 ∷ [];
  repeated = none_repeated;
  opaque = 0;
  names = [];
  classes = [];
}

-- refs  root 1  [1: 21 23]  (21 of 12: soft 22)  (22 of 13: weak 3)  [3: 4]  (23 of 12: soft 5)  [5: 4]  [4:]
abbrev pub soft_then_weak : Dump
soft_then_weak = record {
  mode = modes.Direct;
  objects =
      refs ++ array 1 (0x21 ∷ 0x23 ∷ []) ∷ reference 0x21 0x12 kinds.Soft 0x22 ∷ reference 0x22 0x13 kinds.Weak 3 ∷ array 3 (4 ∷ [])
      ∷ reference 0x23 0x12 kinds.Soft 5 ∷ array 5 (4 ∷ []) ∷ array 4 [] ∷ [];
  roots = root 1 ∷ [];
  repeated = none_repeated;
  opaque = 0;
  names = [];
  classes = [];
}

-- root 1  [1: 2 2]  [2:]
abbrev pub parallel_edges : Dump
parallel_edges = record {
  mode = modes.Direct;
  objects = array 1 (2 ∷ 2 ∷ []) ∷ array 2 [] ∷ [];
  roots = root 1 ∷ [];
  repeated = none_repeated;
  opaque = 0;
  names = [];
  classes = [];
}

-- root 1  [1: 2]  [2: 3]  [3: 2 4]  [4: 5]  [5: 4]
abbrev pub cycle_behind_one_edge : Dump
cycle_behind_one_edge = record {
  mode = modes.Direct;
  objects = array 1 (2 ∷ []) ∷ array 2 (3 ∷ []) ∷ array 3 (2 ∷ 4 ∷ []) ∷ array 4 (5 ∷ []) ∷ array 5 (4 ∷ []) ∷ [];
  roots = root 1 ∷ [];
  repeated = none_repeated;
  opaque = 0;
  names = [];
  classes = [];
}

-- refs  root 1  [1: 21]  (21 of 15: phantom 6)  [6: 7]  [7:]  (22 of 15: phantom 22)
abbrev pub phantom_referent : Dump
phantom_referent = record {
  mode = modes.Direct;
  objects =
      refs ++ array 1 (0x21 ∷ []) ∷ reference 0x21 0x15 kinds.Phantom 6 ∷ array 6 (7 ∷ []) ∷ array 7 []
      ∷ reference 0x22 0x15 kinds.Phantom 0x22 ∷ [];
  roots = root 1 ∷ [];
  repeated = none_repeated;
  opaque = 0;
  names = [];
  classes = [];
}

-- (21 of 13: weak 0)  (22 of 13: weak 9)
abbrev pub empty_referents : Dump
empty_referents = record {
  mode = modes.Direct;
  objects = reference 0x21 0x13 kinds.Weak 0 ∷ reference 0x22 0x13 kinds.Weak 9 ∷ [];
  roots = [];
  repeated = none_repeated;
  opaque = 0;
  names = [];
  classes = [];
}

-- `phantom_referent`, with phantom references followed to all that they lead to
abbrev pub phantom_closure : Dump
phantom_closure = record phantom_referent { mode = modes.Closure }

-- root 1  root 2  [1:]  [2:]  [7:]
abbrev pub added_and_dropped_roots : Dump
added_and_dropped_roots = record empty_dump { objects = array 1 [] ∷ array 2 [] ∷ array 7 [] ∷ []; roots = root 1 ∷ root 2 ∷ [] }

-- logs

-- an analyst's edit
abbrev pub does : ℕ → Edit → Event
does who edit = record { who = who; what = whats.Do edit }

-- an analyst's undo
abbrev pub undoes : ℕ → ℕ → Event
undoes who k = record { who = who; what = whats.Undo k }

-- cut 0x1 of an element
abbrev pub cut : ℕ → Edit
cut i = edits.Cut 1 (slots.Element i)

-- both analysts cut one slot, and then both take that back
abbrev pub two_cuts_of_one_slot : List Event
two_cuts_of_one_slot = does 0 (cut 0) ∷ does 1 (cut 0) ∷ undoes 0 0 ∷ undoes 1 1 ∷ []

-- the weak referent is cleared, and then the final one
abbrev pub clears : List Event
clears = does 0 (edits.Clear 0x21) ∷ does 0 (edits.Clear 0x31) ∷ []

-- one analyst cuts a slot and takes that back
abbrev pub cut_and_undo : List Event
cut_and_undo = does 0 (cut 0) ∷ undoes 0 0 ∷ []

-- all soft references are cleared, and then one of them alone; then both are taken back
abbrev pub clears_of_soft : List Event
clears_of_soft = does 0 (edits.ClearAll references.Soft) ∷ does 0 (edits.Clear 0x21) ∷ undoes 0 0 ∷ undoes 0 1 ∷ []

-- a field is cut in all objects of a class, and then in one of them alone; then both are taken back
abbrev pub cuts_of_field : List Event
cuts_of_field = does 0 (edits.CutAll 0x12 0) ∷ does 0 (edits.Cut 0x21 (slots.Field 0)) ∷ undoes 0 0 ∷ undoes 0 1 ∷ []

-- an undo of an edit, and an undo of that undo
abbrev pub undo_of_an_undo : List Event
undo_of_an_undo = does 0 (edits.Add 1) ∷ undoes 0 0 ∷ undoes 0 1 ∷ []

-- the events of `added_and_dropped_roots`
abbrev pub add_and_drop : List Event
add_and_drop = does 0 (edits.Add 7) ∷ does 0 (edits.Drop 2) ∷ undoes 0 0 ∷ undoes 0 1 ∷ []

-- another log over the same dump, which drops the root before it is added
abbrev pub drop_and_add : List Event
drop_and_add = does 0 (edits.Drop 3) ∷ does 0 (edits.Add 7) ∷ []

-- a root of the dump by its number and the ID that it is on, and one that an event added
abbrev pub dump_root_on : ℕ → ℕ → RootOn
dump_root_on number id = record { number = number; kind = Some roots.Unknown; id = id }

abbrev pub added_root_on : ℕ → ℕ → RootOn
added_root_on number id = record { number = number; kind = None; id = id }

-- a root as it is shown: by its number, its kind, the ID that it is on, and how it stands
abbrev pub shown_root : ℕ → Option RootKind → ℕ → RootMode → RootRow
shown_root number kind id mode = record { number = number; kind = kind; id = id; mode = mode }

-- a standing root by its number and the number of its object
abbrev pub root_on : ℕ → ℕ → RootEntry
root_on number target = record { number = number; target = target }

-- edges of kind strong, by the numbers of the objects
abbrev pub strong_edge : ℕ → Slot → ℕ → Edge
strong_edge source slot target = record { source = source; slot = slot; target = target; kind = kinds.Strong }

-- a log of as many events as a log can have
abbrev pub full_log : List Event
full_log = replicate 4096 (does 0 (edits.Add 1))

-- a slot of kind weak as it is shown
abbrev pub weakly_shown : Slot → ℕ → SlotMode → SlotRow
weakly_shown slot id mode = record { slot = slot; kind = kinds.Weak; id = id; mode = mode }

-- a cut and a clear of one slot; then the cut is taken back
abbrev pub cut_and_clear : List Event
cut_and_clear = does 0 (edits.Cut 0x21 (slots.Field 0)) ∷ does 0 (edits.Clear 0x21) ∷ undoes 0 0 ∷ []

-- a slot of kind strong as it is shown
abbrev pub shown : Slot → ℕ → SlotMode → SlotRow
shown slot id mode = record { slot = slot; kind = kinds.Strong; id = id; mode = mode }

-- a reference of kind strong from an object as it is shown
abbrev pub shown_reference : ℕ → Slot → SlotMode → IntoRow
shown_reference source slot mode = record { source = source; slot = slot; kind = kinds.Strong; mode = mode }
