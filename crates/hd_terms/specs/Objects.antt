-- The objects of a dump and their numbers, and the dump of a file.
-- Source: HPROF binary format, CLASS DUMP, INSTANCE DUMP, OBJECT ARRAY DUMP and PRIMITIVE ARRAY DUMP. That the first of an ID
-- counts, and that numbers go by file order, is this project's choice.
use Rattle.std.specs.Prelude.{◌≡◌, ℕ, Bool, false, List, [], map, count_by, is_none, Option, Some, None}
use Rattle.std.specs.Option.{option_map, option_map_or, option_and_then}
use Rattle.std.specs.List.{flat_map, filter_map}
use Rattle.byteorder.specs.Endian.{big_number}
use Rattle.hd_terms.specs.declared.IdSize.{IdSize}
use Rattle.hd_terms.specs.declared.Slot.TheVariants as slots
use Rattle.hd_terms.specs.declared.Mode.{Mode}
use Rattle.hd_terms.specs.declared.Span.{Span}
use Rattle.hd_terms.specs.declared.Text.{Text}
use Rattle.hd_terms.specs.declared.Load.{Load}
use Rattle.hd_terms.specs.Records.{id_len, Record, HasHeader, AreRecords, header_len, segment_spans, texts, loads}
use Rattle.hd_terms.specs.SubRecords.{SubRecord, RootOf, ClassDump, InstanceDump, ObjectArray, PrimitiveArray, ClassItem, StaticItem, Item, Instance, ObjArray}
use Rattle.hd_terms.specs.SubRecords.{PrimArray, Sub, AreDumpSubRecords, dump_subs_at}
use Rattle.hd_terms.specs.SubRecords as subs
use Rattle.hd_terms.specs.FirstRecords.{first_of_each, repeats, first_subs}
use Rattle.hd_terms.specs.Classes.{ClassTable, KnownClasses, LayoutField, ResolvedClass, class_table, resolved_class, fitting_class, text_of_id, name_of}
use Rattle.hd_terms.specs.Classes.{bytes_of_span}
use Rattle.hd_terms.specs.Groups.{instance_group, instance_bytes, array_group, array_bytes, class_group, class_bytes, primitive_group, primitive_bytes}
use Rattle.hd_terms.specs.Slots.{instance_slots, array_slots, class_slots}
use Rattle.hd_terms.specs.Roots.{roots_of}
use Rattle.hd_terms.specs.HeapFaults.{class_faults, object_faults}
use Rattle.hd_terms.specs.Dump.{Object, Repeated, NamedField, NamedClass, Dump, without_classes}

-- the object of an object sub-record
abbrev pub object_of : ClassTable → IdSize → SubRecord → Option Object
object_of t size (RootOf kind id more) = None
object_of t size (ClassDump head constants statics fields) = Some (record {
  id = big_number (id_len size) head.id;
  group = class_group;
  bytes = class_bytes statics.items;
  slots = class_slots size head constants.items statics.items;
  referent = None;
})
object_of t size (InstanceDump id serial class count values) = Some (record {
  id = big_number (id_len size) id;
  group = instance_group size class;
  bytes = instance_bytes count;
  slots = instance_slots size (fitting_class t size (instance_bytes count) (big_number (id_len size) class)) class values;
  referent = option_and_then (λ (k : ResolvedClass). option_map (λ (i : ℕ). slots.Field i) k.referent)
      (fitting_class t size (instance_bytes count) (big_number (id_len size) class));
})
object_of t size (ObjectArray id serial count class elements) = Some (record {
  id = big_number (id_len size) id;
  group = array_group size class;
  bytes = array_bytes size count;
  slots = array_slots size class elements;
  referent = None;
})
object_of t size (PrimitiveArray id serial count element elements) = Some (record {
  id = big_number (id_len size) id;
  group = primitive_group element;
  bytes = primitive_bytes element count;
  slots = [];
  referent = None;
})

-- the objects of sub-records: in their order, the first of each ID. An object's number is its place
abbrev pub objects_of : ClassTable → IdSize → List SubRecord → List Object
objects_of t size subs = first_of_each (λ (x : Object). x.id) (filter_map (object_of t size) subs)

-- what is repeated among records and sub-records: IDs of objects, of texts, and of loaded classes
abbrev pub repeated_of : ClassTable → IdSize → List Record → List SubRecord → Repeated
repeated_of t size records subs = record {
  objects = repeats (λ (x : Object). x.id) (filter_map (object_of t size) subs);
  strings = repeats (λ (x : Text). x.id) (texts size records);
  loads = repeats (λ (l : Load). l.class) (loads size records);
}

-- an instance is opaque: nothing is known of its class
abbrev pub is_opaque : KnownClasses → Item → Bool
is_opaque known (subs.Root kind id) = false
is_opaque known (subs.Class c) = false
is_opaque known (Instance id class values) = is_none (known class)
is_opaque known (ObjArray id class elements) = false
is_opaque known (PrimArray id element count) = false

-- how many instances among sub-records are opaque
abbrev pub opaque_in : KnownClasses → List Sub → ℕ
opaque_in known list = count_by (λ (p : ℕ × Sub). is_opaque known p.1.item) (first_subs list)

-- the name of a class that is loaded, by the ID of the class, if it has one
abbrev pub loaded_name : ClassTable → Load → Option (ℕ × List ℕ)
loaded_name t l = option_map (λ (span : Span). (l.class, bytes_of_span t.bytes span)) (name_of t l.class)

-- the names of loaded classes: in the order of their loads, each class once
abbrev pub names_of : ClassTable → List (ℕ × List ℕ)
names_of t = first_of_each (λ (n : ℕ × List ℕ). n.0) (filter_map (loaded_name t) t.loads)

-- the bytes of the text of an ID, if there is one
abbrev pub text_in : ClassTable → ℕ → Option (List ℕ)
text_in t id = option_map (bytes_of_span t.bytes) (text_of_id t id)

-- the layout of the class of an ID; without fields where its chain isn't whole
abbrev pub layout_at : ClassTable → ℕ → List LayoutField
layout_at t id = option_map_or (λ (k : ResolvedClass). k.layout) (resolved_class t id) []

-- a field of a layout, and a class object, by their names
abbrev pub named_by : ClassTable → LayoutField → NamedField
named_by t f = record { owner = f.owner; name = text_in t f.name }

abbrev pub class_by_names : ClassTable → ClassItem → NamedClass
class_by_names t c = record {
  class = c.id;
  fields = map (named_by t) (layout_at t c.id);
  statics = map (λ (s : StaticItem). text_in t s.name) c.statics;
}

-- the classes of a file, by its records and the sub-records of its segments
abbrev pub classes_of : List ℕ → IdSize → List Record → List (List SubRecord) → ClassTable
classes_of bytes size records segments = class_table bytes (texts size records) (loads size records)
    (dump_subs_at size (segment_spans header_len records) segments)

-- the dump of a file, by how phantom references are followed, its records and the sub-records of its segments
abbrev pub dump_of : Mode → List ℕ → IdSize → List Record → List (List SubRecord) → Dump
dump_of mode bytes size records segments = record {
  mode = mode;
  objects = objects_of (classes_of bytes size records segments) size (flat_map (λ (ss : List SubRecord). ss) segments);
  roots = roots_of size (flat_map (λ (ss : List SubRecord). ss) segments);
  repeated = repeated_of (classes_of bytes size records segments) size records (flat_map (λ (ss : List SubRecord). ss) segments);
  opaque = opaque_in (resolved_class (classes_of bytes size records segments)) (dump_subs_at size (segment_spans header_len records) segments);
  names = names_of (classes_of bytes size records segments);
  classes = map (class_by_names (classes_of bytes size records segments)) (classes_of bytes size records segments).classes;
}

-- a file that reads without fault: its header, its records, the sub-records of its segments, no chain that never ends, no
-- object with ID 0, and no instance that doesn't fit its class
pub record ReadsAs (bytes : List ℕ) (size : IdSize) (records : List Record) (segments : List (List SubRecord)) : Type 0 where
  pub header : HasHeader size bytes
  pub whole : AreRecords size bytes records
  pub bodies : AreDumpSubRecords size records segments
  pub classes : class_faults (classes_of bytes size records segments) (dump_subs_at size (segment_spans header_len records) segments) ≡ []
  pub objects : object_faults (resolved_class (classes_of bytes size records segments)) size
      (dump_subs_at size (segment_spans header_len records) segments) ≡ []

-- the dump of a file that reads without fault, opened in a mode
pub record IsDumpOf (mode : Mode) (bytes : List ℕ) (dump : Dump) : Type 0 where
  pub size : IdSize
  pub records : List Record
  pub segments : List (List SubRecord)
  pub reads : ReadsAs bytes size records segments
  pub is : dump ≡ dump_of mode bytes size records segments

-- the same, but for the names that go with class objects
pub record IsNamelessDumpOf (mode : Mode) (bytes : List ℕ) (dump : Dump) : Type 0 where
  pub named : Dump
  pub is_dump : IsDumpOf mode bytes named
  pub is : dump ≡ without_classes named
