-- Each example is a file, spelled field by field, and what it reads as: all facts of `IsSubRecord` and `Objects` on it.
-- Lists are computed, and each number is compared.
use Rattle.std.proofs.Common.{◌≡◌, ℕ, ◌+◌, ◌*◌, true, List, [], ◌∷◌, ◌++◌, length, map, drop, lit≤, refl, ◌∙◌, arith}
use Rattle.std.specs.Prelude.{codes}
use Rattle.std.specs.List.{flat_map, AllByRecursion}
use Rattle.std.proofs.lemmas.List.{length-append, length-map}
use Rattle.byteorder.specs.Endian.{big_number}
use Rattle.hd_terms.specs.declared.IdSize.{IdSize}
use Rattle.hd_terms.specs.declared.IdSize.TheVariants as sizes
use Rattle.hd_terms.specs.declared.RootKind.TheVariants as roots
use Rattle.hd_terms.specs.Records.{id_len, Record, IsRecord, record_text, HasHeader, AreRecords}
use Rattle.hd_terms.specs.Types.{is_type}
use Rattle.hd_terms.specs.SubRecords.{SubRecord, RootOf, ClassDump, InstanceDump, ObjectArray, sub_record_text, IsSubRecord, Counted, ClassValue, ClassField}
use Rattle.hd_terms.specs.SubRecords.{IsClassField, AreDumpSubRecords}
use Rattle.hd_terms.specs.ReadFaults.{IsStuck, in_sub_records, in_classes, in_objects}
use Rattle.hd_terms.specs.Examples.{four, two, narrow, wide}
use Rattle.hd_terms.specs.Examples as examples
use Rattle.hd_terms.proofs.examples.instance_examples.Goals as goal

-- sub-records by the way in which IDs are spelled

abbrev root_sub : (ℕ → List ℕ) → ℕ → SubRecord
root_sub spell id = RootOf roots.Unknown (spell id) []

-- no constants or statics
abbrev no_values : Counted ClassValue
no_values = record { count = two 0; items = [] }

abbrev field_sub : (ℕ → List ℕ) → ℕ × ℕ → ClassField
field_sub spell f = record { name = spell f.0; code = f.1 }

abbrev class_sub : (ℕ → List ℕ) → ℕ → ℕ → List (ℕ × ℕ) → SubRecord
class_sub spell id super fields =
    ClassDump (record {
      id = spell id;
      serial = four 0;
      super = spell super;
      loader = spell 0;
      signers = spell 0;
      domain = spell 0;
      reserved = spell 0 ++ spell 0;
      instance = four 4;
    }) no_values no_values (record { count = two (length fields); items = map (field_sub spell) fields })

abbrev instance_sub : (ℕ → List ℕ) → ℕ → ℕ → List ℕ → SubRecord
instance_sub spell id class values = InstanceDump (spell id) (four 0) (spell class) (four (length values)) values

abbrev array_sub : (ℕ → List ℕ) → ℕ → ℕ → List ℕ → SubRecord
array_sub spell id class elements = ObjectArray (spell id) (four 0) (four (length elements)) (spell class) (map spell elements)

module _ (size : IdSize) (spell : ℕ → List ℕ) (long : (id : ℕ) → length (spell id) ≡ id_len size) where
  root_is : (id : ℕ) → IsSubRecord size (root_sub spell id)
  root_is id = (long id, refl)

  fields_are : (fields : List (ℕ × ℕ)) → AllByRecursion (λ (f : ℕ × ℕ). is_type f.1 ≡ true) fields
      → AllByRecursion (IsClassField size) (map (field_sub spell) fields)
  fields_are [] h = tt
  fields_are (f ∷ fs) h = (record { name = long f.0; known = h.0 }, fields_are fs h.1)

  class_is : (id super : ℕ) (fields : List (ℕ × ℕ)) → length fields ≡ big_number 2 (two (length fields))
      → AllByRecursion (λ (f : ℕ × ℕ). is_type f.1 ≡ true) fields
      → IsSubRecord size (class_sub spell id super fields)
  class_is id super fields many h =
      let both : length (spell 0 ++ spell 0) ≡ 2 * id_len size = omega (arith, length-append (spell 0) (spell 0), long 0) in (
        record { id = long id; serial = refl; super = long super; loader = long 0; signers = long 0; domain = long 0; reserved = both; instance = refl },
        record { count = refl; many = refl; each = tt },
        record { count = refl; many = refl; each = tt },
        record { count = refl; many = length-map fields (field_sub spell) ∙ many; each = fields_are fields h },
      )

  instance_is : (id class : ℕ) (values : List ℕ) → length values ≡ big_number 4 (four (length values)) → IsSubRecord size (instance_sub spell id class values)
  instance_is id class values many = (long id, refl, long class, refl, many)

  elements_are : (ids : List ℕ) → AllByRecursion (λ (element : List ℕ). length element ≡ id_len size) (map spell ids)
  elements_are [] = tt
  elements_are (id ∷ ids) = (long id, elements_are ids)

  array_is : (id class : ℕ) (elements : List ℕ) → length elements ≡ big_number 4 (four (length elements)) → IsSubRecord size (array_sub spell id class elements)
  array_is id class elements many = (long id, refl, refl, long class, record { many = length-map elements spell ∙ many; each = elements_are elements })

narrow_class : (id super : ℕ) (fields : List (ℕ × ℕ)) → length fields ≡ big_number 2 (two (length fields))
    → AllByRecursion (λ (f : ℕ × ℕ). is_type f.1 ≡ true) fields → IsSubRecord sizes.Four (class_sub narrow id super fields)
narrow_class = class_is sizes.Four narrow (λ id. refl)

narrow_instance : (id class : ℕ) (values : List ℕ) → length values ≡ big_number 4 (four (length values))
    → IsSubRecord sizes.Four (instance_sub narrow id class values)
narrow_instance = instance_is sizes.Four narrow (λ id. refl)

narrow_array : (id class : ℕ) (elements : List ℕ) → length elements ≡ big_number 4 (four (length elements))
    → IsSubRecord sizes.Four (array_sub narrow id class elements)
narrow_array = array_is sizes.Four narrow (λ id. refl)

wide_class : (id super : ℕ) (fields : List (ℕ × ℕ)) → length fields ≡ big_number 2 (two (length fields))
    → AllByRecursion (λ (f : ℕ × ℕ). is_type f.1 ≡ true) fields → IsSubRecord sizes.Eight (class_sub wide id super fields)
wide_class = class_is sizes.Eight wide (λ id. refl)

-- a segment with a length below 65536
abbrev segment : List ℕ → Record
segment body = record { tag = 0x1c; time = four 0; size = narrow (length body); body = body }

abbrev segment_with : List SubRecord → Record
segment_with subs = segment (flat_map sub_record_text subs)

segment_is : (size : IdSize) (body : List ℕ) → length body ≡ big_number 4 (narrow (length body)) → IsRecord size (segment body)
segment_is size body reads = record { framed = record { time = refl; size = refl; body = reads }; fields = omega arith }

-- how a file of one segment is read
record IsRead (bytes : List ℕ) (size : IdSize) (subs : List SubRecord) : Type 0 where
  header : HasHeader size bytes
  whole : AreRecords size bytes (segment_with subs ∷ [])
  bodies : AreDumpSubRecords size (segment_with subs ∷ []) (subs ∷ [])

alone : (bytes : List ℕ) (size : IdSize) (subs : List SubRecord) → HasHeader size bytes → drop 31 bytes ≡ record_text (segment_with subs) ++ []
    → length (flat_map sub_record_text subs) ≡ big_number 4 (narrow (length (flat_map sub_record_text subs))) → AllByRecursion (IsSubRecord size) subs
    → IsRead bytes size subs
alone bytes size subs header whole reads each = record {
  header = header;
  whole = record { whole = whole; each = (segment_is size (flat_map sub_record_text subs) reads, tt) };
  bodies = (record { whole = refl; each = each }, tt);
}

-- cycles

abbrev cycle_subs : List SubRecord
cycle_subs = class_sub narrow 0x11 0x11 [] ∷ []

cycle_read : IsRead examples.cycle_file sizes.Four cycle_subs
cycle_read =
    alone examples.cycle_file sizes.Four cycle_subs
    (record { fits = lit≤ tt; long = lit≤ tt; magic = refl; id_size = refl })
    refl refl
    (narrow_class 0x11 0x11 [] refl tt, tt)

pub returns-clause-cycle : goal.returns-clause-cycle
returns-clause-cycle c =
    in_classes sizes.Four (segment_with cycle_subs ∷ []) (cycle_subs ∷ [])
    cycle_read.header cycle_read.whole cycle_read.bodies refl

abbrev cycle_above_subs : List SubRecord
cycle_above_subs = class_sub narrow 1 2 [] ∷ class_sub narrow 2 3 [] ∷ class_sub narrow 3 2 [] ∷ []

cycle_above_read : IsRead examples.cycle_above_file sizes.Four cycle_above_subs
cycle_above_read =
    alone examples.cycle_above_file sizes.Four cycle_above_subs
    (record { fits = lit≤ tt; long = lit≤ tt; magic = refl; id_size = refl })
    refl refl
    (narrow_class 1 2 [] refl tt, (narrow_class 2 3 [] refl tt, (narrow_class 3 2 [] refl tt, tt)))

pub returns-clause-cycle_above : goal.returns-clause-cycle_above
returns-clause-cycle_above c =
    in_classes sizes.Four (segment_with cycle_above_subs ∷ []) (cycle_above_subs ∷ [])
    cycle_above_read.header cycle_above_read.whole cycle_above_read.bodies refl

abbrev absent_super_subs : List SubRecord
absent_super_subs = class_sub narrow 1 2 [] ∷ class_sub narrow 2 9 [] ∷ []

absent_super_read : IsRead examples.absent_super_file sizes.Four absent_super_subs
absent_super_read =
    alone examples.absent_super_file sizes.Four absent_super_subs
    (record { fits = lit≤ tt; long = lit≤ tt; magic = refl; id_size = refl })
    refl refl
    (narrow_class 1 2 [] refl tt, (narrow_class 2 9 [] refl tt, tt))

pub returns-clause-absent_super : goal.returns-clause-absent_super
returns-clause-absent_super c = record {
  size = sizes.Four;
  records = segment_with absent_super_subs ∷ [];
  segments = absent_super_subs ∷ [];
  reads = record { header = absent_super_read.header; whole = absent_super_read.whole; bodies = absent_super_read.bodies; classes = refl; objects = refl };
  is = refl;
}

-- ID 0

abbrev null_class_before_a_cycle_subs : List SubRecord
null_class_before_a_cycle_subs = class_sub narrow 0 5 [] ∷ class_sub narrow 5 5 [] ∷ []

null_class_before_a_cycle_read : IsRead examples.null_class_before_a_cycle_file sizes.Four null_class_before_a_cycle_subs
null_class_before_a_cycle_read =
    alone examples.null_class_before_a_cycle_file sizes.Four null_class_before_a_cycle_subs
    (record { fits = lit≤ tt; long = lit≤ tt; magic = refl; id_size = refl })
    refl refl
    (narrow_class 0 5 [] refl tt, (narrow_class 5 5 [] refl tt, tt))

pub returns-clause-null_class_before_a_cycle : goal.returns-clause-null_class_before_a_cycle
returns-clause-null_class_before_a_cycle c =
    in_classes sizes.Four (segment_with null_class_before_a_cycle_subs ∷ []) (null_class_before_a_cycle_subs ∷ [])
    null_class_before_a_cycle_read.header null_class_before_a_cycle_read.whole null_class_before_a_cycle_read.bodies refl

abbrev null_class_subs : List SubRecord
null_class_subs = class_sub narrow 0 5 [] ∷ []

null_class_read : IsRead examples.null_class_file sizes.Four null_class_subs
null_class_read =
    alone examples.null_class_file sizes.Four null_class_subs
    (record { fits = lit≤ tt; long = lit≤ tt; magic = refl; id_size = refl })
    refl refl
    (narrow_class 0 5 [] refl tt, tt)

pub returns-clause-null_class : goal.returns-clause-null_class
returns-clause-null_class c =
    in_objects sizes.Four (segment_with null_class_subs ∷ []) (null_class_subs ∷ [])
    null_class_read.header null_class_read.whole null_class_read.bodies refl refl

-- instances that don't fit their class

abbrev size_mismatch_subs : List SubRecord
size_mismatch_subs = instance_sub narrow 0x20 0x11 (0x00 ∷ []) ∷ class_sub narrow 0x11 0 [] ∷ []

size_mismatch_read : IsRead examples.size_mismatch_file sizes.Four size_mismatch_subs
size_mismatch_read =
    alone examples.size_mismatch_file sizes.Four size_mismatch_subs
    (record { fits = lit≤ tt; long = lit≤ tt; magic = refl; id_size = refl })
    refl refl
    (narrow_instance 0x20 0x11 (0x00 ∷ []) refl, (narrow_class 0x11 0 [] refl tt, tt))

pub returns-clause-size_mismatch : goal.returns-clause-size_mismatch
returns-clause-size_mismatch c =
    in_objects sizes.Four (segment_with size_mismatch_subs ∷ []) (size_mismatch_subs ∷ [])
    size_mismatch_read.header size_mismatch_read.whole size_mismatch_read.bodies refl refl

-- the body of misfit_before_unknown
abbrev size_mismatch_before_unknown_body : List ℕ
size_mismatch_before_unknown_body = flat_map sub_record_text size_mismatch_subs ++ 0x09 ∷ []

pub returns-clause-size_mismatch_before_unknown : goal.returns-clause-size_mismatch_before_unknown
returns-clause-size_mismatch_before_unknown c =
    in_sub_records sizes.Four (segment size_mismatch_before_unknown_body ∷ [])
    (record { fits = lit≤ tt; long = lit≤ tt; magic = refl; id_size = refl })
    (record { whole = refl; each = (segment_is sizes.Four size_mismatch_before_unknown_body refl, tt) })
    (record {
      whole = [];
      r = segment size_mismatch_before_unknown_body;
      after = [];
      segments = [];
      span = record { start = 40; len = 62 };
      first = refl;
      before = tt;
      at = refl;
      faulty = record {
        front = size_mismatch_subs;
        rest = 0x09 ∷ [];
        whole = refl;
        each = (narrow_instance 0x20 0x11 (0x00 ∷ []) refl, (narrow_class 0x11 0 [] refl tt, tt));
        stuck = IsStuck.unknown 0x09 [] refl refl;
        place = refl;
      };
    })

abbrev repeated_size_mismatch_subs : List SubRecord
repeated_size_mismatch_subs = class_sub narrow 0x11 0 ((0x107, 2) ∷ []) ∷ instance_sub narrow 2 0x11 (four 5) ∷ instance_sub narrow 2 0x11 (0x00 ∷ []) ∷ []

repeated_size_mismatch_read : IsRead examples.repeated_size_mismatch_file sizes.Four repeated_size_mismatch_subs
repeated_size_mismatch_read =
    alone examples.repeated_size_mismatch_file sizes.Four repeated_size_mismatch_subs
    (record { fits = lit≤ tt; long = lit≤ tt; magic = refl; id_size = refl })
    refl refl
    (narrow_class 0x11 0 ((0x107, 2) ∷ []) refl (refl, tt), (narrow_instance 2 0x11 (four 5) refl, (narrow_instance 2 0x11 (0x00 ∷ []) refl, tt)))

pub returns-clause-repeated_size_mismatch : goal.returns-clause-repeated_size_mismatch
returns-clause-repeated_size_mismatch c = record {
  size = sizes.Four;
  records = segment_with repeated_size_mismatch_subs ∷ [];
  segments = repeated_size_mismatch_subs ∷ [];
  reads = record {
    header = repeated_size_mismatch_read.header;
    whole = repeated_size_mismatch_read.whole;
    bodies = repeated_size_mismatch_read.bodies;
    classes = refl;
    objects = refl;
  };
  is = refl;
}

-- identifiers of eight bytes

-- an instance with some values, and what stands behind it
abbrev wide_subs : List ℕ → List SubRecord
wide_subs values =
    instance_sub wide 0x20 0x12 values
    ∷ root_sub wide 0x20
    ∷ class_sub wide 0x11 0 ((0x107, 2) ∷ [])
    ∷ class_sub wide 0x12 0x11 ((0x108, 2) ∷ (0x109, 4) ∷ [])
    ∷ array_sub wide 5 0 []
    ∷ array_sub wide 6 0 []
    ∷ []

wide_are : (values : List ℕ) → length values ≡ big_number 4 (four (length values)) → AllByRecursion (IsSubRecord sizes.Eight) (wide_subs values)
wide_are values many = (
  instance_is sizes.Eight wide (λ id. refl) 0x20 0x12 values many,
  (
    root_is sizes.Eight wide (λ id. refl) 0x20,
    (
      wide_class 0x11 0 ((0x107, 2) ∷ []) refl (refl, tt),
      (
        wide_class 0x12 0x11 ((0x108, 2) ∷ (0x109, 4) ∷ []) refl (refl, (refl, tt)),
        (array_is sizes.Eight wide (λ id. refl) 5 0 [] refl, (array_is sizes.Eight wide (λ id. refl) 6 0 [] refl, tt)),
      ),
    ),
  ),
)

abbrev wide_instance_subs : List SubRecord
wide_instance_subs = wide_subs (wide 5 ++ 0x01 ∷ wide 6)

wide_instance_read : IsRead examples.wide_instance_file sizes.Eight wide_instance_subs
wide_instance_read =
    alone examples.wide_instance_file sizes.Eight wide_instance_subs
    (record { fits = lit≤ tt; long = lit≤ tt; magic = refl; id_size = refl })
    refl refl
    (wide_are (wide 5 ++ 0x01 ∷ wide 6) refl)

pub returns-clause-wide_instance : goal.returns-clause-wide_instance
returns-clause-wide_instance c = record {
  size = sizes.Eight;
  records = segment_with wide_instance_subs ∷ [];
  segments = wide_instance_subs ∷ [];
  reads = record { header = wide_instance_read.header; whole = wide_instance_read.whole; bodies = wide_instance_read.bodies; classes = refl; objects = refl };
  is = refl;
}

abbrev wide_size_mismatch_subs : List SubRecord
wide_size_mismatch_subs = wide_subs (wide 5 ++ 0x01 ∷ four 0 ++ 0x00 ∷ 0x00 ∷ 0x00 ∷ [])

wide_size_mismatch_read : IsRead examples.wide_size_mismatch_file sizes.Eight wide_size_mismatch_subs
wide_size_mismatch_read =
    alone examples.wide_size_mismatch_file sizes.Eight wide_size_mismatch_subs
    (record { fits = lit≤ tt; long = lit≤ tt; magic = refl; id_size = refl })
    refl refl
    (wide_are (wide 5 ++ 0x01 ∷ four 0 ++ 0x00 ∷ 0x00 ∷ 0x00 ∷ []) refl)

pub returns-clause-wide_size_mismatch : goal.returns-clause-wide_size_mismatch
returns-clause-wide_size_mismatch c =
    in_objects sizes.Eight (segment_with wide_size_mismatch_subs ∷ []) (wide_size_mismatch_subs ∷ [])
    wide_size_mismatch_read.header wide_size_mismatch_read.whole wide_size_mismatch_read.bodies refl refl

-- classes that aren't there

abbrev opaque_and_repeated_subs : List SubRecord
opaque_and_repeated_subs = root_sub narrow 1 ∷ array_sub narrow 1 0x99 (2 ∷ 3 ∷ []) ∷ class_sub narrow 0x11 0 [] ∷ instance_sub narrow 2 0x11 []
    ∷ instance_sub narrow 2 0x11 [] ∷ instance_sub narrow 3 0x98 (four 5) ∷ []

opaque_and_repeated_read : IsRead examples.opaque_and_repeated_file sizes.Four opaque_and_repeated_subs
opaque_and_repeated_read =
    alone examples.opaque_and_repeated_file sizes.Four opaque_and_repeated_subs
    (record { fits = lit≤ tt; long = lit≤ tt; magic = refl; id_size = refl })
    refl refl (
      root_is sizes.Four narrow (λ id. refl) 1,
      (
        narrow_array 1 0x99 (2 ∷ 3 ∷ []) refl,
        (narrow_class 0x11 0 [] refl tt, (narrow_instance 2 0x11 [] refl, (narrow_instance 2 0x11 [] refl, (narrow_instance 3 0x98 (four 5) refl, tt)))),
      ),
    )

pub returns-clause-opaque_and_repeated : goal.returns-clause-opaque_and_repeated
returns-clause-opaque_and_repeated c = record {
  size = sizes.Four;
  records = segment_with opaque_and_repeated_subs ∷ [];
  segments = opaque_and_repeated_subs ∷ [];
  reads = record {
    header = opaque_and_repeated_read.header;
    whole = opaque_and_repeated_read.whole;
    bodies = opaque_and_repeated_read.bodies;
    classes = refl;
    objects = refl;
  };
  is = refl;
}

pub returns-clause-counts : goal.returns-clause-counts
returns-clause-counts c = refl

-- references

abbrev text : ℕ → List ℕ → Record
text id bytes = record { tag = 0x01; time = four 0; size = four (4 + length bytes); body = narrow id ++ bytes }

text_is : (id : ℕ) (bytes : List ℕ) → 4 + length bytes ≡ big_number 4 (four (4 + length bytes)) → IsRecord sizes.Four (text id bytes)
text_is id bytes reads =
    let long : length (narrow id ++ bytes) ≡ 4 + length bytes = length-append (narrow id) bytes in
    record { framed = record { time = refl; size = refl; body = long ∙ reads }; fields = omega arith }

abbrev load : ℕ → ℕ → Record
load class name = record { tag = 0x02; time = four 0; size = four 16; body = four 1 ++ narrow class ++ four 0 ++ narrow name }

load_is : (class name : ℕ) → IsRecord sizes.Four (load class name)
load_is class name = record { framed = record { time = refl; size = refl; body = refl }; fields = lit≤ tt }

-- the names of the two classes, and a segment
abbrev named : List ℕ → List ℕ → List SubRecord → List Record
named reference weak subs =
    text 0x101 reference ∷ text 0x103 weak ∷ text 0x107 (codes "referent") ∷ load 0x11 0x101 ∷ load 0x13 0x103 ∷ segment_with subs ∷ []

-- all of them can be read
named_are : (reference weak : List ℕ) (subs : List SubRecord) → 4 + length reference ≡ big_number 4 (four (4 + length reference))
    → 4 + length weak ≡ big_number 4 (four (4 + length weak))
    → length (flat_map sub_record_text subs) ≡ big_number 4 (narrow (length (flat_map sub_record_text subs)))
    → AllByRecursion (IsRecord sizes.Four) (named reference weak subs)
named_are reference weak subs a b reads = (
  text_is 0x101 reference a,
  (
    text_is 0x103 weak b,
    (
      text_is 0x107 (codes "referent") refl,
      (load_is 0x11 0x101, (load_is 0x13 0x103, (segment_is sizes.Four (flat_map sub_record_text subs) reads, tt))),
    ),
  ),
)

-- a weak reference and its referent
abbrev weak_subs : List SubRecord
weak_subs = class_sub narrow 0x11 0 ((0x107, 2) ∷ []) ∷ class_sub narrow 0x13 0x11 [] ∷ instance_sub narrow 0x21 0x13 (four 5) ∷ array_sub narrow 5 0 [] ∷ []

weak_are : AllByRecursion (IsSubRecord sizes.Four) weak_subs
weak_are = (
  narrow_class 0x11 0 ((0x107, 2) ∷ []) refl (refl, tt),
  (narrow_class 0x13 0x11 [] refl tt, (narrow_instance 0x21 0x13 (four 5) refl, (narrow_array 5 0 [] refl, tt))),
)

-- a weak reference with a field of its own, and what both refer to
abbrev two_subs : List SubRecord
two_subs =
    class_sub narrow 0x11 0 ((0x107, 2) ∷ [])
    ∷ class_sub narrow 0x13 0x11 []
    ∷ class_sub narrow 0x14 0x13 ((0x107, 2) ∷ [])
    ∷ instance_sub narrow 0x22 0x14 (four 6 ++ four 5)
    ∷ array_sub narrow 5 0 []
    ∷ array_sub narrow 6 0 []
    ∷ []

two_are : AllByRecursion (IsSubRecord sizes.Four) two_subs
two_are = (
  narrow_class 0x11 0 ((0x107, 2) ∷ []) refl (refl, tt),
  (
    narrow_class 0x13 0x11 [] refl tt,
    (
      narrow_class 0x14 0x13 ((0x107, 2) ∷ []) refl (refl, tt),
      (narrow_instance 0x22 0x14 (four 6 ++ four 5) refl, (narrow_array 5 0 [] refl, (narrow_array 6 0 [] refl, tt))),
    ),
  ),
)

pub returns-clause-weak_reference : goal.returns-clause-weak_reference
returns-clause-weak_reference c = record {
  size = sizes.Four;
  records = named (codes "java/lang/ref/Reference") (codes "java/lang/ref/WeakReference") weak_subs;
  segments = weak_subs ∷ [];
  reads = record {
    header = record { fits = lit≤ tt; long = lit≤ tt; magic = refl; id_size = refl };
    whole = record { whole = refl; each = named_are (codes "java/lang/ref/Reference") (codes "java/lang/ref/WeakReference") weak_subs refl refl refl };
    bodies = (record { whole = refl; each = weak_are }, tt);
    classes = refl;
    objects = refl;
  };
  is = refl;
}

pub returns-clause-dotted_names : goal.returns-clause-dotted_names
returns-clause-dotted_names c = record {
  size = sizes.Four;
  records = named (codes "java.lang.ref.Reference") (codes "java.lang.ref.WeakReference") weak_subs;
  segments = weak_subs ∷ [];
  reads = record {
    header = record { fits = lit≤ tt; long = lit≤ tt; magic = refl; id_size = refl };
    whole = record { whole = refl; each = named_are (codes "java.lang.ref.Reference") (codes "java.lang.ref.WeakReference") weak_subs refl refl refl };
    bodies = (record { whole = refl; each = weak_are }, tt);
    classes = refl;
    objects = refl;
  };
  is = refl;
}

pub returns-clause-other_name_first : goal.returns-clause-other_name_first
returns-clause-other_name_first c = record {
  size = sizes.Four;
  records = load 0x13 0x107 ∷ named (codes "java/lang/ref/Reference") (codes "java/lang/ref/WeakReference") weak_subs;
  segments = weak_subs ∷ [];
  reads = record {
    header = record { fits = lit≤ tt; long = lit≤ tt; magic = refl; id_size = refl };
    whole = record {
      whole = refl;
      each =
          (load_is 0x13 0x107, named_are (codes "java/lang/ref/Reference") (codes "java/lang/ref/WeakReference") weak_subs refl refl refl);
    };
    bodies = (record { whole = refl; each = weak_are }, tt);
    classes = refl;
    objects = refl;
  };
  is = refl;
}

pub returns-clause-two_referents : goal.returns-clause-two_referents
returns-clause-two_referents c = record {
  size = sizes.Four;
  records = named (codes "java/lang/ref/Reference") (codes "java/lang/ref/WeakReference") two_subs;
  segments = two_subs ∷ [];
  reads = record {
    header = record { fits = lit≤ tt; long = lit≤ tt; magic = refl; id_size = refl };
    whole = record { whole = refl; each = named_are (codes "java/lang/ref/Reference") (codes "java/lang/ref/WeakReference") two_subs refl refl refl };
    bodies = (record { whole = refl; each = two_are }, tt);
    classes = refl;
    objects = refl;
  };
  is = refl;
}
