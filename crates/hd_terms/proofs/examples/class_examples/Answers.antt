-- Each example is the classes of a file, with the chain, the layout or the fault that they have.
-- What isn't computed alone is that nothing else can be read.
use Rattle.std.proofs.Common.{◌≡◌, ◌≢◌, ℕ, ◌≤◌, false, List, [], ◌∷◌, ◌++◌, length, lit<, lit≤, sym, ap, refl, ◌∙◌, ◌+◌, arith}
use Rattle.std.proofs.lemmas.List.{length-append, append-nil}
use Rattle.std.specs.Prelude.{codes}
use Rattle.std.specs.List.{flat_map, AllByRecursion}
use Rattle.byteorder.specs.Endian.{big_number}
use Rattle.hd_terms.specs.declared.IdSize.TheVariants as sizes
use Rattle.hd_terms.specs.declared.RootKind.TheVariants as roots
use Rattle.hd_terms.specs.declared.errors.Cause.TheVariants as causes
use Rattle.hd_terms.specs.Records.{Record}
use Rattle.hd_terms.specs.Types.{is_type}
use Rattle.hd_terms.specs.SubRecords.{SubRecord, RootOf, ClassDump, ObjectArray, PrimitiveArray, sub_record_text, IsSubRecord, Counted, IsCounted, ClassValue}
use Rattle.hd_terms.specs.SubRecords.{IsClassValue, ClassField, IsClassField, ClassHead, IsClassHead, class_head_text, value_text}
use Rattle.hd_terms.specs.ReadFaults.{IsReadFault, fault, IsBeforeType, IsStuck, in_sub_records}
use Rattle.hd_terms.specs.Examples.{head_of, segment_head, four, narrow, two, name, class_front, class_constants, class_statics}
use Rattle.hd_terms.proofs.examples.class_examples.Goals as goal

-- a list with an element isn't empty
some : (x : ℕ) (xs : List ℕ) → x ∷ xs ≢ []
some x xs e = cc

-- a segment with a length below 256
abbrev segment : ℕ → List ℕ → Record
segment n body = record { tag = 0x1c; time = four 0; size = four n; body = body }

-- the parts of the class
abbrev head : ClassHead
head = record {
  id = four 0x11;
  serial = four 0;
  super = four 0;
  loader = four 5;
  signers = four 0;
  domain = four 0;
  reserved = four 0 ++ four 0;
  instance = four 4;
}

head_is : IsClassHead sizes.Four head
head_is = record { id = refl; serial = refl; super = refl; loader = refl; signers = refl; domain = refl; reserved = refl; instance = refl }

abbrev constants : Counted ClassValue
constants = record { count = two 1; items = (record { key = two 1; code = 2; value = four 2 }) ∷ [] }

constants_are : IsCounted (IsClassValue sizes.Four 2) constants
constants_are = record { count = refl; many = refl; each = (record { key = refl; known = refl; value = refl }, tt) }

-- the first static, and the second
abbrev number : ClassValue
number = record { key = name 1; code = 0x0a; value = four 7 }

number_is : IsClassValue sizes.Four 4 number
number_is = record { key = refl; known = refl; value = refl }

abbrev reference : ClassValue
reference = record { key = name 2; code = 2; value = four 3 }

reference_is : IsClassValue sizes.Four 4 reference
reference_is = record { key = refl; known = refl; value = refl }

abbrev statics : Counted ClassValue
statics = record { count = two 2; items = number ∷ reference ∷ [] }

statics_are : IsCounted (IsClassValue sizes.Four 4) statics
statics_are = record { count = refl; many = refl; each = (number_is, (reference_is, tt)) }

-- no fields
abbrev no_fields : Counted ClassField
no_fields = record { count = two 0; items = [] }

no_fields_are : IsCounted (IsClassField sizes.Four) no_fields
no_fields_are = record { count = refl; many = refl; each = tt }

-- the sub-records of class_object_and_primitive_array
abbrev class_subs : List SubRecord
class_subs =
    RootOf roots.StickyClass (four 0x11) []
    ∷ ClassDump head constants statics no_fields
    ∷ ObjectArray (four 2) (four 0) (four 0) (four 0) []
    ∷ ObjectArray (four 3) (four 0) (four 0) (four 0) []
    ∷ ObjectArray (four 5) (four 0) (four 0) (four 0) []
    ∷ PrimitiveArray (four 6) (four 0) (four 2) 0x0a (four 1 ++ four 2)
    ∷ []

class_subs_are : AllByRecursion (IsSubRecord sizes.Four) class_subs
class_subs_are = (
  (refl, refl),
  (
    (head_is, constants_are, statics_are, no_fields_are),
    (
      (refl, refl, refl, refl, record { many = refl; each = tt }),
      (
        (refl, refl, refl, refl, record { many = refl; each = tt }),
        ((refl, refl, refl, refl, record { many = refl; each = tt }), ((refl, refl, refl, refl, refl), tt)),
      ),
    ),
  ),
)

pub returns-clause-class_object_and_primitive_array : goal.returns-clause-class_object_and_primitive_array
returns-clause-class_object_and_primitive_array c = record {
  size = sizes.Four;
  records = segment 0x92 (flat_map sub_record_text class_subs) ∷ [];
  segments = class_subs ∷ [];
  reads = record {
    header = record { fits = lit≤ tt; long = lit≤ tt; magic = refl; id_size = refl };
    whole = record { whole = refl; each = (record { framed = record { time = refl; size = refl; body = refl }; fields = lit≤ tt }, tt) };
    bodies = (record { whole = refl; each = class_subs_are }, tt);
    classes = refl;
    objects = refl;
  };
  is = refl;
}

-- a text, and the load of a class
abbrev text : ℕ → List ℕ → Record
text id bytes = record { tag = 0x01; time = four 0; size = four (4 + length bytes); body = narrow id ++ bytes }

abbrev load : ℕ → ℕ → Record
load class name = record { tag = 0x02; time = four 0; size = four 16; body = four 1 ++ narrow class ++ four 0 ++ narrow name }

pub returns-clause-named_statics : goal.returns-clause-named_statics
returns-clause-named_statics c = record {
  size = sizes.Four;
  records = text 0x201 (codes "size") ∷ text 0x202 (codes "cache") ∷ text 0x301 (codes "Store") ∷ load 0x11 0x301 ∷ segment 0x92
      (flat_map sub_record_text class_subs) ∷ [];
  segments = class_subs ∷ [];
  reads = record {
    header = record { fits = lit≤ tt; long = lit≤ tt; magic = refl; id_size = refl };
    whole = record {
      whole = refl;
      each = (
        record { framed = record { time = refl; size = refl; body = refl }; fields = lit≤ tt },
        (
          record { framed = record { time = refl; size = refl; body = refl }; fields = lit≤ tt },
          (
            record { framed = record { time = refl; size = refl; body = refl }; fields = lit≤ tt },
            (
              record { framed = record { time = refl; size = refl; body = refl }; fields = lit≤ tt },
              (record { framed = record { time = refl; size = refl; body = refl }; fields = lit≤ tt }, tt),
            ),
          ),
        ),
      );
    };
    bodies = (record { whole = refl; each = class_subs_are }, tt);
    classes = refl;
    objects = refl;
  };
  is = refl;
}

pub returns-clause-static_name : goal.returns-clause-static_name
returns-clause-static_name c = refl

pub returns-clause-no_such_static : goal.returns-clause-no_such_static
returns-clause-no_such_static c = refl

pub returns-clause-static_without_name : goal.returns-clause-static_without_name
returns-clause-static_without_name c = refl

pub returns-clause-counts : goal.returns-clause-counts
returns-clause-counts c = refl

pub returns-clause-class_edges : goal.returns-clause-class_edges
returns-clause-class_edges c = refl

-- the body of short_class
abbrev short_class_body : List ℕ
short_class_body = 0x05 ∷ four 0x11 ++ class_front ++ class_constants ++ two 2 ++ name 1 ++ 0x0a ∷ four 7 ++ name 2 ++ 0x02 ∷ 0x00 ∷ 0x00 ∷ []

pub returns-clause-short_class : goal.returns-clause-short_class
returns-clause-short_class c =
    in_sub_records sizes.Four (segment 69 short_class_body ∷ [])
    (record { fits = lit≤ tt; long = lit≤ tt; magic = refl; id_size = refl })
    (record { whole = refl; each = (record { framed = record { time = refl; size = refl; body = refl }; fields = lit≤ tt }, tt) })
    (record {
      whole = [];
      r = segment 69 short_class_body;
      after = [];
      segments = [];
      span = record { start = 40; len = 69 };
      first = refl;
      before = tt;
      at = refl;
      faulty = record {
        front = RootOf roots.StickyClass (four 0x11) [] ∷ [];
        rest = class_front ++ class_constants ++ two 2 ++ name 1 ++ 0x0a ∷ four 7 ++ name 2 ++ 0x02 ∷ 0x00 ∷ 0x00 ∷ [];
        whole = refl;
        each = ((refl, refl), tt);
        stuck = IsStuck.short (ClassDump head constants statics no_fields) (head_is, constants_are, statics_are, no_fields_are)
            (record { some = some _ _; missing = 0x00 ∷ 0x03 ∷ two 0; lacks = some _ _; whole = refl });
        place = refl;
      };
    })

-- a segment that begins with a class up to an unknown type
of_other_type : (n : ℕ) (before : List ℕ) (code : ℕ) (more : List ℕ) → length (0x20 ∷ before ++ code ∷ more) ≡ n → n ≡ big_number 4 (four n) → n ≤ 255
    → IsBeforeType sizes.Four before → is_type code ≡ false
    → IsReadFault (head_of 4 ++ segment_head n ++ 0x20 ∷ before ++ code ∷ more) (fault causes.UnknownType 40)
of_other_type n before code more long reads low front other =
    let body : List ℕ = 0x20 ∷ before ++ code ∷ more in
    let size : length (head_of 4 ++ segment_head n ++ body) ≡ 40 + length body = length-append (head_of 4 ++ segment_head n) body in
    in_sub_records sizes.Four (segment n body ∷ [])
    (record { fits = omega arith; long = omega arith; magic = refl; id_size = refl })
    (record {
      whole = ap (λ (xs : List ℕ). segment_head n ++ xs) (sym (append-nil body));
      each = (record { framed = record { time = refl; size = refl; body = long ∙ reads }; fields = omega arith }, tt);
    })
    (record {
      whole = [];
      r = segment n body;
      after = [];
      segments = [];
      span = record { start = 40; len = length body };
      first = refl;
      before = tt;
      at = refl;
      faulty = record { front = []; rest = body; whole = refl; each = tt; stuck = IsStuck.other_class_type before code more front refl other; place = refl };
    })

-- the front of the class up to the type of its constant
abbrev before_constant : List ℕ
before_constant = class_head_text head ++ two 1 ++ two 1

is_before_constant : IsBeforeType sizes.Four before_constant
is_before_constant = IsBeforeType.of_constant head (record { count = two 1; items = [] }) (two 1) head_is
    (record { count = refl; more = lit< tt; each = tt }) refl

pub returns-clause-unknown_constant : goal.returns-clause-unknown_constant
returns-clause-unknown_constant c = of_other_type 68 before_constant 3 (four 2 ++ class_statics ++ two 0) refl refl (lit≤ tt) is_before_constant refl

pub returns-clause-unknown_and_short : goal.returns-clause-unknown_and_short
returns-clause-unknown_and_short c = of_other_type 42 before_constant 3 [] refl refl (lit≤ tt) is_before_constant refl

-- and up to the type of its second static
abbrev before_static : List ℕ
before_static = class_head_text head ++ class_constants ++ two 2 ++ value_text number ++ name 2

is_before_static : IsBeforeType sizes.Four before_static
is_before_static =
    IsBeforeType.of_static head constants (record { count = two 2; items = number ∷ [] }) (name 2) head_is constants_are
    (record { count = refl; more = lit< tt; each = (number_is, tt) }) refl

pub returns-clause-unknown_static : goal.returns-clause-unknown_static
returns-clause-unknown_static c = of_other_type 62 before_static 0 [] refl refl (lit≤ tt) is_before_static refl

-- and up to the type of a field
abbrev before_field : List ℕ
before_field = class_head_text head ++ class_constants ++ class_statics ++ two 1 ++ name 3

is_before_field : IsBeforeType sizes.Four before_field
is_before_field =
    IsBeforeType.of_field head constants statics (record { count = two 1; items = [] }) (name 3) head_is constants_are statics_are
    (record { count = refl; more = lit< tt; each = tt }) refl

pub returns-clause-unknown_field : goal.returns-clause-unknown_field
returns-clause-unknown_field c = of_other_type 73 before_field 12 [] refl refl (lit≤ tt) is_before_field refl
