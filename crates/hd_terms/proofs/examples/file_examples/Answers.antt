-- Each example is a file, spelled field by field, with the dump or the fault that it has.
-- Records and sub-records are given, and `cc` compares what they spell with the bytes.
use Rattle.std.proofs.Common.{◌≡◌, ◌≢◌, ◌∙◌, ℕ, suc, ◌+◌, ◌-◌, ◌≤◌, List, [], ◌∷◌, ◌++◌, length, take, drop, lit≤, subst, sym, ap, refl, arith}
use Rattle.std.proofs.lemmas.List.{length-take, length-drop, length-append, take-append-drop}
use Rattle.std.specs.List.{flat_map}
use Rattle.hd_terms.specs.declared.IdSize.TheVariants as sizes
use Rattle.hd_terms.specs.declared.RootKind.TheVariants as roots
use Rattle.hd_terms.specs.declared.errors.Cause.TheVariants as causes
use Rattle.hd_terms.specs.Records.{Record, IsFramed, IsRecord, record_text}
use Rattle.hd_terms.specs.SubRecords.{SubRecord, RootOf, ObjectArray, PrimitiveArray, sub_record_text}
use Rattle.hd_terms.specs.ReadFaults.{IsReadFault, fault, no_header, other_text, other_id_size, in_a_record, IsStuckRecord, IsStuck, in_records, in_sub_records}
use Rattle.hd_terms.specs.ReadFaults.{in_objects}
use Rattle.hd_terms.specs.Examples.{head_of, four}
use Rattle.hd_terms.specs.Examples as examples
use Rattle.hd_terms.proofs.examples.file_examples.Goals as goal

-- a list with an element isn't empty
some : (x : ℕ) (xs : List ℕ) → x ∷ xs ≢ []
some x xs e = cc

-- a front that goes beyond a first part
take-append-add : (xs ys : List ℕ) (n : ℕ) → take (length xs + n) (xs ++ ys) ≡ xs ++ take n ys
take-append-add [] ys n = ap (λ (k : ℕ). take k ys) (let same : 0 + n ≡ n = omega arith in same)
take-append-add (x ∷ xs) ys n =
    let same : suc (length xs) + n ≡ suc (length xs + n) = omega arith in
    ap (λ (k : ℕ). take k (x ∷ xs ++ ys)) same ∙ ap (λ (zs : List ℕ). x ∷ zs) (take-append-add xs ys n)

-- a segment with a length below 256
abbrev segment : ℕ → List ℕ → Record
segment n body = record { tag = 0x1c; time = four 0; size = four n; body = body }

-- what can be left out of nine zero bytes
abbrev zeros : Record
zeros = record { tag = 0; time = four 0; size = four 0; body = [] }

pub returns-clause-empty_dump : goal.returns-clause-empty_dump
returns-clause-empty_dump c = record {
  size = sizes.Four;
  records = [];
  segments = [];
  reads = record {
    header = record { fits = lit≤ tt; long = lit≤ tt; magic = refl; id_size = refl };
    whole = record { whole = refl; each = tt };
    bodies = tt;
    classes = refl;
    objects = refl;
  };
  is = refl;
}

pub returns-clause-jdk_8 : goal.returns-clause-jdk_8
returns-clause-jdk_8 c = record {
  size = sizes.Four;
  records = [];
  segments = [];
  reads = record {
    header = record { fits = lit≤ tt; long = lit≤ tt; magic = refl; id_size = refl };
    whole = record { whole = refl; each = tt };
    bodies = tt;
    classes = refl;
    objects = refl;
  };
  is = refl;
}

pub returns-clause-closure : goal.returns-clause-closure
returns-clause-closure c = record {
  size = sizes.Four;
  records = [];
  segments = [];
  reads = record {
    header = record { fits = lit≤ tt; long = lit≤ tt; magic = refl; id_size = refl };
    whole = record { whole = refl; each = tt };
    bodies = tt;
    classes = refl;
    objects = refl;
  };
  is = refl;
}

-- the sub-records of two_arrays
abbrev two_arrays_subs : List SubRecord
two_arrays_subs =
    RootOf roots.Unknown (four 1) [] ∷ ObjectArray (four 1) (four 0) (four 3) (four 0) (four 2 ∷ four 0 ∷ four 9 ∷ [])
    ∷ ObjectArray (four 2) (four 0) (four 0) (four 0) [] ∷ []

pub returns-clause-two_arrays : goal.returns-clause-two_arrays
returns-clause-two_arrays c = record {
  size = sizes.Four;
  records = segment 0x33 (flat_map sub_record_text two_arrays_subs) ∷ [];
  segments = two_arrays_subs ∷ [];
  reads = record {
    header = record { fits = lit≤ tt; long = lit≤ tt; magic = refl; id_size = refl };
    whole = record { whole = refl; each = (record { framed = record { time = refl; size = refl; body = refl }; fields = lit≤ tt }, tt) };
    bodies = (
      record {
        whole = refl;
        each = (
          (refl, refl),
          (
            (refl, refl, refl, refl, record { many = refl; each = (refl, (refl, (refl, tt))) }),
            ((refl, refl, refl, refl, record { many = refl; each = tt }), tt),
          ),
        );
      },
      tt,
    );
    classes = refl;
    objects = refl;
  };
  is = refl;
}

pub returns-clause-null_object : goal.returns-clause-null_object
returns-clause-null_object c =
    in_objects sizes.Four (segment 17 (0x22 ∷ four 0 ++ four 0 ++ four 0 ++ four 0) ∷ [])
    ((ObjectArray (four 0) (four 0) (four 0) (four 0) [] ∷ []) ∷ [])
    (record { fits = lit≤ tt; long = lit≤ tt; magic = refl; id_size = refl })
    (record { whole = refl; each = (record { framed = record { time = refl; size = refl; body = refl }; fields = lit≤ tt }, tt) })
    (record { whole = refl; each = ((refl, refl, refl, refl, record { many = refl; each = tt }), tt) }, tt)
    refl
    refl

pub returns-clause-unknown_sub_record : goal.returns-clause-unknown_sub_record
returns-clause-unknown_sub_record c =
    in_sub_records sizes.Four (segment 1 (9 ∷ []) ∷ [])
    (record { fits = lit≤ tt; long = lit≤ tt; magic = refl; id_size = refl })
    (record { whole = refl; each = (record { framed = record { time = refl; size = refl; body = refl }; fields = lit≤ tt }, tt) })
    (record {
      whole = [];
      r = segment 1 (9 ∷ []);
      after = [];
      segments = [];
      span = record { start = 40; len = 1 };
      first = refl;
      before = tt;
      at = refl;
      faulty = record { front = []; rest = 9 ∷ []; whole = refl; each = tt; stuck = IsStuck.unknown 9 [] refl refl; place = refl };
    })

pub returns-clause-cut_record : goal.returns-clause-cut_record
returns-clause-cut_record c =
    in_records (in_a_record sizes.Four
    (record { fits = lit≤ tt; long = lit≤ tt; magic = refl; id_size = refl })
    (record {
      records = [];
      rest = four 0 ++ four 0;
      whole = refl;
      each = tt;
      stuck = IsStuckRecord.cut zeros (record { time = refl; size = refl; body = refl })
          (record { some = some _ _; missing = 0 ∷ []; lacks = some _ _; whole = refl });
      place = refl;
    }))

pub returns-clause-short_sub_record : goal.returns-clause-short_sub_record
returns-clause-short_sub_record c =
    in_sub_records sizes.Four (segment 4 (0xff ∷ 0 ∷ 0 ∷ 0 ∷ []) ∷ [])
    (record { fits = lit≤ tt; long = lit≤ tt; magic = refl; id_size = refl })
    (record { whole = refl; each = (record { framed = record { time = refl; size = refl; body = refl }; fields = lit≤ tt }, tt) })
    (record {
      whole = [];
      r = segment 4 (0xff ∷ 0 ∷ 0 ∷ 0 ∷ []);
      after = [];
      segments = [];
      span = record { start = 40; len = 4 };
      first = refl;
      before = tt;
      at = refl;
      faulty = record {
        front = [];
        rest = 0xff ∷ 0 ∷ 0 ∷ 0 ∷ [];
        whole = refl;
        each = tt;
        stuck = IsStuck.short (RootOf roots.Unknown (four 0) []) (refl, refl) (record { some = some _ _; missing = 0 ∷ []; lacks = some _ _; whole = refl });
        place = refl;
      };
    })

pub returns-clause-bad_identifier_size : goal.returns-clause-bad_identifier_size
returns-clause-bad_identifier_size c = in_records (other_id_size (lit≤ tt) (lit≤ tt) refl (λ e. omega arith) (λ e. omega arith))

pub returns-clause-two_mistakes : goal.returns-clause-two_mistakes
returns-clause-two_mistakes c =
    in_records (in_a_record sizes.Four
    (record { fits = lit≤ tt; long = lit≤ tt; magic = refl; id_size = refl })
    (record {
      records = segment 1 (9 ∷ []) ∷ [];
      rest = 0 ∷ 0 ∷ 0 ∷ [];
      whole = refl;
      each = (record { framed = record { time = refl; size = refl; body = refl }; fields = lit≤ tt }, tt);
      stuck = IsStuckRecord.cut zeros (record { time = refl; size = refl; body = refl })
          (record { some = some _ _; missing = 0 ∷ 0 ∷ four 0; lacks = some _ _; whole = refl });
      place = refl;
    }))

pub returns-clause-other_text : goal.returns-clause-other_text
returns-clause-other_text c = in_records (other_text (lit≤ tt) (lit≤ tt) refl)

pub returns-clause-cut_body : goal.returns-clause-cut_body
returns-clause-cut_body c =
    in_records (in_a_record sizes.Four
    (record { fits = lit≤ tt; long = lit≤ tt; magic = refl; id_size = refl })
    (record {
      records = [];
      rest = 0x1c ∷ four 0 ++ four 5 ++ 0xff ∷ 0 ∷ 0 ∷ 0 ∷ [];
      whole = refl;
      each = tt;
      stuck = IsStuckRecord.cut (segment 5 (0xff ∷ four 0)) (record { time = refl; size = refl; body = refl })
          (record { some = some _ _; missing = 0 ∷ []; lacks = some _ _; whole = refl });
      place = refl;
    }))

-- a record of three bytes with the tag of a text
abbrev short_text : Record
short_text = record { tag = 1; time = four 0; size = four 3; body = 0 ∷ 0 ∷ 0 ∷ [] }

pub returns-clause-short_record : goal.returns-clause-short_record
returns-clause-short_record c =
    in_records (in_a_record sizes.Four
    (record { fits = lit≤ tt; long = lit≤ tt; magic = refl; id_size = refl })
    (record {
      records = [];
      rest = record_text short_text;
      whole = refl;
      each = tt;
      stuck = IsStuckRecord.short short_text [] (record { time = refl; size = refl; body = refl }) refl (lit≤ tt);
      place = refl;
    }))

pub returns-clause-short_and_cut : goal.returns-clause-short_and_cut
returns-clause-short_and_cut c =
    in_records (in_a_record sizes.Four
    (record { fits = lit≤ tt; long = lit≤ tt; magic = refl; id_size = refl })
    (record {
      records = [];
      rest = record_text short_text ++ 1 ∷ [];
      whole = refl;
      each = tt;
      stuck = IsStuckRecord.short short_text (1 ∷ []) (record { time = refl; size = refl; body = refl }) refl (lit≤ tt);
      place = refl;
    }))

-- a text of one byte, and its ID
abbrev text_under : ℕ → ℕ → Record
text_under id byte = record { tag = 1; time = four 0; size = four 5; body = four id ++ byte ∷ [] }

abbrev text : ℕ → Record
text byte = text_under 0xc1 byte

-- a class that is loaded, and the ID of its name
abbrev load_as : ℕ → ℕ → Record
load_as class name = record { tag = 2; time = four 0; size = four 16; body = four 1 ++ four class ++ four 0 ++ four name }

abbrev load : Record
load = load_as 0x11 0xc1

-- texts of five bytes can be read
text_is : (id byte : ℕ) → IsRecord sizes.Four (text_under id byte)
text_is id byte = record { framed = record { time = refl; size = refl; body = refl }; fields = lit≤ tt }

-- and so can the class
load_is : (class name : ℕ) → IsRecord sizes.Four (load_as class name)
load_is class name = record { framed = record { time = refl; size = refl; body = refl }; fields = lit≤ tt }

abbrev repeated_records : List Record
repeated_records = text 0x41 ∷ text 0x42 ∷ load ∷ load ∷ []

pub returns-clause-repeated_strings_and_loads : goal.returns-clause-repeated_strings_and_loads
returns-clause-repeated_strings_and_loads c = record {
  size = sizes.Four;
  records = repeated_records;
  segments = [];
  reads = record {
    header = record { fits = lit≤ tt; long = lit≤ tt; magic = refl; id_size = refl };
    whole = record { whole = refl; each = (text_is 0xc1 0x41, (text_is 0xc1 0x42, (load_is 0x11 0xc1, (load_is 0x11 0xc1, tt)))) };
    bodies = tt;
    classes = refl;
    objects = refl;
  };
  is = refl;
}

abbrev named_records : List Record
named_records = text 0x41 ∷ text 0x42 ∷ text_under 0xc2 0x43 ∷ load ∷ load_as 0x11 0xc2 ∷ load_as 0x12 0xc3 ∷ []

pub returns-clause-first_names : goal.returns-clause-first_names
returns-clause-first_names c = record {
  size = sizes.Four;
  records = named_records;
  segments = [];
  reads = record {
    header = record { fits = lit≤ tt; long = lit≤ tt; magic = refl; id_size = refl };
    whole = record {
      whole = refl;
      each =
          (text_is 0xc1 0x41, (text_is 0xc1 0x42, (text_is 0xc2 0x43, (load_is 0x11 0xc1, (load_is 0x11 0xc2, (load_is 0x12 0xc3, tt))))));
    };
    bodies = tt;
    classes = refl;
    objects = refl;
  };
  is = refl;
}

pub returns-clause-counts : goal.returns-clause-counts
returns-clause-counts c = refl

pub returns-clause-skipped_record : goal.returns-clause-skipped_record
returns-clause-skipped_record c = record {
  size = sizes.Four;
  records = (record { tag = 0x77; time = four 0; size = four 2; body = 0xab ∷ 0xcd ∷ [] }) ∷ segment 0x33 (flat_map sub_record_text two_arrays_subs) ∷ [];
  segments = two_arrays_subs ∷ [];
  reads = record {
    header = record { fits = lit≤ tt; long = lit≤ tt; magic = refl; id_size = refl };
    whole = record {
      whole = refl;
      each = (
        record { framed = record { time = refl; size = refl; body = refl }; fields = lit≤ tt },
        (record { framed = record { time = refl; size = refl; body = refl }; fields = lit≤ tt }, tt),
      );
    };
    bodies = (
      record {
        whole = refl;
        each = (
          (refl, refl),
          (
            (refl, refl, refl, refl, record { many = refl; each = (refl, (refl, (refl, tt))) }),
            ((refl, refl, refl, refl, record { many = refl; each = tt }), tt),
          ),
        );
      },
      tt,
    );
    classes = refl;
    objects = refl;
  };
  is = refl;
}

-- the sub-records of repeated_id
abbrev repeated_id_subs : List SubRecord
repeated_id_subs =
    ObjectArray (four 1) (four 0) (four 1) (four 0) (four 2 ∷ []) ∷ ObjectArray (four 2) (four 0) (four 0) (four 0) []
    ∷ ObjectArray (four 1) (four 0) (four 1) (four 0) (four 5 ∷ []) ∷ []

pub returns-clause-repeated_id : goal.returns-clause-repeated_id
returns-clause-repeated_id c = record {
  size = sizes.Four;
  records = segment 59 (flat_map sub_record_text repeated_id_subs) ∷ [];
  segments = repeated_id_subs ∷ [];
  reads = record {
    header = record { fits = lit≤ tt; long = lit≤ tt; magic = refl; id_size = refl };
    whole = record { whole = refl; each = (record { framed = record { time = refl; size = refl; body = refl }; fields = lit≤ tt }, tt) };
    bodies = (
      record {
        whole = refl;
        each = (
          (refl, refl, refl, refl, record { many = refl; each = (refl, tt) }),
          (
            (refl, refl, refl, refl, record { many = refl; each = tt }),
            ((refl, refl, refl, refl, record { many = refl; each = (refl, tt) }), tt),
          ),
        );
      },
      tt,
    );
    classes = refl;
    objects = refl;
  };
  is = refl;
}

-- the one record of two_arrays
abbrev one_record : Record
one_record = segment 0x33 (flat_map sub_record_text two_arrays_subs)

pub returns-clause-prefixes_of_the_header : goal.returns-clause-prefixes_of_the_header
returns-clause-prefixes_of_the_header c n le = in_records (no_header (simp length-take (omega arith)))

-- what a header and the front of one record are read as
front_of_a_record : (m : ℕ) (text missing : List ℕ) (r : Record) → length (take (m + 1) text) ≡ m + 1 → m ≤ 100 → IsFramed r → take (m + 1) text
    ++ missing ≡ record_text r → missing ≢ []
    → IsReadFault (head_of 4 ++ take (m + 1) text) (fault causes.Truncated 31)
front_of_a_record m text missing r long le is whole lacks =
    let size : length (head_of 4 ++ take (m + 1) text) ≡ 31 + (m + 1) = length-append (head_of 4) (take (m + 1) text) ∙ ap (λ (k : ℕ). 31 + k) long in
    in_records (in_a_record sizes.Four
    (record { fits = omega arith; long = omega arith; magic = refl; id_size = refl })
    (record {
      records = [];
      rest = take (m + 1) text;
      whole = refl;
      each = tt;
      stuck = IsStuckRecord.cut r is
          (record { some = λ e. (let none : m + 1 ≡ 0 = sym long ∙ ap length e in omega arith); missing = missing; lacks = lacks; whole = whole });
      place = refl;
    }))

pub returns-clause-prefixes_of_the_record : goal.returns-clause-prefixes_of_the_record
returns-clause-prefixes_of_the_record c n low high =
    let text : List ℕ = record_text one_record in
    let long : length (take ((n - 32) + 1) text) ≡ (n - 32) + 1 = simp length-take (omega arith) in
    let same : n ≡ 31 + ((n - 32) + 1) = omega arith in
    let cut : take (31 + ((n - 32) + 1)) (head_of 4 ++ text) ≡ head_of 4 ++ take ((n - 32) + 1) text = take-append-add (head_of 4) text ((n - 32) + 1) in
    let left : drop ((n - 32) + 1) text ≢ [] = λ e. (let none : length text - ((n - 32) + 1) ≡ 0 = sym (length-drop ((n - 32) + 1) text) ∙ ap length e in
    omega arith) in
    subst (λ (xs : List ℕ). IsReadFault xs (fault causes.Truncated 31)) (sym (ap (λ (k : ℕ). take k examples.two_arrays_file) same ∙ cut))
    (front_of_a_record (n - 32) text (drop ((n - 32) + 1) text) one_record long (omega arith) (record { time = refl; size = refl; body = refl })
    (take-append-drop ((n - 32) + 1) text) left)

-- a primitive array of no elements of a type 2
abbrev other_elements : List ℕ
other_elements = 0x23 ∷ four 1 ++ four 0 ++ four 0 ++ 0x02 ∷ []

pub returns-clause-unknown_type : goal.returns-clause-unknown_type
returns-clause-unknown_type c =
    in_sub_records sizes.Four (segment 14 other_elements ∷ [])
    (record { fits = lit≤ tt; long = lit≤ tt; magic = refl; id_size = refl })
    (record { whole = refl; each = (record { framed = record { time = refl; size = refl; body = refl }; fields = lit≤ tt }, tt) })
    (record {
      whole = [];
      r = segment 14 other_elements;
      after = [];
      segments = [];
      span = record { start = 40; len = 14 };
      first = refl;
      before = tt;
      at = refl;
      faulty = record {
        front = [];
        rest = other_elements;
        whole = refl;
        each = tt;
        stuck = IsStuck.other_type (four 1) (four 0) (four 0) 2 [] refl refl refl refl refl;
        place = refl;
      };
    })

-- the sub-records of root_kinds
abbrev root_kinds_subs : List SubRecord
root_kinds_subs =
    RootOf roots.Unknown (four 1) []
    ∷ RootOf roots.JniGlobal (four 2) (four 0x66)
    ∷ RootOf roots.JniLocal (four 3) (four 0x77 ++ four 0x88)
    ∷ RootOf roots.JavaFrame (four 4) (four 0x77 ++ four 0x88)
    ∷ RootOf roots.NativeStack (four 5) (four 0x77)
    ∷ RootOf roots.StickyClass (four 6) []
    ∷ RootOf roots.ThreadBlock (four 7) (four 0x77)
    ∷ RootOf roots.MonitorUsed (four 8) []
    ∷ RootOf roots.Thread (four 9) (four 0x77 ++ four 0x77)
    ∷ []

pub returns-clause-root_kinds : goal.returns-clause-root_kinds
returns-clause-root_kinds c = record {
  size = sizes.Four;
  records = segment 81 (flat_map sub_record_text root_kinds_subs) ∷ [];
  segments = root_kinds_subs ∷ [];
  reads = record {
    header = record { fits = lit≤ tt; long = lit≤ tt; magic = refl; id_size = refl };
    whole = record { whole = refl; each = (record { framed = record { time = refl; size = refl; body = refl }; fields = lit≤ tt }, tt) };
    bodies = (
      record {
        whole = refl;
        each = (
          (refl, refl),
          ((refl, refl), ((refl, refl), ((refl, refl), ((refl, refl), ((refl, refl), ((refl, refl), ((refl, refl), ((refl, refl), tt)))))))),
        );
      },
      tt,
    );
    classes = refl;
    objects = refl;
  };
  is = refl;
}

-- the sub-record of primitive_array
abbrev primitive_array_sub : SubRecord
primitive_array_sub = PrimitiveArray (four 6) (four 0) (four 2) 0x0a (four 1 ++ four 2)

pub returns-clause-primitive_array : goal.returns-clause-primitive_array
returns-clause-primitive_array c = record {
  size = sizes.Four;
  records = segment 22 (sub_record_text primitive_array_sub) ∷ [];
  segments = (primitive_array_sub ∷ []) ∷ [];
  reads = record {
    header = record { fits = lit≤ tt; long = lit≤ tt; magic = refl; id_size = refl };
    whole = record { whole = refl; each = (record { framed = record { time = refl; size = refl; body = refl }; fields = lit≤ tt }, tt) };
    bodies = (record { whole = refl; each = ((refl, refl, refl, refl, refl), tt) }, tt);
    classes = refl;
    objects = refl;
  };
  is = refl;
}
