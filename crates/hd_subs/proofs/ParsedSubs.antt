-- Bytes of the length that their head gives are the spelling of a sub-record.
use Rattle.std.proofs.Common.{◌≡◌, ◌≢◌, ℕ, zero, suc, ◌+◌, ◌-◌, ◌*◌, ◌≤◌, ◌<◌, true, false, List, [], ◌∷◌, ◌++◌, length, get_or, take, drop, refl, sym, ap, ◌∙◌}
use Rattle.std.proofs.Common.{append_assoc, arith}
use Rattle.std.specs.List.{concat, AllByRecursion}
use Rattle.std.proofs.lemmas.List.{length-take, length-drop, length-append, length-take-le, take-append-drop, take_all, drop_more, drop-drop, nil_from_length}
use Rattle.std.proofs.lemmas.Bool.Decides.{nat_tests}
use Rattle.byteorder.specs.Endian.{big_number}
use Rattle.byteorder.specs.Numbers.{big_from-take}
use Rattle.hd_terms.specs.declared.IdSize.{IdSize}
use Rattle.hd_terms.specs.declared.IdSize.TheVariants as sizes
use Rattle.hd_terms.specs.declared.RootKind.{RootKind}
use Rattle.hd_terms.specs.declared.RootKind.TheVariants as roots
use Rattle.hd_terms.specs.declared.errors.Cause.TheVariants.{ShortSub, UnknownSub, UnknownType}
use Rattle.hd_terms.specs.Records.{id_len}
use Rattle.hd_terms.specs.SubRecords.{SubRecord, RootOf, InstanceDump, ObjectArray, PrimitiveArray, root_tag, root_more, IsSubRecord, sub_record_text}
use Rattle.hd_terms.specs.SubRecords.{is_known_tag, Item, Root, Instance, ObjArray, PrimArray, Sub, item_at}
use Rattle.hd_terms.specs.Types.{is_element_type, element_len}
use Rattle.hd_terms.specs.ReadFaults.{IsStuck, short, unknown, other_type}
use Rattle.hd_subs.specs.Rows.{item_of, instance_kind, array_kind}
use Rattle.hd_subs.specs.ParsedSubs.{BeginsWithSub}
use Rattle.hd_subs.proofs.Padding.{zero_bytes, length-zero_bytes, big_number-padded, big_number-take, take-more, instance_parts, five_parts}

-- a sub-record that is spelled like these bytes
record IsSpelling (size : IdSize) (s : SubRecord) (text : List ℕ) : Type 0 where
  is : IsSubRecord size s
  text_is : sub_record_text s ≡ text

-- ---- what is common to all tags

nil_is_empty : (xs : List ℕ) → xs ≡ [] → length xs ≡ 0
nil_is_empty xs e = ap length e

-- fields with some bytes missing
is_short : (size : IdSize) (tag : ℕ) (fields missing : List ℕ) (s : SubRecord) → 0 < length missing → IsSpelling size s (tag ∷ (fields ++ missing))
    → IsStuck size (tag ∷ fields) ShortSub
is_short size tag fields missing s some spelling = short s spelling.is (record {
  some = λ e. absurd cc;
  missing = missing;
  lacks = λ e. omega (arith, nil_is_empty missing e);
  whole = sym spelling.text_is;
})

-- fields with more bytes behind them
begins : (size : IdSize) (at tag : ℕ) (fields text after : List ℕ) (s : SubRecord) (item : Item) → text ++ after ≡ fields → IsSpelling size s (tag ∷ text)
    → item ≡ item_at size at s
    → BeginsWithSub size at (tag ∷ fields) (record { offset = at; item = item }) after
begins size at tag fields text after s item parts spelling item_is = record {
  s = s;
  is = spelling.is;
  whole = ap (λ (xs : List ℕ). tag ∷ xs) (sym parts) ∙ ap (λ (xs : List ℕ). xs ++ after) (sym spelling.text_is);
  sub_is = ap (λ (i : Item). let sub : Sub = record { offset = at; item = i } in sub) item_is;
}

-- ---- ROOTs

-- the root of these fields
root_in : IdSize → RootKind → List ℕ → SubRecord
root_in size kind fields = RootOf kind (take (id_len size) fields) (drop (id_len size) fields)

root-spelling : (size : IdSize) (kind : RootKind) (fields : List ℕ) → length fields ≡ id_len size + root_more size kind
    → IsSpelling size (root_in size kind fields) (root_tag kind ∷ fields)
unfolding root_in
root-spelling size kind fields len = record {
  is = (length-take-le (id_len size) fields (omega arith), omega (arith, length-drop (id_len size) fields));
  text_is = ap (λ (xs : List ℕ). root_tag kind ∷ xs) (take-append-drop (id_len size) fields);
}

pub short_root : (size : IdSize) (kind : RootKind) (fields : List ℕ) → length fields < id_len size + root_more size kind
    → IsStuck size (root_tag kind ∷ fields) ShortSub
short_root size kind fields lacks =
    let k : ℕ = id_len size + root_more size kind - length fields in
    let text : List ℕ = fields ++ zero_bytes k in
    let len : length text ≡ id_len size + root_more size kind = omega (arith, length-append fields (zero_bytes k), length-zero_bytes k) in
    is_short size (root_tag kind) fields (zero_bytes k) (root_in size kind text) (omega (arith, length-zero_bytes k)) (root-spelling size kind text len)

root-item : (size : IdSize) (at : ℕ) (kind : RootKind) (fields : List ℕ) (m id : ℕ) → id_len size ≤ m → id ≡ big_number (id_len size) fields
    → Root kind id ≡ item_at size at (root_in size kind (take m fields))
unfolding root_in
root-item size at kind fields m id long id_is =
    let n : ℕ = id_len size in
    let same : id ≡ big_number n (take n (take m fields)) = id_is
    ∙ sym (big_from-take 0 n n (take m fields) (omega arith) ∙ big_from-take 0 n m fields (omega arith)) in
    ap (λ (i : ℕ). Root kind i) same

pub begins_root : (size : IdSize) (at : ℕ) (kind : RootKind) (fields : List ℕ) (id : ℕ) → id_len size + root_more size kind ≤ length fields
    → id ≡ big_number (id_len size) fields
    → BeginsWithSub size at (root_tag kind ∷ fields) (record { offset = at; item = Root kind id }) (drop (id_len size + root_more size kind) fields)
begins_root size at kind fields id long id_is =
    let m : ℕ = id_len size + root_more size kind in
    let text : List ℕ = take m fields in
    begins size at (root_tag kind) fields text (drop m fields) (root_in size kind text) (Root kind id) (take-append-drop m fields)
    (root-spelling size kind text (length-take-le m fields long)) (root-item size at kind fields m id (omega arith) id_is)

-- ---- INSTANCE DUMP

-- the bytes of the values that these fields give
abbrev pub values_in : ℕ → List ℕ → ℕ
values_in n fields = big_number 4 (drop (2 * n + 4) fields)

-- the instance of these fields
instance_in : ℕ → List ℕ → SubRecord
instance_in n fields = InstanceDump (take n fields) (take 4 (drop n fields)) (take n (drop (n + 4) fields)) (take 4 (drop (2 * n + 4) fields))
    (drop (2 * n + 8) fields)

instance-spelling : (size : IdSize) (fields : List ℕ) → length fields ≡ 2 * id_len size + 8 + values_in (id_len size) fields
    → IsSpelling size (instance_in (id_len size) fields) (0x21 ∷ fields)
unfolding instance_in
instance-spelling size fields len =
    let n : ℕ = id_len size in
    let same : big_number 4 (take 4 (drop (2 * n + 4) fields)) ≡ values_in n fields = big_from-take 0 4 4 (drop (2 * n + 4) fields) (omega arith) in
    let many : length (drop (2 * n + 8) fields) ≡ values_in n fields = omega (arith, length-drop (2 * n + 8) fields) in
    record {
      is = (
        omega (arith, length-take n fields),
        omega (arith, length-take 4 (drop n fields), length-drop n fields),
        omega (arith, length-take n (drop (n + 4) fields), length-drop (n + 4) fields),
        omega (arith, length-take 4 (drop (2 * n + 4) fields), length-drop (2 * n + 4) fields),
        many ∙ sym same,
      );
      text_is = ap (λ (xs : List ℕ). 0x21 ∷ xs) (instance_parts n fields);
    }

pub short_instance : (size : IdSize) (fields : List ℕ) → length fields < 2 * id_len size + 8 + values_in (id_len size) fields
    → IsStuck size (0x21 ∷ fields) ShortSub
short_instance size fields lacks =
    let n : ℕ = id_len size in
    let len : ℕ = 2 * n + 8 + values_in n fields in
    let k : ℕ = len - length fields in
    let text : List ℕ = fields ++ zero_bytes k in
    let same : values_in n text ≡ values_in n fields = big_number-padded 4 (2 * n + 4) k fields in
    let long : length text ≡ len = omega (arith, length-append fields (zero_bytes k), length-zero_bytes k) in
    is_short size 0x21 fields (zero_bytes k) (instance_in n text) (omega (arith, length-zero_bytes k))
    (instance-spelling size text (long ∙ ap (λ (c : ℕ). 2 * n + 8 + c) (sym same)))

values-same : (size : IdSize) (at id class count : ℕ) → item_of [] (instance_kind size) at id class count ≡ Instance id class
    (record { start = at + 9 + 2 * id_len size; len = count })
values-same sizes.Four at id class count =
    let e : at + 17 ≡ at + 9 + 2 * 4 = omega arith in
    ap (λ (s : ℕ). Instance id class (record { start = s; len = count })) e
values-same sizes.Eight at id class count =
    let e : at + 25 ≡ at + 9 + 2 * 8 = omega arith in
    ap (λ (s : ℕ). Instance id class (record { start = s; len = count })) e

instance-item : (size : IdSize) (at : ℕ) (fields : List ℕ) (m id class count : ℕ) → 2 * id_len size + 8 ≤ m
    → id ≡ big_number (id_len size) fields → class ≡ big_number (id_len size) (drop (id_len size + 4) fields) → count ≡ values_in (id_len size) fields
    → item_of [] (instance_kind size) at id class count ≡ item_at size at (instance_in (id_len size) (take m fields))
unfolding instance_in
instance-item size at fields m id class count long id_is class_is count_is =
    let n : ℕ = id_len size in
    let text : List ℕ = take m fields in
    let id_same : id ≡ big_number n (take n text) = id_is ∙ sym (big_from-take 0 n n text (omega arith) ∙ big_from-take 0 n m fields (omega arith)) in
    let class_same : class ≡ big_number n (take n (drop (n + 4) text)) = class_is
    ∙ sym (big_from-take 0 n n (drop (n + 4) text) (omega arith) ∙ big_number-take n (n + 4) m fields (omega arith)) in
    let count_same : count ≡ big_number 4 (take 4 (drop (2 * n + 4) text)) = count_is
    ∙ sym (big_from-take 0 4 4 (drop (2 * n + 4) text) (omega arith) ∙ big_number-take 4 (2 * n + 4) m fields (omega arith)) in
    values-same size at id class count
    ∙ ap (λ (i : ℕ). Instance i class (record { start = at + 9 + 2 * n; len = count })) id_same
    ∙ ap (λ (c : ℕ). Instance (big_number n (take n text)) c (record { start = at + 9 + 2 * n; len = count })) class_same
    ∙ ap (λ (c : ℕ). Instance (big_number n (take n text)) (big_number n (take n (drop (n + 4) text))) (record { start = at + 9 + 2 * n; len = c })) count_same

pub begins_instance : (size : IdSize) (at : ℕ) (fields : List ℕ) (id class count : ℕ) → 2 * id_len size + 8 + count ≤ length fields
    → id ≡ big_number (id_len size) fields → class ≡ big_number (id_len size) (drop (id_len size + 4) fields) → count ≡ values_in (id_len size) fields
    → BeginsWithSub size at (0x21 ∷ fields) (record { offset = at; item = item_of [] (instance_kind size) at id class count })
    (drop (2 * id_len size + 8 + count) fields)
begins_instance size at fields id class count long id_is class_is count_is =
    let n : ℕ = id_len size in
    let m : ℕ = 2 * n + 8 + count in
    let text : List ℕ = take m fields in
    let same : values_in n text ≡ count = big_number-take 4 (2 * n + 4) m fields (omega arith) ∙ sym count_is in
    let len : length text ≡ m = length-take-le m fields long in
    begins size at 0x21 fields text (drop m fields) (instance_in n text) (item_of [] (instance_kind size) at id class count) (take-append-drop m fields)
    (instance-spelling size text (len ∙ ap (λ (c : ℕ). 2 * n + 8 + c) (sym same)))
    (instance-item size at fields m id class count (omega arith) id_is class_is count_is)

-- ---- OBJECT ARRAY DUMP

-- k pieces of n bytes
chunks : ℕ → ℕ → List ℕ → List (List ℕ)
chunks n zero xs = []
chunks n (suc k) xs = take n xs ∷ chunks n k (drop n xs)

length-chunks : (n k : ℕ) (xs : List ℕ) → length (chunks n k xs) ≡ k
unfolding chunks
length-chunks n zero xs = refl
length-chunks n (suc k) xs = ap suc (length-chunks n k (drop n xs))

length-rest : (n k : ℕ) (xs : List ℕ) → length xs ≡ n * suc k → length (drop n xs) ≡ n * k
length-rest n k xs len = omega (arith, length-drop n xs)

concat-chunks : (n k : ℕ) (xs : List ℕ) → length xs ≡ n * k → concat (chunks n k xs) ≡ xs
unfolding chunks
concat-chunks n zero xs len = sym (nil_from_length xs (omega arith))
concat-chunks n (suc k) xs len =
    ap (λ (ys : List ℕ). take n xs ++ ys) (concat-chunks n k (drop n xs) (length-rest n k xs len)) ∙ take-append-drop n xs

chunks-each : (n k : ℕ) (xs : List ℕ) → length xs ≡ n * k → AllByRecursion (λ element. length element ≡ n) (chunks n k xs)
unfolding chunks
chunks-each n zero xs len = tt
chunks-each n (suc k) xs len = (omega (arith, length-take n xs), chunks-each n k (drop n xs) (length-rest n k xs len))

-- the count that these fields give
abbrev pub count_in : ℕ → List ℕ → ℕ
count_in n fields = big_number 4 (drop (n + 4) fields)

-- the object array of these fields
array_in : ℕ → List ℕ → SubRecord
array_in n fields =
    ObjectArray (take n fields) (take 4 (drop n fields)) (take 4 (drop (n + 4) fields)) (take n (drop (n + 8) fields))
    (chunks n (count_in n fields) (drop (2 * n + 8) fields))

array-spelling : (size : IdSize) (fields : List ℕ) → length fields ≡ 2 * id_len size + 8 + id_len size * count_in (id_len size) fields
    → IsSpelling size (array_in (id_len size) fields) (0x22 ∷ fields)
unfolding array_in
array-spelling size fields len =
    let n : ℕ = id_len size in
    let k : ℕ = count_in n fields in
    let tail : length (drop (2 * n + 8) fields) ≡ n * k = omega (arith, length-drop (2 * n + 8) fields) in
    let same : big_number 4 (take 4 (drop (n + 4) fields)) ≡ k = big_from-take 0 4 4 (drop (n + 4) fields) (omega arith) in
    record {
      is = (
        omega (arith, length-take n fields),
        omega (arith, length-take 4 (drop n fields), length-drop n fields),
        omega (arith, length-take 4 (drop (n + 4) fields), length-drop (n + 4) fields),
        omega (arith, length-take n (drop (n + 8) fields), length-drop (n + 8) fields),
        record { many = length-chunks n k (drop (2 * n + 8) fields) ∙ sym same; each = chunks-each n k (drop (2 * n + 8) fields) tail },
      );
      text_is = ap (λ (xs : List ℕ). 0x22 ∷ xs) (
          ap (λ (xs : List ℕ). (((take n fields ++ take 4 (drop n fields)) ++ take 4 (drop (n + 4) fields)) ++ take n (drop (n + 8) fields)) ++ xs)
          (concat-chunks n k (drop (2 * n + 8) fields) tail)
          ∙ five_parts n fields
          );
    }

pub short_array : (size : IdSize) (fields : List ℕ) → length fields < 2 * id_len size + 8 + id_len size * count_in (id_len size) fields
    → IsStuck size (0x22 ∷ fields) ShortSub
short_array size fields lacks =
    let n : ℕ = id_len size in
    let len : ℕ = 2 * n + 8 + n * count_in n fields in
    let k : ℕ = len - length fields in
    let text : List ℕ = fields ++ zero_bytes k in
    let same : count_in n text ≡ count_in n fields = big_number-padded 4 (n + 4) k fields in
    let long : length text ≡ len = omega (arith, length-append fields (zero_bytes k), length-zero_bytes k) in
    is_short size 0x22 fields (zero_bytes k) (array_in n text) (omega (arith, length-zero_bytes k))
    (array-spelling size text (long ∙ ap (λ (c : ℕ). 2 * n + 8 + n * c) (sym same)))

span-same : (size : IdSize) (at id class count : ℕ) → item_of [] (array_kind size) at id class count ≡ ObjArray id class
    (record { start = at + 9 + 2 * id_len size; len = id_len size * count })
span-same sizes.Four at id class count =
    let e : at + 17 ≡ at + 9 + 2 * 4 = omega arith in
    ap (λ (s : ℕ). ObjArray id class (record { start = s; len = 4 * count })) e
span-same sizes.Eight at id class count =
    let e : at + 25 ≡ at + 9 + 2 * 8 = omega arith in
    ap (λ (s : ℕ). ObjArray id class (record { start = s; len = 8 * count })) e

array-item : (size : IdSize) (at : ℕ) (fields : List ℕ) (m id class count : ℕ) → 2 * id_len size + 8 ≤ m
    → id ≡ big_number (id_len size) fields → class ≡ big_number (id_len size) (drop (id_len size + 8) fields) → count ≡ count_in (id_len size) fields
    → item_of [] (array_kind size) at id class count ≡ item_at size at (array_in (id_len size) (take m fields))
unfolding array_in
array-item size at fields m id class count long id_is class_is count_is =
    let n : ℕ = id_len size in
    let text : List ℕ = take m fields in
    let id_same : id ≡ big_number n (take n text) = id_is ∙ sym (big_from-take 0 n n text (omega arith) ∙ big_from-take 0 n m fields (omega arith)) in
    let class_same : class ≡ big_number n (take n (drop (n + 8) text)) = class_is
    ∙ sym (big_from-take 0 n n (drop (n + 8) text) (omega arith) ∙ big_number-take n (n + 8) m fields (omega arith)) in
    let count_same : count ≡ big_number 4 (take 4 (drop (n + 4) text)) = count_is
    ∙ sym (big_from-take 0 4 4 (drop (n + 4) text) (omega arith) ∙ big_number-take 4 (n + 4) m fields (omega arith)) in
    span-same size at id class count
    ∙ ap (λ (i : ℕ). ObjArray i class (record { start = at + 9 + 2 * n; len = n * count })) id_same
    ∙ ap (λ (c : ℕ). ObjArray (big_number n (take n text)) c (record { start = at + 9 + 2 * n; len = n * count })) class_same
    ∙ ap (λ (c : ℕ). ObjArray (big_number n (take n text)) (big_number n (take n (drop (n + 8) text))) (record { start = at + 9 + 2 * n; len = n * c }))
    count_same

pub begins_array : (size : IdSize) (at : ℕ) (fields : List ℕ) (id class count : ℕ) → 2 * id_len size + 8 + id_len size * count ≤ length fields
    → id ≡ big_number (id_len size) fields → class ≡ big_number (id_len size) (drop (id_len size + 8) fields) → count ≡ count_in (id_len size) fields
    → BeginsWithSub size at (0x22 ∷ fields) (record { offset = at; item = item_of [] (array_kind size) at id class count })
    (drop (2 * id_len size + 8 + id_len size * count) fields)
begins_array size at fields id class count long id_is class_is count_is =
    let n : ℕ = id_len size in
    let m : ℕ = 2 * n + 8 + n * count in
    let text : List ℕ = take m fields in
    let same : count_in n text ≡ count = big_number-take 4 (n + 4) m fields (omega arith) ∙ sym count_is in
    let len : length text ≡ m = length-take-le m fields long in
    begins size at 0x22 fields text (drop m fields) (array_in n text) (item_of [] (array_kind size) at id class count) (take-append-drop m fields)
    (array-spelling size text (len ∙ ap (λ (c : ℕ). 2 * n + 8 + n * c) (sym same)))
    (array-item size at fields m id class count (omega arith) id_is class_is count_is)

-- ---- PRIMITIVE ARRAY DUMP

-- the primitive array whose fields up to the count are these
primitive_in : ℕ → List ℕ → ℕ → List ℕ → SubRecord
primitive_in n front element elements = PrimitiveArray (take n front) (take 4 (drop n front)) (take 4 (drop (n + 4) front)) element elements

three_parts : (n : ℕ) (front : List ℕ) → length front ≡ n + 8 → (take n front ++ take 4 (drop n front)) ++ take 4 (drop (n + 4) front) ≡ front
three_parts n front len =
    ap (λ (xs : List ℕ). xs ++ take 4 (drop (n + 4) front)) (take-more n 4 front) ∙ take-more (n + 4) 4 front ∙ take_all (n + 4 + 4) front (omega arith)

-- the fields up to the count, the type, and what is behind it
typed_parts : (n : ℕ) (fields : List ℕ) → n + 9 ≤ length fields → take (n + 8) fields ++ get_or fields (n + 8) 0 ∷ drop (n + 9) fields ≡ fields
typed_parts n fields long =
    let next : n + 8 + 1 ≡ n + 9 = omega arith in
    ap (λ (k : ℕ). take (n + 8) fields ++ get_or fields (n + 8) 0 ∷ drop k fields) (sym next)
    ∙ ap (λ (xs : List ℕ). take (n + 8) fields ++ xs) (sym (drop_more fields (n + 8) 0 (omega arith)))
    ∙ take-append-drop (n + 8) fields

primitive-spelling : (size : IdSize) (front : List ℕ) (element : ℕ) (elements : List ℕ) → length front ≡ id_len size + 8 → is_element_type element ≡ true
    → length elements ≡ element_len element * count_in (id_len size) front → IsSpelling size (primitive_in (id_len size) front element elements)
    (0x23 ∷ (front ++ element ∷ elements))
unfolding primitive_in
primitive-spelling size front element elements len type many =
    let n : ℕ = id_len size in
    let same : big_number 4 (take 4 (drop (n + 4) front)) ≡ count_in n front = big_from-take 0 4 4 (drop (n + 4) front) (omega arith) in
    record {
      is = (
        omega (arith, length-take n front),
        omega (arith, length-take 4 (drop n front), length-drop n front),
        omega (arith, length-take 4 (drop (n + 4) front), length-drop (n + 4) front),
        type,
        many ∙ ap (λ (k : ℕ). element_len element * k) (sym same),
      );
      text_is = ap (λ (xs : List ℕ). 0x23 ∷ (xs ++ element ∷ elements)) (three_parts n front len);
    }

-- the count, as it stands in the fields up to it
count_same : (n : ℕ) (fields : List ℕ) → count_in n (take (n + 8) fields) ≡ count_in n fields
count_same n fields = big_number-take 4 (n + 4) (n + 8) fields (omega arith)

-- bytes that end before the type are a part of an array of bytes that are not there
pub short_primitive_fields : (size : IdSize) (fields : List ℕ) → length fields < id_len size + 9 → IsStuck size (0x23 ∷ fields) ShortSub
short_primitive_fields size fields lacks =
    let n : ℕ = id_len size in
    let k : ℕ = n + 8 - length fields in
    let front : List ℕ = fields ++ zero_bytes k in
    let elements : List ℕ = zero_bytes (element_len 8 * count_in n front) in
    let len : length front ≡ n + 8 = omega (arith, length-append fields (zero_bytes k), length-zero_bytes k) in
    let spelling : IsSpelling size (primitive_in n front 8 elements) (0x23 ∷ (front ++ 8 ∷ elements)) = primitive-spelling size front 8 elements len refl
    (length-zero_bytes (element_len 8 * count_in n front)) in
    let text : front ++ 8 ∷ elements ≡ fields ++ (zero_bytes k ++ 8 ∷ elements) = append_assoc fields (zero_bytes k) (8 ∷ elements) in
    is_short size 0x23 fields (zero_bytes k ++ 8 ∷ elements) (primitive_in n front 8 elements) (omega (arith, length-append (zero_bytes k) (8 ∷ elements)))
    (record { is = spelling.is; text_is = spelling.text_is ∙ ap (λ (xs : List ℕ). 0x23 ∷ xs) text })

pub unknown_type : (size : IdSize) (fields : List ℕ) → id_len size + 9 ≤ length fields → is_element_type (get_or fields (id_len size + 8) 0) ≡ false
    → IsStuck size (0x23 ∷ fields) UnknownType
unknown_type size fields long other =
    let n : ℕ = id_len size in
    let front : List ℕ = take (n + 8) fields in
    let len : length front ≡ n + 8 = length-take-le (n + 8) fields (omega arith) in
    other_type (take n front) (take 4 (drop n front)) (take 4 (drop (n + 4) front)) (get_or fields (n + 8) 0) (drop (n + 9) fields)
    (omega (arith, length-take n front))
    (omega (arith, length-take 4 (drop n front), length-drop n front))
    (omega (arith, length-take 4 (drop (n + 4) front), length-drop (n + 4) front))
    (ap (λ (xs : List ℕ). 0x23 ∷ xs) (sym (typed_parts n fields long)) ∙ ap (λ (xs : List ℕ). 0x23 ∷ (xs ++ get_or fields (n + 8) 0 ∷ drop (n + 9) fields))
    (sym (three_parts n front len)))
    other

pub short_primitive : (size : IdSize) (fields : List ℕ) (element : ℕ) → id_len size + 9 ≤ length fields → element ≡ get_or fields (id_len size + 8) 0
    → is_element_type element ≡ true
    → length fields < id_len size + 9 + element_len element * count_in (id_len size) fields → IsStuck size (0x23 ∷ fields) ShortSub
short_primitive size fields element long element_is type lacks =
    let n : ℕ = id_len size in
    let front : List ℕ = take (n + 8) fields in
    let there : List ℕ = drop (n + 9) fields in
    let k : ℕ = n + 9 + element_len element * count_in n fields - length fields in
    let elements : List ℕ = there ++ zero_bytes k in
    let len : length front ≡ n + 8 = length-take-le (n + 8) fields (omega arith) in
    let many : length elements ≡ element_len element * count_in n fields =
    omega (arith, length-append there (zero_bytes k), length-zero_bytes k, length-drop (n + 9) fields) in
    let spelling : IsSpelling size (primitive_in n front element elements) (0x23 ∷ (front ++ element ∷ elements)) =
    primitive-spelling size front element elements len type (many ∙ ap (λ (c : ℕ). element_len element * c) (sym (count_same n fields))) in
    let parts : front ++ element ∷ there ≡ fields = ap (λ (t : ℕ). front ++ t ∷ there) element_is ∙ typed_parts n fields long in
    let text : front ++ element ∷ elements ≡ fields ++ zero_bytes k = sym (append_assoc front (element ∷ there) (zero_bytes k))
    ∙ ap (λ (xs : List ℕ). xs ++ zero_bytes k) parts in
    is_short size 0x23 fields (zero_bytes k) (primitive_in n front element elements) (omega (arith, length-zero_bytes k))
    (record { is = spelling.is; text_is = spelling.text_is ∙ ap (λ (xs : List ℕ). 0x23 ∷ xs) text })

primitive-item : (size : IdSize) (at : ℕ) (fields : List ℕ) (element : ℕ) (elements : List ℕ) (id count : ℕ)
    → id ≡ big_number (id_len size) fields → count ≡ count_in (id_len size) fields
    → PrimArray id element count ≡ item_at size at (primitive_in (id_len size) (take (id_len size + 8) fields) element elements)
unfolding primitive_in
primitive-item size at fields element elements id count id_is count_is =
    let n : ℕ = id_len size in
    let front : List ℕ = take (n + 8) fields in
    let id_same : id ≡ big_number n (take n front) = id_is ∙ sym (big_from-take 0 n n front (omega arith) ∙ big_from-take 0 n (n + 8) fields (omega arith)) in
    let count_same : count ≡ big_number 4 (take 4 (drop (n + 4) front)) = count_is
    ∙ sym (big_from-take 0 4 4 (drop (n + 4) front) (omega arith) ∙ big_number-take 4 (n + 4) (n + 8) fields (omega arith)) in
    ap (λ (i : ℕ). PrimArray i element count) id_same ∙ ap (λ (c : ℕ). PrimArray (big_number n (take n front)) element c) count_same

pub begins_primitive : (size : IdSize) (at : ℕ) (fields : List ℕ) (element id count : ℕ) → id_len size + 9 + element_len element * count ≤ length fields
    → element ≡ get_or fields (id_len size + 8) 0 → is_element_type element ≡ true → id ≡ big_number (id_len size) fields
    → count ≡ count_in (id_len size) fields
    → BeginsWithSub size at (0x23 ∷ fields) (record { offset = at; item = PrimArray id element count })
    (drop (id_len size + 9 + element_len element * count) fields)
begins_primitive size at fields element id count long element_is type id_is count_is =
    let n : ℕ = id_len size in
    let k : ℕ = element_len element * count in
    let front : List ℕ = take (n + 8) fields in
    let there : List ℕ = drop (n + 9) fields in
    let elements : List ℕ = take k there in
    let after : List ℕ = drop (n + 9 + k) fields in
    let len : length front ≡ n + 8 = length-take-le (n + 8) fields (omega arith) in
    let many : length elements ≡ k = length-take-le k there (omega (arith, length-drop (n + 9) fields)) in
    let behind : elements ++ after ≡ there = ap (λ (xs : List ℕ). elements ++ xs) (sym (drop-drop k (n + 9) fields)) ∙ take-append-drop k there in
    let parts : (front ++ element ∷ elements) ++ after ≡ fields =
    append_assoc front (element ∷ elements) after
    ∙ ap (λ (xs : List ℕ). front ++ element ∷ xs) behind
    ∙ ap (λ (t : ℕ). front ++ t ∷ there) element_is
    ∙ typed_parts n fields (omega arith) in
    begins size at 0x23 fields (front ++ element ∷ elements) after (primitive_in n front element elements) (PrimArray id element count) parts
    (primitive-spelling size front element elements len type (many ∙ ap (λ (c : ℕ). element_len element * c) (count_is ∙ sym (count_same n fields))))
    (primitive-item size at fields element elements id count id_is count_is)

-- ---- any other tag

other_tag : (tag : ℕ) → ((kind : RootKind) → root_tag kind ≢ tag) → tag ≢ 0x20 → tag ≢ 0x21 → tag ≢ 0x22 → tag ≢ 0x23 → is_known_tag tag ≡ false
other_tag tag root class instance array primitive =
    let unknown : 0xff ≢ tag = root roots.Unknown in
    let one : 0x01 ≢ tag = root roots.JniGlobal in
    let two : 0x02 ≢ tag = root roots.JniLocal in
    let three : 0x03 ≢ tag = root roots.JavaFrame in
    let four : 0x04 ≢ tag = root roots.NativeStack in
    let five : 0x05 ≢ tag = root roots.StickyClass in
    let six : 0x06 ≢ tag = root roots.ThreadBlock in
    let seven : 0x07 ≢ tag = root roots.MonitorUsed in
    let eight : 0x08 ≢ tag = root roots.Thread in
    grind (arith, nat_tests)

pub is_unknown : (size : IdSize) (tag : ℕ) (fields : List ℕ) → ((kind : RootKind) → root_tag kind ≢ tag) → tag ≢ 0x20 → tag ≢ 0x21 → tag ≢ 0x22 → tag ≢ 0x23
    → IsStuck size (tag ∷ fields) UnknownSub
is_unknown size tag fields root class instance array primitive = unknown tag fields refl (other_tag tag root class instance array primitive)
