-- Sub-records that are read again where they lie.
use Rattle.std.proofs.Common.{Option, Some, None, Result, Ok, Err, IfOk, IfErr, MatchOption, ◌≡◌, ◌∙◌, ℕ, suc, ◌+◌, ◌*◌, ◌<◌, ◌≤◌, true, List, [], ◌∷◌, length}
use Rattle.std.proofs.Common.{get_or, take, drop, refl, sym, ap, subst, add-zero, arith}
use Rattle.std.specs.Result.{result_ok}
use Rattle.std.proofs.lemmas.List.{drop-drop, get_or-take, get_or-drop}
use Rattle.byteorder.specs.Endian.{big_number}
use Rattle.hd_terms.specs.declared.IdSize.{IdSize}
use Rattle.hd_terms.specs.declared.IdSize.TheVariants as sizes
use Rattle.hd_terms.specs.Records.{id_len}
use Rattle.hd_terms.specs.SubRecords.{Item, Instance, ObjArray, PrimArray}
use Rattle.hd_terms.specs.Types.{is_element_type}
use Rattle.hd_subs.specs.Layout.{elements_offset, instance_len, array_len, primitive_array_len}
use Rattle.hd_subs.specs.Rows.{item_of, instance_kind, array_kind}
use Rattle.hd_subs.specs.Packed.{packed_item, packed_sub}
use Rattle.hd_subs.specs.ParsedSubs.{BeginsWithSub, IsBehind, IsPackedFrom, LiesAt}
use Rattle.hd_subs.proofs.Padding.{big_number-take}
use Rattle.hd_subs.proofs.ParsedSubs.{values_in, count_in, begins_instance, begins_array, begins_primitive}

-- what follows from what holds of a value, and of its lack
pub of-some : {X : Type 0} (o : Option X) (N M : Type 0) (P Q : X → Type 0) → MatchOption o N P → (N → M) → ((x : X) → P x → Q x) → MatchOption o M Q
of-some None N M P Q h none some = none h
of-some (Some x) N M P Q h none some = some x h

pub of-ok : {X E : Type 0} (r : Result X E) (P Q : X → Type 0) (F : E → Type 0) (M : Type 0) → IfOk r P → IfErr r F → ((e : E) → F e → M)
    → ((x : X) → P x → Q x) → MatchOption (result_ok r) M Q
of-ok (Ok x) P Q F M h f err ok = ok x h
of-ok (Err e) P Q F M h f err ok = err e f

-- the first byte, and those behind it
first-byte : (tag : ℕ) (fields : List ℕ) (n : ℕ) (xs : List ℕ) → tag ∷ fields ≡ take (suc n) xs → get_or xs 0 0 ≡ tag
first-byte tag fields n [] e = absurd (omega (arith, ap (λ (ys : List ℕ). length ys) e))
first-byte tag fields n (x ∷ xs) e = sym (ap (λ (ys : List ℕ). get_or ys 0 0) e)

bytes-behind : (tag : ℕ) (fields : List ℕ) (n : ℕ) (xs : List ℕ) → tag ∷ fields ≡ take (suc n) xs → fields ≡ take n (drop 1 xs)
bytes-behind tag fields n [] e = absurd (omega (arith, ap (λ (ys : List ℕ). length ys) e))
bytes-behind tag fields n (x ∷ xs) e = ap (λ (ys : List ℕ). drop 1 ys) e

module _ (bytes : List ℕ) (at tag : ℕ) (fields : List ℕ) (here : LiesAt bytes at (tag ∷ fields)) where
  tag-is : get_or bytes at 0 ≡ tag
  tag-is = sym (get_or-drop at bytes 0 0 ∙ ap (λ (i : ℕ). get_or bytes i 0) (add-zero at)) ∙ first-byte tag fields (length fields) (drop at bytes) here

  fields-are : fields ≡ take (length fields) (drop (at + 1) bytes)
  fields-are = bytes-behind tag fields (length fields) (drop at bytes) here ∙ ap (λ (xs : List ℕ). take (length fields) xs) (drop-drop 1 at bytes)

  -- a number among the fields, where it lies in the file
  number-at : (n k j : ℕ) → k + n ≤ length fields → at + 1 + k ≡ j → big_number n (drop k fields) ≡ big_number n (drop j bytes)
  number-at n k j le is =
      ap (λ (xs : List ℕ). big_number n (drop k xs)) fields-are
      ∙ big_number-take n k (length fields) (drop (at + 1) bytes) le
      ∙ ap (λ (xs : List ℕ). big_number n xs) (drop-drop k (at + 1) bytes ∙ ap (λ (i : ℕ). drop i bytes) is)

  -- a byte among the fields
  byte-at : (k j : ℕ) → k < length fields → at + 1 + k ≡ j → get_or fields k 0 ≡ get_or bytes j 0
  byte-at k j lt is =
      ap (λ (xs : List ℕ). get_or xs k 0) fields-are
      ∙ get_or-take (length fields) (drop (at + 1) bytes) k 0 lt
      ∙ get_or-drop (at + 1) bytes k 0
      ∙ ap (λ (i : ℕ). get_or bytes i 0) is

instance-same : (size : IdSize) (at id class count id' class' count' : ℕ) → id ≡ id' → class ≡ class' → count ≡ count'
    → item_of [] (instance_kind size) at id class count ≡ Instance id' class' (record { start = elements_offset size at; len = count' })
instance-same sizes.Four at id class count id' class' count' a b c = rw (a, b, c) refl
instance-same sizes.Eight at id class count id' class' count' a b c = rw (a, b, c) refl

array-same : (size : IdSize) (at id class count id' class' count' : ℕ) → id ≡ id' → class ≡ class' → count ≡ count'
    → item_of [] (array_kind size) at id class count ≡ ObjArray id' class' (record { start = elements_offset size at; len = id_len size * count' })
array-same sizes.Four at id class count id' class' count' a b c = rw (a, b, c) refl
array-same sizes.Eight at id class count id' class' count' a b c = rw (a, b, c) refl

-- what bytes begin with is what is read where they lie
packed-from : (size : IdSize) (at : ℕ) (text after : List ℕ) (bytes behind : List ℕ) (item : Item)
    → BeginsWithSub size at text (record { offset = at; item = item }) behind
    → after ≡ behind → item ≡ packed_item size bytes at → BeginsWithSub size at text (packed_sub size bytes at) after
packed-from size at text after bytes behind item h after_is item_is =
    subst (λ (xs : List ℕ). BeginsWithSub size at text (packed_sub size bytes at) xs) (sym after_is)
    (subst (λ (i : Item). BeginsWithSub size at text (record { offset = at; item = i }) behind) item_is h)

pub packed-instance : (size : IdSize) (fields after : List ℕ) → IsBehind (instance_len size fields) fields after → IsPackedFrom size (0x21 ∷ fields) after
packed-instance size fields after h bytes at here =
    let n : ℕ = id_len size in
    let id = number-at bytes at 0x21 fields here n 0 (at + 1) (omega (arith, h.within)) (omega arith) in
    let class = number-at bytes at 0x21 fields here n (n + 4) (at + 5 + n) (omega (arith, h.within)) (omega arith) in
    let count = number-at bytes at 0x21 fields here 4 (2 * n + 4) (at + 5 + n + n) (omega (arith, h.within)) (omega arith) in
    packed-from size at (0x21 ∷ fields) after bytes (drop (instance_len size fields) fields) _
    (begins_instance size at fields (big_number n fields) (big_number n (drop (n + 4) fields)) (values_in n fields) h.within refl refl refl) h.after_is
    (instance-same size at (big_number n fields) (big_number n (drop (n + 4) fields)) (values_in n fields) _ _ _ id class count
    ∙ rw (tag-is bytes at 0x21 fields here) refl)

pub packed-array : (size : IdSize) (fields after : List ℕ) → IsBehind (array_len size fields) fields after → IsPackedFrom size (0x22 ∷ fields) after
packed-array size fields after h bytes at here =
    let n : ℕ = id_len size in
    let id = number-at bytes at 0x22 fields here n 0 (at + 1) (omega (arith, h.within)) (omega arith) in
    let class = number-at bytes at 0x22 fields here n (n + 8) (at + 9 + n) (omega (arith, h.within)) (omega arith) in
    let count = number-at bytes at 0x22 fields here 4 (n + 4) (at + 5 + n) (omega (arith, h.within)) (omega arith) in
    packed-from size at (0x22 ∷ fields) after bytes (drop (array_len size fields) fields) _
    (begins_array size at fields (big_number n fields) (big_number n (drop (n + 8) fields)) (count_in n fields) h.within refl refl refl) h.after_is
    (array-same size at (big_number n fields) (big_number n (drop (n + 8) fields)) (count_in n fields) _ _ _ id class count
    ∙ rw (tag-is bytes at 0x22 fields here) refl)

pub packed-primitive-array : (size : IdSize) (fields after : List ℕ) → IsBehind (primitive_array_len size fields) fields after
    → is_element_type (get_or fields (id_len size + 8) 0) ≡ true
    → IsPackedFrom size (0x23 ∷ fields) after
packed-primitive-array size fields after h known bytes at here =
    let n : ℕ = id_len size in
    let id = number-at bytes at 0x23 fields here n 0 (at + 1) (omega (arith, h.within)) (omega arith) in
    let element = byte-at bytes at 0x23 fields here (n + 8) (at + 9 + n) (omega (arith, h.within)) (omega arith) in
    let count = number-at bytes at 0x23 fields here 4 (n + 4) (at + 5 + n) (omega (arith, h.within)) (omega arith) in
    packed-from size at (0x23 ∷ fields) after bytes (drop (primitive_array_len size fields) fields) _
    (begins_primitive size at fields (get_or fields (n + 8) 0) (big_number n fields) (count_in n fields) h.within refl known refl refl) h.after_is
    (ap (λ (i : ℕ). PrimArray i (get_or fields (n + 8) 0) (count_in n fields)) id
    ∙ ap (λ (e : ℕ). PrimArray (big_number n (drop (at + 1) bytes)) e (count_in n fields)) element
    ∙ ap (λ (c : ℕ). PrimArray (big_number n (drop (at + 1) bytes)) (get_or bytes (at + 9 + n) 0) c) count
    ∙ rw (tag-is bytes at 0x23 fields here) refl)
