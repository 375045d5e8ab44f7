-- Lemmas on the rows of arrays: they are the slots that the definitions give to object arrays and primitive arrays.
use Rattle.std.proofs.Common.{◌≡◌, ◌∙◌, ℕ, ◌+◌, ◌*◌, ◌/◌, ◌≤◌, List, [], ◌∷◌, ◌++◌, length, map, drop, Some, None, refl, sym, ap, subst, arith, append_assoc}
use Rattle.std.proofs.Common.{length-append, mul_comm}
use Rattle.std.specs.List.{AllByRecursion, concat}
use Rattle.std.proofs.lemmas.List.{length-drop, drop-drop}
use Rattle.std.proofs.Math.Seq.{drop-append_seam}
use Rattle.byteorder.specs.Endian.{big_number}
use Rattle.byteorder.specs.Numbers.{big_from-append}
use Rattle.hd_terms.specs.declared.IdSize.{IdSize}
use Rattle.hd_terms.specs.declared.IdSize.TheVariants as sizes
use Rattle.hd_terms.specs.declared.Span.{Span}
use Rattle.hd_terms.specs.declared.Slot.TheVariants as slots
use Rattle.hd_terms.specs.declared.Group.{Group}
use Rattle.hd_terms.specs.declared.Group.TheVariants as groups
use Rattle.hd_terms.specs.Records.{id_len}
use Rattle.hd_terms.specs.SubRecords.{ObjectArray, PrimitiveArray, IsSubRecord, sub_record_text}
use Rattle.hd_terms.specs.Types.{element_len}
use Rattle.hd_terms.specs.Dump.{Object, SlotEntry}
use Rattle.hd_terms.specs.Slots.{strong_slot, element_slots}
use Rattle.hd_terms.specs.Classes.{ClassTable}
use Rattle.hd_terms.specs.Objects.{object_of}
use Rattle.hd_slots.specs.Table.{HasIdAt}
use Rattle.hd_graph.specs.Arrays.{row_slots}
use Rattle.hd_shapes.specs.Shapes.{ObjectArray}
use Rattle.hd_graph.specs.Shapes.{row_object}
use Rattle.hd_graph.specs.ArrayRows.{ObjectEntry, array_row, ids_in, id_count}
use Rattle.hd_slots.proofs.CutLemmas.{last_from-push}

-- the object of an ID, a row and a shape
abbrev pub object_of_entry : ObjectEntry → Object
object_of_entry a = row_object a.2 a.0 a.1

-- IDs that stand one after another are read as those of the elements
pub ids-of-elements : (n : ℕ) (elements : List (List ℕ)) (rest : List ℕ) → AllByRecursion (λ element. length element ≡ n) elements
    → ids_in n (length elements) (concat elements ++ rest) ≡ map (big_number n) elements
ids-of-elements n [] rest each = refl
ids-of-elements n (e ∷ elements) rest each =
    let parts : concat (e ∷ elements) ++ rest ≡ e ++ (concat elements ++ rest) = append_assoc e (concat elements) rest in
    let first : big_number n (concat (e ∷ elements) ++ rest) ≡ big_number n e = ap (big_number n) parts
    ∙ big_from-append n e (concat elements ++ rest) (omega (arith, each.0)) in
    let dropped : drop n (concat (e ∷ elements) ++ rest) ≡ concat elements ++ rest = ap (drop n) parts ∙ ap (λ (k : ℕ). drop k (e ++ (concat elements ++ rest)))
    (sym each.0) ∙ drop-append_seam e (concat elements ++ rest) in
    ap (λ (id : ℕ). id ∷ ids_in n (length elements) (drop n (concat (e ∷ elements) ++ rest))) first
    ∙ ap (λ (bytes : List ℕ). big_number n e ∷ ids_in n (length elements) bytes) dropped
    ∙ ap (λ (ids : List ℕ). big_number n e ∷ ids) (ids-of-elements n elements rest each.1)

length-concat : (size : IdSize) (elements : List (List ℕ)) → AllByRecursion (λ element. length element ≡ id_len size) elements
    → length (concat elements) ≡ id_len size * length elements
length-concat sizes.Four [] each = omega arith
length-concat sizes.Eight [] each = omega arith
length-concat sizes.Four (e ∷ elements) each = omega (arith, length-append e (concat elements), length-concat sizes.Four elements each.1, each.0)
length-concat sizes.Eight (e ∷ elements) each = omega (arith, length-append e (concat elements), length-concat sizes.Eight elements each.1, each.0)

-- the slots of such a row are those of the definition
row_slots-elements : (size : IdSize) (i : ℕ) (elements : List (List ℕ)) (class : ℕ)
    → row_slots i (map (big_number (id_len size)) elements ++ class ∷ []) ≡ element_slots size i elements ++ strong_slot slots.OfClass class ∷ []
row_slots-elements size i [] class = refl
row_slots-elements size i (e ∷ []) class = refl
row_slots-elements size i (e ∷ f ∷ elements) class = ap (λ (ss : List SlotEntry). strong_slot (slots.Element i) (big_number (id_len size) e) ∷ ss)
    (row_slots-elements size (i + 1) (f ∷ elements) class)

count_of_bytes : (size : IdSize) (n : ℕ) → id_len size * n / id_len size ≡ n
count_of_bytes sizes.Four n = omega arith
count_of_bytes sizes.Eight n = omega arith

bytes-turned : (size : IdSize) (n : ℕ) → id_len size * n ≡ n * id_len size
bytes-turned sizes.Four n = omega arith
bytes-turned sizes.Eight n = omega arith

count-le : (size : IdSize) (n : ℕ) → n ≤ id_len size * n
count-le sizes.Four n = omega arith
count-le sizes.Eight n = omega arith

some-bytes : (size : IdSize) → 1 ≤ id_len size
some-bytes sizes.Four = omega arith
some-bytes sizes.Eight = omega arith

-- an ID lies behind some bytes at an offset
pub id-behind : (bytes : List ℕ) (size : IdSize) (at : ℕ) (front id rest : List ℕ) → drop at bytes ≡ front ++ (id ++ rest) → length id ≡ id_len size
    → HasIdAt bytes size (at + length front) (big_number (id_len size) id)
id-behind bytes size at front id rest whole long =
    let there : drop (at + length front) bytes ≡ id ++ rest = sym (drop-drop (length front) at bytes) ∙ ap (drop (length front)) whole
    ∙ drop-append_seam front (id ++ rest) in
    record {
      within = omega (
        arith,
        length-drop at bytes,
        ap (λ (xs : List ℕ). length xs) whole,
        length-append front
            (id ++ rest),
        length-append id rest,
        long,
        some-bytes size,
      );
      is = ap (big_number (id_len size)) there ∙ big_from-append (id_len size) id rest (omega (arith, long));
    }

-- an object array's text before its elements
abbrev array_head : List ℕ → List ℕ → List ℕ → List ℕ → List ℕ
array_head id serial count class = 0x22 ∷ id ++ serial ++ count ++ class

length-array_head : (size : IdSize) (id serial count class : List ℕ) → length id ≡ id_len size → length serial ≡ 4 → length count ≡ 4
    → length class ≡ id_len size → length (array_head id serial count class) ≡ 9 + 2 * id_len size
length-array_head size id serial count class a b c d =
    omega (arith, length-append (0x22 ∷ id ++ serial ++ count) class, length-append (0x22 ∷ id ++ serial) count, length-append (0x22 ∷ id) serial)

module _ (bytes : List ℕ) (size : IdSize) where
  -- an object array at an offset
  module _ (at : ℕ) (id serial count class : List ℕ) (elements : List (List ℕ)) (rest : List ℕ)
      (is : IsSubRecord size (ObjectArray id serial count class elements))
      (whole : drop at bytes ≡ sub_record_text (ObjectArray id serial count class elements) ++ rest) where
    abbrev class_id : ℕ
    class_id = big_number (id_len size) class

    abbrev span : Span
    span = record { start = at + 9 + 2 * id_len size; len = id_len size * big_number 4 count }

    from_elements : drop (at + 9 + 2 * id_len size) bytes ≡ concat elements ++ rest
    from_elements =
        let h = array_head id serial count class in
        let long = length-array_head size id serial count class is.0 is.1 is.2 is.3 in
        let offset : at + 9 + 2 * id_len size ≡ at + length h = omega arith in
        ap (λ (n : ℕ). drop n bytes) offset ∙ sym (drop-drop (length h) at bytes) ∙ ap (drop (length h)) (whole ∙ append_assoc h (concat elements) rest)
        ∙ drop-append_seam h (concat elements ++ rest)

    row_is : array_row bytes size class_id span ≡ map (big_number (id_len size)) elements ++ class_id ∷ []
    row_is =
        let many : id_count size span ≡ length elements = count_of_bytes size (big_number 4 count) ∙ sym is.4.many in
        ap (λ (n : ℕ). ids_in (id_len size) n (drop (at + 9 + 2 * id_len size) bytes) ++ class_id ∷ []) many
        ∙ ap (λ (xs : List ℕ). ids_in (id_len size) (length elements) xs ++ class_id ∷ []) from_elements
        ∙ ap (λ (xs : List ℕ). xs ++ class_id ∷ []) (ids-of-elements (id_len size) elements rest is.4.each)

    pub array-object : (t : ClassTable)
        → Some (object_of_entry (big_number (id_len size) id, array_row bytes size class_id span, ObjectArray span.len)) ≡ object_of t size
        (ObjectArray id serial count class elements)
    array-object t =
        let row = map (big_number (id_len size)) elements ++ class_id ∷ [] in
        let x : Group → ℕ → List SlotEntry → Object = λ g b ss. record {
          id = big_number (id_len size) id;
          group = g;
          bytes = b;
          slots = ss;
          referent =
              None;
        } in
        ap (λ (r : List ℕ). Some (row_object (ObjectArray span.len) (big_number (id_len size) id) r)) row_is
        ∙ ap (λ (c : ℕ). Some (x (groups.Class c) (id_len size * big_number 4 count) (row_slots 0 row)))
        (last_from-push 0 (map (big_number (id_len size)) elements) class_id)
        ∙ ap (λ (n : ℕ). Some (x (groups.Class class_id) n (row_slots 0 row))) (bytes-turned size (big_number 4 count))
        ∙ ap (λ (ss : List SlotEntry). Some (x (groups.Class class_id) (big_number 4 count * id_len size) ss)) (row_slots-elements size 0 elements class_id)

    text-long : length (sub_record_text (ObjectArray id serial count class elements)) ≡ 9 + 2 * id_len size + id_len size * big_number 4 count
    text-long =
        length-append (array_head id serial count class) (concat elements)
        ∙ ap (λ (n : ℕ). n + length (concat elements)) (length-array_head size id serial count class is.0 is.1 is.2 is.3)
        ∙ ap (λ (n : ℕ). 9 + 2 * id_len size + n) (length-concat size elements is.4.each ∙ ap (λ (n : ℕ). id_len size * n) is.4.many)

    pub array-within : span.start + span.len ≤ length bytes
    array-within =
        let all : length (drop at bytes) ≡ 9 + 2 * id_len size + id_len size * big_number 4 count + length rest =
        ap (λ (xs : List ℕ). length xs) whole ∙ length-append (sub_record_text (ObjectArray id serial count class elements)) rest
        ∙ ap (λ (n : ℕ). n + length rest) text-long in
        omega (arith, length-drop at bytes, all)

    pub array-class : HasIdAt bytes size (at + 9 + id_len size) class_id
    array-class =
        let h : List ℕ = 0x22 ∷ id ++ serial ++ count in
        let offset : at + length h ≡ at + 9 + id_len size =
        omega (arith, length-append (0x22 ∷ id ++ serial) count, length-append (0x22 ∷ id) serial, is.0, is.1, is.2) in
        subst (λ (p : ℕ). HasIdAt bytes size p class_id) offset
        (id-behind bytes size at h class (concat elements ++ rest) (whole ∙ append_assoc (h ++ class) (concat elements) rest
        ∙ append_assoc h class (concat elements ++ rest)) is.3)

    pub array-weight : 1 + span.len ≤ length (sub_record_text (ObjectArray id serial count class elements))
    array-weight = omega (arith, text-long)

  -- a primitive array at an offset
  module _ (at : ℕ) (id serial count : List ℕ) (element : ℕ) (elements : List ℕ) (rest : List ℕ)
      (is : IsSubRecord size (PrimitiveArray id serial count element elements))
      (whole : drop at bytes ≡ sub_record_text (PrimitiveArray id serial count element elements) ++ rest) where
    elements-long : length elements ≡ big_number 4 count * element_len element
    elements-long = is.4 ∙ mul_comm (element_len element) (big_number 4 count)

    pub primitive-weight : 1 + big_number 4 count * element_len element ≤ length (sub_record_text (PrimitiveArray id serial count element elements))
    primitive-weight = omega (arith, elements-long, length-append (0x23 ∷ id ++ serial ++ count) (element ∷ elements))

    pub primitive-within : big_number 4 count * element_len element ≤ length bytes
    primitive-within =
        omega (
          arith,
          primitive-weight,
          length-drop at bytes,
          ap (λ (xs : List ℕ). length xs) whole,
          length-append
              (sub_record_text (PrimitiveArray id serial count element elements)) rest,
        )
