-- The class object of a CLASS DUMP at an offset of the file.
use Rattle.std.proofs.Common.{◌≡◌, ◌∙◌, ℕ, suc, ◌+◌, ◌*◌, ◌≤◌, List, [], ◌∷◌, ◌++◌, length, drop, Bool, true, false, cond, Some, None, refl, sym, ap, subst}
use Rattle.std.proofs.Common.{arith, append_assoc, length-append, All}
use Rattle.std.specs.List.{AllByRecursion, flat_map}
use Rattle.std.proofs.lemmas.List.{length-drop, drop-drop}
use Rattle.std.proofs.lemmas.List.Elements.{All-nil, All-cons}
use Rattle.std.proofs.lemmas.List.Sums.{sum_by-append}
use Rattle.std.proofs.Math.Seq.{drop-append_seam}
use Rattle.byteorder.specs.Endian.{big_number}
use Rattle.byteorder.specs.Numbers.{big_from-append}
use Rattle.hd_terms.specs.declared.IdSize.{IdSize}
use Rattle.hd_terms.specs.declared.Span.{Span}
use Rattle.hd_terms.specs.declared.Slot.{Slot}
use Rattle.hd_terms.specs.declared.Slot.TheVariants as slots
use Rattle.hd_terms.specs.declared.Group.TheVariants as groups
use Rattle.hd_terms.specs.Types.{is_id_type, element_len, value_len}
use Rattle.hd_terms.specs.Records.{id_len}
use Rattle.hd_terms.specs.SubRecords.{ClassHead, ClassValue, ClassField, Counted, IsClassValue, ClassDump, IsSubRecord, StaticItem, ClassItem, class_head_text}
use Rattle.hd_terms.specs.SubRecords.{counted_text, value_text, field_text, sub_record_text, constants_at, statics_at, class_item}
use Rattle.hd_terms.specs.Slots.{strong_slot, value_slots, class_slots}
use Rattle.hd_terms.specs.Groups.{class_bytes}
use Rattle.hd_terms.specs.Classes.{ClassTable}
use Rattle.hd_terms.specs.Objects.{object_of}
use Rattle.hd_terms.specs.Dump.{Object, SlotEntry}
use Rattle.hd_slots.specs.Table.{id_at}
use Rattle.hd_shapes.specs.Shapes.{ClassObject}
use Rattle.hd_graph.specs.Shapes.{named_slots, row_object}
use Rattle.hd_graph.specs.ArrayRows.{IsValueWithin, IsClassWithin, HasLinks, values_of_statics, values_of_constants, value_ids, value_names, static_bytes}
use Rattle.hd_graph.specs.ArrayRows.{class_row, class_names, class_weight}
use Rattle.hd_graph.proofs.ArrayRowLemmas.{id-behind}
use Rattle.hd_graph.proofs.RisingLemmas.{as-many-names}

-- the slots of names and IDs that come in two parts
named-append : (xs ys : List Slot) (ids more : List ℕ) → length xs ≡ length ids → named_slots (xs ++ ys) (ids ++ more) ≡ named_slots xs ids
    ++ named_slots ys more
named-append [] ys [] more many = refl
named-append [] ys (id ∷ ids) more many = absurd (omega arith)
named-append (x ∷ xs) ys [] more many = absurd (omega arith)
named-append (x ∷ xs) ys (id ∷ ids) more many = ap (λ (ss : List SlotEntry). strong_slot x id ∷ ss) (named-append xs ys ids more (omega arith))

same_links : (a b c d a' b' c' d' : ℕ) → a ≡ a' → b ≡ b' → c ≡ c' → d ≡ d' → (let xs : List ℕ = a ∷ b ∷ c ∷ d ∷ [] in xs) ≡ a' ∷ b' ∷ c' ∷ d' ∷ []
same_links a b c d a' b' c' d' p q r s = cc

module _ (bytes : List ℕ) (size : IdSize) where
  -- what stands behind some bytes at an offset
  behind : (at : ℕ) (h x : List ℕ) → drop at bytes ≡ h ++ x → drop (at + length h) bytes ≡ x
  behind at h x whole = sym (drop-drop (length h) at bytes) ∙ ap (drop (length h)) whole ∙ drop-append_seam h x

  -- types and values at an offset, whose keys have n bytes
  located : ℕ → ℕ → List ClassValue → List (ℕ × Span)
  located n p [] = []
  located n p (v ∷ vs) = (v.code, record { start = p + n + 1; len = value_len size v.code }) ∷ located n (p + length (value_text v)) vs

  statics-located : (p : ℕ) (vs : List ClassValue) → values_of_statics (statics_at size p vs) ≡ located (id_len size) p vs
  unfolding located
  statics-located p [] = refl
  statics-located p (v ∷ vs) = ap (λ (xs : List (ℕ × Span)). (v.code, record { start = p + id_len size + 1; len = value_len size v.code }) ∷ xs)
      (statics-located (p + length (value_text v)) vs)

  constants-located : (p : ℕ) (vs : List ClassValue) → values_of_constants (constants_at size p vs) ≡ located 2 p vs
  unfolding located
  constants-located p [] = refl
  constants-located p (v ∷ vs) =
      let offset : p + 3 ≡ p + 2 + 1 = omega arith in
      ap (λ (at : ℕ). (v.code, record { start = at; len = value_len size v.code }) ∷ values_of_constants (constants_at size (p + length (value_text v)) vs))
      offset
      ∙ ap (λ (xs : List (ℕ × Span)). (v.code, record { start = p + 2 + 1; len = value_len size v.code }) ∷ xs)
      (constants-located (p + length (value_text v)) vs)

  -- the value of one, and what stands behind it
  module _ (n p : ℕ) (v : ClassValue) (rest : List ℕ) (is : IsClassValue size n v) (whole : drop p bytes ≡ value_text v ++ rest) where
    value-there : drop (p + n + 1) bytes ≡ v.value ++ rest
    value-there =
        let h : List ℕ = v.key ++ v.code ∷ [] in
        let long : length h ≡ n + 1 = omega (arith, length-append v.key (v.code ∷ []), is.key) in
        let offset : p + n + 1 ≡ p + length h = omega arith in
        ap (λ (k : ℕ). drop k bytes) offset
        ∙ behind p h (v.value ++ rest) (whole ∙ append_assoc v.key (v.code ∷ v.value) rest ∙ sym (append_assoc v.key (v.code ∷ []) (v.value ++ rest)))

    value-long : length (value_text v) ≡ n + 1 + value_len size v.code
    value-long = omega (arith, length-append v.key (v.code ∷ v.value), is.key, is.value)

    value-within : p + n + 1 + value_len size v.code ≤ length bytes
    value-within = omega (arith, length-drop p bytes, ap (λ (xs : List ℕ). length xs) whole, length-append (value_text v) rest, value-long)

    id-there : is_id_type v.code ≡ true → big_number (id_len size) (drop (p + n + 1) bytes) ≡ big_number (id_len size) v.value
    id-there id =
        let long : length v.value ≡ id_len size = is.value ∙ ap (λ (b : Bool). cond b (id_len size) (element_len v.code)) id in
        ap (big_number (id_len size)) value-there ∙ big_from-append (id_len size) v.value rest (omega (arith, long))

  -- the slots of values at an offset
  slots-located : (slot : ℕ → Slot) (n i p : ℕ) (vs : List ClassValue) (rest : List ℕ) → drop p bytes ≡ flat_map value_text vs ++ rest
      → AllByRecursion (IsClassValue size n) vs
      → named_slots (value_names slot i (located n p vs)) (value_ids bytes size (located n p vs)) ≡ value_slots size slot i vs
  unfolding located
  slots-located slot n i p [] rest whole each = refl
  slots-located slot n i p (v ∷ vs) rest whole each =
      let here = whole ∙ append_assoc (value_text v) (flat_map value_text vs) rest in
      by_type (is_id_type v.code) refl (λ id. id-there n p v (flat_map value_text vs ++ rest) each.0 here id)
      (slots-located slot n (i + 1) (p + length (value_text v)) vs rest (behind p (value_text v) (flat_map value_text vs ++ rest) here) each.1)
    where
      by_type : (b : Bool) → is_id_type v.code ≡ b
          → (is_id_type v.code ≡ true → big_number (id_len size) (drop (p + n + 1) bytes) ≡ big_number (id_len size) v.value)
          → named_slots (value_names slot (i + 1) (located n (p + length (value_text v)) vs))
          (value_ids bytes size (located n (p + length (value_text v)) vs)) ≡ value_slots size slot (i + 1) vs
          → named_slots (cond b (slot i ∷ value_names slot (i + 1) (located n (p + length (value_text v)) vs))
          (value_names slot (i + 1) (located n (p + length (value_text v)) vs)))
          (cond b (big_number (id_len size) (drop (p + n + 1) bytes) ∷ value_ids bytes size (located n (p + length (value_text v)) vs))
          (value_ids bytes size (located n (p + length (value_text v)) vs)))
          ≡ cond b (strong_slot (slot i) (big_number (id_len size) v.value) ∷ value_slots size slot (i + 1) vs) (value_slots size slot (i + 1) vs)
      by_type true id there more =
          ap (λ (x : ℕ). strong_slot (slot i) x ∷ named_slots (value_names slot (i + 1) (located n (p + length (value_text v)) vs))
          (value_ids bytes size (located n (p + length (value_text v)) vs))) (there id)
          ∙ ap (λ (ss : List SlotEntry). strong_slot (slot i) (big_number (id_len size) v.value) ∷ ss) more
      by_type false id there more = more

  values-within : (n p : ℕ) (vs : List ClassValue) (rest : List ℕ) → drop p bytes ≡ flat_map value_text vs ++ rest → AllByRecursion (IsClassValue size n) vs
      → All (IsValueWithin size (length bytes)) (located n p vs)
  unfolding located
  values-within n p [] rest whole each = All-nil (IsValueWithin size (length bytes))
  values-within n p (v ∷ vs) rest whole each =
      let here = whole ∙ append_assoc (value_text v) (flat_map value_text vs) rest in
      All-cons (IsValueWithin size (length bytes)) _ _ (record { within = value-within n p v (flat_map value_text vs ++ rest) each.0 here; typed = refl })
      (values-within n (p + length (value_text v)) vs rest (behind p (value_text v) (flat_map value_text vs ++ rest) here) each.1)

  -- the bytes of statics
  static_bytes-cons : (s : StaticItem) (ss : List StaticItem) → static_bytes (s ∷ ss) ≡ s.value.len + static_bytes ss
  static_bytes-cons s ss = omega (arith, sum_by-append (λ (x : StaticItem). x.value.len) (s ∷ []) ss)

  class_bytes-cons : (v : ClassValue) (vs : List ClassValue) → class_bytes (v ∷ vs) ≡ length v.value + class_bytes vs
  class_bytes-cons v vs = omega (arith, sum_by-append (λ (x : ClassValue). length x.value) (v ∷ []) vs)

  bytes-of-statics : (p : ℕ) (vs : List ClassValue) → AllByRecursion (IsClassValue size (id_len size)) vs → static_bytes (statics_at size p vs) ≡ class_bytes vs
  bytes-of-statics p [] each = refl
  bytes-of-statics p (v ∷ vs) each =
      let more = bytes-of-statics (p + length (value_text v)) vs each.1 in
      omega (
        arith,
        static_bytes-cons
            (record { name = big_number (id_len size) v.key; code = v.code; value = record { start = p + id_len size + 1; len = value_len size v.code } })
            (statics_at size (p + length (value_text v)) vs),
        class_bytes-cons v vs,
        each.0.value,
        more,
      )

  length-statics : (p : ℕ) (vs : List ClassValue) → length (statics_at size p vs) ≡ length vs
  length-statics p [] = refl
  length-statics p (v ∷ vs) = ap suc (length-statics (p + length (value_text v)) vs)

  length-constants : (p : ℕ) (vs : List ClassValue) → length (constants_at size p vs) ≡ length vs
  length-constants p [] = refl
  length-constants p (v ∷ vs) = ap suc (length-constants (p + length (value_text v)) vs)

  -- values are longer than they are many, and than their own bytes
  values-heavy : (vs : List ClassValue) → length vs + class_bytes vs ≤ length (flat_map value_text vs)
  values-heavy [] = omega arith
  values-heavy (v ∷ vs) =
      omega (arith, values-heavy vs, class_bytes-cons v vs, length-append (value_text v) (flat_map value_text vs), length-append v.key (v.code ∷ v.value))

  -- a CLASS DUMP at an offset
  module _ (at : ℕ) (head : ClassHead) (constants statics : Counted ClassValue) (fields : Counted ClassField) (rest : List ℕ)
      (is : IsSubRecord size (ClassDump head constants statics fields))
      (whole : drop at bytes ≡ sub_record_text (ClassDump head constants statics fields) ++ rest) where
    abbrev H : List ℕ
    H = 0x20 ∷ class_head_text head

    abbrev C : List ℕ
    C = counted_text value_text constants

    abbrev S : List ℕ
    S = counted_text value_text statics

    abbrev F : List ℕ
    F = counted_text field_text fields

    abbrev item : ClassItem
    item = class_item size at head constants statics fields

    abbrev constants_offset : ℕ
    constants_offset = at + 1 + length (class_head_text head) + 2

    abbrev statics_offset : ℕ
    statics_offset = at + 1 + length (class_head_text head) + length C + 2

    grouped : drop at bytes ≡ H ++ (C ++ (S ++ (F ++ rest)))
    grouped = whole ∙ append_assoc ((H ++ C) ++ S) F rest ∙ append_assoc (H ++ C) S (F ++ rest) ∙ append_assoc H C (S ++ (F ++ rest))

    from_constants : drop (at + length H) bytes ≡ C ++ (S ++ (F ++ rest))
    from_constants = behind at H (C ++ (S ++ (F ++ rest))) grouped

    from_statics : drop (at + length H + length C) bytes ≡ S ++ (F ++ rest)
    from_statics = behind (at + length H) C (S ++ (F ++ rest)) from_constants

    constants-there : drop constants_offset bytes ≡ flat_map value_text constants.items ++ (S ++ (F ++ rest))
    constants-there =
        let offset : constants_offset ≡ at + length H + length constants.count = omega (arith, is.1.count) in
        ap (λ (k : ℕ). drop k bytes) offset
        ∙ behind (at + length H) constants.count (flat_map value_text constants.items ++ (S ++ (F ++ rest)))
        (from_constants ∙ append_assoc constants.count (flat_map value_text constants.items) (S ++ (F ++ rest)))

    statics-there : drop statics_offset bytes ≡ flat_map value_text statics.items ++ (F ++ rest)
    statics-there =
        let offset : statics_offset ≡ at + length H + length C + length statics.count = omega (arith, is.2.count) in
        ap (λ (k : ℕ). drop k bytes) offset
        ∙ behind (at + length H + length C) statics.count (flat_map value_text statics.items ++ (F ++ rest))
        (from_statics ∙ append_assoc statics.count (flat_map value_text statics.items) (F ++ rest))

    static-slots : named_slots (value_names (λ i. slots.Static i) 0 (values_of_statics item.statics))
        (value_ids bytes size (values_of_statics item.statics)) ≡ value_slots size (λ i. slots.Static i) 0 statics.items
    static-slots =
        ap (λ (vs : List (ℕ × Span)). named_slots (value_names (λ i. slots.Static i) 0 vs) (value_ids bytes size vs))
        (statics-located statics_offset statics.items)
        ∙ slots-located (λ i. slots.Static i) (id_len size) 0 statics_offset statics.items (F ++ rest) statics-there is.2.each

    constant-slots : named_slots (value_names (λ i. slots.Const i) 0 (values_of_constants item.constants))
        (value_ids bytes size (values_of_constants item.constants)) ≡ value_slots size (λ i. slots.Const i) 0 constants.items
    constant-slots =
        ap (λ (vs : List (ℕ × Span)). named_slots (value_names (λ i. slots.Const i) 0 vs) (value_ids bytes size vs))
        (constants-located constants_offset constants.items)
        ∙ slots-located (λ i. slots.Const i) 2 0 constants_offset constants.items (S ++ (F ++ rest)) constants-there is.1.each

    abbrev links : List SlotEntry
    links = strong_slot slots.Super item.super ∷ strong_slot slots.Loader item.loader ∷ strong_slot slots.Signers item.signers
        ∷ strong_slot slots.Domain item.domain ∷ []

    slots-are : named_slots (class_names item) (class_row bytes size item) ≡ class_slots size head constants.items statics.items
    slots-are =
        let A = value_names (λ i. slots.Static i) 0 (values_of_statics item.statics) in
        let B = value_names (λ i. slots.Const i) 0 (values_of_constants item.constants) in
        let I = value_ids bytes size (values_of_statics item.statics) in
        let J = value_ids bytes size (values_of_constants item.constants) in
        let as_many = as-many-names bytes size (λ i. slots.Static i) 0 (values_of_statics item.statics) in
        let bs_many = as-many-names bytes size (λ i. slots.Const i) 0 (values_of_constants item.constants) in
        named-append (A ++ B) (slots.Super ∷ slots.Loader ∷ slots.Signers ∷ slots.Domain ∷ []) (I ++ J)
        (item.super ∷ item.loader ∷ item.signers ∷ item.domain ∷ []) (omega (arith, as_many, bs_many, length-append A B, length-append I J))
        ∙ ap (λ (ss : List SlotEntry). ss ++ links) (named-append A B I J as_many)
        ∙ ap (λ (ss : List SlotEntry). (ss ++ named_slots B J) ++ links) static-slots
        ∙ ap (λ (ss : List SlotEntry). (value_slots size (λ i. slots.Static i) 0 statics.items ++ ss) ++ links) constant-slots

    pub class-object : (t : ClassTable)
        → Some (row_object (ClassObject (static_bytes item.statics) (class_names item)) item.id (class_row bytes size item)) ≡ object_of t size
        (ClassDump head constants statics fields)
    class-object t =
        let x : ℕ → List SlotEntry → Object = λ b ss. record { id = item.id; group = groups.Classes; bytes = b; slots = ss; referent = None } in
        ap (λ (b : ℕ). Some (x b (named_slots (class_names item) (class_row bytes size item)))) (bytes-of-statics statics_offset statics.items is.2.each)
        ∙ ap (λ (ss : List SlotEntry). Some (x (class_bytes statics.items) ss)) slots-are

    text-long : length (sub_record_text (ClassDump head constants statics fields)) ≡ length H + length C + length S + length F
    text-long = omega (arith, length-append ((H ++ C) ++ S) F, length-append (H ++ C) S, length-append H C)

    head-long : 5 ≤ length H
    head-long =
        omega (
          arith,
          is.0.serial,
          length-append ((((((head.id ++ head.serial) ++ head.super) ++ head.loader) ++ head.signers) ++ head.domain) ++ head.reserved) head.instance,
          length-append (((((head.id ++ head.serial) ++ head.super) ++ head.loader) ++ head.signers) ++ head.domain) head.reserved,
          length-append ((((head.id ++ head.serial) ++ head.super) ++ head.loader) ++ head.signers) head.domain,
          length-append (((head.id ++ head.serial) ++ head.super) ++ head.loader) head.signers,
          length-append ((head.id ++ head.serial) ++ head.super) head.loader,
          length-append (head.id ++ head.serial) head.super,
          length-append head.id head.serial,
        )

    pub class-heavy : class_weight item ≤ length (sub_record_text (ClassDump head constants statics fields))
    class-heavy =
        omega (
          arith,
          text-long,
          head-long,
          length-statics statics_offset statics.items,
          length-constants constants_offset constants.items,
          bytes-of-statics statics_offset statics.items is.2.each,
          values-heavy statics.items,
          values-heavy constants.items,
          length-append constants.count (flat_map value_text constants.items),
          length-append statics.count (flat_map value_text statics.items),
        )

    pub class-within : IsClassWithin size (length bytes) item
    class-within = record {
      statics = subst (All (IsValueWithin size (length bytes))) (sym (statics-located statics_offset statics.items))
          (values-within (id_len size) statics_offset statics.items (F ++ rest) statics-there is.2.each);
      constants = subst (All (IsValueWithin size (length bytes))) (sym (constants-located constants_offset constants.items))
          (values-within 2 constants_offset constants.items (S ++ (F ++ rest)) constants-there is.1.each);
      bytes = omega (
        arith,
        class-heavy,
        length-drop at bytes,
        ap (λ (xs : List ℕ). length xs) whole,
        length-append
            (sub_record_text (ClassDump head constants statics fields)) rest,
      );
    }

    -- the head up to its super class, and up to each ID behind that
    abbrev to_super : List ℕ
    to_super = 0x20 ∷ head.id ++ head.serial

    abbrev to_loader : List ℕ
    to_loader = to_super ++ head.super

    abbrev to_signers : List ℕ
    to_signers = to_loader ++ head.loader

    abbrev to_domain : List ℕ
    to_domain = to_signers ++ head.signers

    -- what stands behind those IDs
    abbrev behind_links : List ℕ
    behind_links = head.reserved ++ (head.instance ++ (C ++ (S ++ (F ++ rest))))

    by_domain : drop at bytes ≡ to_domain ++ (head.domain ++ behind_links)
    by_domain =
        grouped
        ∙ append_assoc ((to_domain ++ head.domain) ++ head.reserved) head.instance (C ++ (S ++ (F ++ rest)))
        ∙ append_assoc (to_domain ++ head.domain) head.reserved (head.instance ++ (C ++ (S ++ (F ++ rest))))
        ∙ append_assoc to_domain head.domain behind_links

    by_signers : drop at bytes ≡ to_signers ++ (head.signers ++ (head.domain ++ behind_links))
    by_signers = by_domain ∙ append_assoc to_signers head.signers (head.domain ++ behind_links)

    by_loader : drop at bytes ≡ to_loader ++ (head.loader ++ (head.signers ++ (head.domain ++ behind_links)))
    by_loader = by_signers ∙ append_assoc to_loader head.loader (head.signers ++ (head.domain ++ behind_links))

    by_super : drop at bytes ≡ to_super ++ (head.super ++ (head.loader ++ (head.signers ++ (head.domain ++ behind_links))))
    by_super = by_loader ∙ append_assoc to_super head.super (head.loader ++ (head.signers ++ (head.domain ++ behind_links)))

    length-to_super : length to_super ≡ 5 + id_len size
    length-to_super = omega (arith, length-append (0x20 ∷ head.id) head.serial, is.0.id, is.0.serial)

    length-to_loader : length to_loader ≡ 5 + id_len size + id_len size
    length-to_loader = omega (arith, length-append to_super head.super, is.0.super, length-to_super)

    length-to_signers : length to_signers ≡ 5 + id_len size + 2 * id_len size
    length-to_signers = omega (arith, length-append to_loader head.loader, is.0.loader, length-to_loader)

    length-to_domain : length to_domain ≡ 5 + id_len size + 3 * id_len size
    length-to_domain = omega (arith, length-append to_signers head.signers, is.0.signers, length-to_signers)

    abbrev links_offset : ℕ
    links_offset = at + 5 + id_len size

    pub class-links : HasLinks bytes size links_offset item
    class-links =
        let n = id_len size in
        let super = id-behind bytes size at to_super head.super _ by_super is.0.super in
        let loader = id-behind bytes size at to_loader head.loader _ by_loader is.0.loader in
        let signers = id-behind bytes size at to_signers head.signers _ by_signers is.0.signers in
        let domain = id-behind bytes size at to_domain head.domain _ by_domain is.0.domain in
        let super_offset : links_offset ≡ at + length to_super = omega (arith, length-to_super) in
        let loader_offset : links_offset + n ≡ at + length to_loader = omega (arith, length-to_loader) in
        let signers_offset : links_offset + 2 * n ≡ at + length to_signers = omega (arith, length-to_signers) in
        let domain_offset : links_offset + 3 * n ≡ at + length to_domain = omega (arith, length-to_domain) in
        let super_is : id_at bytes size links_offset ≡ item.super = ap (id_at bytes size) super_offset ∙ super.is in
        let loader_is : id_at bytes size (links_offset + n) ≡ item.loader = ap (id_at bytes size) loader_offset ∙ loader.is in
        let signers_is : id_at bytes size (links_offset + 2 * n) ≡ item.signers = ap (id_at bytes size) signers_offset ∙ signers.is in
        let domain_is : id_at bytes size (links_offset + 3 * n) ≡ item.domain = ap (id_at bytes size) domain_offset ∙ domain.is in
        record {
          within = omega (arith, domain.within, domain_offset);
          are = same_links _ _ _ _ _ _ _ _ super_is loader_is signers_is domain_is;
        }
