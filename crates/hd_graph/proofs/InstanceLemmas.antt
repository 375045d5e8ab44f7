-- Instances: their rows and shapes, and what an INSTANCE DUMP at an offset of the file comes to.
use Rattle.std.proofs.Common.{◌≡◌, ◌∙◌, ℕ, zero, suc, ◌+◌, ◌*◌, ◌<◌, ◌≤◌, inl, inr, List, [], ◌∷◌, ◌++◌, length, map, drop, Option, Some, None, Bool, true}
use Rattle.std.proofs.Common.{false, cond, eqb, eqb-true, eq-eqb, ne_eqb, refl, sym, ap, subst, arith, append_assoc, length-append}
use Rattle.std.specs.Option.{option_map, option_and_then}
use Rattle.std.specs.List.{AllByRecursion}
use Rattle.std.proofs.lemmas.List.{length-drop, drop-drop}
use Rattle.std.proofs.Math.Seq.{drop-append_seam}
use Rattle.byteorder.specs.Endian.{big_number}
use Rattle.byteorder.specs.Numbers.{big_from-append}
use Rattle.hd_terms.specs.declared.IdSize.{IdSize}
use Rattle.hd_terms.specs.declared.IdSize.TheVariants as sizes
use Rattle.hd_terms.specs.declared.Span.{Span}
use Rattle.hd_terms.specs.declared.Slot.{Slot}
use Rattle.hd_terms.specs.declared.Slot.TheVariants as slots
use Rattle.hd_terms.specs.declared.EdgeKind.{EdgeKind}
use Rattle.hd_terms.specs.declared.EdgeKind.TheVariants as kinds
use Rattle.hd_terms.specs.declared.Group.{Group}
use Rattle.hd_terms.specs.declared.Group.TheVariants as groups
use Rattle.hd_terms.specs.Records.{id_len}
use Rattle.hd_terms.specs.Types.{is_id_type, element_len, value_len}
use Rattle.hd_terms.specs.SubRecords.{InstanceDump, IsSubRecord, sub_record_text}
use Rattle.hd_terms.specs.Classes.{ClassTable, LayoutField, ResolvedClass, layout_len, resolved_class}
use Rattle.hd_terms.specs.Dump.{Object, SlotEntry}
use Rattle.hd_terms.specs.Slots.{strong_slot, field_kind, field_slots, instance_slots}
use Rattle.hd_terms.specs.Objects.{object_of}
use Rattle.hd_slots.specs.Table.{HasIdAt}
use Rattle.hd_classes.specs.Fits.{IsMisfit, FitsClass, SizedClasses}
use Rattle.hd_classes.specs.Known.{known_at, known_by_number}
use Rattle.hd_shapes.specs.Shapes.{shape_bytes}
use Rattle.hd_graph.specs.Shapes.{named_slots, with_kind, referent_kind, HasShape, ComesBefore, IsRising}
use Rattle.hd_graph.specs.ArrayRows.{placed_fields, value_ids, field_names, layout_names, fitting, instance_entry}
use Rattle.hd_classes.proofs.FieldLemmas.{layout_len-cons}
use Rattle.hd_slots.proofs.CutLemmas.{last_from-push}
use Rattle.hd_graph.proofs.ArrayRowLemmas.{object_of_entry, id-behind}

-- values that fit a layout have its bytes
fitting-one : (size : IdSize) (len : ℕ) (x k : ResolvedClass) (b : Bool) → eqb len (layout_len size x.layout) ≡ b
    → (let o : Option ResolvedClass = cond b (Some x) None in o) ≡ Some k → len ≡ layout_len size k.layout
fitting-one size len x k false e is = absurd cc
fitting-one size len x k true e is = let same : x ≡ k = cc in eqb-true len (layout_len size x.layout) e
    ∙ ap (λ (y : ResolvedClass). layout_len size y.layout) same

pub fitting-len : (size : IdSize) (len : ℕ) (known : Option ResolvedClass) (k : ResolvedClass) → fitting size len known ≡ Some k
    → len ≡ layout_len size k.layout
fitting-len size len None k is = absurd cc
fitting-len size len (Some x) k is = fitting-one size len x k (eqb len (layout_len size x.layout)) refl is

-- the class by whose layout values are read, where they fit it, and where they don't
fits-fitting : (size : IdSize) (len : ℕ) (known by_number : Option ResolvedClass) → FitsClass size len known by_number → (x : ResolvedClass)
    → by_number ≡ Some x → fitting size len known ≡ Some x
fits-fitting size len known by_number h x is =
    let same : h.k ≡ x = same_class (sym h.numbered ∙ is) in
    ap (fitting size len) h.is ∙ ap (λ (b : Bool). let o : Option ResolvedClass = cond b (Some h.k) None in o) (eq-eqb len (layout_len size h.k.layout) h.same)
    ∙ ap (λ (y : ResolvedClass). Some y) same
  where
    same_class : {a b : ResolvedClass} → Some a ≡ Some b → a ≡ b
    same_class e = cc

-- the same, by the number of the class among the classes that are known
pub fits-numbered : (size : IdSize) (len number class : ℕ) (before after : SizedClasses) (k : ResolvedClass) → before.size ≡ size → after ≡ before
    → FitsClass before.size len (known_at before.classes class) (known_by_number before.classes number)
    → known_by_number after.classes number ≡ Some k → fitting size len (known_at before.classes class) ≡ Some k
fits-numbered size len number class before after k sizes same fits is =
    subst (λ (n : IdSize). fitting n len (known_at before.classes class) ≡ Some k) sizes
    (fits-fitting before.size len (known_at before.classes class) (known_by_number before.classes number) fits k
    (ap (λ (l : SizedClasses). known_by_number l.classes number) (sym same) ∙ is))

pub misfit-fitting : (size : IdSize) (len : ℕ) (known : Option ResolvedClass) → IsMisfit size len known → fitting size len known ≡ None
misfit-fitting size len known h = ap (fitting size len) h.is ∙ ap (λ (b : Bool). let o : Option ResolvedClass = cond b (Some h.k) None in o)
    (ne_eqb len (layout_len size h.k.layout) h.other)

-- an instance's recorded bytes are those of its values
pub instance-bytes : (bytes : List ℕ) (size : IdSize) (id class : ℕ) (values : Span) (known k : Option ResolvedClass) → fitting size values.len known ≡ k
    → shape_bytes (instance_entry bytes size id class values k).2 ≡ values.len
instance-bytes bytes size id class values known None is = refl
instance-bytes bytes size id class values known (Some k) is = sym (fitting-len size values.len known k is)

-- as many names as IDs
as-many-fields : (bytes : List ℕ) (size : IdSize) (i at : ℕ) (layout : List LayoutField)
    → length (field_names i layout) ≡ length (value_ids bytes size (placed_fields size at layout))
as-many-fields bytes size i at [] = refl
as-many-fields bytes size i at (f ∷ fs) = by_type (value_ids bytes size (placed_fields size (at + value_len size f.code) fs)) (is_id_type f.code)
    (as-many-fields bytes size (i + 1) (at + value_len size f.code) fs)
  where
    by_type : (rest : List ℕ) (b : Bool) → length (field_names (i + 1) fs) ≡ length rest
        → length (cond b (slots.Field i ∷ field_names (i + 1) fs) (field_names (i + 1) fs)) ≡ length
        (cond b (big_number (id_len size) (drop at bytes) ∷ rest) rest)
    by_type rest true e = ap suc e
    by_type rest false e = e

-- the names of fields rise
fields-after : (i j : ℕ) (layout : List LayoutField) → i < j → AllByRecursion (ComesBefore (slots.Field i)) (field_names j layout ++ slots.OfClass ∷ [])
fields-after i j [] lt = (inl (omega arith), tt)
fields-after i j (f ∷ fs) lt = by_type (is_id_type f.code) (fields-after i (j + 1) fs (omega arith))
  where
    by_type : (b : Bool) → AllByRecursion (ComesBefore (slots.Field i)) (field_names (j + 1) fs ++ slots.OfClass ∷ [])
        → AllByRecursion (ComesBefore (slots.Field i)) (cond b (slots.Field j ∷ field_names (j + 1) fs) (field_names (j + 1) fs) ++ slots.OfClass ∷ [])
    by_type true all = (inr (refl, omega arith), all)
    by_type false all = all

fields-rise : (i : ℕ) (layout : List LayoutField) → IsRising (field_names i layout ++ slots.OfClass ∷ [])
fields-rise i [] = (tt, tt)
fields-rise i (f ∷ fs) = by_type (is_id_type f.code) (fields-rise (i + 1) fs)
  where
    by_type : (b : Bool) → IsRising (field_names (i + 1) fs ++ slots.OfClass ∷ [])
        → IsRising (cond b (slots.Field i ∷ field_names (i + 1) fs) (field_names (i + 1) fs) ++ slots.OfClass ∷ [])
    by_type true rising = (fields-after i (i + 1) fs (omega arith), rising)
    by_type false rising = rising

-- an instance's shape fits its row
pub instance-fits : (bytes : List ℕ) (size : IdSize) (id class : ℕ) (values : Span) (k : Option ResolvedClass)
    → HasShape (instance_entry bytes size id class values k).2 (instance_entry bytes size id class values k).1
instance-fits bytes size id class values None = tt
instance-fits bytes size id class values (Some k) =
    let names = field_names 0 k.layout in
    let ids = value_ids bytes size (placed_fields size values.start k.layout) in (
      length-append names (slots.OfClass ∷ []) ∙ ap (λ (n : ℕ). n + 1) (as-many-fields bytes size 0 values.start k.layout)
          ∙ sym (length-append ids (class ∷ [])),
      fields-rise 0 k.layout,
    )

-- a layout has no more fields than bytes
value-some : (size : IdSize) (code : ℕ) → 1 ≤ value_len size code
value-some size code = by_type size (is_id_type code) (element-some code)
  where
    eight : (a b c d e f g : Bool) → 1 ≤ cond a 1 (cond b 2 (cond c 4 (cond d 8 (cond e 1 (cond f 2 (cond g 4 8))))))
    eight true b c d e f g = omega arith
    eight false true c d e f g = omega arith
    eight false false true d e f g = omega arith
    eight false false false true e f g = omega arith
    eight false false false false true f g = omega arith
    eight false false false false false true g = omega arith
    eight false false false false false false true = omega arith
    eight false false false false false false false = omega arith

    element-some : (t : ℕ) → 1 ≤ element_len t
    element-some t = eight (eqb t 4) (eqb t 5) (eqb t 6) (eqb t 7) (eqb t 8) (eqb t 9) (eqb t 10)

    by_type : (size : IdSize) (b : Bool) → 1 ≤ element_len code → 1 ≤ cond b (id_len size) (element_len code)
    by_type sizes.Four true h = omega arith
    by_type sizes.Eight true h = omega arith
    by_type sizes.Four false h = h
    by_type sizes.Eight false h = h

pub fields-le-bytes : (size : IdSize) (layout : List LayoutField) → length layout ≤ layout_len size layout
fields-le-bytes size [] = omega arith
fields-le-bytes size (f ∷ fs) = omega (arith, layout_len-cons size f fs, value-some size f.code, fields-le-bytes size fs)

-- the value of an ID has the bytes of an ID
id-value : (size : IdSize) (code : ℕ) → is_id_type code ≡ true → value_len size code ≡ id_len size
id-value size code is = ap (λ (b : Bool). cond b (id_len size) (element_len code)) is

-- the front of bytes that are longer
drop-front : (n : ℕ) (xs ys : List ℕ) → n ≤ length xs → drop n (xs ++ ys) ≡ drop n xs ++ ys
drop-front zero xs ys le = refl
drop-front (suc n) [] ys le = absurd (omega arith)
drop-front (suc n) (x ∷ xs) ys le = drop-front n xs ys (omega arith)

-- the kind in a field, and in the class's slot
kind-of-field : (referent : Option ℕ) (kind : EdgeKind) (i : ℕ) → referent_kind (option_map (λ (r : ℕ). slots.Field r) referent) kind
    (slots.Field i) ≡ field_kind referent kind i
kind-of-field None kind i = refl
kind-of-field (Some r) kind i = refl

kind-of-class : (referent : Option ℕ) (kind : EdgeKind) → referent_kind (option_map (λ (r : ℕ). slots.Field r) referent) kind slots.OfClass ≡ kinds.Strong
kind-of-class None kind = refl
kind-of-class (Some r) kind = refl

module _ (bytes : List ℕ) (size : IdSize) where
  -- the slot of one field, if it holds an ID, before those of others
  field-is : (referent : Option ℕ) (kind : EdgeKind) (class i at : ℕ) (f : LayoutField) (names : List Slot) (ids : List ℕ) (more : List SlotEntry)
      (values rest : List ℕ) → drop at bytes ≡ values ++ rest
      → (b : Bool) → (b ≡ true → id_len size ≤ length values)
      → map (with_kind (option_map (λ (r : ℕ). slots.Field r) referent) kind) (named_slots (names ++ slots.OfClass ∷ []) (ids ++ class ∷ [])) ≡ more
      ++ strong_slot slots.OfClass class ∷ []
      → map (with_kind (option_map (λ (r : ℕ). slots.Field r) referent) kind)
      (named_slots (cond b (slots.Field i ∷ names) names ++ slots.OfClass ∷ []) (cond b (big_number (id_len size) (drop at bytes) ∷ ids) ids ++ class ∷ []))
      ≡ cond b ((record { slot = slots.Field i; kind = field_kind referent kind i; id = big_number (id_len size) values }) ∷ more) more
      ++ strong_slot slots.OfClass class ∷ []
  field-is referent kind class i at f names ids more values rest whole false few e = e
  field-is referent kind class i at f names ids more values rest whole true few e =
      let R : Option Slot = option_map (λ (r : ℕ). slots.Field r) referent in
      let id : big_number (id_len size) (drop at bytes) ≡ big_number (id_len size) values = ap (big_number (id_len size)) whole
      ∙ big_from-append (id_len size) values rest (few refl) in
      ap (λ (k : EdgeKind). (let s : SlotEntry = record { slot = slots.Field i; kind = k; id = big_number (id_len size) (drop at bytes) } in s) ∷ map
      (with_kind R kind) (named_slots (names ++ slots.OfClass ∷ []) (ids ++ class ∷ []))) (kind-of-field referent kind i)
      ∙ ap (λ (x : ℕ). (let s : SlotEntry = record { slot = slots.Field i; kind = field_kind referent kind i; id = x } in s) ∷ map (with_kind R kind)
      (named_slots (names ++ slots.OfClass ∷ []) (ids ++ class ∷ []))) id
      ∙ ap (λ (ss : List SlotEntry).
      (let s : SlotEntry = record { slot = slots.Field i; kind = field_kind referent kind i; id = big_number (id_len size) values } in s) ∷ ss) e

  -- the slots of fields whose values stand at an offset
  fields-are : (referent : Option ℕ) (kind : EdgeKind) (class i at : ℕ) (layout : List LayoutField) (values rest : List ℕ) → drop at bytes ≡ values ++ rest
      → layout_len size layout ≤ length values
      → map (with_kind (option_map (λ (r : ℕ). slots.Field r) referent) kind)
      (named_slots (field_names i layout ++ slots.OfClass ∷ []) (value_ids bytes size (placed_fields size at layout) ++ class ∷ []))
      ≡ field_slots size referent kind i layout values ++ strong_slot slots.OfClass class ∷ []
  fields-are referent kind class i at [] values rest whole enough =
      ap (λ (k : EdgeKind). (let e : SlotEntry = record { slot = slots.OfClass; kind = k; id = class } in e) ∷ []) (kind-of-class referent kind)
  fields-are referent kind class i at (f ∷ fs) values rest whole enough =
      let n = value_len size f.code in
      let long : n + layout_len size fs ≤ length values = omega (arith, layout_len-cons size f fs, enough) in
      let next : drop (at + n) bytes ≡ drop n values ++ rest = sym (drop-drop n at bytes) ∙ ap (drop n) whole ∙ drop-front n values rest (omega arith) in
      field-is referent kind class i at f (field_names (i + 1) fs) (value_ids bytes size (placed_fields size (at + n) fs))
      (field_slots size referent kind (i + 1) fs (drop n values)) values rest whole
      (is_id_type f.code) (λ is. omega (arith, id-value size f.code is, long))
      (fields-are referent kind class (i + 1) (at + n) fs (drop n values) rest next (omega (arith, length-drop n values)))

  -- an instance at an offset
  module _ (t : ClassTable) (at : ℕ) (id serial class count values rest : List ℕ) (is : IsSubRecord size (InstanceDump id serial class count values))
      (whole : drop at bytes ≡ sub_record_text (InstanceDump id serial class count values) ++ rest) where
    abbrev instance_head : List ℕ
    instance_head = 0x21 ∷ id ++ serial ++ class ++ count

    abbrev class_id : ℕ
    class_id = big_number (id_len size) class

    abbrev span : Span
    span = record { start = at + 9 + 2 * id_len size; len = big_number 4 count }

    length-instance_head : length instance_head ≡ 9 + 2 * id_len size
    length-instance_head = omega (
      arith,
      length-append (0x21 ∷ id ++ serial ++ class) count,
      length-append (0x21 ∷ id ++ serial) class,
      length-append
          (0x21 ∷ id) serial,
      is.0,
      is.1,
      is.2,
      is.3,
    )

    from_values : drop (at + 9 + 2 * id_len size) bytes ≡ values ++ rest
    from_values =
        let h = instance_head in
        let offset : at + 9 + 2 * id_len size ≡ at + length h = omega (arith, length-instance_head) in
        ap (λ (n : ℕ). drop n bytes) offset ∙ sym (drop-drop (length h) at bytes) ∙ ap (drop (length h)) (whole ∙ append_assoc h values rest)
        ∙ drop-append_seam h (values ++ rest)

    object-by : (k : Option ResolvedClass) → fitting size span.len (resolved_class t class_id) ≡ k
        → object_of_entry (instance_entry bytes size (big_number (id_len size) id) class_id span k)
        ≡ record {
          id = big_number (id_len size) id;
          group = groups.Class class_id;
          bytes = big_number 4 count;
          slots = instance_slots size k class values;
          referent = option_and_then (λ (x : ResolvedClass). option_map (λ (i : ℕ). slots.Field i) x.referent) k;
        }
    object-by None fits = refl
    object-by (Some k) fits =
        let ids = value_ids bytes size (placed_fields size span.start k.layout) in
        let x : Group → ℕ → List SlotEntry → Object = λ g b ss. record {
          id = big_number (id_len size) id;
          group = g;
          bytes = b;
          slots = ss;
          referent =
              option_map (λ (i : ℕ). slots.Field i) k.referent;
        } in
        let ss = map (with_kind (option_map (λ (i : ℕ). slots.Field i) k.referent) k.kind) (named_slots (layout_names k.layout) (ids ++ class_id ∷ [])) in
        let enough : layout_len size k.layout ≤ length values = omega (arith, fitting-len size span.len (resolved_class t class_id) k fits, is.4) in
        ap (λ (c : ℕ). x (groups.Class c) (layout_len size k.layout) ss) (last_from-push 0 ids class_id)
        ∙ ap (λ (n : ℕ). x (groups.Class class_id) n ss) (sym (fitting-len size span.len (resolved_class t class_id) k fits))
        ∙ ap (λ (es : List SlotEntry). x (groups.Class class_id) (big_number 4 count) es)
        (fields-are k.referent k.kind class_id 0 span.start k.layout values rest from_values enough)

    pub instance-object : Some
        (object_of_entry (instance_entry bytes size (big_number (id_len size) id) class_id span (fitting size span.len (resolved_class t class_id))))
        ≡ object_of t size (InstanceDump id serial class count values)
    instance-object = ap (λ (x : Object). Some x) (object-by (fitting size span.len (resolved_class t class_id)) refl)

    text-long : length (sub_record_text (InstanceDump id serial class count values)) ≡ 9 + 2 * id_len size + big_number 4 count
    text-long = length-append instance_head values ∙ ap (λ (n : ℕ). n + length values) length-instance_head ∙ ap (λ (n : ℕ). 9 + 2 * id_len size + n) is.4

    pub instance-within : span.start + span.len ≤ length bytes
    instance-within =
        let all : length (drop at bytes) ≡ 9 + 2 * id_len size + big_number 4 count + length rest =
        ap (λ (xs : List ℕ). length xs) whole ∙ length-append (sub_record_text (InstanceDump id serial class count values)) rest
        ∙ ap (λ (n : ℕ). n + length rest) text-long in
        omega (arith, length-drop at bytes, all)

    pub instance-class : HasIdAt bytes size (at + 5 + id_len size) class_id
    instance-class =
        let h : List ℕ = 0x21 ∷ id ++ serial in
        let offset : at + length h ≡ at + 5 + id_len size = omega (arith, length-append (0x21 ∷ id) serial, is.0, is.1) in
        subst (λ (p : ℕ). HasIdAt bytes size p class_id) offset
        (id-behind bytes size at h class (count ++ (values ++ rest)) (whole ∙ append_assoc (h ++ class ++ count) values rest
        ∙ append_assoc (h ++ class) count (values ++ rest) ∙ append_assoc h class (count ++ (values ++ rest))) is.2)

    pub instance-weight : 1 + span.len ≤ length (sub_record_text (InstanceDump id serial class count values))
    instance-weight = omega (arith, text-long)
