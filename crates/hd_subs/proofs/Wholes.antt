-- A class put together from its head and its lists, or cut off in one of them.
use Rattle.std.proofs.Common.{◌≡◌, ◌≢◌, ℕ, ◌+◌, List, [], ◌∷◌, ◌++◌, length, map, refl, sym, ap, ◌∙◌, append_assoc, arith}
use Rattle.hd_terms.specs.declared.IdSize.{IdSize}
use Rattle.hd_terms.specs.declared.errors.Cause.TheVariants.{ShortSub, UnknownType}
use Rattle.hd_terms.specs.Records.{id_len}
use Rattle.hd_terms.specs.SubRecords.{ClassDump, ClassHead, ClassValue, ClassField, Counted, IsClassHead, IsClassValue, IsClassField, IsCounted, IsSubRecord}
use Rattle.hd_terms.specs.SubRecords.{class_head_text, value_text, field_text, counted_text, ConstantItem, StaticItem, FieldItem, field_item, constants_at}
use Rattle.hd_terms.specs.SubRecords.{statics_at, Class, Sub}
use Rattle.hd_terms.specs.Types.{value_len}
use Rattle.hd_terms.specs.ReadFaults.{IsStuck, short, other_class_type, IsBeforeType, of_constant, of_static, of_field}
use Rattle.hd_subs.specs.declared.class_reading.Head.{Head}
use Rattle.hd_subs.specs.declared.class_reading.Stop.{Stop}
use Rattle.hd_subs.specs.declared.class_reading.Stop.TheVariants as stops
use Rattle.hd_subs.specs.ParsedSubs.{BeginsWithSub}
use Rattle.hd_subs.specs.Parts.{BeginsWith, EndsInside, HasOtherType, IsListStop, IsClassStop, items_at, list_at, typed_item, static_item, field_at, head_item}
use Rattle.hd_subs.proofs.Parts.{nil_front}

-- ---- the words of the file format

constants-same : (size : IdSize) (at : ℕ) (vs : List ClassValue) → items_at (typed_item size 2) value_text at vs ≡ constants_at size at vs
constants-same size at [] = refl
constants-same size at (v ∷ vs) =
    let place : at + 2 + 1 ≡ at + 3 = omega arith in
    ap (λ (cs : List ConstantItem). typed_item size 2 at v ∷ cs) (constants-same size (at + length (value_text v)) vs)
    ∙ ap (λ (k : ℕ). (record { code = v.code; value = record { start = k; len = value_len size v.code } }) ∷ constants_at size (at + length (value_text v)) vs)
    place

statics-same : (size : IdSize) (at : ℕ) (vs : List ClassValue) → items_at (static_item size) value_text at vs ≡ statics_at size at vs
statics-same size at [] = refl
statics-same size at (v ∷ vs) = ap (λ (ss : List StaticItem). static_item size at v ∷ ss) (statics-same size (at + length (value_text v)) vs)

fields-same : (size : IdSize) (at : ℕ) (fs : List ClassField) → items_at (field_at size) field_text at fs ≡ map (field_item size) fs
fields-same size at [] = refl
fields-same size at (f ∷ fs) = ap (λ (is : List FieldItem). field_item size f ∷ is) (fields-same size (at + length (field_text f)) fs)

-- ---- a whole class

-- the class at a place of a head and lists
abbrev pub sub_of : ℕ → Head → List ConstantItem → List StaticItem → List FieldItem → Sub
sub_of at h constants statics fields = record {
  offset = at;
  item = Class (record {
    id = h.id;
    super = h.super_id;
    loader = h.loader;
    signers = h.signers;
    domain = h.domain;
    constants = constants;
    statics = statics;
    fields = fields;
  });
}

-- two parts are one
joined : (fields a rest b after : List ℕ) → fields ≡ a ++ rest → rest ≡ b ++ after → fields ≡ (a ++ b) ++ after
joined fields a rest b after first next = first ∙ ap (λ (xs : List ℕ). a ++ xs) next ∙ sym (append_assoc a b after)

-- the same head and the same lists are the same class
class_same : (at : ℕ) (h k : Head) (cs ds : List ConstantItem) (ss ts : List StaticItem) (fs gs : List FieldItem) → h ≡ k → cs ≡ ds → ss ≡ ts → fs ≡ gs
    → sub_of at h cs ss fs ≡ sub_of at k ds ts gs
class_same at h k cs ds ss ts fs gs head constants statics fields =
    ap (λ (x : Head). sub_of at x cs ss fs) head
    ∙ ap (λ (xs : List ConstantItem). sub_of at k xs ss fs) constants
    ∙ ap (λ (xs : List StaticItem). sub_of at k ds xs fs) statics
    ∙ ap (λ (xs : List FieldItem). sub_of at k ds ts xs) fields

pub begins_class : (size : IdSize) (at : ℕ) (fields : List ℕ) (head : Head) (r1 : List ℕ) (p1 : ℕ) (constants : List ConstantItem) (r2 : List ℕ) (p2 : ℕ)
    (statics : List StaticItem) (r3 : List ℕ) (p3 : ℕ)
    (declared : List FieldItem) (after : List ℕ) (end : ℕ)
    → BeginsWith (IsClassHead size) class_head_text (head_item size) (at + 1) fields head r1 p1
    → BeginsWith (IsCounted (IsClassValue size 2)) (counted_text value_text) (list_at (typed_item size 2) value_text) p1 r1 constants r2 p2
    → BeginsWith (IsCounted (IsClassValue size (id_len size))) (counted_text value_text) (list_at (static_item size) value_text) p2 r2 statics r3 p3
    → BeginsWith (IsCounted (IsClassField size)) (counted_text field_text) (list_at (field_at size) field_text) p3 r3 declared after end
    → BeginsWithSub size at (0x20 ∷ fields) (sub_of at head constants statics declared) after
begins_class size at fields head r1 p1 constants r2 p2 statics r3 p3 declared after end h c s f =
    let h_text : List ℕ = class_head_text h.a in
    let c_text : List ℕ = counted_text value_text c.a in
    let s_text : List ℕ = counted_text value_text s.a in
    let f_text : List ℕ = counted_text field_text f.a in
    let first : fields ≡ (h_text ++ c_text) ++ r2 = joined fields h_text r1 c_text r2 h.whole c.whole in
    let second : fields ≡ ((h_text ++ c_text) ++ s_text) ++ r3 = joined fields (h_text ++ c_text) r2 s_text r3 first s.whole in
    let third : fields ≡ (((h_text ++ c_text) ++ s_text) ++ f_text) ++ after = joined fields ((h_text ++ c_text) ++ s_text) r3 f_text after second f.whole in
    let c_place : p1 + 2 ≡ at + 1 + length h_text + 2 = omega (arith, h.end_is) in
    let s_place : p2 + 2 ≡ at + 1 + length h_text + length c_text + 2 = omega (arith, h.end_is, c.end_is) in
    let c_is : constants ≡ constants_at size (at + 1 + length h_text + 2) c.a.items = c.item_is ∙ constants-same size (p1 + 2) c.a.items
    ∙ ap (λ (k : ℕ). constants_at size k c.a.items) c_place in
    let s_is : statics ≡ statics_at size (at + 1 + length h_text + length c_text + 2) s.a.items = s.item_is ∙ statics-same size (p2 + 2) s.a.items
    ∙ ap (λ (k : ℕ). statics_at size k s.a.items) s_place in
    let f_is : declared ≡ map (field_item size) f.a.items = f.item_is ∙ fields-same size (p3 + 2) f.a.items in
    record {
      s = ClassDump h.a c.a s.a f.a;
      is = (h.is, c.is, s.is, f.is);
      whole = ap (λ (xs : List ℕ). 0x20 ∷ xs) third;
      sub_is = class_same at head (head_item size (at + 1) h.a) constants _ statics _ declared _ h.item_is c_is s_is f_is;
    }

-- ---- a class that is cut off

-- these bytes are a text of which some bytes are missing
record IsFront (rest text : List ℕ) : Type 0 where
  missing : List ℕ
  lacks : missing ≢ []
  whole : rest ++ missing ≡ text

front : {A : Type 0} (Is : A → Type 0) (text : A → List ℕ) (rest : List ℕ) (e : EndsInside Is text rest) → IsFront rest (text e.a)
front Is text rest e = record { missing = e.missing; lacks = e.lacks; whole = e.whole }

front-more : (rest text more : List ℕ) → IsFront rest text → IsFront rest (text ++ more)
front-more rest text more f = record {
  missing = f.missing ++ more;
  lacks = λ e. f.lacks (nil_front f.missing more e);
  whole = sym (append_assoc rest f.missing more) ∙ ap (λ (xs : List ℕ). xs ++ more) f.whole;
}

front-behind : (fields before rest text : List ℕ) → fields ≡ before ++ rest → IsFront rest text → IsFront fields (before ++ text)
front-behind fields before rest text is f = record {
  missing = f.missing;
  lacks = f.lacks;
  whole = ap (λ (xs : List ℕ). xs ++ f.missing) is ∙ append_assoc before rest f.missing ∙ ap (λ (xs : List ℕ). before ++ xs) f.whole;
}

-- a list without items
no_items : {A : Type 0} → Counted A
no_items = record { count = 0 ∷ 0 ∷ []; items = [] }

is_no_items : {A : Type 0} (Is : A → Type 0) → IsCounted Is no_items
unfolding no_items
is_no_items Is = record { count = refl; many = refl; each = tt }

cut_off : (size : IdSize) (fields : List ℕ) (head : ClassHead) (constants statics : Counted ClassValue) (declared : Counted ClassField)
    → IsSubRecord size (ClassDump head constants statics declared)
    → IsFront fields (((class_head_text head ++ counted_text value_text constants) ++ counted_text value_text statics) ++ counted_text field_text declared)
    → IsStuck size (0x20 ∷ fields) ShortSub
cut_off size fields head constants statics declared is f = short (ClassDump head constants statics declared) is (record {
  some = λ e. absurd cc;
  missing = f.missing;
  lacks = f.lacks;
  whole = ap (λ (xs : List ℕ). 0x20 ∷ xs) f.whole;
})

pub cut_head : (size : IdSize) (fields : List ℕ) → EndsInside (IsClassHead size) class_head_text fields → IsStuck size (0x20 ∷ fields) ShortSub
cut_head size fields e =
    let text : List ℕ = class_head_text e.a in
    let c : List ℕ = counted_text value_text no_items in
    let f : List ℕ = counted_text field_text no_items in
    cut_off size fields e.a no_items no_items no_items (
      e.is,
      is_no_items (IsClassValue size 2),
      is_no_items (IsClassValue size (id_len size)),
      is_no_items
          (IsClassField size),
    )
    (front-more fields ((text ++ c) ++ c) f (front-more fields (text ++ c) c (front-more fields text c (front (IsClassHead size) class_head_text fields e))))

-- the fields up to an unknown type
other_type_at : (size : IdSize) (fields before behind : List ℕ) (n : ℕ) → fields ≡ before ++ behind → (other : HasOtherType n behind)
    → IsBeforeType size (before ++ other.key) → IsStuck size (0x20 ∷ fields) UnknownType
other_type_at size fields before behind n whole other is =
    other_class_type (before ++ other.key) other.code other.more is
    (ap (λ (xs : List ℕ). 0x20 ∷ xs) (joined fields before behind other.key (other.code ∷ other.more) whole other.whole)) other.other

pub constants_stop : (size : IdSize) (fields : List ℕ) (at : ℕ) (head : Head) (r1 : List ℕ) (p1 : ℕ) (stop : Stop)
    → BeginsWith (IsClassHead size) class_head_text (head_item size) at fields head r1 p1
    → IsListStop (IsClassValue size 2) value_text 2 r1 stop → IsClassStop size fields stop
constants_stop size fields at head r1 p1 stops.Short h e =
    let h_text : List ℕ = class_head_text h.a in
    let c_text : List ℕ = counted_text value_text e.a in
    let s : List ℕ = counted_text value_text no_items in
    let f : List ℕ = counted_text field_text no_items in
    cut_off size fields h.a e.a no_items no_items (h.is, e.is, is_no_items (IsClassValue size (id_len size)), is_no_items (IsClassField size))
    (front-more fields ((h_text ++ c_text) ++ s) f
    (front-more fields (h_text ++ c_text) s
    (front-behind fields h_text r1 c_text h.whole (front (IsCounted (IsClassValue size 2)) (counted_text value_text) r1 e))))
constants_stop size fields at head r1 p1 stops.UnknownType h o =
    let h_text : List ℕ = class_head_text h.a in
    let begun : List ℕ = counted_text value_text o.begun in
    other_type_at size fields (h_text ++ begun) o.behind 2 (joined fields h_text r1 begun o.behind h.whole o.whole) o.other
    (of_constant h.a o.begun o.other.key h.is o.is o.other.long)
constants_stop size fields at head r1 p1 stops.NoMemory h none = tt

pub statics_stop : (size : IdSize) (fields : List ℕ) (at : ℕ) (head : Head) (r1 : List ℕ) (p1 : ℕ) (constants : List ConstantItem) (r2 : List ℕ) (p2 : ℕ)
    (stop : Stop)
    → BeginsWith (IsClassHead size) class_head_text (head_item size) at fields head r1 p1
    → BeginsWith (IsCounted (IsClassValue size 2)) (counted_text value_text) (list_at (typed_item size 2) value_text) p1 r1 constants r2 p2
    → IsListStop (IsClassValue size (id_len size)) value_text (id_len size) r2 stop → IsClassStop size fields stop
statics_stop size fields at head r1 p1 constants r2 p2 stops.Short h c e =
    let h_text : List ℕ = class_head_text h.a in
    let c_text : List ℕ = counted_text value_text c.a in
    let s_text : List ℕ = counted_text value_text e.a in
    let f : List ℕ = counted_text field_text no_items in
    cut_off size fields h.a c.a e.a no_items (h.is, c.is, e.is, is_no_items (IsClassField size))
    (front-more fields ((h_text ++ c_text) ++ s_text) f (front-behind fields (h_text ++ c_text) r2 s_text (joined fields h_text r1 c_text r2 h.whole c.whole)
    (front (IsCounted (IsClassValue size (id_len size))) (counted_text value_text) r2 e)))
statics_stop size fields at head r1 p1 constants r2 p2 stops.UnknownType h c o =
    let h_text : List ℕ = class_head_text h.a in
    let c_text : List ℕ = counted_text value_text c.a in
    let begun : List ℕ = counted_text value_text o.begun in
    other_type_at size fields ((h_text ++ c_text) ++ begun) o.behind (id_len size)
    (joined fields (h_text ++ c_text) r2 begun o.behind (joined fields h_text r1 c_text r2 h.whole c.whole) o.whole) o.other
    (of_static h.a c.a o.begun o.other.key h.is c.is o.is o.other.long)
statics_stop size fields at head r1 p1 constants r2 p2 stops.NoMemory h c none = tt

pub fields_stop : (size : IdSize) (fields : List ℕ) (at : ℕ) (head : Head) (r1 : List ℕ) (p1 : ℕ) (constants : List ConstantItem) (r2 : List ℕ) (p2 : ℕ)
    (statics : List StaticItem) (r3 : List ℕ) (p3 : ℕ) (stop : Stop)
    → BeginsWith (IsClassHead size) class_head_text (head_item size) at fields head r1 p1
    → BeginsWith (IsCounted (IsClassValue size 2)) (counted_text value_text) (list_at (typed_item size 2) value_text) p1 r1 constants r2 p2
    → BeginsWith (IsCounted (IsClassValue size (id_len size))) (counted_text value_text) (list_at (static_item size) value_text) p2 r2 statics r3 p3
    → IsListStop (IsClassField size) field_text (id_len size) r3 stop → IsClassStop size fields stop
fields_stop size fields at head r1 p1 constants r2 p2 statics r3 p3 stops.Short h c s e =
    let h_text : List ℕ = class_head_text h.a in
    let c_text : List ℕ = counted_text value_text c.a in
    let s_text : List ℕ = counted_text value_text s.a in
    let f_text : List ℕ = counted_text field_text e.a in
    let before : List ℕ = (h_text ++ c_text) ++ s_text in
    cut_off size fields h.a c.a s.a e.a (h.is, c.is, s.is, e.is)
    (front-behind fields before r3 f_text (joined fields (h_text ++ c_text) r2 s_text r3 (joined fields h_text r1 c_text r2 h.whole c.whole) s.whole)
    (front (IsCounted (IsClassField size)) (counted_text field_text) r3 e))
fields_stop size fields at head r1 p1 constants r2 p2 statics r3 p3 stops.UnknownType h c s o =
    let h_text : List ℕ = class_head_text h.a in
    let c_text : List ℕ = counted_text value_text c.a in
    let s_text : List ℕ = counted_text value_text s.a in
    let begun : List ℕ = counted_text field_text o.begun in
    let before : List ℕ = (h_text ++ c_text) ++ s_text in
    other_type_at size fields (before ++ begun) o.behind (id_len size)
    (joined fields before r3 begun o.behind (joined fields (h_text ++ c_text) r2 s_text r3 (joined fields h_text r1 c_text r2 h.whole c.whole) s.whole) o.whole)
    o.other
    (of_field h.a c.a s.a o.begun o.other.key h.is c.is s.is o.is o.other.long)
fields_stop size fields at head r1 p1 constants r2 p2 statics r3 p3 stops.NoMemory h c s none = tt
