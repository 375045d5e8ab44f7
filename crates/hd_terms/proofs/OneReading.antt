-- A file has one reading: one list of records, one list of sub-records of each segment, one dump.
use Rattle.std.proofs.Common.{◌≡◌, ◌∙◌, ℕ, ◌*◌, Bool, true, false, ◌==◌, ◌||◌, if◌then◌else◌, List, [], ◌∷◌, ◌++◌, length, subst, sym, ap, refl, append_assoc}
use Rattle.std.proofs.Common.{arith}
use Rattle.std.specs.List.{concat, filter, AllByRecursion, AllZip}
use Rattle.byteorder.specs.Endian.{big_number}
use Rattle.hd_terms.specs.declared.Mode.{Mode}
use Rattle.hd_terms.specs.declared.IdSize.{IdSize}
use Rattle.hd_terms.specs.declared.IdSize.TheVariants as sizes
use Rattle.hd_terms.specs.Records.{id_len, Record, IsFramed, IsRecord, record_text, HasHeader, AreRecords, is_segment}
use Rattle.hd_terms.specs.declared.RootKind.{RootKind}
use Rattle.hd_terms.specs.declared.RootKind.TheVariants as roots
use Rattle.hd_terms.specs.SubRecords.{SubRecord, RootOf, ClassDump, InstanceDump, ObjectArray, PrimitiveArray, root_tag, root_more, sub_record_text}
use Rattle.hd_terms.specs.SubRecords.{AreElements, IsSubRecord, AreSubRecords, AreDumpSubRecords}
use Rattle.hd_terms.specs.Types.{element_len}
use Rattle.hd_terms.specs.Objects.{dump_of, IsDumpOf}
use Rattle.hd_terms.specs.Dump.{Dump}
use Rattle.hd_terms.proofs.Spellings.{same_front, same_tag, behind_tag, same_whole, IsEnd}
use Rattle.hd_terms.proofs.Classes.{classes_apart}

-- records of the same fields are one
same_record : (r s : Record) → r.tag ≡ s.tag → r.time ≡ s.time → r.size ≡ s.size → r.body ≡ s.body → r ≡ s
same_record r s tag time size body =
    ap (λ (x : ℕ). let m : Record = record { tag = x; time = r.time; size = r.size; body = r.body } in m) tag
    ∙ ap (λ (x : List ℕ). let m : Record = record { tag = s.tag; time = x; size = r.size; body = r.body } in m) time
    ∙ ap (λ (x : List ℕ). let m : Record = record { tag = s.tag; time = s.time; size = x; body = r.body } in m) size
    ∙ ap (λ (x : List ℕ). let m : Record = record { tag = s.tag; time = s.time; size = s.size; body = x } in m) body

-- three pieces and what follows them, grouped to the right
three : (a b c x : List ℕ) → (a ++ b ++ c) ++ x ≡ a ++ (b ++ (c ++ x))
three a b c x = simp append_assoc

-- no framed record's text begins another's
pub framed_apart : (r s : Record) (x y : List ℕ) → record_text r ++ x ≡ record_text s ++ y → IsFramed r → IsFramed s → (r ≡ s) × (x ≡ y)
framed_apart r s x y e ir is =
    let tag : r.tag ≡ s.tag = cc in
    let rest : (r.time ++ r.size ++ r.body) ++ x ≡ (s.time ++ s.size ++ s.body) ++ y = cc in
    let grouped : r.time ++ (r.size ++ (r.body ++ x)) ≡ s.time ++ (s.size ++ (s.body ++ y)) = sym (three r.time r.size r.body x) ∙ rest
    ∙ three s.time s.size s.body y in
    let time = same_front r.time s.time (r.size ++ (r.body ++ x)) (s.size ++ (s.body ++ y)) (ir.time ∙ sym is.time) grouped in
    let size = same_front r.size s.size (r.body ++ x) (s.body ++ y) (ir.size ∙ sym is.size) time.1 in
    let body = same_front r.body s.body x y (ir.body ∙ ap (big_number 4) size.0 ∙ sym is.body) size.1 in
    (same_record r s tag time.0 size.0 body.0, body.1)

-- nor does the text of one that can be read
pub records_apart : (size : IdSize) (r s : Record) (x y : List ℕ) → record_text r ++ x ≡ record_text s ++ y → IsRecord size r → IsRecord size s → (r ≡ s)
    × (x ≡ y)
records_apart size r s x y e ir is = framed_apart r s x y e ir.framed is.framed

-- no record has an empty text
pub no_record : (size : IdSize) → IsEnd Record record_text (IsRecord size) (records_apart size) []
no_record size r z ir e = cc

-- the elements of two arrays of one length are one
same_elements : (n : ℕ) (es fs : List (List ℕ)) (x y : List ℕ) → length es ≡ length fs → AllByRecursion (λ (e : List ℕ). length e ≡ n) es
    → AllByRecursion (λ (e : List ℕ). length e ≡ n) fs → concat es ++ x ≡ concat fs ++ y → (es ≡ fs) × (x ≡ y)
same_elements n [] [] x y many he hf same = (refl, same)
same_elements n [] (f ∷ fs) x y many he hf same = absurd (omega arith)
same_elements n (e ∷ es) [] x y many he hf same = absurd (omega arith)
same_elements n (e ∷ es) (f ∷ fs) x y many he hf same =
    let first = same_front e f (concat es ++ x) (concat fs ++ y) (he.0 ∙ sym hf.0) (sym (append_assoc e (concat es) x) ∙ same ∙ append_assoc f (concat fs) y) in
    let more = same_elements n es fs x y (omega arith) he.1 hf.1 first.1 in
    (ap (λ (h : List ℕ). h ∷ es) first.0 ∙ ap (λ (hs : List (List ℕ)). f ∷ hs) more.0, more.1)

-- five pieces and what follows them, grouped to the right
five : (a b c d e x : List ℕ) → (a ++ b ++ c ++ d ++ e) ++ x ≡ a ++ (b ++ (c ++ (d ++ (e ++ x))))
five a b c d e x = simp append_assoc

-- the kind of the root with a tag
kind_of : ℕ → RootKind
kind_of tag =
    if tag == 0x01 then roots.JniGlobal else if tag == 0x02 then roots.JniLocal else if tag == 0x03 then roots.JavaFrame
    else if tag == 0x04 then roots.NativeStack else if tag == 0x05 then roots.StickyClass else if tag == 0x06 then roots.ThreadBlock
    else if tag == 0x07 then roots.MonitorUsed else if tag == 0x08 then roots.Thread else roots.Unknown

kind_of_its_tag : (kind : RootKind) → kind_of (root_tag kind) ≡ kind
unfolding kind_of
kind_of_its_tag roots.Unknown = refl
kind_of_its_tag roots.JniGlobal = refl
kind_of_its_tag roots.JniLocal = refl
kind_of_its_tag roots.JavaFrame = refl
kind_of_its_tag roots.NativeStack = refl
kind_of_its_tag roots.StickyClass = refl
kind_of_its_tag roots.ThreadBlock = refl
kind_of_its_tag roots.MonitorUsed = refl
kind_of_its_tag roots.Thread = refl

-- roots of one tag are of one kind
same_kind : (a b : RootKind) → root_tag a ≡ root_tag b → a ≡ b
same_kind a b same = sym (kind_of_its_tag a) ∙ ap kind_of same ∙ kind_of_its_tag b

-- no root has the tag of an object's sub-record
is_object_tag : ℕ → Bool
is_object_tag tag = (tag == 0x20) || (tag == 0x21) || (tag == 0x22) || (tag == 0x23)

root_is_no_object : (kind : RootKind) → is_object_tag (root_tag kind) ≡ false
unfolding is_object_tag
root_is_no_object roots.Unknown = refl
root_is_no_object roots.JniGlobal = refl
root_is_no_object roots.JniLocal = refl
root_is_no_object roots.JavaFrame = refl
root_is_no_object roots.NativeStack = refl
root_is_no_object roots.StickyClass = refl
root_is_no_object roots.ThreadBlock = refl
root_is_no_object roots.MonitorUsed = refl
root_is_no_object roots.Thread = refl

object_tags : (is_object_tag 0x20 ≡ true) × (is_object_tag 0x21 ≡ true) × (is_object_tag 0x22 ≡ true) × (is_object_tag 0x23 ≡ true)
unfolding is_object_tag
object_tags = (refl, refl, refl, refl)

true_not_false : (b : Bool) → b ≡ true → b ≡ false → ⊥
true_not_false b holds fails = cc

pub root_or_class : (kind : RootKind) → root_tag kind ≡ 0x20 → ⊥
root_or_class kind same = true_not_false (is_object_tag (root_tag kind)) (ap is_object_tag same ∙ object_tags.0) (root_is_no_object kind)

pub root_or_instance : (kind : RootKind) → root_tag kind ≡ 0x21 → ⊥
root_or_instance kind same = true_not_false (is_object_tag (root_tag kind)) (ap is_object_tag same ∙ object_tags.1) (root_is_no_object kind)

pub root_or_array : (kind : RootKind) → root_tag kind ≡ 0x22 → ⊥
root_or_array kind same = true_not_false (is_object_tag (root_tag kind)) (ap is_object_tag same ∙ object_tags.2) (root_is_no_object kind)

pub root_or_primitive : (kind : RootKind) → root_tag kind ≡ 0x23 → ⊥
root_or_primitive kind same = true_not_false (is_object_tag (root_tag kind)) (ap is_object_tag same ∙ object_tags.3) (root_is_no_object kind)

-- ROOTs of the same fields are one
same_root : (kind kind' : RootKind) (id id' more more' : List ℕ) → kind ≡ kind' → id ≡ id' → more ≡ more' → RootOf kind id more ≡ RootOf kind' id' more'
same_root kind kind' id id' more more' a b c = cc

-- ROOTs
roots_apart : (size : IdSize) (kind kind' : RootKind) (id id' more more' x y : List ℕ) → root_tag kind ≡ root_tag kind' → (id ++ more) ++ x ≡ (id' ++ more')
    ++ y
    → length id ≡ length id' → length more ≡ root_more size kind → length more' ≡ root_more size kind' → (RootOf kind id more ≡ RootOf kind' id' more')
    × (x ≡ y)
roots_apart size kind kind' id id' more more' x y tag e li lm lm' =
    let kinds : kind ≡ kind' = same_kind kind kind' tag in
    let a = same_front id id' (more ++ x) (more' ++ y) li (sym (append_assoc id more x) ∙ e ∙ append_assoc id' more' y) in
    let b = same_front more more' x y (lm ∙ ap (root_more size) kinds ∙ sym lm') a.1 in
    (same_root kind kind' id id' more more' kinds a.0 b.0, b.1)

-- INSTANCE DUMPs of the same fields are one
same_instance : (id id' serial serial' class class' count count' values values' : List ℕ) → id ≡ id' → serial ≡ serial' → class ≡ class' → count ≡ count'
    → values ≡ values' → InstanceDump id serial class count values ≡ InstanceDump id' serial' class' count' values'
same_instance id id' serial serial' class class' count count' values values' a b c d e = cc

-- INSTANCE DUMPs
instances_apart : (id id' serial serial' class class' count count' values values' x y : List ℕ) → (id ++ serial ++ class ++ count ++ values)
    ++ x ≡ (id' ++ serial' ++ class' ++ count' ++ values') ++ y → length id ≡ length id' → length serial ≡ length serial' → length class ≡ length class'
    → length count ≡ length count' → length values ≡ big_number 4 count → length values' ≡ big_number 4 count'
    → (InstanceDump id serial class count values ≡ InstanceDump id' serial' class' count' values') × (x ≡ y)
instances_apart id id' serial serial' class class' count count' values values' x y e li ls lk lc lv lv' =
    let a = same_front id id' (serial ++ (class ++ (count ++ (values ++ x)))) (serial' ++ (class' ++ (count' ++ (values' ++ y)))) li
    (sym (five id serial class count values x) ∙ e ∙ five id' serial' class' count' values' y) in
    let b = same_front serial serial' (class ++ (count ++ (values ++ x))) (class' ++ (count' ++ (values' ++ y))) ls a.1 in
    let c = same_front class class' (count ++ (values ++ x)) (count' ++ (values' ++ y)) lk b.1 in
    let d = same_front count count' (values ++ x) (values' ++ y) lc c.1 in
    let f = same_front values values' x y (lv ∙ ap (big_number 4) d.0 ∙ sym lv') d.1 in
    (same_instance id id' serial serial' class class' count count' values values' a.0 b.0 c.0 d.0 f.0, f.1)

-- OBJECT ARRAY DUMPs of the same fields are one
same_array : (id id' serial serial' count count' class class' : List ℕ) (elements elements' : List (List ℕ)) → id ≡ id' → serial ≡ serial' → count ≡ count'
    → class ≡ class' → elements ≡ elements' → ObjectArray id serial count class elements ≡ ObjectArray id' serial' count' class' elements'
same_array id id' serial serial' count count' class class' elements elements' a b c d e = cc

-- OBJECT ARRAY DUMPs
arrays_apart : (n : ℕ) (id id' serial serial' count count' class class' : List ℕ) (elements elements' : List (List ℕ)) (x y : List ℕ)
    → (id ++ serial ++ count ++ class ++ concat elements) ++ x ≡ (id' ++ serial' ++ count' ++ class' ++ concat elements') ++ y → length id ≡ length id'
    → length serial ≡ length serial' → length count ≡ length count' → length class ≡ length class' → AreElements n count elements
    → AreElements n count' elements' → (ObjectArray id serial count class elements ≡ ObjectArray id' serial' count' class' elements') × (x ≡ y)
arrays_apart n id id' serial serial' count count' class class' elements elements' x y e li ls lc lk he hf =
    let a = same_front id id' (serial ++ (count ++ (class ++ (concat elements ++ x)))) (serial' ++ (count' ++ (class' ++ (concat elements' ++ y)))) li
    (sym (five id serial count class (concat elements) x) ∙ e ∙ five id' serial' count' class' (concat elements') y) in
    let b = same_front serial serial' (count ++ (class ++ (concat elements ++ x))) (count' ++ (class' ++ (concat elements' ++ y))) ls a.1 in
    let c = same_front count count' (class ++ (concat elements ++ x)) (class' ++ (concat elements' ++ y)) lc b.1 in
    let d = same_front class class' (concat elements ++ x) (concat elements' ++ y) lk c.1 in
    let f = same_elements n elements elements' x y (he.many ∙ ap (big_number 4) c.0 ∙ sym hf.many) he.each hf.each d.1 in
    (same_array id id' serial serial' count count' class class' elements elements' a.0 b.0 c.0 d.0 f.0, f.1)

-- the fields of a PRIMITIVE ARRAY DUMP and what follows them, grouped to the right
pub primitive_fields : (a b c : List ℕ) (element : ℕ) (d x : List ℕ) → (a ++ b ++ c ++ element ∷ d) ++ x ≡ a ++ (b ++ (c ++ (element ∷ (d ++ x))))
primitive_fields a b c element d x = simp append_assoc

-- the front of a PRIMITIVE ARRAY DUMP up to the type of its elements, and what follows it
pub primitive_fronts : (id id' serial serial' count count' : List ℕ) (element element' : ℕ) (x y : List ℕ)
    → id ++ (serial ++ (count ++ (element ∷ x))) ≡ id' ++ (serial' ++ (count' ++ (element' ∷ y)))
    → length id ≡ length id' → length serial ≡ length serial' → length count ≡ length count'
    → (id ≡ id') × (serial ≡ serial') × (count ≡ count') × (element ≡ element') × (x ≡ y)
primitive_fronts id id' serial serial' count count' element element' x y e li ls lc =
    let a = same_front id id' (serial ++ (count ++ (element ∷ x))) (serial' ++ (count' ++ (element' ∷ y))) li e in
    let b = same_front serial serial' (count ++ (element ∷ x)) (count' ++ (element' ∷ y)) ls a.1 in
    let c = same_front count count' (element ∷ x) (element' ∷ y) lc b.1 in
    (a.0, b.0, c.0, same_tag element element' x y c.1, behind_tag element element' x y c.1)

-- PRIMITIVE ARRAY DUMPs of the same fields are one
same_primitive : (id id' serial serial' count count' : List ℕ) (element element' : ℕ) (elements elements' : List ℕ) → id ≡ id' → serial ≡ serial'
    → count ≡ count' → element ≡ element' → elements ≡ elements'
    → PrimitiveArray id serial count element elements ≡ PrimitiveArray id' serial' count' element' elements'
same_primitive id id' serial serial' count count' element element' elements elements' a b c d e = cc

-- PRIMITIVE ARRAY DUMPs
primitives_apart : (id id' serial serial' count count' : List ℕ) (element element' : ℕ) (elements elements' : List ℕ) (x y : List ℕ)
    → (id ++ serial ++ count ++ element ∷ elements) ++ x ≡ (id' ++ serial' ++ count' ++ element' ∷ elements') ++ y → length id ≡ length id'
    → length serial ≡ length serial' → length count ≡ length count' → length elements ≡ element_len element * big_number 4 count
    → length elements' ≡ element_len element' * big_number 4 count'
    → (PrimitiveArray id serial count element elements ≡ PrimitiveArray id' serial' count' element' elements') × (x ≡ y)
primitives_apart id id' serial serial' count count' element element' elements elements' x y e li ls lc le le' =
    let front = primitive_fronts id id' serial serial' count count' element element' (elements ++ x) (elements' ++ y)
    (sym (primitive_fields id serial count element elements x) ∙ e ∙ primitive_fields id' serial' count' element' elements' y) li ls lc in
    let long : length elements ≡ length elements' =
    le ∙ ap (λ (t : ℕ). element_len t * big_number 4 count) front.3 ∙ ap (λ (c : List ℕ). element_len element' * big_number 4 c) front.2 ∙ sym le' in
    let rest = same_front elements elements' x y long front.4 in
    (same_primitive id id' serial serial' count count' element element' elements elements' front.0 front.1 front.2 front.3 rest.0, rest.1)

-- two tags
tags_differ : (xs ys : List ℕ) → 0x22 ∷ xs ≡ 0x23 ∷ ys → ⊥
tags_differ xs ys e = cc

class_or_array : (xs ys : List ℕ) → 0x20 ∷ xs ≡ 0x22 ∷ ys → ⊥
class_or_array xs ys e = cc

class_or_primitive : (xs ys : List ℕ) → 0x20 ∷ xs ≡ 0x23 ∷ ys → ⊥
class_or_primitive xs ys e = cc

class_or_instance : (xs ys : List ℕ) → 0x20 ∷ xs ≡ 0x21 ∷ ys → ⊥
class_or_instance xs ys e = cc

instance_or_array : (xs ys : List ℕ) → 0x21 ∷ xs ≡ 0x22 ∷ ys → ⊥
instance_or_array xs ys e = cc

instance_or_primitive : (xs ys : List ℕ) → 0x21 ∷ xs ≡ 0x23 ∷ ys → ⊥
instance_or_primitive xs ys e = cc

-- no sub-record's text begins another's
pub sub_records_apart : (size : IdSize) (s t : SubRecord) (x y : List ℕ) → sub_record_text s ++ x ≡ sub_record_text t ++ y → IsSubRecord size s
    → IsSubRecord size t → (s ≡ t) × (x ≡ y)
sub_records_apart size (RootOf kind id more) (RootOf kind' id' more') x y e is it =
    roots_apart size kind kind' id id' more more' x y (same_tag _ _ _ _ e) (behind_tag _ _ _ _ e) (is.0 ∙ sym it.0) is.1 it.1
sub_records_apart size (RootOf kind id more) (ClassDump head constants statics fields) x y e is it = absurd (root_or_class kind (same_tag _ _ _ _ e))
sub_records_apart size (RootOf kind id more) (InstanceDump id' serial class count values) x y e is it = absurd (root_or_instance kind (same_tag _ _ _ _ e))
sub_records_apart size (RootOf kind id more) (ObjectArray id' serial count class elements) x y e is it = absurd (root_or_array kind (same_tag _ _ _ _ e))
sub_records_apart size (RootOf kind id more) (PrimitiveArray id' serial count element elements) x y e is it =
    absurd (root_or_primitive kind (same_tag _ _ _ _ e))
sub_records_apart size (ClassDump head constants statics fields) (RootOf kind id more) x y e is it = absurd (root_or_class kind (sym (same_tag _ _ _ _ e)))
sub_records_apart size (ClassDump head constants statics fields) (ClassDump head' constants' statics' fields') x y e is it =
    classes_apart size head head' constants constants' statics statics' fields fields' x y (behind_tag _ _ _ _ e) is.0 it.0 is.1 it.1 is.2 it.2 is.3 it.3
sub_records_apart size (ClassDump head constants statics fields) (InstanceDump id serial class count values) x y e is it = absurd (class_or_instance _ _ e)
sub_records_apart size (ClassDump head constants statics fields) (ObjectArray id serial count class elements) x y e is it = absurd (class_or_array _ _ e)
sub_records_apart size (ClassDump head constants statics fields) (PrimitiveArray id serial count element elements) x y e is it =
    absurd (class_or_primitive _ _ e)
sub_records_apart size (InstanceDump id serial class count values) (RootOf kind id' more) x y e is it =
    absurd (root_or_instance kind (sym (same_tag _ _ _ _ e)))
sub_records_apart size (InstanceDump id serial class count values) (ClassDump head constants statics fields) x y e is it =
    absurd (class_or_instance _ _ (sym e))
sub_records_apart size (InstanceDump id serial class count values) (InstanceDump id' serial' class' count' values') x y e is it =
    instances_apart id id' serial serial' class class' count count' values values' x y (behind_tag _ _ _ _ e)
    (is.0 ∙ sym it.0) (is.1 ∙ sym it.1) (is.2 ∙ sym it.2) (is.3 ∙ sym it.3) is.4 it.4
sub_records_apart size (InstanceDump id serial class count values) (ObjectArray id' serial' count' class' elements) x y e is it =
    absurd (instance_or_array _ _ e)
sub_records_apart size (InstanceDump id serial class count values) (PrimitiveArray id' serial' count' element elements) x y e is it =
    absurd (instance_or_primitive _ _ e)
sub_records_apart size (ObjectArray id serial count class elements) (RootOf kind id' more) x y e is it = absurd (root_or_array kind (sym (same_tag _ _ _ _ e)))
sub_records_apart size (ObjectArray id serial count class elements) (ClassDump head constants statics fields) x y e is it = absurd (class_or_array _ _ (sym e))
sub_records_apart size (ObjectArray id serial count class elements) (InstanceDump id' serial' class' count' values) x y e is it =
    absurd (instance_or_array _ _ (sym e))
sub_records_apart size (ObjectArray id serial count class elements) (ObjectArray id' serial' count' class' elements') x y e is it =
    arrays_apart (id_len size) id id' serial serial' count count' class class' elements elements' x y (behind_tag _ _ _ _ e)
    (is.0 ∙ sym it.0) (is.1 ∙ sym it.1) (is.2 ∙ sym it.2) (is.3 ∙ sym it.3) is.4 it.4
sub_records_apart size (ObjectArray id serial count class elements) (PrimitiveArray id' serial' count' element elements') x y e is it =
    absurd (tags_differ _ _ e)
sub_records_apart size (PrimitiveArray id serial count element elements) (RootOf kind id' more) x y e is it =
    absurd (root_or_primitive kind (sym (same_tag _ _ _ _ e)))
sub_records_apart size (PrimitiveArray id serial count element elements) (ClassDump head constants statics fields) x y e is it =
    absurd (class_or_primitive _ _ (sym e))
sub_records_apart size (PrimitiveArray id serial count element elements) (InstanceDump id' serial' class count' values) x y e is it =
    absurd (instance_or_primitive _ _ (sym e))
sub_records_apart size (PrimitiveArray id serial count element elements) (ObjectArray id' serial' count' class elements') x y e is it =
    absurd (tags_differ _ _ (sym e))
sub_records_apart size (PrimitiveArray id serial count element elements) (PrimitiveArray id' serial' count' element' elements') x y e is it =
    primitives_apart id id' serial serial' count count' element element' elements elements' x y (behind_tag _ _ _ _ e)
    (is.0 ∙ sym it.0) (is.1 ∙ sym it.1) (is.2 ∙ sym it.2) is.4 it.4

-- no sub-record has an empty text
pub no_sub_record : (size : IdSize) → IsEnd SubRecord sub_record_text (IsSubRecord size) (sub_records_apart size) []
no_sub_record size (RootOf kind id more) z is e = cc
no_sub_record size (ClassDump head constants statics fields) z is e = cc
no_sub_record size (InstanceDump id serial class count values) z is e = cc
no_sub_record size (ObjectArray id serial count class elements) z is e = cc
no_sub_record size (PrimitiveArray id serial count element elements) z is e = cc

-- a file has one list of records
pub same_records : (size : IdSize) (bytes : List ℕ) (rs ss : List Record) → AreRecords size bytes rs → AreRecords size bytes ss → rs ≡ ss
same_records size bytes rs ss hr hs = same_whole Record record_text (IsRecord size) (records_apart size) (no_record size) rs ss
    (sym hr.whole ∙ hs.whole) hr.each hs.each

-- also where its identifier size was read twice
pub same_file : (a b : IdSize) (bytes : List ℕ) (rs ss : List Record) → a ≡ b → AreRecords a bytes rs → AreRecords b bytes ss → rs ≡ ss
same_file a b bytes rs ss size hr hs = same_records b bytes rs ss (subst (λ (x : IdSize). AreRecords x bytes rs) size hr) hs

-- a body has one list of sub-records
pub same_sub_records : (size : IdSize) (body : List ℕ) (ss ts : List SubRecord) → AreSubRecords size body ss → AreSubRecords size body ts → ss ≡ ts
same_sub_records size body ss ts hs ht =
    same_whole SubRecord sub_record_text (IsSubRecord size) (sub_records_apart size) (no_sub_record size) ss ts (sym hs.whole ∙ ht.whole) hs.each ht.each

-- so segments have one list of such lists
pub same_segments : (size : IdSize) (rs : List Record) (ss ts : List (List SubRecord))
    → AllZip (λ (r : Record) (subs : List SubRecord). AreSubRecords size r.body subs) rs ss
    → AllZip (λ (r : Record) (subs : List SubRecord). AreSubRecords size r.body subs) rs ts → ss ≡ ts
same_segments size [] [] [] hs ht = refl
same_segments size [] [] (t ∷ ts) hs ht = absurd ht
same_segments size [] (s ∷ ss) ts hs ht = absurd hs
same_segments size (r ∷ rs) [] ts hs ht = absurd hs
same_segments size (r ∷ rs) (s ∷ ss) [] hs ht = absurd ht
same_segments size (r ∷ rs) (s ∷ ss) (t ∷ ts) hs ht =
    let first : s ≡ t = same_sub_records size r.body s t hs.0 ht.0 in
    let rest : ss ≡ ts = same_segments size rs ss ts hs.1 ht.1 in
    cc

-- a header gives one identifier size
same_len : (a b : IdSize) → id_len a ≡ id_len b → a ≡ b
same_len sizes.Four sizes.Four h = refl
same_len sizes.Four sizes.Eight h = absurd (omega arith)
same_len sizes.Eight sizes.Four h = absurd (omega arith)
same_len sizes.Eight sizes.Eight h = refl

pub same_size : (a b : IdSize) (bytes : List ℕ) → HasHeader a bytes → HasHeader b bytes → a ≡ b
same_size a b bytes ha hb = same_len a b (sym ha.id_size ∙ hb.id_size)

-- segments of one file, read twice, are one
pub same_bodies : (a b : IdSize) (rs ss : List Record) (us vs : List (List SubRecord)) → a ≡ b → rs ≡ ss → AreDumpSubRecords a rs us → AreDumpSubRecords b ss vs
    → us ≡ vs
same_bodies a b rs ss us vs size records hu hv =
    let at_size : AreDumpSubRecords a ss vs = subst (λ (x : IdSize). AreDumpSubRecords x ss vs) (sym size) hv in
    let at_records : AreDumpSubRecords a rs vs = subst (λ (xs : List Record). AreDumpSubRecords a xs vs) (sym records) at_size in
    same_segments a (filter is_segment rs) us vs hu at_records

-- whatever is made of what a file is read as, two readings make one of it
pub same_reading : {X : Type 0} (made : IdSize → List Record → List (List SubRecord) → X) (bytes : List ℕ) (a b : IdSize) (rs ss : List Record)
    (us vs : List (List SubRecord)) → HasHeader a bytes → HasHeader b bytes
    → AreRecords a bytes rs → AreRecords b bytes ss → AreDumpSubRecords a rs us → AreDumpSubRecords b ss vs → made a rs us ≡ made b ss vs
same_reading made bytes a b rs ss us vs ha hb hr hs hu hv =
    let size : a ≡ b = same_size a b bytes ha hb in
    let records : rs ≡ ss = same_file a b bytes rs ss size hr hs in
    let segments : us ≡ vs = same_bodies a b rs ss us vs size records hu hv in
    ap (λ (x : IdSize). made x rs us) size ∙ ap (λ (xs : List Record). made b xs us) records ∙ ap (made b ss) segments

-- a file has one dump
pub same_dump : (mode : Mode) (bytes : List ℕ) (a b : Dump) → IsDumpOf mode bytes a → IsDumpOf mode bytes b → a ≡ b
same_dump mode bytes a b ha hb =
    ha.is
    ∙ same_reading (dump_of mode bytes) bytes ha.size hb.size ha.records hb.records ha.segments hb.segments ha.reads.header hb.reads.header ha.reads.whole
    hb.reads.whole ha.reads.bodies hb.reads.bodies
    ∙ sym hb.is
