-- No class dump's text begins another's, and none begins what ends at an unknown type.
use Rattle.std.proofs.Common.{◌≡◌, ◌∙◌, ℕ, ◌<◌, true, false, List, [], ◌∷◌, ◌++◌, length, sym, ap, refl, append_assoc, arith}
use Rattle.std.specs.List.{flat_map, AllByRecursion}
use Rattle.byteorder.specs.Endian.{big_number}
use Rattle.hd_terms.specs.declared.IdSize.{IdSize}
use Rattle.hd_terms.specs.Records.{id_len}
use Rattle.hd_terms.specs.Types.{is_type, value_len}
use Rattle.hd_terms.specs.SubRecords.{ClassDump, Counted, counted_text, IsCounted, IsBegun, ClassValue, value_text, IsClassValue, ClassField, field_text}
use Rattle.hd_terms.specs.SubRecords.{IsClassField, ClassHead, class_head_text, IsClassHead}
use Rattle.hd_terms.specs.ReadFaults.{IsBeforeType, of_constant, of_static, of_field}
use Rattle.hd_terms.proofs.Spellings.{same_front, same_tag, behind_tag, IsEnd}

module _ (X : Type 0) (text : X → List ℕ) (Is : X → Type 0) (apart : (r s : X) (x y : List ℕ) → text r ++ x ≡ text s ++ y → Is r → Is s → (r ≡ s)
    × (x ≡ y)) where
  -- as many texts as others are those
  as_many : (rs ss : List X) (x y : List ℕ) → length rs ≡ length ss → flat_map text rs ++ x ≡ flat_map text ss ++ y → AllByRecursion Is rs
      → AllByRecursion Is ss → (rs ≡ ss) × (x ≡ y)
  as_many [] [] x y many e hr hs = (refl, e)
  as_many [] (s ∷ ss) x y many e hr hs = absurd (omega arith)
  as_many (r ∷ rs) [] x y many e hr hs = absurd (omega arith)
  as_many (r ∷ rs) (s ∷ ss) x y many e hr hs =
      let first = apart r s (flat_map text rs ++ x) (flat_map text ss ++ y) (sym (append_assoc (text r) (flat_map text rs) x) ∙ e
      ∙ append_assoc (text s) (flat_map text ss) y) hr.0 hs.0 in
      let more = as_many rs ss x y (omega arith) first.1 hr.1 hs.1 in
      (ap (λ (t : X). t ∷ rs) first.0 ∙ ap (λ (ts : List X). s ∷ ts) more.0, more.1)

  -- fewer texts than others, and an end, don't begin those
  fewer : (rs ss : List X) (x y : List ℕ) → length rs < length ss → flat_map text rs ++ x ≡ flat_map text ss ++ y → AllByRecursion Is rs → AllByRecursion Is ss
      → IsEnd X text Is apart x → ⊥
  fewer [] [] x y less e hr hs ex = omega arith
  fewer [] (s ∷ ss) x y less e hr hs ex = ex s (flat_map text ss ++ y) hs.0 (e ∙ append_assoc (text s) (flat_map text ss) y)
  fewer (r ∷ rs) [] x y less e hr hs ex = omega arith
  fewer (r ∷ rs) (s ∷ ss) x y less e hr hs ex =
      let first = apart r s (flat_map text rs ++ x) (flat_map text ss ++ y) (sym (append_assoc (text r) (flat_map text rs) x) ∙ e
      ∙ append_assoc (text s) (flat_map text ss) y) hr.0 hs.0 in
      fewer rs ss x y (omega arith) first.1 hr.1 hs.1 ex

  -- lists of one count and the same items are one
  same_counted : (a b : Counted X) → a.count ≡ b.count → a.items ≡ b.items → a ≡ b
  same_counted a b count items =
      ap (λ (n : List ℕ). let c : Counted X = record { count = n; items = a.items } in c) count
      ∙ ap (λ (xs : List X). let c : Counted X = record { count = b.count; items = xs } in c) items

  -- what follows the count of a list
  behind_count : (a b : Counted X) (x y : List ℕ) → counted_text text a ++ x ≡ counted_text text b ++ y → length a.count ≡ length b.count → (a.count ≡ b.count)
      × (flat_map text a.items ++ x ≡ flat_map text b.items ++ y)
  behind_count a b x y e long =
      same_front a.count b.count (flat_map text a.items ++ x) (flat_map text b.items ++ y) long
      (sym (append_assoc a.count (flat_map text a.items) x) ∙ e ∙ append_assoc b.count (flat_map text b.items) y)

  -- no list's text begins another's
  counted_apart : (a b : Counted X) (x y : List ℕ) → counted_text text a ++ x ≡ counted_text text b ++ y → IsCounted Is a → IsCounted Is b → (a ≡ b) × (x ≡ y)
  counted_apart a b x y e ia ib =
      let front = behind_count a b x y e (ia.count ∙ sym ib.count) in
      let items = as_many a.items b.items x y (ia.many ∙ ap (big_number 2) front.0 ∙ sym ib.many) front.1 ia.each ib.each in
      (same_counted a b front.0 items.0, items.1)

  -- nor do the first items of a list and an end
  begun_apart : (a b : Counted X) (x y : List ℕ) → counted_text text a ++ x ≡ counted_text text b ++ y → IsBegun Is a → IsCounted Is b → IsEnd X text Is apart x
      → ⊥
  begun_apart a b x y e ia ib ex =
      let front = behind_count a b x y e (ia.count ∙ sym ib.count) in
      let count : big_number 2 a.count ≡ big_number 2 b.count = ap (big_number 2) front.0 in
      let more = ia.more in
      let many = ib.many in
      fewer a.items b.items x y (omega arith) front.1 ia.each ib.each ex

-- what is named by a key: the key, a type, and what follows it
keyed : (key : List ℕ) (code : ℕ) (value x : List ℕ) → (key ++ code ∷ value) ++ x ≡ key ++ (code ∷ (value ++ x))
keyed key code value x = append_assoc key (code ∷ value) x

-- keys of one length, types, and what follows them
same_keyed : (key key' : List ℕ) (code code' : ℕ) (x y : List ℕ) → length key ≡ length key' → key ++ (code ∷ x) ≡ key' ++ (code' ∷ y) → (key ≡ key')
    × (code ≡ code') × (x ≡ y)
same_keyed key key' code code' x y long e =
    let front = same_front key key' (code ∷ x) (code' ∷ y) long e in
    (front.0, same_tag code code' x y front.1, behind_tag code code' x y front.1)

-- values of the same fields are one
same_value : (v w : ClassValue) → v.key ≡ w.key → v.code ≡ w.code → v.value ≡ w.value → v ≡ w
same_value v w key code value =
    ap (λ (k : List ℕ). let u : ClassValue = record { key = k; code = v.code; value = v.value } in u) key
    ∙ ap (λ (t : ℕ). let u : ClassValue = record { key = w.key; code = t; value = v.value } in u) code
    ∙ ap (λ (xs : List ℕ). let u : ClassValue = record { key = w.key; code = w.code; value = xs } in u) value

-- constants, and statics
values_apart : (size : IdSize) (n : ℕ) (v w : ClassValue) (x y : List ℕ) → value_text v ++ x ≡ value_text w ++ y → IsClassValue size n v → IsClassValue size n w
    → (v ≡ w) × (x ≡ y)
values_apart size n v w x y e iv iw =
    let front = same_keyed v.key w.key v.code w.code (v.value ++ x) (w.value ++ y) (iv.key ∙ sym iw.key)
    (sym (keyed v.key v.code v.value x) ∙ e ∙ keyed w.key w.code w.value y) in
    let value = same_front v.value w.value x y (iv.value ∙ ap (value_len size) front.1 ∙ sym iw.value) front.2 in
    (same_value v w front.0 front.1 value.0, value.1)

-- fields of one name and one type are one
same_field : (f g : ClassField) → f.name ≡ g.name → f.code ≡ g.code → f ≡ g
same_field f g name code =
    ap (λ (n : List ℕ). let h : ClassField = record { name = n; code = f.code } in h) name
    ∙ ap (λ (t : ℕ). let h : ClassField = record { name = g.name; code = t } in h) code

-- fields
fields_apart : (size : IdSize) (f g : ClassField) (x y : List ℕ) → field_text f ++ x ≡ field_text g ++ y → IsClassField size f → IsClassField size g → (f ≡ g)
    × (x ≡ y)
fields_apart size f g x y e jf jg =
    let front = same_keyed f.name g.name f.code g.code x y (jf.name ∙ sym jg.name) (sym (keyed f.name f.code [] x) ∙ e ∙ keyed g.name g.code [] y) in
    (same_field f g front.0 front.1, front.2)

-- a type is one or isn't
is_or_not : (t u : ℕ) → t ≡ u → is_type t ≡ false → is_type u ≡ true → ⊥
is_or_not t u same other known = let both : is_type u ≡ false = ap is_type (sym same) ∙ other in cc

-- no constant or static begins with an unknown type
no_value : (size : IdSize) (n : ℕ) (key : List ℕ) (code : ℕ) (more : List ℕ) → length key ≡ n → is_type code ≡ false
    → IsEnd ClassValue value_text (IsClassValue size n) (values_apart size n) (key ++ code ∷ more)
no_value size n key code more long other v z is e =
    is_or_not code v.code (same_keyed key v.key code v.code more (v.value ++ z) (long ∙ sym is.key) (e ∙ keyed v.key v.code v.value z)).1 other is.known

-- nor does a field
no_field : (size : IdSize) (key : List ℕ) (code : ℕ) (more : List ℕ) → length key ≡ id_len size → is_type code ≡ false
    → IsEnd ClassField field_text (IsClassField size) (fields_apart size) (key ++ code ∷ more)
no_field size key code more long other f z is e =
    is_or_not code f.code (same_keyed key f.name code f.code more z (long ∙ sym is.name) (e ∙ keyed f.name f.code [] z)).1 other is.known

-- the head of a class by its fields
head_of : (id serial super loader signers domain reserved instance : List ℕ) → ClassHead
head_of id serial super loader signers domain reserved instance =
    record { id = id; serial = serial; super = super; loader = loader; signers = signers; domain = domain; reserved = reserved; instance = instance }

is_head_of : (h : ClassHead) → h ≡ head_of h.id h.serial h.super h.loader h.signers h.domain h.reserved h.instance
unfolding head_of
is_head_of h = refl

-- heads of the same fields are one
same_head : (h k : ClassHead) → h.id ≡ k.id → h.serial ≡ k.serial → h.super ≡ k.super → h.loader ≡ k.loader → h.signers ≡ k.signers → h.domain ≡ k.domain
    → h.reserved ≡ k.reserved → h.instance ≡ k.instance → h ≡ k
same_head h k id serial super loader signers domain reserved instance =
    let same : head_of h.id h.serial h.super h.loader h.signers h.domain h.reserved h.instance ≡ head_of k.id k.serial k.super k.loader k.signers k.domain
    k.reserved k.instance = cc in
    is_head_of h ∙ same ∙ sym (is_head_of k)

-- eight pieces and what follows them, grouped to the right
eight : (a b c d e f g h x : List ℕ) → (a ++ b ++ c ++ d ++ e ++ f ++ g ++ h) ++ x ≡ a ++ (b ++ (c ++ (d ++ (e ++ (f ++ (g ++ (h ++ x)))))))
eight a b c d e f g h x = simp append_assoc

-- heads
heads_apart : (size : IdSize) (h k : ClassHead) (x y : List ℕ) → class_head_text h ++ x ≡ class_head_text k ++ y → IsClassHead size h → IsClassHead size k
    → (h ≡ k) × (x ≡ y)
heads_apart size h k x y e ih ik =
    let all = sym (eight h.id h.serial h.super h.loader h.signers h.domain h.reserved h.instance x) ∙ e
    ∙ eight k.id k.serial k.super k.loader k.signers k.domain k.reserved k.instance y in
    let id = same_front h.id k.id _ _ (ih.id ∙ sym ik.id) all in
    let serial = same_front h.serial k.serial _ _ (ih.serial ∙ sym ik.serial) id.1 in
    let super = same_front h.super k.super _ _ (ih.super ∙ sym ik.super) serial.1 in
    let loader = same_front h.loader k.loader _ _ (ih.loader ∙ sym ik.loader) super.1 in
    let signers = same_front h.signers k.signers _ _ (ih.signers ∙ sym ik.signers) loader.1 in
    let domain = same_front h.domain k.domain _ _ (ih.domain ∙ sym ik.domain) signers.1 in
    let reserved = same_front h.reserved k.reserved _ _ (ih.reserved ∙ sym ik.reserved) domain.1 in
    let instance = same_front h.instance k.instance _ _ (ih.instance ∙ sym ik.instance) reserved.1 in
    (same_head h k id.0 serial.0 super.0 loader.0 signers.0 domain.0 reserved.0 instance.0, instance.1)

-- the lists of a class
constants_apart : (size : IdSize) (a b : Counted ClassValue) (x y : List ℕ) → counted_text value_text a ++ x ≡ counted_text value_text b ++ y
    → IsCounted (IsClassValue size 2) a → IsCounted (IsClassValue size 2) b → (a ≡ b) × (x ≡ y)
constants_apart size = counted_apart ClassValue value_text (IsClassValue size 2) (values_apart size 2)

statics_apart : (size : IdSize) (a b : Counted ClassValue) (x y : List ℕ) → counted_text value_text a ++ x ≡ counted_text value_text b ++ y
    → IsCounted (IsClassValue size (id_len size)) a → IsCounted (IsClassValue size (id_len size)) b → (a ≡ b) × (x ≡ y)
statics_apart size = counted_apart ClassValue value_text (IsClassValue size (id_len size)) (values_apart size (id_len size))

field_lists_apart : (size : IdSize) (a b : Counted ClassField) (x y : List ℕ) → counted_text field_text a ++ x ≡ counted_text field_text b ++ y
    → IsCounted (IsClassField size) a → IsCounted (IsClassField size) b → (a ≡ b) × (x ≡ y)
field_lists_apart size = counted_apart ClassField field_text (IsClassField size) (fields_apart size)

-- pieces and what follows them, grouped to the right
three : (a b c x : List ℕ) → (a ++ b ++ c) ++ x ≡ a ++ (b ++ (c ++ x))
three a b c x = simp append_assoc

four : (a b c d x : List ℕ) → (a ++ b ++ c ++ d) ++ x ≡ a ++ (b ++ (c ++ (d ++ x)))
four a b c d x = simp append_assoc

five : (a b c d e x : List ℕ) → (a ++ b ++ c ++ d ++ e) ++ x ≡ a ++ (b ++ (c ++ (d ++ (e ++ x))))
five a b c d e x = simp append_assoc

-- CLASS DUMPs of the same parts are one
same_class : (h h' : ClassHead) (cs cs' ss ss' : Counted ClassValue) (fs fs' : Counted ClassField) → h ≡ h' → cs ≡ cs' → ss ≡ ss' → fs ≡ fs'
    → ClassDump h cs ss fs ≡ ClassDump h' cs' ss' fs'
same_class h h' cs cs' ss ss' fs fs' a b c d = cc

-- CLASS DUMPs
pub classes_apart : (size : IdSize) (h h' : ClassHead) (cs cs' ss ss' : Counted ClassValue) (fs fs' : Counted ClassField) (x y : List ℕ)
    → (class_head_text h ++ counted_text value_text cs ++ counted_text value_text ss ++ counted_text field_text fs) ++ x
    ≡ (class_head_text h' ++ counted_text value_text cs' ++ counted_text value_text ss' ++ counted_text field_text fs') ++ y
    → IsClassHead size h → IsClassHead size h' → IsCounted (IsClassValue size 2) cs → IsCounted (IsClassValue size 2) cs'
    → IsCounted (IsClassValue size (id_len size)) ss → IsCounted (IsClassValue size (id_len size)) ss'
    → IsCounted (IsClassField size) fs → IsCounted (IsClassField size) fs' → (ClassDump h cs ss fs ≡ ClassDump h' cs' ss' fs') × (x ≡ y)
classes_apart size h h' cs cs' ss ss' fs fs' x y e ih ih' ics ics' iss iss' ifs ifs' =
    let all = sym (four (class_head_text h) (counted_text value_text cs) (counted_text value_text ss) (counted_text field_text fs) x) ∙ e
    ∙ four (class_head_text h') (counted_text value_text cs') (counted_text value_text ss') (counted_text field_text fs') y in
    let a = heads_apart size h h' (counted_text value_text cs ++ (counted_text value_text ss ++ (counted_text field_text fs ++ x)))
    (counted_text value_text cs' ++ (counted_text value_text ss' ++ (counted_text field_text fs' ++ y))) all ih ih' in
    let b = constants_apart size cs cs' (counted_text value_text ss ++ (counted_text field_text fs ++ x))
    (counted_text value_text ss' ++ (counted_text field_text fs' ++ y)) a.1 ics ics' in
    let c = statics_apart size ss ss' (counted_text field_text fs ++ x) (counted_text field_text fs' ++ y) b.1 iss iss' in
    let d = field_lists_apart size fs fs' x y c.1 ifs ifs' in
    (same_class h h' cs cs' ss ss' fs fs' a.0 b.0 c.0 d.0, d.1)

-- no class begins with what stands before a type, and then an unknown type
pub no_class : (size : IdSize) (before : List ℕ) (code : ℕ) (more : List ℕ) (h : ClassHead) (cs ss : Counted ClassValue) (fs : Counted ClassField) (y : List ℕ)
    → IsBeforeType size before → is_type code ≡ false
    → before ++ (code ∷ more) ≡ (class_head_text h ++ counted_text value_text cs ++ counted_text value_text ss ++ counted_text field_text fs) ++ y
    → IsClassHead size h → IsCounted (IsClassValue size 2) cs → IsCounted (IsClassValue size (id_len size)) ss → IsCounted (IsClassField size) fs → ⊥
no_class size before code more h cs ss fs y (of_constant head constants key ih begun long) other e is ics iss ifs =
    let all = sym (three (class_head_text head) (counted_text value_text constants) key (code ∷ more)) ∙ e
    ∙ four (class_head_text h) (counted_text value_text cs) (counted_text value_text ss) (counted_text field_text fs) y in
    let rest : List ℕ = counted_text value_text ss ++ (counted_text field_text fs ++ y) in
    let a = heads_apart size head h (counted_text value_text constants ++ (key ++ (code ∷ more))) (counted_text value_text cs ++ rest) all ih is in
    begun_apart ClassValue value_text (IsClassValue size 2) (values_apart size 2) constants cs (key ++ (code ∷ more)) rest a.1 begun ics
    (no_value size 2 key code more long other)
no_class size before code more h cs ss fs y (of_static head constants statics key ih counted begun long) other e is ics iss ifs =
    let all = sym (four (class_head_text head) (counted_text value_text constants) (counted_text value_text statics) key (code ∷ more)) ∙ e
    ∙ four (class_head_text h) (counted_text value_text cs) (counted_text value_text ss) (counted_text field_text fs) y in
    let rest : List ℕ = counted_text field_text fs ++ y in
    let a = heads_apart size head h (counted_text value_text constants ++ (counted_text value_text statics ++ (key ++ (code ∷ more))))
    (counted_text value_text cs ++ (counted_text value_text ss ++ rest)) all ih is in
    let b = constants_apart size constants cs (counted_text value_text statics ++ (key ++ (code ∷ more)))
    (counted_text value_text ss ++ rest) a.1 counted ics in
    begun_apart ClassValue value_text (IsClassValue size (id_len size)) (values_apart size (id_len size)) statics ss (key ++ (code ∷ more)) rest b.1 begun iss
    (no_value size (id_len size) key code more long other)
no_class size before code more h cs ss fs y (of_field head constants statics fields key ih counted counted' begun long) other e is ics iss ifs =
    let all = sym (five (class_head_text head) (counted_text value_text constants) (counted_text value_text statics) (counted_text field_text fields) key
    (code ∷ more)) ∙ e
    ∙ four (class_head_text h) (counted_text value_text cs) (counted_text value_text ss) (counted_text field_text fs) y in
    let a = heads_apart size head h
    (counted_text value_text constants ++ (counted_text value_text statics ++ (counted_text field_text fields ++ (key ++ (code ∷ more)))))
    (counted_text value_text cs ++ (counted_text value_text ss ++ (counted_text field_text fs ++ y))) all ih is in
    let b = constants_apart size constants cs (counted_text value_text statics ++ (counted_text field_text fields ++ (key ++ (code ∷ more))))
    (counted_text value_text ss ++ (counted_text field_text fs ++ y)) a.1 counted ics in
    let c = statics_apart size statics ss (counted_text field_text fields ++ (key ++ (code ∷ more))) (counted_text field_text fs ++ y) b.1 counted' iss in
    begun_apart ClassField field_text (IsClassField size) (fields_apart size) fields fs (key ++ (code ∷ more)) y c.1 begun ifs
    (no_field size key code more long other)
