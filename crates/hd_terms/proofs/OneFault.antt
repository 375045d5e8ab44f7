-- A file has at most one fault, and one that has a dump has none.
use Rattle.std.proofs.Common.{◌≡◌, ◌≢◌, ◌∙◌, ℕ, ◌+◌, ◌<◌, Bool, true, false, List, [], ◌∷◌, ◌++◌, length, slice_get, Some, subst, sym, ap, refl, append_assoc}
use Rattle.std.proofs.Common.{arith}
use Rattle.std.specs.List.{flat_map, AllZip}
use Rattle.std.proofs.lemmas.List.{append-nil}
use Rattle.hd_terms.specs.declared.Mode.{Mode}
use Rattle.hd_terms.specs.declared.IdSize.{IdSize}
use Rattle.hd_terms.specs.declared.IdSize.TheVariants as sizes
use Rattle.hd_terms.specs.declared.Span.{Span}
use Rattle.hd_terms.specs.declared.errors.Cause.{Cause}
use Rattle.hd_terms.specs.declared.errors.ReadFault.{ReadFault}
use Rattle.hd_terms.specs.Records.{has_magic, id_len, id_size_of, header_len, Record, IsFramed, least_body, IsRecord, record_text, HasHeader, AreRecords}
use Rattle.hd_terms.specs.Records.{segment_spans}
use Rattle.hd_terms.specs.declared.RootKind.{RootKind}
use Rattle.hd_terms.specs.declared.RootKind.TheVariants as roots
use Rattle.hd_terms.specs.Types.{is_element_type, is_type}
use Rattle.hd_terms.specs.SubRecords.{SubRecord, RootOf, ClassDump, InstanceDump, ObjectArray, PrimitiveArray, root_tag, sub_record_text, is_known_tag}
use Rattle.hd_terms.specs.SubRecords.{IsSubRecord, AreSubRecords, AreDumpSubRecords, dump_subs_at}
use Rattle.hd_terms.specs.Objects.{classes_of, IsDumpOf}
use Rattle.hd_terms.specs.Classes.{resolved_class}
use Rattle.hd_terms.specs.HeapFaults.{class_faults, object_faults}
use Rattle.hd_terms.specs.Dump.{Dump}
use Rattle.hd_terms.specs.ReadFaults.{fault, IsRecordsFault, too_large, no_header, other_text, other_id_size, in_a_record, IsCutOff, IsStuckRecord}
use Rattle.hd_terms.specs.ReadFaults.{IsRecordFault, IsStuck, unknown, short, other_type, IsBeforeType, other_class_type, IsSegmentFault, IsSubRecordsFault}
use Rattle.hd_terms.specs.ReadFaults.{IsReadFault, in_records, in_sub_records, in_classes, in_objects}
use Rattle.hd_terms.proofs.Spellings.{same_tag, behind_tag, IsEnd, same_texts, whole_has_no_end, cut_off_ends}
use Rattle.hd_terms.proofs.Classes.{no_class}
use Rattle.hd_terms.proofs.OneReading.{framed_apart, records_apart, no_record, root_or_class, root_or_primitive, primitive_fields, primitive_fronts}
use Rattle.hd_terms.proofs.OneReading.{sub_records_apart, no_sub_record, same_file, same_size, same_reading}

-- the records

-- a record that can be read isn't shorter than its fields
not_short : (size : IdSize) (r s : Record) → r ≡ s → IsRecord size r → length s.body < least_body size s.tag → ⊥
not_short size r s same is less = let fields = (subst (IsRecord size) same is).fields in omega arith

-- no record that can be read begins stuck bytes
no_record_in_stuck : (size : IdSize) (rest : List ℕ) (cause : Cause) → IsStuckRecord size rest cause
    → IsEnd Record record_text (IsRecord size) (records_apart size) rest
no_record_in_stuck size rest cause (IsStuckRecord.cut s is off) =
    λ r z ir e. cut_off_ends Record record_text IsFramed framed_apart rest s is off r z ir.framed e
no_record_in_stuck size rest cause (IsStuckRecord.short s after is whole less) =
    λ r z ir e. not_short size r s (framed_apart r s z after (sym e ∙ whole) ir.framed is).0 ir less

-- no bytes aren't stuck
some_in_stuck : (size : IdSize) (rest : List ℕ) (cause : Cause) → IsStuckRecord size rest cause → rest ≢ []
some_in_stuck size rest cause (IsStuckRecord.cut r is off) none = off.some none
some_in_stuck size rest cause (IsStuckRecord.short r after is whole less) none = let both : record_text r ++ after ≡ [] = sym whole ∙ none in cc

-- bytes are stuck for one cause
same_record_cause : (size : IdSize) (rest : List ℕ) (a b : Cause) → IsStuckRecord size rest a → IsStuckRecord size rest b → a ≡ b
same_record_cause size rest a b (IsStuckRecord.cut r is off) (IsStuckRecord.cut r' is' off') = refl
same_record_cause size rest a b (IsStuckRecord.cut r is off) (IsStuckRecord.short s after is' whole less) =
    absurd (cut_off_ends Record record_text IsFramed framed_apart rest r is off s after is' whole)
same_record_cause size rest a b (IsStuckRecord.short s after is' whole less) (IsStuckRecord.cut r is off) =
    absurd (cut_off_ends Record record_text IsFramed framed_apart rest r is off s after is' whole)
same_record_cause size rest a b (IsStuckRecord.short r after is whole less) (IsStuckRecord.short s after' is' whole' less') = refl

-- a file of records that can be read has no fault among them
no_record_fault : (size : IdSize) (bytes : List ℕ) (rs : List Record) (f : ReadFault) → AreRecords size bytes rs → IsRecordFault size bytes f → ⊥
no_record_fault size bytes rs f are h =
    some_in_stuck size h.rest f.cause h.stuck
    (whole_has_no_end Record record_text (IsRecord size) (records_apart size) (no_record size) rs h.records h.rest
    (sym are.whole ∙ h.whole) are.each h.each (no_record_in_stuck size h.rest f.cause h.stuck))

-- faults of one cause and one place are one
same_fault : (f g : ReadFault) → f.cause ≡ g.cause → f.offset ≡ g.offset → f ≡ g
same_fault f g cause offset = ap (λ (c : Cause). fault c f.offset) cause ∙ ap (λ (n : ℕ). fault g.cause n) offset

-- records have one fault
same_record_fault : (size : IdSize) (bytes : List ℕ) (f g : ReadFault) → IsRecordFault size bytes f → IsRecordFault size bytes g → f ≡ g
same_record_fault size bytes f g h k =
    let same = same_texts Record record_text (IsRecord size) (records_apart size) h.records k.records h.rest k.rest (sym h.whole ∙ k.whole) h.each k.each
    (no_record_in_stuck size h.rest f.cause h.stuck) (no_record_in_stuck size k.rest g.cause k.stuck) in
    let stuck : IsStuckRecord size k.rest f.cause = subst (λ (xs : List ℕ). IsStuckRecord size xs f.cause) same.1 h.stuck in
    same_fault f g (same_record_cause size k.rest f.cause g.cause stuck k.stuck)
    (h.place ∙ ap (λ (rs : List Record). header_len + length (flat_map record_text rs)) same.0 ∙ sym k.place)

-- a record's fault at another reading of the identifier size
at_size : (a b : IdSize) (bytes : List ℕ) (f : ReadFault) → a ≡ b → IsRecordFault a bytes f → IsRecordFault b bytes f
at_size a b bytes f size h = subst (λ (x : IdSize). IsRecordFault x bytes f) size h

-- a test doesn't pass and fail
not_both : (b : Bool) → b ≡ true → b ≡ false → ⊥
not_both b passes fails = let both : true ≡ false = sym passes ∙ fails in absurd cc

-- an identifier size is 4 or 8
one_of_two : (size : IdSize) (n : ℕ) → n ≡ id_len size → n ≢ 4 → n ≢ 8 → ⊥
one_of_two sizes.Four n is four eight = four is
one_of_two sizes.Eight n is four eight = eight is

-- a file with a header and whole records has no fault there
no_records_fault : (bytes : List ℕ) (size : IdSize) (rs : List Record) (f : ReadFault) → HasHeader size bytes → AreRecords size bytes rs
    → IsRecordsFault bytes f → ⊥
no_records_fault bytes size rs f header whole (too_large more) = let fits = header.fits in omega arith
no_records_fault bytes size rs f header whole (no_header less) = let long = header.long in omega arith
no_records_fault bytes size rs f header whole (other_text fits long other) = not_both (has_magic bytes) header.magic other
no_records_fault bytes size rs f header whole (other_id_size fits long text four eight) = one_of_two size (id_size_of bytes) header.id_size four eight
no_records_fault bytes size rs f header whole (in_a_record size' header' h) =
    no_record_fault size bytes rs f whole (at_size size' size bytes f (same_size size' size bytes header' header) h)

-- the header and the records have one fault
same_records_fault : (bytes : List ℕ) (f g : ReadFault) → IsRecordsFault bytes f → IsRecordsFault bytes g → f ≡ g
same_records_fault bytes f g (too_large more) (too_large more') = refl
same_records_fault bytes f g (too_large more) (no_header less) = absurd (omega arith)
same_records_fault bytes f g (too_large more) (other_text fits long other) = absurd (omega arith)
same_records_fault bytes f g (too_large more) (other_id_size fits long text four eight) = absurd (omega arith)
same_records_fault bytes f g (too_large more) (in_a_record size header h) = let fits = header.fits in absurd (omega arith)
same_records_fault bytes f g (no_header less) (too_large more) = absurd (omega arith)
same_records_fault bytes f g (no_header less) (no_header less') = refl
same_records_fault bytes f g (no_header less) (other_text fits long other) = absurd (omega arith)
same_records_fault bytes f g (no_header less) (other_id_size fits long text four eight) = absurd (omega arith)
same_records_fault bytes f g (no_header less) (in_a_record size header h) = let long = header.long in absurd (omega arith)
same_records_fault bytes f g (other_text fits long other) (too_large more) = absurd (omega arith)
same_records_fault bytes f g (other_text fits long other) (no_header less) = absurd (omega arith)
same_records_fault bytes f g (other_text fits long other) (other_text fits' long' other') = refl
same_records_fault bytes f g (other_text fits long other) (other_id_size fits' long' text four eight) = absurd (not_both (has_magic bytes) text other)
same_records_fault bytes f g (other_text fits long other) (in_a_record size header h) = absurd (not_both (has_magic bytes) header.magic other)
same_records_fault bytes f g (other_id_size fits long text four eight) (too_large more) = absurd (omega arith)
same_records_fault bytes f g (other_id_size fits long text four eight) (no_header less) = absurd (omega arith)
same_records_fault bytes f g (other_id_size fits long text four eight) (other_text fits' long' other) = absurd (not_both (has_magic bytes) text other)
same_records_fault bytes f g (other_id_size fits long text four eight) (other_id_size fits' long' text' four' eight') = refl
same_records_fault bytes f g (other_id_size fits long text four eight) (in_a_record size header h) =
    absurd (one_of_two size (id_size_of bytes) header.id_size four eight)
same_records_fault bytes f g (in_a_record size header h) (too_large more) = let fits = header.fits in absurd (omega arith)
same_records_fault bytes f g (in_a_record size header h) (no_header less) = let long = header.long in absurd (omega arith)
same_records_fault bytes f g (in_a_record size header h) (other_text fits long other) = absurd (not_both (has_magic bytes) header.magic other)
same_records_fault bytes f g (in_a_record size header h) (other_id_size fits long text four eight) =
    absurd (one_of_two size (id_size_of bytes) header.id_size four eight)
same_records_fault bytes f g (in_a_record size header h) (in_a_record size' header' k) =
    same_record_fault size' bytes f g (at_size size size' bytes f (same_size size size' bytes header header') h) k

-- the sub-records

-- the tag of a root is known
root_known : (kind : RootKind) → is_known_tag (root_tag kind) ≡ true
root_known roots.Unknown = refl
root_known roots.JniGlobal = refl
root_known roots.JniLocal = refl
root_known roots.JavaFrame = refl
root_known roots.NativeStack = refl
root_known roots.StickyClass = refl
root_known roots.ThreadBlock = refl
root_known roots.MonitorUsed = refl
root_known roots.Thread = refl

-- a text's tag is known
known : (size : IdSize) (s : SubRecord) (tag : ℕ) (more z : List ℕ) → tag ∷ more ≡ sub_record_text s ++ z → is_known_tag tag ≡ true
known size (RootOf kind id rest) tag more z e = ap is_known_tag (same_tag tag (root_tag kind) _ _ e) ∙ root_known kind
known size (ClassDump head constants statics fields) tag more z e = let same : tag ≡ 0x20 = cc in ap is_known_tag same
known size (InstanceDump id serial class count values) tag more z e = let same : tag ≡ 0x21 = cc in ap is_known_tag same
known size (ObjectArray id serial count class elements) tag more z e = let same : tag ≡ 0x22 = cc in ap is_known_tag same
known size (PrimitiveArray id serial count element elements) tag more z e = let same : tag ≡ 0x23 = cc in ap is_known_tag same

-- true isn't false
never_both : (b : Bool) → b ≡ true → b ≡ false → ⊥
never_both b holds fails = cc

-- the fields of a primitive array, grouped to the right
fields : (a b c : List ℕ) (element : ℕ) (d : List ℕ) → a ++ b ++ c ++ element ∷ d ≡ a ++ (b ++ (c ++ (element ∷ d)))
fields a b c element d = simp append_assoc

-- with what follows it behind
behind : (a b c : List ℕ) (element : ℕ) (d x : List ℕ) → (a ++ b ++ c ++ element ∷ d) ++ x ≡ a ++ b ++ c ++ element ∷ (d ++ x)
behind a b c element d x = primitive_fields a b c element d x ∙ sym (fields a b c element (d ++ x))

-- no sub-record begins with the fields of a primitive array up to a type that no element has
no_other_type : (size : IdSize) (s : SubRecord) (id serial count : List ℕ) (element : ℕ) (more z : List ℕ) → IsSubRecord size s
    → length id ≡ id_len size → length serial ≡ 4 → length count ≡ 4 → is_element_type element ≡ false → 0x23 ∷ id ++ serial ++ count
    ++ element ∷ more ≡ sub_record_text s ++ z → ⊥
no_other_type size (RootOf kind id' rest) id serial count element more z is li ls lc other e = root_or_primitive kind (sym (same_tag _ _ _ _ e))
no_other_type size (ClassDump head constants statics fields) id serial count element more z is li ls lc other e = let differ : ◌≡◌ {A = ℕ} 0x23 0x20 =
    same_tag _ _ _ _ e in omega arith
no_other_type size (InstanceDump id' serial' class count' values) id serial count element more z is li ls lc other e = let differ : ◌≡◌ {A = ℕ} 0x23 0x21 =
    same_tag _ _ _ _ e in omega arith
no_other_type size (ObjectArray id' serial' count' class elements) id serial count element more z is li ls lc other e = let differ : ◌≡◌ {A = ℕ} 0x23 0x22 =
    same_tag _ _ _ _ e in omega arith
no_other_type size (PrimitiveArray id' serial' count' element' elements) id serial count element more z is li ls lc other e =
    let same = primitive_fronts id id' serial serial' count count' element element' more (elements ++ z)
    (sym (fields id serial count element more) ∙ behind_tag _ _ _ _ e ∙ primitive_fields id' serial' count' element' elements z)
    (li ∙ sym is.0) (ls ∙ sym is.1) (lc ∙ sym is.2) in
    never_both (is_element_type element) (ap is_element_type same.3 ∙ is.3) other

-- nor with the fields of a class up to an unknown type
no_other_class_type : (size : IdSize) (s : SubRecord) (before : List ℕ) (code : ℕ) (more z : List ℕ) → IsSubRecord size s → IsBeforeType size before
    → is_type code ≡ false → 0x20 ∷ before ++ code ∷ more ≡ sub_record_text s ++ z → ⊥
no_other_class_type size (RootOf kind id rest) before code more z is front other e = root_or_class kind (sym (same_tag _ _ _ _ e))
no_other_class_type size (ClassDump head constants statics fields) before code more z is front other e =
    no_class size before code more head constants statics fields z front other (behind_tag _ _ _ _ e) is.0 is.1 is.2 is.3
no_other_class_type size (InstanceDump id serial class count values) before code more z is front other e = let differ : ◌≡◌ {A = ℕ} 0x20 0x21 =
    same_tag _ _ _ _ e in omega arith
no_other_class_type size (ObjectArray id serial count class elements) before code more z is front other e = let differ : ◌≡◌ {A = ℕ} 0x20 0x22 =
    same_tag _ _ _ _ e in omega arith
no_other_class_type size (PrimitiveArray id serial count element elements) before code more z is front other e = let differ : ◌≡◌ {A = ℕ} 0x20 0x23 =
    same_tag _ _ _ _ e in omega arith

-- no sub-record begins bytes that are stuck
stuck_ends : (size : IdSize) (rest : List ℕ) (cause : Cause) → IsStuck size rest cause → IsEnd SubRecord sub_record_text (IsSubRecord size)
    (sub_records_apart size) rest
stuck_ends size rest cause (unknown tag more e other) = λ s z is same. never_both (is_known_tag tag) (known size s tag more z (sym e ∙ same)) other
stuck_ends size rest cause (short s is cut) = cut_off_ends SubRecord sub_record_text (IsSubRecord size) (sub_records_apart size) rest s is cut
stuck_ends size rest cause (other_type id serial count element more li ls lc e other) =
    λ s z is same. no_other_type size s id serial count element more z is li ls lc other (sym e ∙ same)
stuck_ends size rest cause (other_class_type before code more front e other) = λ s z is same. no_other_class_type size s before code more z is front other
    (sym e ∙ same)

-- no bytes aren't stuck
stuck_some : (size : IdSize) (rest : List ℕ) (cause : Cause) → IsStuck size rest cause → rest ≢ []
stuck_some size rest cause (unknown tag more e other) none = let both : tag ∷ more ≡ [] = sym e ∙ none in cc
stuck_some size rest cause (short s is cut) none = cut.some none
stuck_some size rest cause (other_type id serial count element more li ls lc e other) none = let both : 0x23 ∷ id ++ serial ++ count ++ element ∷ more ≡ [] =
    sym e ∙ none in cc
stuck_some size rest cause (other_class_type before code more front e other) none = let both : 0x20 ∷ before ++ code ∷ more ≡ [] = sym e ∙ none in cc

-- bytes whose first one is no tag are no part of a sub-record
unknown_or_short : (size : IdSize) (rest : List ℕ) (tag : ℕ) (more : List ℕ) (s : SubRecord) → rest ≡ tag ∷ more → is_known_tag tag ≡ false
    → IsCutOff rest (sub_record_text s) → ⊥
unknown_or_short size rest tag more s e other cut =
    never_both (is_known_tag tag)
    (known size s tag (more ++ cut.missing) [] (ap (λ (xs : List ℕ). xs ++ cut.missing) (sym e) ∙ cut.whole ∙ sym (append-nil (sub_record_text s)))) other

-- nor are the fields of a primitive array up to a type that no element has
other_type_or_short : (size : IdSize) (rest id serial count : List ℕ) (element : ℕ) (more : List ℕ) (s : SubRecord) → IsSubRecord size s
    → length id ≡ id_len size → length serial ≡ 4 → length count ≡ 4
    → rest ≡ 0x23 ∷ id ++ serial ++ count ++ element ∷ more → is_element_type element ≡ false → IsCutOff rest (sub_record_text s) → ⊥
other_type_or_short size rest id serial count element more s is li ls lc e other cut =
    no_other_type size s id serial count element (more ++ cut.missing) [] is li ls lc other
    (ap (λ (xs : List ℕ). 0x23 ∷ xs) (sym (behind id serial count element more cut.missing)) ∙ ap (λ (xs : List ℕ). xs ++ cut.missing) (sym e) ∙ cut.whole
    ∙ sym (append-nil (sub_record_text s)))

-- nor are the fields of a class up to an unknown type
other_class_type_or_short : (size : IdSize) (rest before : List ℕ) (code : ℕ) (more : List ℕ) (s : SubRecord) → IsSubRecord size s → IsBeforeType size before
    → rest ≡ 0x20 ∷ before ++ code ∷ more → is_type code ≡ false → IsCutOff rest (sub_record_text s) → ⊥
other_class_type_or_short size rest before code more s is front e other cut =
    no_other_class_type size s before code (more ++ cut.missing) [] is front other
    (ap (λ (xs : List ℕ). 0x20 ∷ xs) (sym (append_assoc before (code ∷ more) cut.missing)) ∙ ap (λ (xs : List ℕ). xs ++ cut.missing) (sym e) ∙ cut.whole
    ∙ sym (append-nil (sub_record_text s)))

-- bytes whose first one is no tag aren't those fields
unknown_or_other_type : (rest id serial count : List ℕ) (tag element : ℕ) (more more' : List ℕ) → rest ≡ tag ∷ more → is_known_tag tag ≡ false
    → rest ≡ 0x23 ∷ id ++ serial ++ count ++ element ∷ more' → ⊥
unknown_or_other_type rest id serial count tag element more more' e other e' =
    never_both (is_known_tag tag) (ap is_known_tag (same_tag _ _ _ _ (sym e ∙ e'))) other

unknown_or_other_class_type : (rest before : List ℕ) (tag code : ℕ) (more more' : List ℕ) → rest ≡ tag ∷ more → is_known_tag tag ≡ false → rest ≡ 0x20 ∷ before
    ++ code ∷ more' → ⊥
unknown_or_other_class_type rest before tag code more more' e other e' =
    never_both (is_known_tag tag) (ap is_known_tag (same_tag _ _ _ _ (sym e ∙ e'))) other

-- bytes are stuck for one cause
same_cause : (size : IdSize) (rest : List ℕ) (a b : Cause) → IsStuck size rest a → IsStuck size rest b → a ≡ b
same_cause size rest a b (unknown tag more e other) (unknown tag' more' e' other') = refl
same_cause size rest a b (unknown tag more e other) (short s is cut) = absurd (unknown_or_short size rest tag more s e other cut)
same_cause size rest a b (unknown tag more e other) (other_type id serial count element more' li ls lc e' wrong) =
    absurd (unknown_or_other_type rest id serial count tag element more more' e other e')
same_cause size rest a b (unknown tag more e other) (other_class_type before code more' front e' wrong) =
    absurd (unknown_or_other_class_type rest before tag code more more' e other e')
same_cause size rest a b (short s is cut) (unknown tag more e other) = absurd (unknown_or_short size rest tag more s e other cut)
same_cause size rest a b (short s is cut) (short s' is' cut') = refl
same_cause size rest a b (short s is cut) (other_type id serial count element more li ls lc e wrong) =
    absurd (other_type_or_short size rest id serial count element more s is li ls lc e wrong cut)
same_cause size rest a b (short s is cut) (other_class_type before code more front e wrong) =
    absurd (other_class_type_or_short size rest before code more s is front e wrong cut)
same_cause size rest a b (other_type id serial count element more li ls lc e wrong) (unknown tag more' e' other) =
    absurd (unknown_or_other_type rest id serial count tag element more' more e' other e)
same_cause size rest a b (other_type id serial count element more li ls lc e wrong) (short s is cut) =
    absurd (other_type_or_short size rest id serial count element more s is li ls lc e wrong cut)
same_cause size rest a b (other_type id serial count element more li ls lc e wrong) (other_type id' serial' count' element' more' li' ls' lc' e' wrong') = refl
same_cause size rest a b (other_type id serial count element more li ls lc e wrong) (other_class_type before code more' front e' wrong') = refl
same_cause size rest a b (other_class_type before code more front e wrong) (unknown tag more' e' other) =
    absurd (unknown_or_other_class_type rest before tag code more' more e' other e)
same_cause size rest a b (other_class_type before code more front e wrong) (short s is cut) =
    absurd (other_class_type_or_short size rest before code more s is front e wrong cut)
same_cause size rest a b (other_class_type before code more front e wrong) (other_type id serial count element more' li ls lc e' wrong') = refl
same_cause size rest a b (other_class_type before code more front e wrong) (other_class_type before' code' more' front' e' wrong') = refl

-- a body of whole sub-records has no fault
no_segment_fault : (size : IdSize) (base : ℕ) (body : List ℕ) (ss : List SubRecord) (f : ReadFault) → AreSubRecords size body ss
    → IsSegmentFault size base body f → ⊥
no_segment_fault size base body ss f are h =
    stuck_some size h.rest f.cause h.stuck
    (whole_has_no_end SubRecord sub_record_text (IsSubRecord size) (sub_records_apart size) (no_sub_record size) ss h.front h.rest
    (sym are.whole ∙ h.whole) are.each h.each (stuck_ends size h.rest f.cause h.stuck))

-- a body has one fault
same_segment_fault : (size : IdSize) (base : ℕ) (body : List ℕ) (f g : ReadFault) → IsSegmentFault size base body f → IsSegmentFault size base body g → f ≡ g
same_segment_fault size base body f g h k =
    let same = same_texts SubRecord sub_record_text (IsSubRecord size) (sub_records_apart size) h.front k.front h.rest k.rest
    (sym h.whole ∙ k.whole) h.each k.each
    (stuck_ends size h.rest f.cause h.stuck) (stuck_ends size k.rest g.cause k.stuck) in
    let front : h.front ≡ k.front = same.0 in
    let stuck : IsStuck size k.rest f.cause = subst (λ (xs : List ℕ). IsStuck size xs f.cause) same.1 h.stuck in
    same_fault f g (same_cause size k.rest f.cause g.cause stuck k.stuck)
    (h.place ∙ ap (λ (ss : List SubRecord). base + length (flat_map sub_record_text ss)) front ∙ sym k.place)

-- a record has these sub-records
abbrev Has : IdSize → Record → List SubRecord → Type 0
Has size r subs = AreSubRecords size r.body subs

-- where each record has sub-records, one among them has
has_some : (size : IdSize) (ws : List Record) (r : Record) (after : List Record) (segments : List (List SubRecord))
    → AllZip (Has size) (ws ++ r ∷ after) segments → (ss : List SubRecord) × Has size r ss
has_some size [] r after [] h = absurd h
has_some size [] r after (ss ∷ segments) h = (ss, h.0)
has_some size (w ∷ ws) r after [] h = absurd h
has_some size (w ∷ ws) r after (ss ∷ segments) h = has_some size ws r after segments h.1

-- the first record that has none is one, and so is what stands before it
one_first : (size : IdSize) (ws ws' : List Record) (r r' : Record) (after after' : List Record) (segments segments' : List (List SubRecord)) → ws
    ++ r ∷ after ≡ ws' ++ r' ∷ after' → AllZip (Has size) ws segments → AllZip (Has size) ws' segments' → ((ss : List SubRecord) → Has size r ss → ⊥)
    → ((ss : List SubRecord) → Has size r' ss → ⊥) → (ws ≡ ws') × (r ≡ r')
one_first size [] [] r r' after after' us vs e hu hv none none' = (refl, cc)
one_first size [] (w ∷ ws') r r' after after' us [] e hu hv none none' = absurd hv
one_first size [] (w ∷ ws') r r' after after' us (v ∷ vs) e hu hv none none' = let same : w ≡ r = cc in
    absurd (none v (subst (λ (x : Record). Has size x v) same hv.0))
one_first size (w ∷ ws) [] r r' after after' [] vs e hu hv none none' = absurd hu
one_first size (w ∷ ws) [] r r' after after' (u ∷ us) vs e hu hv none none' = let same : w ≡ r' = cc in
    absurd (none' u (subst (λ (x : Record). Has size x u) same hu.0))
one_first size (w ∷ ws) (w' ∷ ws') r r' after after' [] vs e hu hv none none' = absurd hu
one_first size (w ∷ ws) (w' ∷ ws') r r' after after' (u ∷ us) [] e hu hv none none' = absurd hv
one_first size (w ∷ ws) (w' ∷ ws') r r' after after' (u ∷ us) (v ∷ vs) e hu hv none none' =
    let rest : ws ++ r ∷ after ≡ ws' ++ r' ∷ after' = cc in
    let more = one_first size ws ws' r r' after after' us vs rest hu.1 hv.1 none none' in
    let first : w ≡ w' = cc in
    let whole : ws ≡ ws' = more.0 in
    (cc, more.1)

-- whole segments have no fault
no_sub_records_fault : (size : IdSize) (rs : List Record) (segments : List (List SubRecord)) (f : ReadFault) → AreDumpSubRecords size rs segments
    → IsSubRecordsFault size rs f → ⊥
no_sub_records_fault size rs segments f whole h =
    let some = has_some size h.whole h.r h.after segments (subst (λ (xs : List Record). AllZip (Has size) xs segments) h.first whole) in
    no_segment_fault size h.span.start h.r.body some.0 f some.1 h.faulty

-- segments have one fault
same_sub_records_fault : (size : IdSize) (rs : List Record) (f g : ReadFault) → IsSubRecordsFault size rs f → IsSubRecordsFault size rs g → f ≡ g
same_sub_records_fault size rs f g h k =
    let first = one_first size h.whole k.whole h.r k.r h.after k.after h.segments k.segments (sym h.first ∙ k.first) h.before k.before
    (λ ss is. no_segment_fault size h.span.start h.r.body ss f is h.faulty) (λ ss is. no_segment_fault size k.span.start k.r.body ss g is k.faulty) in
    let found : Some h.span ≡ Some k.span = sym h.at ∙ ap (λ (ws : List Record). slice_get (segment_spans header_len rs) (length ws)) first.0 ∙ k.at in
    let span : h.span ≡ k.span = cc in
    let at_span : IsSegmentFault size k.span.start h.r.body f = subst (λ (s : Span). IsSegmentFault size s.start h.r.body f) span h.faulty in
    let at_record : IsSegmentFault size k.span.start k.r.body f = subst (λ (r : Record). IsSegmentFault size k.span.start r.body f) first.1 at_span in
    same_segment_fault size k.span.start k.r.body f g at_record k.faulty

-- files

-- a sub-records fault as that of another reading
moved : (a b : IdSize) (rs ss : List Record) (f : ReadFault) → a ≡ b → rs ≡ ss → IsSubRecordsFault a rs f → IsSubRecordsFault b ss f
moved a b rs ss f size records h = subst (λ (xs : List Record). IsSubRecordsFault b xs f) records (subst (λ (x : IdSize). IsSubRecordsFault x rs f) size h)

-- the faults of the classes of a reading, and of its objects
abbrev faulty_classes : List ℕ → IdSize → List Record → List (List SubRecord) → List ReadFault
faulty_classes bytes size rs segments = class_faults (classes_of bytes size rs segments) (dump_subs_at size (segment_spans header_len rs) segments)

abbrev faulty_objects : List ℕ → IdSize → List Record → List (List SubRecord) → List ReadFault
faulty_objects bytes size rs segments = object_faults (resolved_class (classes_of bytes size rs segments)) size
    (dump_subs_at size (segment_spans header_len rs) segments)

-- a list with a first one has some
some_first : (fs gs : List ReadFault) (f : ReadFault) → slice_get fs 0 ≡ Some f → fs ≡ gs → gs ≡ [] → ⊥
some_first [] gs f first same none = cc
some_first (h ∷ fs) gs f first same none = cc

-- and has one first
one_first_fault : (fs gs : List ReadFault) (f g : ReadFault) → slice_get fs 0 ≡ Some f → fs ≡ gs → slice_get gs 0 ≡ Some g → f ≡ g
one_first_fault fs gs f g first same first' = let both : Some f ≡ Some g = sym first ∙ ap (λ (xs : List ReadFault). slice_get xs 0) same ∙ first' in cc

-- a fault in the sub-records isn't one of a file whose segments are whole
whole_segments : (bytes : List ℕ) (f : ReadFault) (a b : IdSize) (rs ss : List Record) (segments : List (List SubRecord)) → HasHeader a bytes
    → AreRecords a bytes rs → AreDumpSubRecords a rs segments
    → HasHeader b bytes → AreRecords b bytes ss → IsSubRecordsFault b ss f → ⊥
whole_segments bytes f a b rs ss segments header whole bodies header' whole' h =
    let size : b ≡ a = same_size b a bytes header' header in
    no_sub_records_fault a rs segments f bodies (moved b a ss rs f size (same_file b a bytes ss rs size whole' whole) h)

-- a file that reads without fault has none
pub no_fault : (mode : Mode) (bytes : List ℕ) (dump : Dump) (f : ReadFault) → IsDumpOf mode bytes dump → IsReadFault bytes f → ⊥
no_fault mode bytes dump f is (in_records h) = no_records_fault bytes is.size is.records f is.reads.header is.reads.whole h
no_fault mode bytes dump f is (in_sub_records size rs header whole h) =
    whole_segments bytes f is.size size is.records rs is.segments is.reads.header is.reads.whole is.reads.bodies header whole h
no_fault mode bytes dump f is (in_classes size rs segments header whole bodies found) =
    some_first (faulty_classes bytes size rs segments) (faulty_classes bytes is.size is.records is.segments) f found
    (same_reading (faulty_classes bytes) bytes size is.size rs is.records segments is.segments header is.reads.header whole is.reads.whole bodies
    is.reads.bodies) is.reads.classes
no_fault mode bytes dump f is (in_objects size rs segments header whole bodies none found) =
    some_first (faulty_objects bytes size rs segments) (faulty_objects bytes is.size is.records is.segments) f found
    (same_reading (faulty_objects bytes) bytes size is.size rs is.records segments is.segments header is.reads.header whole is.reads.whole bodies
    is.reads.bodies) is.reads.objects

-- a file has one fault
pub same_read_fault : (bytes : List ℕ) (f g : ReadFault) → IsReadFault bytes f → IsReadFault bytes g → f ≡ g
same_read_fault bytes f g (in_records h) (in_records k) = same_records_fault bytes f g h k
same_read_fault bytes f g (in_records h) (in_sub_records size rs header whole k) = absurd (no_records_fault bytes size rs f header whole h)
same_read_fault bytes f g (in_records h) (in_classes size rs segments header whole bodies found) = absurd (no_records_fault bytes size rs f header whole h)
same_read_fault bytes f g (in_records h) (in_objects size rs segments header whole bodies none found) = absurd (no_records_fault bytes size rs f header whole h)
same_read_fault bytes f g (in_sub_records size rs header whole h) (in_records k) = absurd (no_records_fault bytes size rs g header whole k)
same_read_fault bytes f g (in_sub_records size rs header whole h) (in_sub_records size' rs' header' whole' k) =
    same_sub_records_fault size' rs' f g
    (moved size size' rs rs' f (same_size size size' bytes header header')
    (same_file size size' bytes rs rs' (same_size size size' bytes header header') whole whole') h) k
same_read_fault bytes f g (in_sub_records size rs header whole h) (in_classes size' rs' segments header' whole' bodies found) =
    absurd (whole_segments bytes f size' size rs' rs segments header' whole' bodies header whole h)
same_read_fault bytes f g (in_sub_records size rs header whole h) (in_objects size' rs' segments header' whole' bodies none found) =
    absurd (whole_segments bytes f size' size rs' rs segments header' whole' bodies header whole h)
same_read_fault bytes f g (in_classes size rs segments header whole bodies found) (in_records k) = absurd (no_records_fault bytes size rs g header whole k)
same_read_fault bytes f g (in_classes size rs segments header whole bodies found) (in_sub_records size' rs' header' whole' k) =
    absurd (whole_segments bytes g size size' rs rs' segments header whole bodies header' whole' k)
same_read_fault bytes f g (in_classes size rs segments header whole bodies found) (in_classes size' rs' segments' header' whole' bodies' found') =
    one_first_fault (faulty_classes bytes size rs segments) (faulty_classes bytes size' rs' segments') f g found
    (same_reading (faulty_classes bytes) bytes size size' rs rs' segments segments' header header' whole whole' bodies bodies') found'
same_read_fault bytes f g (in_classes size rs segments header whole bodies found) (in_objects size' rs' segments' header' whole' bodies' none found') =
    absurd (some_first (faulty_classes bytes size rs segments) (faulty_classes bytes size' rs' segments') f found
    (same_reading (faulty_classes bytes) bytes size size' rs rs' segments segments' header header' whole whole' bodies bodies') none)
same_read_fault bytes f g (in_objects size rs segments header whole bodies none found) (in_records k) = absurd (no_records_fault bytes size rs g header whole k)
same_read_fault bytes f g (in_objects size rs segments header whole bodies none found) (in_sub_records size' rs' header' whole' k) =
    absurd (whole_segments bytes g size size' rs rs' segments header whole bodies header' whole' k)
same_read_fault bytes f g (in_objects size rs segments header whole bodies none found) (in_classes size' rs' segments' header' whole' bodies' found') =
    absurd (some_first (faulty_classes bytes size' rs' segments') (faulty_classes bytes size rs segments) g found'
    (same_reading (faulty_classes bytes) bytes size' size rs' rs segments' segments header' header whole' whole bodies' bodies) none)
same_read_fault bytes f g (in_objects size rs segments header whole bodies none found) (in_objects size' rs' segments' header' whole' bodies' none' found') =
    one_first_fault (faulty_objects bytes size rs segments) (faulty_objects bytes size' rs' segments') f g found
    (same_reading (faulty_objects bytes) bytes size size' rs rs' segments segments' header header' whole whole' bodies bodies') found'
