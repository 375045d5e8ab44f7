-- The read fault of a file: the first one of the first phase that has any. Phases go records, sub-records, classes,
-- objects.
-- Source: HPROF binary format for what is a fault; their order and places are this project's choice.
use Rattle.std.specs.Prelude.{◌≡◌, ◌≢◌, ℕ, ◌+◌, ◌≤◌, ◌<◌, true, false, List, [], ◌∷◌, ◌++◌, length, drop, slice_get, Some}
use Rattle.std.specs.List.{flat_map, filter, AllByRecursion, AllZip}
use Rattle.hd_terms.specs.declared.IdSize.{IdSize}
use Rattle.hd_terms.specs.declared.Span.{Span}
use Rattle.hd_terms.specs.declared.errors.Cause.{Cause}
use Rattle.hd_terms.specs.declared.errors.Cause.TheVariants as causes
use Rattle.hd_terms.specs.declared.errors.ReadFault.{ReadFault}
use Rattle.hd_terms.specs.Records.{id_len, id_size_of, largest_file, header_len, has_magic, Record, IsFramed, least_body, IsRecord, record_text, HasHeader}
use Rattle.hd_terms.specs.Records.{AreRecords, is_segment, segment_spans}
use Rattle.hd_terms.specs.SubRecords.{SubRecord, ClassHead, ClassValue, ClassField, Counted, IsClassHead, IsClassValue, IsClassField, IsCounted, IsBegun}
use Rattle.hd_terms.specs.SubRecords.{class_head_text, counted_text, value_text, field_text, IsSubRecord, sub_record_text, is_known_tag, AreSubRecords}
use Rattle.hd_terms.specs.SubRecords.{AreDumpSubRecords, dump_subs_at}
use Rattle.hd_terms.specs.Types.{is_element_type, is_type}
use Rattle.hd_terms.specs.Objects.{classes_of}
use Rattle.hd_terms.specs.Classes.{resolved_class}
use Rattle.hd_terms.specs.HeapFaults.{class_faults, object_faults}

-- a fault of a cause at a place
abbrev pub fault : Cause → ℕ → ReadFault
fault cause offset = record { cause = cause; offset = offset }

-- these bytes end inside a text: there is some of it, and some is missing
pub record IsCutOff (rest text : List ℕ) : Type 0 where
  pub some : rest ≢ []
  pub missing : List ℕ
  pub lacks : missing ≢ []
  pub whole : rest ++ missing ≡ text

-- why no record can be read from the front of what is left of a file
pub data IsStuckRecord (size : IdSize) (rest : List ℕ) : Cause → Type 0 where
  -- it runs past the end
  cut : (r : Record) → IsFramed r → IsCutOff rest (record_text r) → IsStuckRecord size rest causes.Truncated
  -- it is whole, but its body is shorter than its fields
  short : (r : Record) (after : List ℕ) → IsFramed r → rest ≡ record_text r ++ after → length r.body < least_body size r.tag
      → IsStuckRecord size rest causes.ShortRecord

-- the fault of a file's records: records that can be read, and then bytes from which none can be read
pub record IsRecordFault (size : IdSize) (bytes : List ℕ) (f : ReadFault) : Type 0 where
  pub records : List Record
  pub rest : List ℕ
  pub whole : drop header_len bytes ≡ flat_map record_text records ++ rest
  pub each : AllByRecursion (IsRecord size) records
  pub stuck : IsStuckRecord size rest f.cause
  pub place : f.offset ≡ header_len + length (flat_map record_text records)

-- faults of the header and the records, in the order in which they are looked for
pub data IsRecordsFault (bytes : List ℕ) : ReadFault → Type 0 where
  too_large : largest_file < length bytes → IsRecordsFault bytes (fault causes.TooLarge 0)
  no_header : length bytes < header_len → IsRecordsFault bytes (fault causes.Truncated 0)
  other_text : length bytes ≤ largest_file → header_len ≤ length bytes → has_magic bytes ≡ false → IsRecordsFault bytes (fault causes.BadMagic 0)
  other_id_size : length bytes ≤ largest_file → header_len ≤ length bytes → has_magic bytes ≡ true → id_size_of bytes ≢ 4 → id_size_of bytes ≢ 8
      → IsRecordsFault bytes (fault causes.BadIdSize 19)
  in_a_record : {f : ReadFault} (size : IdSize) → HasHeader size bytes → IsRecordFault size bytes f → IsRecordsFault bytes f

-- what stands in a CLASS DUMP between its tag and the type of a constant, a static or a field: all that comes before, read
-- without fault, and then what names it
pub data IsBeforeType (size : IdSize) : List ℕ → Type 0 where
  of_constant : (head : ClassHead) (constants : Counted ClassValue) (key : List ℕ) → IsClassHead size head → IsBegun (IsClassValue size 2) constants
      → length key ≡ 2
      → IsBeforeType size (class_head_text head ++ counted_text value_text constants ++ key)
  of_static : (head : ClassHead) (constants statics : Counted ClassValue) (key : List ℕ) → IsClassHead size head → IsCounted (IsClassValue size 2) constants
      → IsBegun (IsClassValue size (id_len size)) statics → length key ≡ id_len size
      → IsBeforeType size (class_head_text head ++ counted_text value_text constants ++ counted_text value_text statics ++ key)
  of_field : (head : ClassHead) (constants statics : Counted ClassValue) (fields : Counted ClassField) (key : List ℕ) → IsClassHead size head
      → IsCounted (IsClassValue size 2) constants
      → IsCounted (IsClassValue size (id_len size)) statics → IsBegun (IsClassField size) fields → length key ≡ id_len size
      → IsBeforeType size (class_head_text head ++ counted_text value_text constants ++ counted_text value_text statics ++ counted_text field_text fields
      ++ key)

-- why no sub-record can be read from the front of what is left of a body
pub data IsStuck (size : IdSize) (rest : List ℕ) : Cause → Type 0 where
  unknown : (tag : ℕ) (more : List ℕ) → rest ≡ tag ∷ more → is_known_tag tag ≡ false → IsStuck size rest causes.UnknownSub
  short : (s : SubRecord) → IsSubRecord size s → IsCutOff rest (sub_record_text s) → IsStuck size rest causes.ShortSub
  -- the fields of a primitive array up to its type, which no element has
  other_type : (id serial count : List ℕ) (element : ℕ) (more : List ℕ) → length id ≡ id_len size → length serial ≡ 4 → length count ≡ 4
      → rest ≡ 0x23 ∷ id ++ serial ++ count ++ element ∷ more → is_element_type element ≡ false → IsStuck size rest causes.UnknownType
  -- the fields of a class up to an unknown type
  other_class_type : (before : List ℕ) (code : ℕ) (more : List ℕ) → IsBeforeType size before → rest ≡ 0x20 ∷ before ++ code ∷ more → is_type code ≡ false
      → IsStuck size rest causes.UnknownType

-- the fault of a body that begins at a place: whole sub-records, and then bytes from which none can be read
pub record IsSegmentFault (size : IdSize) (base : ℕ) (body : List ℕ) (f : ReadFault) : Type 0 where
  pub front : List SubRecord
  pub rest : List ℕ
  pub whole : body ≡ flat_map sub_record_text front ++ rest
  pub each : AllByRecursion (IsSubRecord size) front
  pub stuck : IsStuck size rest f.cause
  pub place : f.offset ≡ base + length (flat_map sub_record_text front)

-- the fault of a dump's sub-records: that of the first segment in file order that has one
pub record IsSubRecordsFault (size : IdSize) (records : List Record) (f : ReadFault) : Type 0 where
  pub whole : List Record
  pub r : Record
  pub after : List Record
  pub segments : List (List SubRecord)
  pub span : Span
  pub first : filter is_segment records ≡ whole ++ r ∷ after
  pub before : AllZip (λ (w : Record) (subs : List SubRecord). AreSubRecords size w.body subs) whole segments
  pub at : slice_get (segment_spans header_len records) (length whole) ≡ Some span
  pub faulty : IsSegmentFault size span.start r.body f

-- the fault of a file
pub data IsReadFault (bytes : List ℕ) : ReadFault → Type 0 where
  in_records : {f : ReadFault} → IsRecordsFault bytes f → IsReadFault bytes f
  in_sub_records : {f : ReadFault} (size : IdSize) (records : List Record) → HasHeader size bytes → AreRecords size bytes records
      → IsSubRecordsFault size records f → IsReadFault bytes f
  -- the first class whose chain never ends
  in_classes : {f : ReadFault} (size : IdSize) (records : List Record) (segments : List (List SubRecord))
      → HasHeader size bytes → AreRecords size bytes records → AreDumpSubRecords size records segments
      → slice_get (class_faults (classes_of bytes size records segments) (dump_subs_at size (segment_spans header_len records) segments)) 0 ≡ Some f
      → IsReadFault bytes f
  -- the first object with ID 0 or instance that doesn't fit its class, where no chain never ends
  in_objects : {f : ReadFault} (size : IdSize) (records : List Record) (segments : List (List SubRecord))
      → HasHeader size bytes → AreRecords size bytes records → AreDumpSubRecords size records segments
      → class_faults (classes_of bytes size records segments) (dump_subs_at size (segment_spans header_len records) segments) ≡ []
      → slice_get (object_faults (resolved_class (classes_of bytes size records segments)) size (dump_subs_at size (segment_spans header_len records) segments))
      0 ≡ Some f
      → IsReadFault bytes f
