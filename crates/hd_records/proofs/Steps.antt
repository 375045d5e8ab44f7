-- Reading records one after another, as a loop does.
use Rattle.std.proofs.Common.{◌≡◌, ℕ, ◌+◌, ◌-◌, ◌≤◌, ◌<◌, Bool, true, false, cond, List, [], ◌∷◌, ◌++◌, length, drop, refl, sym, ap, ◌∙◌, append_assoc}
use Rattle.std.proofs.Common.{add-zero, arith}
use Rattle.std.specs.List.{flat_map, filter_map, AllByRecursion}
use Rattle.std.proofs.lemmas.List.{append-nil, length-append, length-drop}
use Rattle.std.proofs.lemmas.List.Concat.{flat_map-append}
use Rattle.std.proofs.lemmas.List.Elements.{filter_map-append}
use Rattle.hd_terms.specs.declared.Span.{Span}
use Rattle.hd_terms.specs.declared.Text.{Text}
use Rattle.hd_terms.specs.declared.Load.{Load}
use Rattle.hd_terms.specs.declared.IdSize.{IdSize}
use Rattle.hd_terms.specs.declared.errors.Cause.{Cause}
use Rattle.hd_terms.specs.declared.errors.Cause.TheVariants.{ShortRecord}
use Rattle.hd_terms.specs.Records.{Record, IsFramed, IsRecord, least_body, record_text, header_len, is_segment, segment_spans, placed, text_of, texts, load_of}
use Rattle.hd_terms.specs.Records.{loads, HasHeader}
use Rattle.hd_terms.specs.ReadFaults.{fault, IsRecordsFault, IsStuckRecord, in_a_record}
use Rattle.hd_records.specs.Reading.{ReadsRecords}
use Rattle.hd_records.specs.ParsedRecords.{BeginsWithFramed, BeginsWithRecord, texts_of, loads_of, spans_of}

-- what was read, and what is left
pub record IsReadSoFar (size : IdSize) (bytes rest : List ℕ) (strings : List Text) (classes : List Load) (spans : List Span) : Type 0 where
  pub long : header_len ≤ length bytes
  pub records : List Record
  pub whole : drop header_len bytes ≡ flat_map record_text records ++ rest
  pub each : AllByRecursion (IsRecord size) records
  pub texts_are : strings ≡ texts size records
  pub loads_are : classes ≡ loads size records
  pub spans_are : spans ≡ segment_spans header_len records

pub begin : (size : IdSize) (bytes : List ℕ) → header_len ≤ length bytes → IsReadSoFar size bytes (drop header_len bytes) [] [] []
begin size bytes long = record { long = long; records = []; whole = refl; each = tt; texts_are = refl; loads_are = refl; spans_are = refl }

-- the end of the records is where what is left begins
front_len : (bytes rest : List ℕ) (rs : List Record) → header_len ≤ length bytes → drop header_len bytes ≡ flat_map record_text rs ++ rest
    → length bytes ≡ header_len + length (flat_map record_text rs) + length rest
front_len bytes rest rs long whole =
    omega (arith, ap length whole, length-append (flat_map record_text rs) rest, length-drop header_len bytes)

length-record_text : (r : Record) → IsFramed r → length (record_text r) ≡ 9 + length r.body
length-record_text r is =
    omega (arith, is.time, is.size, length-append ((r.tag ∷ r.time) ++ r.size) r.body, length-append (r.tag ∷ r.time) r.size)

all_more : (size : IdSize) (rs : List Record) (r : Record) → AllByRecursion (IsRecord size) rs → IsRecord size r → AllByRecursion (IsRecord size) (rs ++ r ∷ [])
all_more size [] r all is = (is, tt)
all_more size (x ∷ rs) r all is = (all.0, all_more size rs r all.1 is)

-- where a record ends that begins at a place, and so do the records behind it
next_place : (size : IdSize) (at : ℕ) (x : Record) (rs : List Record) → IsRecord size x
    → at + 9 + length x.body + length (flat_map record_text rs) ≡ at + length (flat_map record_text (x ∷ rs))
next_place size at x rs is = omega (arith, length-record_text x is.framed, length-append (record_text x) (flat_map record_text rs))

placed-push : (size : IdSize) (at : ℕ) (rs : List Record) (r : Record) → AllByRecursion (IsRecord size) rs
    → placed at (rs ++ r ∷ []) ≡ placed at rs ++ (at + length (flat_map record_text rs), r) ∷ []
placed-push size at [] r all = ap (λ (k : ℕ). placed k (r ∷ [])) (sym (add-zero at))
placed-push size at (x ∷ rs) r all =
    let after : ℕ = at + 9 + length x.body in
    ap (λ (ps : List (ℕ × Record)). (at, x) ∷ ps)
    (placed-push size after rs r all.1 ∙ ap (λ (k : ℕ). placed after rs ++ (k, r) ∷ []) (next_place size at x rs all.0))

spans_when : (b : Bool) (s : Span) (xs ys : List Span) → cond b (s ∷ xs) xs ++ ys ≡ cond b (s ∷ (xs ++ ys)) (xs ++ ys)
spans_when true s xs ys = refl
spans_when false s xs ys = refl

same_when : (b : Bool) (s : Span) (xs ys : List Span) → xs ≡ ys → cond b (s ∷ xs) xs ≡ cond b (s ∷ ys) ys
same_when b s xs ys e = ap (λ (zs : List Span). cond b (s ∷ zs) zs) e

segment_spans-push : (size : IdSize) (at : ℕ) (rs : List Record) (r : Record) → AllByRecursion (IsRecord size) rs
    → segment_spans at (rs ++ r ∷ []) ≡ segment_spans at rs ++ spans_of (at + length (flat_map record_text rs)) r.tag r.body
segment_spans-push size at [] r all = ap (λ (k : ℕ). spans_of k r.tag r.body) (sym (add-zero at))
segment_spans-push size at (x ∷ rs) r all =
    let after : ℕ = at + 9 + length x.body in
    let more = segment_spans-push size after rs r all.1 ∙ ap (λ (k : ℕ). segment_spans after rs ++ spans_of k r.tag r.body) (next_place size at x rs all.0) in
    same_when (is_segment x) (record { start = at + 9; len = length x.body }) _ _ more
    ∙ sym (spans_when (is_segment x) (record { start = at + 9; len = length x.body }) (segment_spans after rs)
    (spans_of (at + length (flat_map record_text (x ∷ rs))) r.tag r.body))

texts-push : (size : IdSize) (rs : List Record) (r : Record) → AllByRecursion (IsRecord size) rs
    → texts size (rs ++ r ∷ []) ≡ texts size rs ++ texts_of size (header_len + length (flat_map record_text rs)) r.tag r.body
texts-push size rs r all =
    ap (λ (ps : List (ℕ × Record)). filter_map (text_of size) ps) (placed-push size header_len rs r all)
    ∙ filter_map-append (text_of size) (placed header_len rs) ((header_len + length (flat_map record_text rs), r) ∷ [])

loads-push : (size : IdSize) (rs : List Record) (r : Record) → loads size (rs ++ r ∷ []) ≡ loads size rs ++ loads_of size r.tag r.body
loads-push size rs r = filter_map-append (load_of size) rs (r ∷ [])

flat_map-push : (rs : List Record) (r : Record) (after : List ℕ) → flat_map record_text (rs ++ r ∷ []) ++ after ≡ flat_map record_text rs
    ++ (record_text r ++ after)
flat_map-push rs r after =
    ap (λ (xs : List ℕ). xs ++ after)
    (flat_map-append record_text rs (r ∷ []) ∙ ap (λ (xs : List ℕ). flat_map record_text rs ++ xs) (append-nil (record_text r)))
    ∙ append_assoc (flat_map record_text rs) (record_text r) after

-- a record that was read has its fields
is_record : (size : IdSize) (rest : List ℕ) (tag : ℕ) (body after : List ℕ) (f : BeginsWithRecord size rest tag body after) → IsRecord size f.begins.r
is_record size rest tag body after f = record { framed = f.begins.framed; fields = rw (f.begins.tag_is, f.begins.body_is) f.fields }

module _ (size : IdSize) (bytes rest : List ℕ) (strings : List Text) (classes : List Load) (spans : List Span)
    (h : IsReadSoFar size bytes rest strings classes spans) where
  -- where what is left begins
  pub place : header_len + length (flat_map record_text h.records) ≡ length bytes - length rest
  place = omega (arith, front_len bytes rest h.records h.long h.whole)

  pub rest-le : length rest ≤ length bytes
  rest-le = omega (arith, front_len bytes rest h.records h.long h.whole)

  -- one record more was read
  pub step : (tag : ℕ) (body after : List ℕ) → BeginsWithRecord size rest tag body after
      → IsReadSoFar size bytes after (strings ++ texts_of size (length bytes - length rest) tag body) (classes ++ loads_of size tag body)
      (spans ++ spans_of (length bytes - length rest) tag body)
  step tag body after f =
      let r : Record = f.begins.r in
      record {
        long = h.long;
        records = h.records ++ r ∷ [];
        whole = h.whole ∙ ap (λ (xs : List ℕ). flat_map record_text h.records ++ xs) f.begins.whole ∙ sym (flat_map-push h.records r after);
        each = all_more size h.records r h.each (is_record size rest tag body after f);
        texts_are = rw (h.texts_are, ← place, ← f.begins.tag_is, ← f.begins.body_is) (sym (texts-push size h.records r h.each));
        loads_are = rw (h.loads_are, ← f.begins.tag_is, ← f.begins.body_is) (sym (loads-push size h.records r));
        spans_are = rw (h.spans_are, ← place, ← f.begins.tag_is, ← f.begins.body_is) (sym (segment_spans-push size header_len h.records r h.each));
      }

  -- no record can be read from what is left
  pub is_stuck : (cause : Cause) → HasHeader size bytes → IsStuckRecord size rest cause → IsRecordsFault bytes (fault cause (length bytes - length rest))
  is_stuck cause header stuck =
      in_a_record size header (record { records = h.records; rest = rest; whole = h.whole; each = h.each; stuck = stuck; place = sym place })

  -- nothing is left
  pub is_whole : HasHeader size bytes → rest ≡ [] → ReadsRecords bytes size strings classes spans
  is_whole header none = record {
    header = header;
    records = h.records;
    whole = record {
      whole = h.whole ∙ ap (λ (xs : List ℕ). flat_map record_text h.records ++ xs) none ∙ append-nil (flat_map record_text h.records);
      each =
          h.each;
    };
    strings_are = h.texts_are;
    loads_are = h.loads_are;
    spans = h.spans_are;
  }

-- a record that is whole, and shorter than its fields
pub is_short : (size : IdSize) (rest : List ℕ) (tag : ℕ) (body after : List ℕ) → BeginsWithFramed rest tag body after → length body < least_body size tag
    → IsStuckRecord size rest ShortRecord
is_short size rest tag body after f less = IsStuckRecord.short f.r after f.framed f.whole (rw (f.tag_is, f.body_is) less)
