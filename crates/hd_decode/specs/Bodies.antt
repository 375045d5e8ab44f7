-- The bodies of segments, by their spans in the file.
use Rattle.std.specs.Prelude.{◌≡◌, ◌⊎◌, ℕ, ◌+◌, ◌≤◌, List, ◌∷◌, ◌++◌, length, sum_by}
use Rattle.std.specs.List.{AllZip}
use Rattle.hd_terms.specs.declared.IdSize.{IdSize}
use Rattle.hd_terms.specs.declared.Span.{Span}
use Rattle.hd_terms.specs.declared.errors.Cause.TheVariants as causes
use Rattle.hd_terms.specs.declared.errors.ReadFault.{ReadFault}
use Rattle.hd_terms.specs.SubRecords.{SubRecord, AreSubRecords, Sub, dump_subs_at}
use Rattle.hd_terms.specs.Classes.{bytes_of_span}
use Rattle.hd_terms.specs.ReadFaults.{fault, IsSegmentFault}

-- the bytes of spans together
abbrev pub span_total : List Span → ℕ
span_total spans = sum_by (λ (s : Span). s.len) spans

-- a span lies in the file, and begins where sub-records may
pub record IsSpanWithin (bytes : List ℕ) (span : Span) : Type 0 where
  pub start : span.start ≤ 2147483647
  pub end : span.start + span.len ≤ length bytes

-- each span's bytes have these sub-records
abbrev pub AreBodies : IdSize → List ℕ → List Span → List (List SubRecord) → Type 0
AreBodies size bytes spans segments = AllZip (λ (span : Span) (subs : List SubRecord). AreSubRecords size (bytes_of_span bytes span) subs) spans segments

-- the spans' bytes have sub-records, and the list has them with their file offsets
pub record ReadsBodies (size : IdSize) (bytes : List ℕ) (spans : List Span) (list : List Sub) : Type 0 where
  pub segments : List (List SubRecord)
  pub whole : AreBodies size bytes spans segments
  pub list_is : list ≡ dump_subs_at size spans segments

-- the fault of the first span that has one
pub record IsBodiesFault (size : IdSize) (bytes : List ℕ) (spans : List Span) (f : ReadFault) : Type 0 where
  pub before : List Span
  pub span : Span
  pub after : List Span
  pub segments : List (List SubRecord)
  pub spans_are : spans ≡ before ++ span ∷ after
  pub whole : AreBodies size bytes before segments
  pub faulty : IsSegmentFault size span.start (bytes_of_span bytes span) f

-- out of memory, or the fault of the first body that has one
abbrev pub IsBodiesFaultOrMemory : IdSize → List ℕ → List Span → ReadFault → Type 0
IsBodiesFaultOrMemory size bytes spans f = (f ≡ fault causes.OutOfMemory 0) ⊎ IsBodiesFault size bytes spans f
