-- The segments among the records of a file.
use Rattle.std.proofs.Common.{ℕ, ◌-◌, ◌≤◌, List, length, sym, subst, arith, All}
use Rattle.std.specs.List.{AllZip, filter}
use Rattle.hd_terms.specs.declared.IdSize.{IdSize}
use Rattle.hd_terms.specs.declared.Span.{Span}
use Rattle.hd_terms.specs.declared.Text.{Text}
use Rattle.hd_terms.specs.declared.Load.{Load}
use Rattle.hd_terms.specs.Records.{header_len, is_segment, largest_file}
use Rattle.hd_records.specs.Reading.{ReadsRecords}
use Rattle.hd_decode.specs.Bodies.{IsSpanWithin, span_total}
use Rattle.hd_decode.proofs.SpanLemmas.{IsBodyAt, bodies_at, all_within, total-le}

module _ (bytes : List ℕ) (size : IdSize) (strings : List Text) (classes : List Load) (spans : List Span)
    (r : ReadsRecords bytes size strings classes spans) where
  -- they lie where they are said to
  pub located : AllZip (IsBodyAt bytes) spans (filter is_segment r.records)
  located = subst (λ (ss : List Span). AllZip (IsBodyAt bytes) ss (filter is_segment r.records)) (sym r.spans)
      (bodies_at bytes size r.header.fits header_len r.records r.whole.whole r.whole.each)

  pub spans-within : All (IsSpanWithin bytes) spans
  spans-within = all_within bytes spans (filter is_segment r.records) located

  -- together they have no more bytes than a file that is read
  pub spans-few : span_total spans ≤ largest_file
  spans-few =
      let total : span_total spans ≤ length bytes - header_len = subst (λ (ss : List Span). span_total ss ≤ length bytes - header_len) (sym r.spans)
      (total-le bytes size header_len r.records r.whole.whole r.whole.each) in
      omega (arith, total, r.header.fits)
