-- Where the bodies of segments lie in a file.
use Rattle.std.proofs.Common.{◌≡◌, ◌∙◌, ℕ, ◌+◌, ◌-◌, ◌≤◌, List, [], ◌∷◌, ◌++◌, length, take, drop, Bool, true, false, cond, sym, ap, subst, arith, append_assoc}
use Rattle.std.proofs.Common.{length-append, All}
use Rattle.std.specs.List.{AllZip, AllByRecursion, flat_map, filter}
use Rattle.std.proofs.lemmas.List.{length-drop, drop-drop}
use Rattle.std.proofs.lemmas.List.Elements.{All-nil, All-cons}
use Rattle.std.proofs.lemmas.List.Sums.{sum_by-append}
use Rattle.std.proofs.Math.Seq.{take-append_seam, drop-append_seam}
use Rattle.hd_terms.specs.declared.IdSize.{IdSize}
use Rattle.hd_terms.specs.declared.Span.{Span}
use Rattle.hd_terms.specs.Records.{Record, IsFramed, IsRecord, record_text, is_segment, segment_spans, largest_file}
use Rattle.hd_terms.specs.SubRecords.{SubRecord, AreSubRecords}
use Rattle.hd_terms.specs.Classes.{bytes_of_span}
use Rattle.hd_decode.specs.Bodies.{IsSpanWithin, AreBodies, span_total}

-- a record's body has this span
pub record IsBodyAt (bytes : List ℕ) (span : Span) (r : Record) : Type 0 where
  pub within : IsSpanWithin bytes span
  pub body : bytes_of_span bytes span ≡ r.body

case-zip : {A B : Type 0} (R : A → B → Type 0) (b : Bool) (x : A) (y : B) (xs : List A) (ys : List B) → R x y → AllZip R xs ys
    → AllZip R (cond b (x ∷ xs) xs) (cond b (y ∷ ys) ys)
case-zip R true x y xs ys here rest = (here, rest)
case-zip R false x y xs ys here rest = rest

case-total : (b : Bool) (s : Span) (spans : List Span) → span_total (cond b (s ∷ spans) spans) ≤ s.len + span_total spans
case-total true s spans = omega (arith, sum_by-append (λ (s : Span). s.len) (s ∷ []) spans)
case-total false s spans = omega arith

-- the bytes of a record before its body
abbrev head : Record → List ℕ
head r = r.tag ∷ r.time ++ r.size

length-head : (r : Record) → IsFramed r → length (head r) ≡ 9
length-head r is = omega (arith, length-append (r.tag ∷ r.time) r.size, is.time, is.size)

module _ (bytes : List ℕ) where
  -- a record at a place
  module _ (at : ℕ) (r : Record) (rest : List ℕ) (is : IsFramed r) (whole : drop at bytes ≡ record_text r ++ rest) where
    after_head : drop (at + 9) bytes ≡ r.body ++ rest
    after_head =
        sym (drop-drop 9 at bytes) ∙ ap (drop 9) (whole ∙ append_assoc (head r) r.body rest) ∙ ap (λ (n : ℕ). drop n (head r ++ (r.body ++ rest)))
        (sym (length-head r is))
        ∙ drop-append_seam (head r) (r.body ++ rest)

    pub after_body : drop (at + 9 + length r.body) bytes ≡ rest
    after_body = sym (drop-drop (length r.body) (at + 9) bytes) ∙ ap (drop (length r.body)) after_head ∙ drop-append_seam r.body rest

    pub ends : at + 9 + length r.body + length rest ≤ length bytes
    ends =
        let long : length (drop at bytes) ≡ 9 + length r.body + length rest =
        ap (λ (xs : List ℕ). length xs) whole ∙ length-append (record_text r) rest
        ∙ ap (λ (n : ℕ). n + length rest) (length-append (head r) r.body ∙ ap (λ (n : ℕ). n + length r.body) (length-head r is)) in
        omega (arith, length-drop at bytes, long)

  -- the records from a place on have their bodies at their spans
  pub bodies_at : (size : IdSize) → length bytes ≤ largest_file → (at : ℕ) (rs : List Record) → drop at bytes ≡ flat_map record_text rs
      → AllByRecursion (IsRecord size) rs → AllZip (IsBodyAt bytes) (segment_spans at rs) (filter is_segment rs)
  bodies_at size fits at [] whole each = tt
  bodies_at size fits at (r ∷ rs) whole each =
      let rest = flat_map record_text rs in
      case-zip (IsBodyAt bytes) (is_segment r) (record { start = at + 9; len = length r.body }) r (segment_spans (at + 9 + length r.body) rs)
      (filter is_segment rs)
      (record {
        within = record { start = omega (arith, ends at r rest each.0.framed whole); end = omega (arith, ends at r rest each.0.framed whole) };
        body = ap (take (length r.body)) (after_head at r rest each.0.framed whole) ∙ take-append_seam r.body rest;
      })
      (bodies_at size fits (at + 9 + length r.body) rs (after_body at r rest each.0.framed whole) each.1)

  -- the spans don't overlap
  pub total-le : (size : IdSize) (at : ℕ) (rs : List Record) → drop at bytes ≡ flat_map record_text rs → AllByRecursion (IsRecord size) rs
      → span_total (segment_spans at rs) ≤ length bytes - at
  total-le size at [] whole each = omega arith
  total-le size at (r ∷ rs) whole each =
      let rest = flat_map record_text rs in
      let here = case-total (is_segment r) (record { start = at + 9; len = length r.body }) (segment_spans (at + 9 + length r.body) rs) in
      let more = total-le size (at + 9 + length r.body) rs (after_body at r rest each.0.framed whole) each.1 in
      omega (arith, here, more, ends at r rest each.0.framed whole)

  -- the spans lie in the file
  pub all_within : (spans : List Span) (rs : List Record) → AllZip (IsBodyAt bytes) spans rs → All (IsSpanWithin bytes) spans
  all_within [] rs h = All-nil (IsSpanWithin bytes)
  all_within (s ∷ spans) [] h = absurd h
  all_within (s ∷ spans) (r ∷ rs) h = All-cons (IsSpanWithin bytes) s spans h.0.within (all_within spans rs h.1)

  -- sub-records of the spans' bytes are those of the records' bodies
  pub bodies_of_records : (size : IdSize) (spans : List Span) (rs : List Record) (segments : List (List SubRecord)) → AllZip (IsBodyAt bytes) spans rs
      → AreBodies size bytes spans segments
      → AllZip (λ (r : Record) (subs : List SubRecord). AreSubRecords size r.body subs) rs segments
  bodies_of_records size [] [] [] h all = tt
  bodies_of_records size [] [] (s ∷ segments) h all = absurd all
  bodies_of_records size [] (r ∷ rs) segments h all = absurd h
  bodies_of_records size (s ∷ spans) [] segments h all = absurd h
  bodies_of_records size (s ∷ spans) (r ∷ rs) [] h all = absurd all
  bodies_of_records size (s ∷ spans) (r ∷ rs) (subs ∷ segments) h all =
      (subst (λ (body : List ℕ). AreSubRecords size body subs) h.0.body all.0, bodies_of_records size spans rs segments h.1 all.1)
