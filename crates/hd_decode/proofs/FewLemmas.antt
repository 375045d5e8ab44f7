-- How many sub-records bodies have: at most one for each byte.
use Rattle.std.proofs.Common.{◌≡◌, ℕ, ◌+◌, ◌≤◌, List, [], ◌∷◌, length, drop, refl, ap, arith, length-append}
use Rattle.std.specs.List.{flat_map}
use Rattle.std.proofs.lemmas.List.{length-take}
use Rattle.std.proofs.lemmas.List.Sums.{sum_by-cons}
use Rattle.hd_terms.specs.declared.IdSize.{IdSize}
use Rattle.hd_terms.specs.declared.Span.{Span}
use Rattle.hd_terms.specs.SubRecords.{SubRecord, AreSubRecords, RootOf, ClassDump, InstanceDump, ObjectArray, PrimitiveArray, Sub, sub_record_text, subs_at}
use Rattle.hd_terms.specs.SubRecords.{dump_subs_at}
use Rattle.hd_terms.specs.Classes.{bytes_of_span}
use Rattle.hd_decode.specs.Bodies.{AreBodies, ReadsBodies, span_total}

-- a spelling has a tag
tag-byte : (s : SubRecord) → 1 ≤ length (sub_record_text s)
tag-byte (RootOf kind id more) = omega arith
tag-byte (ClassDump head constants statics fields) = omega arith
tag-byte (InstanceDump id serial class count values) = omega arith
tag-byte (ObjectArray id serial count class elements) = omega arith
tag-byte (PrimitiveArray id serial count element elements) = omega arith

subs-le-bytes : (subs : List SubRecord) → length subs ≤ length (flat_map sub_record_text subs)
subs-le-bytes [] = omega arith
subs-le-bytes (s ∷ subs) = omega (arith, length-append (sub_record_text s) (flat_map sub_record_text subs), tag-byte s, subs-le-bytes subs)

length-subs_at : (size : IdSize) (at : ℕ) (subs : List SubRecord) → length (subs_at size at subs) ≡ length subs
length-subs_at size at [] = refl
length-subs_at size at (s ∷ subs) = omega (arith, length-subs_at size (at + length (sub_record_text s)) subs)

module _ (size : IdSize) (bytes : List ℕ) where
  body-few : (span : Span) (subs : List SubRecord) → AreSubRecords size (bytes_of_span bytes span) subs → length subs ≤ span.len
  body-few span subs h = omega (arith, subs-le-bytes subs, ap (λ (xs : List ℕ). length xs) h.whole, length-take span.len (drop span.start bytes))

  dump-few : (spans : List Span) (segments : List (List SubRecord)) → AreBodies size bytes spans segments
      → length (dump_subs_at size spans segments) ≤ span_total spans
  dump-few [] [] h = omega arith
  dump-few [] (s ∷ segments) h = absurd h
  dump-few (p ∷ spans) [] h = absurd h
  dump-few (p ∷ spans) (s ∷ segments) h =
      omega (
        arith,
        length-append (subs_at size p.start s) (dump_subs_at size spans segments),
        length-subs_at size p.start s,
        body-few p s h.0,
        dump-few spans segments h.1,
        sum_by-cons (λ (x : Span). x.len) p spans,
      )

  pub subs-few : (spans : List Span) (list : List Sub) → ReadsBodies size bytes spans list → length list ≤ span_total spans
  subs-few spans list h = omega (arith, ap (λ (xs : List Sub). length xs) h.list_is, dump-few spans h.segments h.whole)
