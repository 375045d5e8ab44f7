-- The dump of the sub-records of a file, from the list of them.
use Rattle.std.proofs.Common.{◌≡◌, ◌∙◌, ℕ, ◌+◌, ◌≤◌, List, [], ◌∷◌, ◌++◌, length, map, drop, Option, Some, refl, sym, ap, arith, append_assoc, length-append}
use Rattle.std.proofs.Common.{All}
use Rattle.std.specs.List.{AllByRecursion, flat_map, filter_map, cons_option}
use Rattle.std.proofs.lemmas.List.{map-append, drop-drop, take-append-drop, length-take}
use Rattle.std.proofs.lemmas.List.Elements.{filter_map-append, All-nil, All-cons, All-append}
use Rattle.std.proofs.lemmas.List.Sums.{sum_by-append}
use Rattle.std.proofs.Math.Seq.{drop-append_seam}
use Rattle.hd_terms.specs.declared.IdSize.{IdSize}
use Rattle.hd_terms.specs.declared.Span.{Span}
use Rattle.hd_terms.specs.SubRecords.{SubRecord, RootOf, ClassDump, InstanceDump, ObjectArray, PrimitiveArray, IsSubRecord, AreSubRecords, sub_record_text, Sub}
use Rattle.hd_terms.specs.SubRecords.{subs_at, dump_subs_at, item_at}
use Rattle.hd_terms.specs.Classes.{ClassTable, resolved_class}
use Rattle.hd_terms.specs.Dump.{Object, Root}
use Rattle.hd_terms.specs.Objects.{object_of}
use Rattle.hd_terms.specs.Roots.{root_of, roots_of}
use Rattle.hd_graph.specs.Shapes.{row_object, row_objects}
use Rattle.hd_graph.specs.ArrayRows.{ObjectEntry, entry_of, item_weight, weight, IsSubWithin, roots_in}
use Rattle.hd_terms.specs.Classes.{bytes_of_span}
use Rattle.hd_decode.specs.Bodies.{AreBodies, span_total}
use Rattle.hd_graph.proofs.RowLemmas.{id_of_entry, row_of_entry, shape_of_entry}
use Rattle.hd_graph.proofs.ClassLemmas.{class-object, class-within, class-links, class-heavy}
use Rattle.hd_graph.proofs.InstanceLemmas.{instance-object, instance-within, instance-class, instance-weight}
use Rattle.hd_graph.proofs.ArrayRowLemmas.{object_of_entry, array-object, array-within, array-class, array-weight, primitive-within, primitive-weight}

module _ (t : ClassTable) (bytes : List ℕ) (size : IdSize) where
  -- where the next sub-record begins
  next : (at : ℕ) (s : SubRecord) (ss : List SubRecord) (rest : List ℕ) → drop at bytes ≡ flat_map sub_record_text (s ∷ ss) ++ rest
      → drop (at + length (sub_record_text s)) bytes ≡ flat_map sub_record_text ss ++ rest
  next at s ss rest whole =
      sym (drop-drop (length (sub_record_text s)) at bytes)
      ∙ ap (drop (length (sub_record_text s))) (whole ∙ append_assoc (sub_record_text s) (flat_map sub_record_text ss) rest)
      ∙ drop-append_seam (sub_record_text s) (flat_map sub_record_text ss ++ rest)

  here : (at : ℕ) (s : SubRecord) (ss : List SubRecord) (rest : List ℕ) → drop at bytes ≡ flat_map sub_record_text (s ∷ ss) ++ rest
      → drop at bytes ≡ sub_record_text s ++ (flat_map sub_record_text ss ++ rest)
  here at s ss rest whole = whole ∙ append_assoc (sub_record_text s) (flat_map sub_record_text ss) rest

  objects_at : (at : ℕ) (ss : List SubRecord) (rest : List ℕ) → drop at bytes ≡ flat_map sub_record_text ss ++ rest → AllByRecursion (IsSubRecord size) ss
      → map object_of_entry (filter_map (entry_of (resolved_class t) bytes size) (subs_at size at ss)) ≡ filter_map (object_of t size) ss
  objects_at at [] rest whole each = refl
  objects_at at (RootOf kind id more ∷ ss) rest whole each = objects_at (at + length (sub_record_text (RootOf kind id more))) ss rest
      (next at (RootOf kind id more) ss rest whole) each.1
  objects_at at (ObjectArray id serial count class elements ∷ ss) rest whole each =
      let s = ObjectArray id serial count class elements in
      let x = array-object bytes size at id serial count class elements (flat_map sub_record_text ss ++ rest) each.0 (here at s ss rest whole) t in
      let more = objects_at (at + length (sub_record_text s)) ss rest (next at s ss rest whole) each.1 in
      ap (cons_option (Some _)) more ∙ ap (λ (o : Option Object). cons_option o (filter_map (object_of t size) ss)) x
  objects_at at (ClassDump head constants statics fields ∷ ss) rest whole each =
      let s = ClassDump head constants statics fields in
      let x = class-object bytes size at head constants statics fields (flat_map sub_record_text ss ++ rest) each.0 (here at s ss rest whole) t in
      let more = objects_at (at + length (sub_record_text s)) ss rest (next at s ss rest whole) each.1 in
      ap (cons_option (Some _)) more ∙ ap (λ (o : Option Object). cons_option o (filter_map (object_of t size) ss)) x
  objects_at at (InstanceDump id serial class count values ∷ ss) rest whole each =
      let s = InstanceDump id serial class count values in
      let x = instance-object bytes size t at id serial class count values (flat_map sub_record_text ss ++ rest) each.0 (here at s ss rest whole) in
      let more = objects_at (at + length (sub_record_text s)) ss rest (next at s ss rest whole) each.1 in
      ap (cons_option (Some _)) more ∙ ap (λ (o : Option Object). cons_option o (filter_map (object_of t size) ss)) x
  objects_at at (PrimitiveArray id serial count element elements ∷ ss) rest whole each =
      let s = PrimitiveArray id serial count element elements in
      ap (cons_option (Some _)) (objects_at (at + length (sub_record_text s)) ss rest (next at s ss rest whole) each.1)

  within_at : (at : ℕ) (ss : List SubRecord) (rest : List ℕ) → drop at bytes ≡ flat_map sub_record_text ss ++ rest → AllByRecursion (IsSubRecord size) ss
      → All (IsSubWithin size bytes) (subs_at size at ss)
  within_at at [] rest whole each = All-nil (IsSubWithin size bytes)
  within_at at (RootOf kind id more ∷ ss) rest whole each =
      All-cons (IsSubWithin size bytes) _ _ tt
      (within_at (at + length (sub_record_text (RootOf kind id more))) ss rest (next at (RootOf kind id more) ss rest whole) each.1)
  within_at at (ObjectArray id serial count class elements ∷ ss) rest whole each =
      let s = ObjectArray id serial count class elements in
      All-cons (IsSubWithin size bytes) _ _ (
        array-within bytes size at id serial count class elements (flat_map sub_record_text ss ++ rest) each.0
            (here at s ss rest whole),
        array-class bytes size at id serial count class elements (flat_map sub_record_text ss ++ rest) each.0
            (here at s ss rest whole),
      )
      (within_at (at + length (sub_record_text s)) ss rest (next at s ss rest whole) each.1)
  within_at at (ClassDump head constants statics fields ∷ ss) rest whole each =
      let s = ClassDump head constants statics fields in
      All-cons (IsSubWithin size bytes) _ _ (
        class-within bytes size at head constants statics fields (flat_map sub_record_text ss ++ rest) each.0
            (here at s ss rest whole),
        class-links bytes size at head constants statics fields (flat_map sub_record_text ss ++ rest) each.0
            (here at s ss rest whole),
      )
      (within_at (at + length (sub_record_text s)) ss rest (next at s ss rest whole) each.1)
  within_at at (InstanceDump id serial class count values ∷ ss) rest whole each =
      let s = InstanceDump id serial class count values in
      All-cons (IsSubWithin size bytes) _ _ (
        instance-within bytes size t at id serial class count values (flat_map sub_record_text ss ++ rest) each.0
            (here at s ss rest whole),
        instance-class bytes size t at id serial class count values (flat_map sub_record_text ss ++ rest) each.0
            (here at s ss rest whole),
      )
      (within_at (at + length (sub_record_text s)) ss rest (next at s ss rest whole) each.1)
  within_at at (PrimitiveArray id serial count element elements ∷ ss) rest whole each =
      let s = PrimitiveArray id serial count element elements in
      All-cons (IsSubWithin size bytes) _ _
      (primitive-within bytes size at id serial count element elements (flat_map sub_record_text ss ++ rest) each.0 (here at s ss rest whole))
      (within_at (at + length (sub_record_text s)) ss rest (next at s ss rest whole) each.1)

  pub weight-cons : (s : Sub) (list : List Sub) → weight (s ∷ list) ≡ item_weight s.item + weight list
  weight-cons s list = omega (arith, sum_by-append (λ (x : Sub). item_weight x.item) (s ∷ []) list)

  weight_at : (at : ℕ) (ss : List SubRecord) (rest : List ℕ) → drop at bytes ≡ flat_map sub_record_text ss ++ rest → AllByRecursion (IsSubRecord size) ss
      → weight (subs_at size at ss) ≤ length (flat_map sub_record_text ss)
  weight_at at [] rest whole each = omega arith
  weight_at at (RootOf kind id more ∷ ss) rest whole each =
      let s = RootOf kind id more in
      let more = weight_at (at + length (sub_record_text s)) ss rest (next at s ss rest whole) each.1 in
      omega (
        arith,
        weight-cons (record { offset = at; item = item_at size at s }) (subs_at size (at + length (sub_record_text s)) ss),
        more,
        length-append
            (sub_record_text s) (flat_map sub_record_text ss),
      )
  weight_at at (ObjectArray id serial count class elements ∷ ss) rest whole each =
      let s = ObjectArray id serial count class elements in
      let more = weight_at (at + length (sub_record_text s)) ss rest (next at s ss rest whole) each.1 in
      let first = array-weight bytes size at id serial count class elements (flat_map sub_record_text ss ++ rest) each.0 (here at s ss rest whole) in
      omega (
        arith,
        weight-cons (record { offset = at; item = item_at size at s })
            (subs_at size (at + length (sub_record_text s)) ss),
        more,
        first,
        length-append (sub_record_text s) (flat_map sub_record_text ss),
      )
  weight_at at (ClassDump head constants statics fields ∷ ss) rest whole each =
      let s = ClassDump head constants statics fields in
      let more = weight_at (at + length (sub_record_text s)) ss rest (next at s ss rest whole) each.1 in
      let first = class-heavy bytes size at head constants statics fields (flat_map sub_record_text ss ++ rest) each.0 (here at s ss rest whole) in
      omega (
        arith,
        weight-cons (record { offset = at; item = item_at size at s })
            (subs_at size (at + length (sub_record_text s)) ss),
        more,
        first,
        length-append (sub_record_text s) (flat_map sub_record_text ss),
      )
  weight_at at (InstanceDump id serial class count values ∷ ss) rest whole each =
      let s = InstanceDump id serial class count values in
      let more = weight_at (at + length (sub_record_text s)) ss rest (next at s ss rest whole) each.1 in
      let first = instance-weight bytes size t at id serial class count values (flat_map sub_record_text ss ++ rest) each.0 (here at s ss rest whole) in
      omega (
        arith,
        weight-cons (record { offset = at; item = item_at size at s })
            (subs_at size (at + length (sub_record_text s)) ss),
        more,
        first,
        length-append (sub_record_text s) (flat_map sub_record_text ss),
      )
  weight_at at (PrimitiveArray id serial count element elements ∷ ss) rest whole each =
      let s = PrimitiveArray id serial count element elements in
      let more = weight_at (at + length (sub_record_text s)) ss rest (next at s ss rest whole) each.1 in
      let first = primitive-weight bytes size at id serial count element elements (flat_map sub_record_text ss ++ rest) each.0 (here at s ss rest whole) in
      omega (
        arith,
        weight-cons (record { offset = at; item = item_at size at s })
            (subs_at size (at + length (sub_record_text s)) ss),
        more,
        first,
        length-append (sub_record_text s) (flat_map sub_record_text ss),
      )

  roots_at : (at : ℕ) (ss : List SubRecord) → roots_in (subs_at size at ss) ≡ roots_of size ss
  roots_at at [] = refl
  roots_at at (RootOf kind id more ∷ ss) = ap (cons_option (Some _)) (roots_at (at + length (sub_record_text (RootOf kind id more))) ss)
  roots_at at (ClassDump head constants statics fields ∷ ss) = roots_at (at + length (sub_record_text (ClassDump head constants statics fields))) ss
  roots_at at (InstanceDump id serial class count values ∷ ss) = roots_at (at + length (sub_record_text (InstanceDump id serial class count values))) ss
  roots_at at (PrimitiveArray id serial count element elements ∷ ss) =
      roots_at (at + length (sub_record_text (PrimitiveArray id serial count element elements))) ss
  roots_at at (ObjectArray id serial count class elements ∷ ss) = roots_at (at + length (sub_record_text (ObjectArray id serial count class elements))) ss

  -- the bytes of a span, and those after it
  from_span : (span : Span) (ss : List SubRecord) → AreSubRecords size (bytes_of_span bytes span) ss → drop span.start bytes ≡ flat_map sub_record_text ss
      ++ drop span.len (drop span.start bytes)
  from_span span ss h = sym (take-append-drop span.len (drop span.start bytes)) ∙ ap (λ (xs : List ℕ). xs ++ drop span.len (drop span.start bytes)) h.whole

  abbrev pub all_of : List (List SubRecord) → List SubRecord
  all_of segments = flat_map (λ (ss : List SubRecord). ss) segments

  pub objects_in : (spans : List Span) (segments : List (List SubRecord)) → AreBodies size bytes spans segments
      → map object_of_entry (filter_map (entry_of (resolved_class t) bytes size) (dump_subs_at size spans segments)) ≡ filter_map (object_of t size)
      (all_of segments)
  objects_in [] [] all = refl
  objects_in [] (s ∷ segments) all = absurd all
  objects_in (p ∷ spans) [] all = absurd all
  objects_in (p ∷ spans) (s ∷ segments) all =
      ap (map object_of_entry) (filter_map-append (entry_of (resolved_class t) bytes size) (subs_at size p.start s) (dump_subs_at size spans segments))
      ∙ map-append object_of_entry (filter_map (entry_of (resolved_class t) bytes size) (subs_at size p.start s))
      (filter_map (entry_of (resolved_class t) bytes size) (dump_subs_at size spans segments))
      ∙ ap (λ (xs : List Object). xs ++ map object_of_entry (filter_map (entry_of (resolved_class t) bytes size) (dump_subs_at size spans segments)))
      (objects_at p.start s _ (from_span p s all.0) all.0.each)
      ∙ ap (λ (xs : List Object). filter_map (object_of t size) s ++ xs) (objects_in spans segments all.1)
      ∙ sym (filter_map-append (object_of t size) s (all_of segments))

  pub roots_all : (spans : List Span) (segments : List (List SubRecord)) → AreBodies size bytes spans segments
      → roots_in (dump_subs_at size spans segments) ≡ roots_of size (all_of segments)
  roots_all [] [] all = refl
  roots_all [] (s ∷ segments) all = absurd all
  roots_all (p ∷ spans) [] all = absurd all
  roots_all (p ∷ spans) (s ∷ segments) all =
      filter_map-append _ (subs_at size p.start s) (dump_subs_at size spans segments)
      ∙ ap (λ (xs : List Root). xs ++ roots_in (dump_subs_at size spans segments)) (roots_at p.start s)
      ∙ ap (λ (xs : List Root). roots_of size s ++ xs) (roots_all spans segments all.1)
      ∙ sym (filter_map-append (root_of size) s (all_of segments))

  pub within_all : (spans : List Span) (segments : List (List SubRecord)) → AreBodies size bytes spans segments
      → All (IsSubWithin size bytes) (dump_subs_at size spans segments)
  within_all [] [] all = All-nil (IsSubWithin size bytes)
  within_all [] (s ∷ segments) all = absurd all
  within_all (p ∷ spans) [] all = absurd all
  within_all (p ∷ spans) (s ∷ segments) all =
      All-append (IsSubWithin size bytes) (subs_at size p.start s) (dump_subs_at size spans segments) (within_at p.start s _ (from_span p s all.0) all.0.each)
      (within_all spans segments all.1)

  total-cons : (p : Span) (spans : List Span) → span_total (p ∷ spans) ≡ p.len + span_total spans
  total-cons p spans = omega (arith, sum_by-append (λ (s : Span). s.len) (p ∷ []) spans)

  pub weight_all : (spans : List Span) (segments : List (List SubRecord)) → AreBodies size bytes spans segments
      → weight (dump_subs_at size spans segments) ≤ span_total spans
  weight_all [] [] all = omega arith
  weight_all [] (s ∷ segments) all = absurd all
  weight_all (p ∷ spans) [] all = absurd all
  weight_all (p ∷ spans) (s ∷ segments) all =
      let first = weight_at p.start s _ (from_span p s all.0) all.0.each in
      let long : length (flat_map sub_record_text s) ≤ p.len =
      omega (arith, ap (λ (xs : List ℕ). length xs) all.0.whole, length-take p.len (drop p.start bytes)) in
      omega (
        arith,
        first,
        long,
        weight_all spans segments all.1,
        total-cons p spans,
        sum_by-append (λ (x : Sub). item_weight x.item) (subs_at size p.start s)
            (dump_subs_at size spans segments),
      )

-- objects of IDs, rows and shapes that come together
pub row_objects-entries : (xs : List ObjectEntry) → row_objects (map shape_of_entry xs) (map id_of_entry xs) (map row_of_entry xs) ≡ map object_of_entry xs
row_objects-entries [] = refl
row_objects-entries (x ∷ xs) = ap (λ (ys : List Object). row_object x.2 x.0 x.1 ∷ ys) (row_objects-entries xs)
