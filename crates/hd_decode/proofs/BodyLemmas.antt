-- Reading the bodies of segments, one after another.
use Rattle.std.proofs.Common.{◌≡◌, ◌∙◌, ℕ, ◌+◌, ◌<◌, inl, inr, List, [], ◌∷◌, ◌++◌, length, take, drop, get_or, refl, sym, ap, subst, append_assoc}
use Rattle.std.proofs.lemmas.List.{append-nil, take_more, take-append-drop}
use Rattle.hd_terms.specs.declared.IdSize.{IdSize}
use Rattle.hd_terms.specs.declared.Span.{Span}
use Rattle.hd_terms.specs.declared.errors.ReadFault.{ReadFault}
use Rattle.hd_terms.specs.SubRecords.{SubRecord, Sub, subs_at, dump_subs_at}
use Rattle.hd_subs.specs.Reading.{AppendsSegment, IsSegmentFaultOrMemory}
use Rattle.hd_terms.specs.Classes.{bytes_of_span}
use Rattle.hd_decode.specs.Bodies.{AreBodies, ReadsBodies, IsBodiesFaultOrMemory}

module _ (size : IdSize) (bytes : List ℕ) where
  bodies-append : (spans others : List Span) (segments more : List (List SubRecord)) → AreBodies size bytes spans segments → AreBodies size bytes others more
      → AreBodies size bytes (spans ++ others) (segments ++ more)
  bodies-append [] others [] more front back = back
  bodies-append [] others (s ∷ segments) more front back = absurd front
  bodies-append (p ∷ spans) others [] more front back = absurd front
  bodies-append (p ∷ spans) others (s ∷ segments) more front back = (front.0, bodies-append spans others segments more front.1 back)

  subs-append : (spans others : List Span) (segments more : List (List SubRecord)) → AreBodies size bytes spans segments
      → dump_subs_at size (spans ++ others) (segments ++ more) ≡ dump_subs_at size spans segments ++ dump_subs_at size others more
  subs-append [] others [] more front = refl
  subs-append [] others (s ∷ segments) more front = absurd front
  subs-append (p ∷ spans) others [] more front = absurd front
  subs-append (p ∷ spans) others (s ∷ segments) more front =
      ap (λ (xs : List Sub). subs_at size p.start s ++ xs) (subs-append spans others segments more front.1)
      ∙ sym (append_assoc (subs_at size p.start s) (dump_subs_at size spans segments) (dump_subs_at size others more))

  -- the bodies of some spans, and then those of others
  pub reads-append : (spans others : List Span) (front back : List Sub) → ReadsBodies size bytes spans front → ReadsBodies size bytes others back
      → ReadsBodies size bytes (spans ++ others) (front ++ back)
  reads-append spans others front back h more = record {
    segments = h.segments ++ more.segments;
    whole = bodies-append spans others h.segments more.segments h.whole more.whole;
    list_is = ap (λ (xs : List Sub). xs ++ back) h.list_is ∙ ap (λ (xs : List Sub). dump_subs_at size spans h.segments ++ xs) more.list_is
        ∙ sym (subs-append spans others h.segments more.segments h.whole);
  }

  -- a fault of the first spans is the fault of all
  pub fault-in-front : (spans others : List Span) (f : ReadFault) → IsBodiesFaultOrMemory size bytes spans f
      → IsBodiesFaultOrMemory size bytes (spans ++ others) f
  fault-in-front spans others f (inl memory) = inl memory
  fault-in-front spans others f (inr h) = inr (record {
    before = h.before;
    span = h.span;
    after = h.after ++ others;
    segments = h.segments;
    spans_are = ap (λ (xs : List Span). xs ++ others) h.spans_are ∙ append_assoc h.before (h.span ∷ h.after) others;
    whole = h.whole;
    faulty = h.faulty;
  })

  -- so is a fault of the others, where the first have none
  pub fault-behind : (spans others : List Span) (list : List Sub) (f : ReadFault) → ReadsBodies size bytes spans list
      → IsBodiesFaultOrMemory size bytes others f → IsBodiesFaultOrMemory size bytes (spans ++ others) f
  fault-behind spans others list f h (inl memory) = inl memory
  fault-behind spans others list f h (inr fault) = inr (record {
    before = spans ++ fault.before;
    span = fault.span;
    after = fault.after;
    segments = h.segments ++ fault.segments;
    spans_are = ap (λ (xs : List Span). spans ++ xs) fault.spans_are ∙ sym (append_assoc spans fault.before (fault.span ∷ fault.after));
    whole = bodies-append spans fault.before h.segments fault.segments h.whole fault.whole;
    faulty = fault.faulty;
  })

  -- one more body
  reads-push : (spans : List Span) (span : Span) (old new : List Sub) → ReadsBodies size bytes spans old
      → AppendsSegment size span.start (bytes_of_span bytes span) old new → ReadsBodies size bytes (spans ++ span ∷ []) new
  reads-push spans span old new h more =
      let one : ReadsBodies size bytes (span ∷ []) (subs_at size span.start more.subs) =
      record { segments = more.subs ∷ []; whole = (more.whole, tt); list_is = sym (append-nil (subs_at size span.start more.subs)) } in
      subst (ReadsBodies size bytes (spans ++ span ∷ [])) (sym more.list_is) (reads-append spans (span ∷ []) old (subs_at size span.start more.subs) h one)

  pub reads-next : (spans : List Span) (i : ℕ) (d : Span) (old new : List Sub) → i < length spans → ReadsBodies size bytes (take i spans) old
      → AppendsSegment size (get_or spans i d).start (bytes_of_span bytes (get_or spans i d)) old new → ReadsBodies size bytes (take (i + 1) spans) new
  reads-next spans i d old new lt h more = rw (take_more spans i d lt) (reads-push (take i spans) (get_or spans i d) old new h more)

  -- a fault of one body is the fault of all, where those before it have none
  pub fault-here : (spans : List Span) (i : ℕ) (d : Span) (old : List Sub) (f : ReadFault) → i < length spans → ReadsBodies size bytes (take i spans) old
      → IsSegmentFaultOrMemory size (get_or spans i d).start (bytes_of_span bytes (get_or spans i d)) f → IsBodiesFaultOrMemory size bytes spans f
  fault-here spans i d old f lt h (inl memory) = inl memory
  fault-here spans i d old f lt h (inr faulty) = inr (record {
    before = take i spans;
    span = get_or spans i d;
    after = drop (i + 1) spans;
    segments = h.segments;
    spans_are = sym (take-append-drop (i + 1) spans) ∙ ap (λ (xs : List Span). xs ++ drop (i + 1) spans) (take_more spans i d lt)
        ∙ append_assoc (take i spans) (get_or spans i d ∷ []) (drop (i + 1) spans);
    whole = h.whole;
    faulty = faulty;
  })
