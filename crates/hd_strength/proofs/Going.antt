use Rattle.std.proofs.Common.{◌≡◌, ◌∙◌, ℕ, ◌+◌, ◌-◌, ◌<◌, ◌≤◌, ◌⊎◌, inl, inr, Bool, List, Contains, length, set, Some, slice_get, refl, sym, ap, subst, arith}
use Rattle.std.proofs.lemmas.Bool.{cases_eq}
use Rattle.std.proofs.lemmas.List.{set-set}
use Rattle.std.proofs.lemmas.List.Elements.{Contains-push, Contains-push_cases, Contains-append_left}
use Rattle.std.specs.Prelude.{[], ◌∷◌}
use Rattle.hd_terms.specs.declared.Event.{Event}
use Rattle.hd_terms.specs.declared.Strength.{Strength}
use Rattle.hd_terms.specs.Ranks.{rank, given_by, weaker_of, IsPassedOn}
use Rattle.hd_terms.proofs.RankLemmas.{least-positive, same_rank, weaker-le_left}
use Rattle.hd_terms.specs.Paths.{Edge}
use Rattle.hd_terms.specs.Dump.{Dump}
use Rattle.hd_terms.specs.EditedDump.{standing}
use Rattle.hd_terms.specs.Settled.{Reached, reached_at}
use Rattle.hd_strength.specs.declared.buckets.Offer.{Offer}
use Rattle.hd_strength.specs.declared.buckets.Buckets.{Buckets}
use Rattle.hd_strength.specs.declared.part.Part.{Part}
use Rattle.hd_strength.specs.Buckets.{bucket, AddsTo}
use Rattle.hd_strength.specs.Found.{Findings, seen}
use Rattle.hd_strength.specs.Rows.{width, edge_at}
use Rattle.hd_strength.specs.Growing.{rank_at, offered_strength, offer_at, IsBacked, IsHadOrPromised, unreached_count}
use Rattle.hd_strength.specs.Parts.{IsOwn, found_at, unreached_of, to_do, IsOfferedIn, IsDoneIn, IsFit, IsSearching, AreSearching, IsAny, IsBelow, GoesOn}
use Rattle.hd_strength.specs.Parts.{HasGoneOn, HasRelaxed, IsSameBut, IsTakenOut, HasNoneQueued, IsPassedOver, IsAccepted, IsOffered, IsSlotRelaxed, Reaches}
use Rattle.hd_strength.proofs.RowLemmas.{at_source, is_at}
use Rattle.hd_strength.proofs.Rowed.{slice_get-set_same, set-there}
use Rattle.hd_strength.proofs.Grow.{still_had, less_had, weaken, offer, offered_strength-le}
use Rattle.hd_strength.proofs.Spreading.{own_strength, own_rank, offers_stay, offers_within, offered_cases, here_after, done_before, not_queued_after}
use Rattle.hd_strength.proofs.Spreading.{unchanged}
use Rattle.hd_strength.proofs.Accepting.{accepted, kept_after, target_after, no_more, own_after, still, fit_after}

-- two steps after one another
pub goes_on_after : (dump : Dump) (log : List Event) (s : Strength) (D E F : ℕ → ℕ → Type 0) (a b c : Part) → GoesOn dump log s D E a b
    → GoesOn dump log s E F b c → GoesOn dump log s D F a c
goes_on_after dump log s D E F a b c first second whole parts k there h =
    subst (AreSearching dump log whole s (rank s + 1) F) (set-set parts k b c)
    (second whole (set parts k b) k (slice_get-set_same parts k a b there) (first whole parts k there h))

pub gone_on_after : (dump : Dump) (log : List Event) (s : Strength) (D E F : ℕ → ℕ → Type 0) (a b c : Part) → HasGoneOn dump log s D E a b
    → HasGoneOn dump log s E F b c → HasGoneOn dump log s D F a c
gone_on_after dump log s D E F a b c first second = record {
  fit = second.fit;
  goes_on = goes_on_after dump log s D E F a b c first.goes_on second.goes_on;
  no_more = omega (arith, first.no_more, second.no_more);
}

-- a part that finds the same as another
module _ (old new : Part) (first : new.first ≡ old.first) (found : new.found ≡ old.found) where
  pub own_same_back : (o : ℕ) → IsOwn old o → IsOwn new o
  own_same_back o own = record { first = omega (arith, first, own.first); last = omega (arith, first, own.last, ap (λ (f : Findings). length f.list) found) }

  pub found_same : (o : ℕ) → found_at new o ≡ found_at old o
  found_same o = ap (λ (n : ℕ). reached_at new.found.list (o - n)) first ∙ ap (λ (f : Findings). reached_at f.list (o - old.first)) found

  pub unreached_same : unreached_of new ≡ unreached_of old
  unreached_same = ap (λ (f : Findings). unreached_count f.list) found

-- a part whose queue alone may differ
module _ (dump : Dump) (log : List Event) (s : Strength) (old new : Part) (same : IsSameBut old new) where
  -- it says for itself what the other did, where no more is queued
  pub fit_same : ((o : ℕ) → Contains new.queue o → Contains old.queue o) → IsFit dump s old → IsFit dump s new
  fit_same queue f = record {
    within = omega (arith, f.within, same.first, ap (λ (f : Findings). length f.list) same.found);
    few = f.few;
    queued = λ o c.
        let was = f.queued o (queue o c) in
        (own_same_back old new same.first same.found o was.0, ap (λ (k : Reached). k.strength) (found_same old new same.first same.found o) ∙ was.1, was.2);
    room = omega (arith, f.room, same.count, unreached_same old new same.first same.found);
    offered = λ u y c. own_same_back old new same.first same.found y.source (f.offered u y (subst (λ (b : Buckets). Contains (bucket b u) y) same.buckets c));
  }

  module _ (D D' : ℕ → ℕ → Type 0) (whole : Bool) (parts : List Part) (k : ℕ) (there : slice_get parts k ≡ Some old)
      (h : AreSearching dump log whole s (rank s + 1) D parts) where
    abbrev after : List Part
    after = set parts k new

    stay : (u : Strength) (y : Offer) → IsOfferedIn parts u y → IsOfferedIn after u y
    stay = offers_stay parts k old new there (λ u y c. subst (λ (b : Buckets). Contains (bucket b u) y) (sym same.buckets) c)

    within : (u : Strength) (y : Offer) → IsOfferedIn after u y → IsOfferedIn parts u y
    within = offers_within parts k old new there (λ u y c. subst (λ (b : Buckets). Contains (bucket b u) y) same.buckets c)

    -- the search goes on, where what is done was done
    pub same_goes_on : ((o : ℕ) → Contains new.queue o → Contains old.queue o)
        → ((o i : ℕ) → (Contains new.queue o → ⊥) → D' o i → (Contains old.queue o → ⊥) × D o i) → AreSearching dump log whole s (rank s + 1) D' after
    same_goes_on queue part = record {
      kept = h.kept;
      holds = unchanged dump log parts h.kept whole s (rank s + 1) D k old new h.holds there same.first (ap (λ (f : Findings). length f.list) same.found)
          (rank s + 1) D' same.found same.count
          (weaken (standing dump log) (edge_at dump log) h.kept (IsOfferedIn after) s (rank s + 1) (λ o i. IsDoneIn parts o × D o i)
          (λ o i. IsDoneIn after o × D' o i)
          (offer (standing dump log) (edge_at dump log) h.kept (IsOfferedIn parts) (IsOfferedIn after) s (rank s + 1) (rank s + 1)
          (λ o i. IsDoneIn parts o × D o i) h.holds.growing (omega arith) stay (λ u y c. inl (within u y c)))
          (λ o i e done there' p.
          let was = part o i (not_queued_after parts k old new there o done.0) done.1 in
          inl (done_before parts k old new there o done.0 was.0, was.1)))
          (fit_same queue (h.holds.each k old there).fit)
          (still_had (edge_at dump log) h.kept h.kept (IsOfferedIn parts) (IsOfferedIn after) (λ o. omega arith) stay)
          (λ o flag. still_had (edge_at dump log) h.kept h.kept (IsOfferedIn parts) (IsOfferedIn after) (λ o. omega arith) stay (rank s) o
          ((h.holds.each k old there).handed o (same.handed o flag)));
    }

-- a part that is as it was goes on
pub rested : (dump : Dump) (log : List Event) (s : Strength) (D : ℕ → ℕ → Type 0) (old new : Part) → IsFit dump s old → IsSameBut old new
    → new.queue ≡ old.queue → HasGoneOn dump log s D D old new
rested dump log s D old new f same queue = record {
  fit = fit_same dump log s old new same (λ o c. subst (λ (xs : List ℕ). Contains xs o) queue c) f;
  goes_on = λ whole parts k there h. same_goes_on dump log s old new same D D whole parts k there h (λ o c. subst (λ (xs : List ℕ). Contains xs o) queue c)
      (λ o i apart d. (λ c. apart (subst (λ (xs : List ℕ). Contains xs o) (sym queue) c), d));
  no_more = omega (arith, unreached_same old new same.first same.found, ap length queue);
}

-- an object is taken out of the queue
pub taken_out : (dump : Dump) (log : List Event) (s : Strength) (old new : Part) (o : ℕ) → IsFit dump s old → IsTakenOut old new o
    → HasGoneOn dump log s IsAny (IsBelow o 0) old new
taken_out dump log s old new o f t = record {
  fit = fit_same dump log s old new t.same t.taken.before f;
  goes_on = λ whole parts k there h. same_goes_on dump log s old new t.same IsAny (IsBelow o 0) whole parts k there h t.taken.before
      (λ p i apart below. (
        λ c. elim (t.taken.left p c) [
          | inl is ↦ let lt : i < 0 = below is in absurd (omega arith)
          | inr later ↦ apart later
        ],
        record {},
      ));
  no_more = omega (arith, unreached_same old new t.same.first t.same.found, t.taken.one_less);
}

-- there is less to do then
pub taken-less : (old new : Part) (o : ℕ) → IsTakenOut old new o → to_do new < to_do old
taken-less old new o t = omega (arith, unreached_same old new t.same.first t.same.found, t.taken.one_less)

-- one more slot is done, by a fact of its own
pub slot_done : (dump : Dump) (log : List Event) (whole : Bool) (s : Strength) (limit : ℕ) (o i : ℕ) (parts : List Part) (ks : List Reached)
    → IsSearching dump log parts ks whole s limit (IsBelow o i)
    → ((e : Edge) → edge_at dump log o i ≡ Some e → IsHadOrPromised (edge_at dump log) ks (IsOfferedIn parts) (rank (offered_strength ks e)) e.target)
    → IsSearching dump log parts ks whole s limit (IsBelow o (i + 1))
slot_done dump log whole s limit o i parts ks h fact = record {
  growing = weaken (standing dump log) (edge_at dump log) ks (IsOfferedIn parts) s limit (λ p j. IsDoneIn parts p × IsBelow o i p j)
      (λ p j. IsDoneIn parts p × IsBelow o (i + 1) p j) h.growing
      (λ p j e done is passes. elim (cases_eq p o) [
        | inr other ↦ inl (done.0, λ same. absurd (other same))
        | inl same ↦ elim (cases_eq j i) [
          | inr before ↦ let lt : j < i + 1 = done.1 same in inl (done.0, λ same. omega arith)
          | inl last ↦ inr (fact e (subst (λ (j : ℕ). edge_at dump log o j ≡ Some e) last (subst (λ (p : ℕ). edge_at dump log p j ≡ Some e) same is)))
        ]
      ]);
  each = h.each;
  row = h.row;
  objects = h.objects;
}

-- all slots of an object are done
pub row_done : (dump : Dump) (log : List Event) (s : Strength) (o n : ℕ) (p : Part) → IsFit dump s p → width dump o ≤ n
    → HasGoneOn dump log s (IsBelow o n) IsAny p p
row_done dump log s o n part f le = record {
  fit = f;
  goes_on = λ whole parts k there h. record {
    kept = h.kept;
    holds = subst (λ (ps : List Part). IsSearching dump log ps h.kept whole s (rank s + 1) IsAny) (sym (set-there parts k part there)) (record {
      growing = weaken (standing dump log) (edge_at dump log) h.kept (IsOfferedIn parts) s (rank s + 1) (λ p j. IsDoneIn parts p × IsBelow o n p j)
          (λ p j. IsDoneIn parts p × IsAny p j) h.holds.growing
          (λ p i e done is passes. inl (
            done.0,
            λ same.
                let lt : i < width dump o = (is_at dump log o i e (subst (λ (p : ℕ). edge_at dump log p i ≡ Some e) same is)).within in
                omega arith,
          ));
      each = h.holds.each;
      row = h.holds.row;
      objects = h.holds.objects;
    });
  };
  no_more = omega arith;
}

-- an offer is added to a bucket
module _ (old new : Buckets) (t : Strength) (x : Offer) (adds : AddsTo old new t x) where
  pub added_here : Contains (bucket new t) x
  added_here = subst (λ (xs : List Offer). Contains xs x) (sym adds.here) (Contains-push (bucket old t) x)

  pub added_stay : (r : Strength) (y : Offer) → Contains (bucket old r) y → Contains (bucket new r) y
  added_stay r y c = elim (cases_eq (rank r) (rank t)) [
    | inl one ↦
        let same : r ≡ t = same_rank r t one in
        subst (λ (r : Strength). Contains (bucket new r) y) (sym same)
        (subst (λ (xs : List Offer). Contains xs y) (sym adds.here)
        (Contains-append_left (bucket old t) (x ∷ []) y (subst (λ (r : Strength). Contains (bucket old r) y) same c)))
    | inr other ↦ subst (λ (xs : List Offer). Contains xs y) (sym (adds.others r (λ same. other (ap rank same)))) c
  ]

  pub added_cases : (r : Strength) (y : Offer) → Contains (bucket new r) y → Contains (bucket old r) y ⊎ ((r ≡ t) × (y ≡ x))
  added_cases r y c = elim (cases_eq (rank r) (rank t)) [
    | inl one ↦
        let same : r ≡ t = same_rank r t one in
        elim (Contains-push_cases (bucket old t) x y
        (subst (λ (xs : List Offer). Contains xs y) adds.here (subst (λ (r : Strength). Contains (bucket new r) y) same c))) [
          | inl before ↦ inl (subst (λ (r : Strength). Contains (bucket old r) y) (sym same) before)
          | inr is ↦ inr (same, sym is)
        ]
    | inr other ↦ inl (subst (λ (xs : List Offer). Contains xs y) (adds.others r (λ same. other (ap rank same))) c)
  ]

-- a step that looks at one more slot of an object of the part
module _ (dump : Dump) (log : List Event) (s : Strength) (old new : Part) (o i : ℕ) (f : IsFit dump s old) (own : IsOwn old o)
    (source : (found_at old o).strength ≡ s) (passes : IsPassedOn dump.mode s) where
  -- what the object gives
  given_is : (parts : List Part) (ks : List Reached) (whole : Bool) (k : ℕ) (D : ℕ → ℕ → Type 0) → IsSearching dump log parts ks whole s (rank s + 1) D
      → slice_get parts k ≡ Some old → (e : Edge) → edge_at dump log o i ≡ Some e
      → offered_strength ks e ≡ weaker_of s (given_by e.kind)
  given_is parts ks whole k D h there e is =
      ap (λ (n : ℕ). weaker_of (reached_at ks n).strength (given_by e.kind)) (at_source dump log o i e is)
      ∙ ap (λ (t : Strength). weaker_of t (given_by e.kind)) (sym (own_strength dump log parts ks whole s (rank s + 1) D k old h there o own) ∙ source)

  some : 1 ≤ rank s
  some = omega (arith, passes, least-positive dump.mode)

  -- its target is known already
  pub passed_over : IsPassedOver (edge_at dump log) old new o i → HasGoneOn dump log s (IsBelow o i) (IsBelow o (i + 1)) old new
  passed_over d = subst (λ (n : Part). HasGoneOn dump log s (IsBelow o i) (IsBelow o (i + 1)) old n) (sym d.same) (record {
    fit = f;
    goes_on = λ whole parts k there h. record {
      kept = h.kept;
      holds = subst (λ (ps : List Part). IsSearching dump log ps h.kept whole s (rank s + 1) (IsBelow o (i + 1))) (sym (set-there parts k old there))
          (slot_done dump log whole s (rank s + 1) o i parts h.kept h.holds (λ e is.
          let le : rank (offered_strength h.kept e) ≤ rank s =
          omega (arith, ap rank (given_is parts h.kept whole k (IsBelow o i) h.holds there e is), weaker-le_left s (given_by e.kind)) in
          less_had (edge_at dump log) h.kept (IsOfferedIn parts) (rank s) (rank (offered_strength h.kept e)) e.target le (elim (d.known e is).by [
            | inl reached ↦ inl (h.holds.growing.floor e.target
                (omega (arith, reached.1, own_rank dump log parts h.kept whole s (rank s + 1) (IsBelow o i) k old h.holds there e.target reached.0)))
            | inr flag ↦ (h.holds.each k old there).handed e.target flag
          ])));
    };
    no_more = omega arith;
  })

  -- its target takes what it gives
  module _ (a : IsAccepted (seen old.found.whole) dump.mode (edge_at dump log) old new s o i old.count) where
    take_whole : (whole : Bool) → old.found.whole ≡ whole → Reaches (seen whole) dump.mode old new s a.edge.source a.edge.slot a.edge.target old.count
    take_whole whole same = subst (λ (w : Bool). Reaches (seen w) dump.mode old new s a.edge.source a.edge.slot a.edge.target old.count) same a.reaches

    goes_on_accepted : GoesOn dump log s (IsBelow o i) (IsBelow o (i + 1)) old new
    goes_on_accepted whole parts k there h =
        let q = h.holds.each k old there in
        let r = take_whole whole q.alike in
        let ks : List Reached = h.kept in
        let strong : (reached_at ks o).strength ≡ s = sym (own_strength dump log parts ks whole s (rank s + 1) (IsBelow o i) k old h.holds there o own)
        ∙ source in
        let gives : s ≡ offered_strength ks a.edge = a.gives ∙ sym (given_is parts ks whole k (IsBelow o i) h.holds there a.edge a.is) in
        let after : List Reached = kept_after dump log parts ks whole s (rank s + 1) (IsBelow o i) (IsBelow o i) k old new
        (offer_at o i) a.edge old.count h.holds there r a.own a.unreached a.is (rw strong passes) gives (q.stamps o own) (omega arith) q.room
        (λ o i d. d) in
        let done = accepted dump log parts ks whole s (rank s + 1) (IsBelow o i) (IsBelow o i) k old new
        (offer_at o i) a.edge old.count h.holds there r a.own a.unreached a.is (rw strong passes) gives (q.stamps o own) (omega arith) q.room
        (λ o i d. d) in
        let has : rank_at after a.edge.target ≡ rank s = target_after dump log parts ks whole s (rank s + 1) (IsBelow o i) (IsBelow o i) k old new
        (offer_at o i) a.edge old.count h.holds there r a.own a.unreached a.is (rw strong passes) gives (q.stamps o own) (omega arith) q.room
        (λ o i d. d) in
        record {
          kept = after;
          holds = slot_done dump log whole s (rank s + 1) o i (set parts k new) after done (λ e is.
              let one : e ≡ a.edge = let both : Some e ≡ Some a.edge = sym is ∙ a.is in cc in
              let own' : IsOwn new o = own_after dump.mode whole s old new a.edge old.count r a.own a.unreached o own in
              let there' = here_after parts k old new there in
              let strength : (found_at new o).strength ≡ s = still dump.mode whole s old new a.edge old.count r a.own a.unreached o own source in
              let from : (reached_at after o).strength ≡ s =
              sym (own_strength dump log (set parts k new) after whole s (rank s + 1) (IsBelow o i) k new done there' o own') ∙ strength in
              let less : rank (offered_strength after e) ≤ rank_at after e.source = offered_strength-le after e in
              let at : rank_at after e.source ≡ rank_at after o = ap (rank_at after) (at_source dump log o i e is) in
              inl (omega (arith, ap rank from, ap (λ (e : Edge). rank_at after e.target) one)));
        }

    pub accepted_at_once : HasGoneOn dump log s (IsBelow o i) (IsBelow o (i + 1)) old new
    accepted_at_once = record {
      fit = fit_after dump.mode old.found.whole s old new a.edge old.count a.reaches a.own a.unreached dump refl f some f.room;
      goes_on = goes_on_accepted;
      no_more = no_more dump.mode old.found.whole s old new a.edge old.count a.reaches a.own a.unreached some;
    }

    pub own_accepted : IsOwn new o × ((found_at new o).strength ≡ s)
    own_accepted = (
      own_after dump.mode old.found.whole s old new a.edge old.count a.reaches a.own a.unreached o own,
      still dump.mode old.found.whole s old new a.edge old.count a.reaches a.own a.unreached o own source,
    )

  -- what it gives is offered
  module _ (a : IsOffered (edge_at dump log) old new s o i) where
    abbrev t : Strength
    t = a.strength

    fit_offered : IsFit dump s new
    fit_offered = record {
      within = omega (arith, f.within, a.same_first, ap (λ (f : Findings). length f.list) a.same_found);
      few = f.few;
      queued = λ p c.
          let was = f.queued p (subst (λ (xs : List ℕ). Contains xs p) a.same_queue c) in (
            own_same_back old new a.same_first a.same_found p was.0,
            ap (λ (k : Reached). k.strength) (found_same old new a.same_first a.same_found p)
                ∙ was.1,
            was.2,
          );
      room = omega (arith, f.room, a.same_count, unreached_same old new a.same_first a.same_found);
      offered = λ u y c. own_same_back old new a.same_first a.same_found y.source (elim (added_cases old.buckets new.buckets t (offer_at o i) a.adds u y c) [
        | inl before ↦ f.offered u y before
        | inr both ↦ subst (λ (y : Offer). IsOwn old y.source) (sym both.1) own
      ]);
    }

    goes_on_offered : GoesOn dump log s (IsBelow o i) (IsBelow o (i + 1)) old new
    goes_on_offered whole parts k there h =
        let ks : List Reached = h.kept in
        let q = h.holds.each k old there in
        let after : List Part = set parts k new in
        let strong : (reached_at ks o).strength ≡ s = sym (own_strength dump log parts ks whole s (rank s + 1) (IsBelow o i) k old h.holds there o own)
        ∙ source in
        let gives : t ≡ offered_strength ks a.edge = a.gives ∙ sym (given_is parts ks whole k (IsBelow o i) h.holds there a.edge a.is) in
        let below : rank t < rank s + 1 = omega (arith, ap rank a.gives, weaker-le_left s (given_by a.edge.kind)) in
        let back : IsBacked dump.mode (edge_at dump log) ks t (offer_at o i) =
        record { edge = a.edge; is = a.is; passes_on = rw strong passes; gives = gives } in
        let stay : (u : Strength) (y : Offer) → IsOfferedIn parts u y → IsOfferedIn after u y =
        offers_stay parts k old new there (added_stay old.buckets new.buckets t (offer_at o i) a.adds) in
        let made : IsOfferedIn after t (offer_at o i) =
        record { index = k; part = new; there = here_after parts k old new there; made = added_here old.buckets new.buckets t (offer_at o i) a.adds } in
        let had : (given p : ℕ) → IsHadOrPromised (edge_at dump log) ks (IsOfferedIn parts) given p
        → IsHadOrPromised (edge_at dump log) ks (IsOfferedIn after) given p = still_had (edge_at dump log) ks ks (IsOfferedIn parts) (IsOfferedIn after)
        (λ o. omega arith) stay in
        let grown = offer (standing dump log) (edge_at dump log) ks (IsOfferedIn parts) (IsOfferedIn after) s (rank s + 1) (rank s + 1)
        (λ o' i'. IsDoneIn parts o' × IsBelow o i o' i') h.holds.growing (omega arith) stay
        (λ u y c. elim (offered_cases parts k old new there u y c) [
          | inr before ↦ inl (record { index = before.0; part = before.1; there = before.3; made = before.4 })
          | inl mine ↦ elim (added_cases old.buckets new.buckets t (offer_at o i) a.adds u y mine) [
            | inl before ↦ inl (record { index = k; part = old; there = there; made = before })
            | inr both ↦ inr (
              subst (λ (y : Offer). IsBacked dump.mode (edge_at dump log) ks u y) (sym both.1)
                  (subst (λ (u : Strength). IsBacked dump.mode (edge_at dump log) ks u (offer_at o i)) (sym both.0) back),
              omega (arith, ap rank both.0),
            )
          ]
        ]) in
        let waiting : IsSearching dump log after ks whole s (rank s + 1) (IsBelow o i) = unchanged dump log parts ks whole s (rank s + 1)
        (IsBelow o i) k old new h.holds there a.same_first (ap (λ (f : Findings). length f.list) a.same_found) (rank s + 1)
        (IsBelow o i) a.same_found a.same_count
        (weaken (standing dump log) (edge_at dump log) ks (IsOfferedIn after) s (rank s + 1) (λ o' i'. IsDoneIn parts o' × IsBelow o i o' i')
        (λ o' i'. IsDoneIn after o' × IsBelow o i o' i') grown
        (λ p j e done there' pass. inl (
          done_before parts k old new there p done.0
              (λ c. not_queued_after parts k old new there p done.0 (subst (λ (xs : List ℕ). Contains xs p) (sym a.same_queue) c)),
          done.1,
        )))
        fit_offered had
        (λ p flag. elim (a.handed p flag) [
          | inl before ↦ had (rank s) p (q.handed p before)
          | inr now ↦ inr (record {
            strength = t;
            offer = offer_at o i;
            edge = a.edge;
            made = made;
            is = a.is;
            target = sym now.0;
            enough =
                omega (arith, ap rank now.1);
          })
        ]) in
        record {
          kept = ks;
          holds = slot_done dump log whole s (rank s + 1) o i after ks waiting (λ e is.
              let one : e ≡ a.edge = let both : Some e ≡ Some a.edge = sym is ∙ a.is in cc in
              inr (record {
                strength = t;
                offer = offer_at o i;
                edge = a.edge;
                made = made;
                is = a.is;
                target = ap (λ (e : Edge). e.target) (sym one);
                enough = omega (arith, ap rank gives, ap (λ (e : Edge). rank (offered_strength ks e)) one);
              }));
        }

    pub waits : HasGoneOn dump log s (IsBelow o i) (IsBelow o (i + 1)) old new
    waits = record {
      fit = fit_offered;
      goes_on = goes_on_offered;
      no_more =
          omega (arith, unreached_same old new a.same_first a.same_found, ap length a.same_queue);
    }

    pub own_offered : IsOwn new o × ((found_at new o).strength ≡ s)
    own_offered = (
      own_same_back old new a.same_first a.same_found o own,
      ap (λ (k : Reached). k.strength) (found_same old new a.same_first a.same_found o)
          ∙ source,
    )

-- an object is relaxed up to one of its slots
pub record HasLooked (dump : Dump) (log : List Event) (s : Strength) (start now : Part) (o i : ℕ) : Type 0 where
  pub gone_on : HasGoneOn dump log s (IsBelow o 0) (IsBelow o i) start now
  pub own : IsOwn now o
  pub source : (found_at now o).strength ≡ s

-- and up to the next
pub looked : (dump : Dump) (log : List Event) (s : Strength) (start old new : Part) (o i : ℕ) → HasLooked dump log s start old o i → IsPassedOn dump.mode s
    → IsSlotRelaxed dump.mode (edge_at dump log) old new s o i → HasLooked dump log s start new o (i + 1)
looked dump log s start old new o i h passes (inl d) = record {
  gone_on = gone_on_after dump log s (IsBelow o 0) (IsBelow o i) (IsBelow o (i + 1)) start old new h.gone_on
      (passed_over dump log s old new o i h.gone_on.fit h.own h.source passes d);
  own = subst (λ (p : Part). IsOwn p o) (sym d.same) h.own;
  source = subst (λ (p : Part). (found_at p o).strength ≡ s) (sym d.same) h.source;
}
looked dump log s start old new o i h passes (inr (inl a)) = record {
  gone_on = gone_on_after dump log s (IsBelow o 0) (IsBelow o i) (IsBelow o (i + 1)) start old new h.gone_on
      (accepted_at_once dump log s old new o i h.gone_on.fit h.own h.source passes a);
  own = (own_accepted dump log s old new o i h.gone_on.fit h.own h.source passes a).0;
  source = (own_accepted dump log s old new o i h.gone_on.fit h.own h.source passes a).1;
}
looked dump log s start old new o i h passes (inr (inr a)) = record {
  gone_on = gone_on_after dump log s (IsBelow o 0) (IsBelow o i) (IsBelow o (i + 1)) start old new h.gone_on
      (waits dump log s old new o i h.gone_on.fit h.own h.source passes a);
  own = (own_offered dump log s old new o i h.gone_on.fit h.own h.source passes a).0;
  source = (own_offered dump log s old new o i h.gone_on.fit h.own h.source passes a).1;
}

-- no slot is looked at yet
pub begun : (dump : Dump) (log : List Event) (s : Strength) (p : Part) (o : ℕ) → IsFit dump s p → IsOwn p o → (found_at p o).strength ≡ s
    → HasLooked dump log s p p o 0
begun dump log s p o f own source = record {
  gone_on = record {
    fit = f;
    goes_on = λ whole parts k there h. subst (AreSearching dump log whole s (rank s + 1) (IsBelow o 0))
        (sym (set-there parts k p there)) h;
    no_more = omega arith;
  };
  own = own;
  source = source;
}

-- nothing is queued
pub quiet : (dump : Dump) (log : List Event) (s : Strength) (old new : Part) → IsFit dump s old → HasNoneQueued old new → HasRelaxed dump log s old new
quiet dump log s old new f n = record {
  gone_on = rested dump log s IsAny old new f n.same (n.still ∙ sym n.none);
  less = λ some. absurd (omega (arith, some, ap length n.none));
}

-- an object is taken out and passed on
pub passed_on : (dump : Dump) (log : List Event) (s : Strength) (old popped new : Part) (o : ℕ) → IsFit dump s old → IsTakenOut old popped o
    → HasGoneOn dump log s (IsBelow o 0) IsAny popped new → HasRelaxed dump log s old new
passed_on dump log s old popped new o f t h = record {
  gone_on = gone_on_after dump log s IsAny (IsBelow o 0) IsAny old popped new (taken_out dump log s old popped o f t) h;
  less = λ some. omega (arith, taken-less old popped o t, h.no_more);
}

-- objects that were passed on one after the other
pub relaxed_after : (dump : Dump) (log : List Event) (s : Strength) (a b c : Part) → HasRelaxed dump log s a b → HasRelaxed dump log s b c
    → HasRelaxed dump log s a c
relaxed_after dump log s a b c first second = record {
  gone_on = gone_on_after dump log s IsAny IsAny IsAny a b c first.gone_on second.gone_on;
  less = λ some. omega (arith, first.less some, second.gone_on.no_more);
}

-- what is noted beside doesn't count
pub noted : (dump : Dump) (log : List Event) (s : Strength) (a b c : Part) → HasRelaxed dump log s a b → IsSameBut b c → c.queue ≡ b.queue
    → HasRelaxed dump log s a c
noted dump log s a b c h same queue =
    let rest = rested dump log s IsAny b c h.gone_on.fit same queue in
    record {
      gone_on = gone_on_after dump log s IsAny IsAny IsAny a b c h.gone_on rest;
      less = λ some. omega (arith, h.less some, rest.no_more);
    }

-- a round that has gone so far: nothing has changed yet, or the part has relaxed
abbrev pub HasBegun : Dump → List Event → Strength → Part → Part → ℕ → Type 0
HasBegun dump log s start now n = ((n ≡ 0) × (now ≡ start)) ⊎ HasRelaxed dump log s start now

-- one more object is passed on
pub one_more : (dump : Dump) (log : List Event) (s : Strength) (start now new : Part) (n : ℕ) → HasBegun dump log s start now n → HasRelaxed dump log s now new
    → HasRelaxed dump log s start new
one_more dump log s start now new n (inl none) step = subst (λ (p : Part). HasRelaxed dump log s p new) none.1 step
one_more dump log s start now new n (inr some) step = relaxed_after dump log s start now new some step
