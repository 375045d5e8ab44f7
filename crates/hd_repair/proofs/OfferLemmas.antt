use Rattle.std.proofs.Common.{◌≡◌, ℕ, ◌+◌, ◌^◌, ◌<◌, ◌≤◌, inl, inr, List, [], ◌∷◌, ◌++◌, Contains, length, sum_by, arith}
use Rattle.std.proofs.Common.{true, refl, zero-add}
use Rattle.std.proofs.lemmas.Bool.{cases_lt}
use Rattle.std.proofs.lemmas.List.{length-append, length_push}
use Rattle.std.proofs.lemmas.List.Elements.{Contains-push, Contains-push_cases, Contains-append_left, Contains-append_right, Contains-append_cases}
use Rattle.std.proofs.lemmas.List.Sums.{sum_by-append}
use Rattle.hd_terms.specs.EdgeRows.{AreRows, Rows}
use Rattle.hd_terms.specs.Ranks.{rank}
use Rattle.hd_terms.specs.Settled.{Reached}
use Rattle.hd_repair.specs.declared.offers.Offer.{Offer}
use Rattle.hd_repair.specs.Losing.{targets_of}
use Rattle.hd_repair.specs.Offering.{AddsOffer, JoinsOffers}
use Rattle.hd_repair.specs.Spreading.{
  AddsOffers,
  EdgeTo,
  IsBest,
  IsDone,
  IsSpreading,
  NoEdge,
  NoRoot,
  OffersBest,
  OffersFrom,
  RootOn,
  offered_strength,
}
use Rattle.hd_repair.proofs.BestLemmas.{into_all}
use Rattle.hd_repair.proofs.SpreadLemmas.{done_more}

no_object : (x : ℕ) → Contains [] x → ⊥
no_object x (k, lt, is) = omega (arith, lt)

no_offer : (x : Offer) → Contains [] x → ⊥
no_offer x (k, lt, is) = omega (arith, lt)

-- what no object gives
pub offers_none : (r : Rows) (ks : List Reached) (old : List Offer) → OffersFrom r ks [] old old
offers_none r ks old = record {
  kept = λ x c. c;
  made = λ x c. inl c;
  done = λ o y c row stands. absurd (no_object o c);
  count = omega arith;
  few = omega arith;
}

sum_one : (f : ℕ → ℕ) (xs : List ℕ) (o : ℕ) → sum_by f (xs ++ o ∷ []) ≡ sum_by f xs + f o
sum_one f xs o = let one : sum_by f (o ∷ []) ≡ f o = zero-add (f o) in omega (arith, sum_by-append f xs (o ∷ []))

-- and what one more gives
pub offers_more : (r : Rows) (ks : List Reached) (xs : List ℕ) (o : ℕ) (old new new' : List Offer) → OffersFrom r ks xs old new
    → AddsOffers r.standing ks o (r.out o) new new' → length (r.out o) < 2 ^ 32 → OffersFrom r ks (xs ++ o ∷ []) old new'
offers_more r ks xs o old new new' h a few = record {
  kept = λ x c. a.kept x (h.kept x c);
  made = λ x c. elim (a.made x c) [
    | inl before ↦ elim (h.made x before) [
      | inl was ↦ inl was
      | inr (from, at, by) ↦ inr (from, Contains-append_left xs (o ∷ []) from at, by)
    ]
    | inr by ↦ inr (o, Contains-push xs o, by)
  ];
  done = λ from y c row stands. elim (Contains-push_cases xs o from c) [
    | inl before ↦ done_more ks new new' a.kept y.edge.target (rank (offered_strength ks y.edge)) (h.done from y before row stands)
    | inr last ↦ a.done y (rw last row) stands
  ];
  count = omega (arith, h.count, a.count, sum_one (targets_of r) xs o);
  few = omega (arith, h.few, few, sum_one (targets_of r) xs o, length_push xs o);
}

-- what two threads offered
pub offers_both : (r : Rows) (ks : List Reached) (xs ys all : List ℕ) (a b c : List Offer) → all ≡ xs ++ ys → JoinsOffers a b c → OffersFrom r ks xs [] a
    → OffersFrom r ks ys [] b → OffersFrom r ks all [] c
offers_both r ks xs ys all a b c is j h k = rw is (record {
  kept = λ x no. absurd (no_offer x no);
  made = λ x is. elim (j.made x is) [
    | inl one ↦ elim (h.made x one) [
      | inl none ↦ absurd (no_offer x none)
      | inr (from, at, by) ↦ inr (from, Contains-append_left xs ys from at, by)
    ]
    | inr two ↦ elim (k.made x two) [
      | inl none ↦ absurd (no_offer x none)
      | inr (from, at, by) ↦ inr (from, Contains-append_right xs ys from at, by)
    ]
  ];
  done = λ from y at row stands. elim (Contains-append_cases xs ys from at) [
    | inl one ↦ done_more ks a c j.kept y.edge.target (rank (offered_strength ks y.edge)) (h.done from y one row stands)
    | inr two ↦ done_more ks b c j.added y.edge.target (rank (offered_strength ks y.edge)) (k.done from y two row stands)
  ];
  count = omega (arith, h.count, k.count, j.count, sum_by-append (targets_of r) xs ys);
  few = omega (arith, h.few, k.few, sum_by-append (targets_of r) xs ys, length-append xs ys);
})

-- other offers are added to these
pub offers_join : (r : Rows) (ks : List Reached) (xs : List ℕ) (old more new : List Offer) → OffersFrom r ks xs [] more → JoinsOffers old more new
    → OffersFrom r ks xs old new
offers_join r ks xs old more new h j = record {
  kept = j.kept;
  made = λ x c. elim (j.made x c) [
    | inl before ↦ inl before
    | inr other ↦ elim (h.made x other) [
      | inl none ↦ absurd (no_offer x none)
      | inr by ↦ inr by
    ]
  ];
  done = λ from y at row stands. done_more ks more new j.added y.edge.target (rank (offered_strength ks y.edge)) (h.done from y at row stands);
  count = omega (arith, h.count, j.count);
  few = h.few;
}

-- the best offers to no objects, and to one more
pub best_none : (r : Rows) (ks : List Reached) (old : List Offer) → OffersBest r ks [] old old
best_none r ks old = record { kept = λ x c. c; made = λ x c. inl c; done = λ o c. absurd (no_object o c) }

pub best_more : (r : Rows) (ks : List Reached) (xs : List ℕ) (o : ℕ) (old new new' : List Offer) (x : Offer) → OffersBest r ks xs old new → IsBest r ks o x
    → AddsOffer new new' x → OffersBest r ks (xs ++ o ∷ []) old new'
best_more r ks xs o old new new' best h is a = record {
  kept = λ x c. a.kept x (h.kept x c);
  made = λ x c. elim (a.made x c) [
    | inl before ↦ elim (h.made x before) [
      | inl was ↦ inl was
      | inr (to, at, by) ↦ inr (to, Contains-append_left xs (o ∷ []) to at, by)
    ]
    | inr same ↦ inr (o, Contains-push xs o, rw same is)
  ];
  done = λ to c. elim (Contains-push_cases xs o to c) [
    | inl before ↦ let d = h.done to before in (d.0, d.1, λ some. a.kept d.0 (d.2 some))
    | inr last ↦ (best, rw (← last) is, a.there)
  ];
}

pub best_both : (r : Rows) (ks : List Reached) (xs ys all : List ℕ) (a b c : List Offer) → all ≡ xs ++ ys → JoinsOffers a b c → OffersBest r ks xs [] a
    → OffersBest r ks ys [] b → OffersBest r ks all [] c
best_both r ks xs ys all a b c is j h k = rw is (record {
  kept = λ x no. absurd (no_offer x no);
  made = λ x is. elim (j.made x is) [
    | inl one ↦ elim (h.made x one) [
      | inl none ↦ absurd (no_offer x none)
      | inr (to, at, by) ↦ inr (to, Contains-append_left xs ys to at, by)
    ]
    | inr two ↦ elim (k.made x two) [
      | inl none ↦ absurd (no_offer x none)
      | inr (to, at, by) ↦ inr (to, Contains-append_right xs ys to at, by)
    ]
  ];
  done = λ to at. elim (Contains-append_cases xs ys to at) [
    | inl one ↦ let d = h.done to one in (d.0, d.1, λ some. j.kept d.0 (d.2 some))
    | inr two ↦ let d = k.done to two in (d.0, d.1, λ some. j.added d.0 (d.2 some))
  ];
})

-- the targets of the best offers are the objects
pub best_targets : (r : Rows) (ks : List Reached) (xs : List ℕ) (offers : List Offer) → OffersBest r ks xs [] offers
    → ((x : ℕ) → Contains xs x → x < r.objects) → (x : Offer) → Contains offers x → x.target < r.objects
best_targets r ks xs offers h within x c = elim (h.made x c) [
  | inl none ↦ absurd (no_offer x none)
  | inr (o, at, by) ↦ rw by.target (within o at)
]

-- with the best offers to all objects that lost their strength nothing is left to look at
module _ (r : Rows) (laws : AreRows r) (ks : List Reached) (xs : List ℕ) (offers : List Offer) (b : OffersBest r ks xs [] offers)
    (h : IsSpreading r.standing ks [] (RootOn xs) (EdgeTo xs)) where
  offered : (t n : ℕ) (x : Offer) → IsBest r ks t x → (1 ≤ rank x.strength → Contains offers x) → n ≤ rank x.strength → IsDone ks offers t n
  offered t n x is there le = elim (cases_lt 0 (rank x.strength)) [
    | inl some ↦ inr (record { offer = x; made = there (omega arith); to_object = is.target; enough = le })
    | inr none ↦ inl (omega arith)
  ]

  pub best_spreading : IsSpreading r.standing ks offers NoRoot NoEdge
  best_spreading = record {
    supported = h.supported;
    in_order = h.in_order;
    backed = λ f c. elim (b.made f c) [
      | inl none ↦ absurd (no_offer f none)
      | inr (o, at, by) ↦ rw by.target by.backed
    ];
    by_roots = λ a stands. elim (h.by_roots a stands) [
      | inr done ↦ inr (done_more ks [] offers (λ x no. absurd (no_offer x no)) a.target 5 done)
      | inl to_do ↦
          let d = b.done a.target to_do in
          inr (offered a.target 5 d.0 d.1 d.2 (d.1.by_marks (record { root = a; stands = true }) (laws.root_all a stands) refl))
    ];
    by_edges = λ e stands. elim (h.by_edges e stands) [
      | inr done ↦ inr (λ q. done_more ks [] offers (λ x no. absurd (no_offer x no)) e.target (rank (offered_strength ks e)) (done q))
      | inl to_do ↦ inr (λ q.
          let d = b.done e.target to_do in
          offered e.target (rank (offered_strength ks e)) d.0 d.1 d.2
          (d.1.by_entries (record { edge = e; stands = true }) (into_all r laws e stands) refl q))
    ];
  }
