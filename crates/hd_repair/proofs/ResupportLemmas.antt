use Rattle.std.proofs.Common.{◌≡◌, ◌≢◌, ◌∙◌, ℕ, ◌+◌, ◌<◌, ◌≤◌, ◌⊎◌, inl, inr, List, [], ◌∷◌, Contains, length, take, get_or, refl, sym, ap, subst, arith, true}
use Rattle.std.proofs.lemmas.Bool.{cases_eq}
use Rattle.std.proofs.lemmas.List.{take_more}
use Rattle.std.proofs.lemmas.List.Elements.{Contains-append_left, Contains-push}
use Rattle.hd_terms.specs.declared.Strength.{Strength}
use Rattle.hd_terms.specs.declared.Support.{Support}
use Rattle.hd_terms.specs.declared.Support.TheVariants as supports
use Rattle.hd_terms.specs.EdgeRows.{AreRows, Rows}
use Rattle.hd_terms.specs.Paths.{Edge}
use Rattle.hd_terms.proofs.RankLemmas.{same_rank as equal_rank}
use Rattle.hd_terms.specs.Ranks.{rank, given_by, weaker_of}
use Rattle.hd_terms.specs.Regions.{AreChanges, Holding, InGainRegion, StrengthChange, as_target, by_change}
use Rattle.hd_terms.specs.Settled.{Reached, reached_at}
use Rattle.hd_repair.specs.declared.offers.Offer.{Offer}
use Rattle.hd_repair.specs.Spreading.{
  rank_at,
  offered_strength,
  AreResupported,
  EdgeTo,
  IsBacked,
  IsBestSoFar,
  IsDone,
  IsInOrder,
  IsSpreading,
  IsTaken,
  RootOn,
  offered as is_offered,
  held as is_held,
}
use Rattle.hd_repair.proofs.BestLemmas.{into_all}
use Rattle.hd_repair.proofs.EachLemmas.{one_more}
use Rattle.hd_repair.proofs.UnderwayLemmas.{backed_same, before_same}

-- an order stays where strengths and stamps stay
order_same : (ks ks' : List Reached) (o : ℕ) → ((x : ℕ) → (reached_at ks' x).strength ≡ (reached_at ks x).strength)
    → ((x : ℕ) → (reached_at ks' x).stamp ≡ (reached_at ks x).stamp) → (by : Support) → IsInOrder ks (reached_at ks o) by → IsInOrder ks' (reached_at ks' o) by
order_same ks ks' o strengths stamps supports.Nothing h = h
order_same ks ks' o strengths stamps (supports.Root n) h = h
order_same ks ks' o strengths stamps (supports.Edge source slot) h =
    before_same (reached_at ks source) (reached_at ks o) (reached_at ks' source) (reached_at ks' o) (strengths source) (stamps source) (strengths o)
    (stamps o) h

-- the target of an offer takes it as its support
module _ (r : Rows) (laws : AreRows r) (ks ks' : List Reached) (xs ys : List ℕ) (o : ℕ) (part : (t : ℕ) → Contains xs t → (t ≡ o) ⊎ Contains ys t)
    (offers : List Offer) (h : IsSpreading r.standing ks offers (RootOn xs) (EdgeTo xs)) (x : Offer)
    (best : IsBestSoFar r.standing ks o (r.roots o) (r.into o) x) (no_more : rank x.strength ≤ rank_at ks x.target)
    (here : reached_at ks' x.target ≡ record { strength = (reached_at ks x.target).strength; support = x.support; stamp = (reached_at ks x.target).stamp })
    (others : (y : ℕ) → y ≢ x.target → reached_at ks' y ≡ reached_at ks y) where
  pub same_strength : (y : ℕ) → (reached_at ks' y).strength ≡ (reached_at ks y).strength
  same_strength y = elim (cases_eq y x.target) [
    | inl same ↦ rw (same, here) refl
    | inr other ↦ ap (λ (k : Reached). k.strength) (others y other)
  ]

  pub same_stamp : (y : ℕ) → (reached_at ks' y).stamp ≡ (reached_at ks y).stamp
  same_stamp y = elim (cases_eq y x.target) [
    | inl same ↦ rw (same, here) refl
    | inr other ↦ ap (λ (k : Reached). k.stamp) (others y other)
  ]

  same_rank : (y : ℕ) → rank_at ks' y ≡ rank_at ks y
  same_rank y = ap rank (same_strength y)

  enough : rank x.strength ≡ rank_at ks o
  enough = omega (arith, best.no_less, rw best.target at no_more)

  strength_is : x.strength ≡ (reached_at ks' o).strength
  strength_is = equal_rank x.strength (reached_at ks' o).strength (enough ∙ sym (same_rank o))

  still_done : (t n : ℕ) → IsDone ks offers t n → IsDone ks' offers t n
  still_done t n (inl le) = inl (omega (arith, le, same_rank t))
  still_done t n (inr f) = inr f

  -- what o has is all that it is given
  has_all : (t n : ℕ) → t ≡ o → n ≤ rank x.strength → IsDone ks' offers t n
  has_all t n same le = inl (rw same (omega (arith, le, enough, same_rank o)))

  offered_same : (e : Edge) → rank (offered_strength ks' e) ≡ rank (offered_strength ks e)
  offered_same e = ap (λ (s : Strength). rank (weaker_of s (given_by e.kind))) (same_strength e.source)

  supported : (y : ℕ) → IsBacked r.standing ks' y (reached_at ks' y).strength (reached_at ks' y).support
  supported y = elim (cases_eq y o) [
    | inl same ↦
        let there : reached_at ks' o ≡ _ = rw best.target at here in
        rw same (subst (λ (by : Support). IsBacked r.standing ks' o (reached_at ks' o).strength by) (sym (ap (λ (k : Reached). k.support) there))
        (subst (λ (s : Strength). IsBacked r.standing ks' o s x.support) strength_is
        (backed_same r.standing ks ks' o x.strength x.support (λ source slot is. same_strength source) best.backed)))
    | inr other ↦
        let there : reached_at ks' y ≡ reached_at ks y = others y (λ same. other (same ∙ best.target)) in
        rw there (backed_same r.standing ks ks' y (reached_at ks y).strength (reached_at ks y).support (λ source slot is. same_strength source) (h.supported y))
  ]

  in_order : (y : ℕ) → IsInOrder ks' (reached_at ks' y) (reached_at ks' y).support
  in_order y = elim (cases_eq y o) [
    | inl same ↦
        let there : reached_at ks' o ≡ _ = rw best.target at here in
        rw same (subst (λ (by : Support). IsInOrder ks' (reached_at ks' o) by) (sym (ap (λ (k : Reached). k.support) there))
        (order_same ks ks' o same_strength same_stamp x.support (best.in_order (omega (arith, enough)))))
    | inr other ↦
        let there : reached_at ks' y ≡ reached_at ks y = others y (λ same. other (same ∙ best.target)) in
        subst (λ (by : Support). IsInOrder ks' (reached_at ks' y) by) (sym (ap (λ (k : Reached). k.support) there))
        (order_same ks ks' y same_strength same_stamp (reached_at ks y).support (h.in_order y))
  ]

  pub one_held : IsSpreading r.standing ks' offers (RootOn ys) (EdgeTo ys)
  one_held = record {
    supported = supported;
    in_order = in_order;
    backed = λ f c. backed_same r.standing ks ks' f.target f.strength f.support (λ source slot is. same_strength source) (h.backed f c);
    by_roots = λ a stands. elim (h.by_roots a stands) [
      | inr done ↦ inr (still_done a.target 5 done)
      | inl to_do ↦ elim (part a.target to_do) [
        | inr later ↦ inl later
        | inl same ↦ inr (has_all a.target 5 same (best.by_marks (record { root = a; stands = true }) (rw (← same) (laws.root_all a stands)) refl))
      ]
    ];
    by_edges = λ e stands. elim (h.by_edges e stands) [
      | inr done ↦ inr (λ q. rw (offered_same e) (still_done e.target (rank (offered_strength ks e)) (done (omega (arith, q, same_rank e.source)))))
      | inl to_do ↦ elim (part e.target to_do) [
        | inr later ↦ inl later
        | inl same ↦ inr (λ q. rw (offered_same e) (has_all e.target (rank (offered_strength ks e)) same
            (best.by_entries (record { edge = e; stands = true }) (rw (← same) (into_all r laws e stands)) refl (omega (arith, q, same_rank e.source)))))
      ]
    ];
  }

-- one more object has its best support, or its best offer
pub one_taken : (r : Rows) → AreRows r → (ks ks' : List Reached) (xs ys : List ℕ) (o : ℕ) → ((t : ℕ) → Contains xs t → (t ≡ o) ⊎ Contains ys t)
    → (offers offers' : List Offer) → IsSpreading r.standing ks offers (RootOn xs) (EdgeTo xs) → (x : Offer)
    → IsBestSoFar r.standing ks o (r.roots o) (r.into o) x → IsTaken ks ks' offers offers' x → IsSpreading r.standing ks' offers' (RootOn ys) (EdgeTo ys)
one_taken r laws ks ks' xs ys o part offers offers' h x best (is_offered more same adds) =
    rw same (one_more r laws ks xs ys o part offers h x best offers' adds)
one_taken r laws ks ks' xs ys o part offers offers' h x best (is_held no_more count same here others) = rw same
    (one_held r laws ks ks' xs ys o part offers h x best no_more here others)

-- nothing has another support yet
pub none_resupported : (ks : List Reached) → AreResupported ks ks []
none_resupported ks = record { count = refl; strengths = λ o. refl; stamps = λ o. refl; others = λ o out. refl }

-- one more object may have another support
pub one_resupported : (ks0 ks ks' : List Reached) (objects : List ℕ) (i : ℕ) (offers offers' : List Offer) (x : Offer) → i < length objects
    → x.target ≡ get_or objects i 0 → AreResupported ks0 ks (take i objects) → IsTaken ks ks' offers offers' x → AreResupported ks0 ks' (take (i + 1) objects)
one_resupported ks0 ks ks' objects i offers offers' x lt is h (is_offered more same adds) = rw (same, take_more objects i 0 lt) (record {
  count = h.count;
  strengths = h.strengths;
  stamps = h.stamps;
  others = λ o out. h.others o (λ c. out (Contains-append_left (take i objects) (get_or objects i 0 ∷ []) o c));
})
one_resupported ks0 ks ks' objects i offers offers' x lt is h (is_held no_more count same here others) = rw (take_more objects i 0 lt) (record {
  count = count ∙ h.count;
  strengths = λ o. elim (cases_eq o x.target) [
    | inl this ↦ rw (this, here) (h.strengths x.target)
    | inr other ↦ ap (λ (k : Reached). k.strength) (others o other) ∙ h.strengths o
  ];
  stamps = λ o. elim (cases_eq o x.target) [
    | inl this ↦ rw (this, here) (h.stamps x.target)
    | inr other ↦ ap (λ (k : Reached). k.stamp) (others o other) ∙ h.stamps o
  ];
  others = λ o out.
      others o (λ this. out (rw (this, is) (Contains-push (take i objects) (get_or objects i 0)))) ∙
      h.others o (λ c. out (Contains-append_left (take i objects) (get_or objects i 0 ∷ []) o c));
})

-- what changed since supports were changed alone, has changed since before
module _ (ks ks1 ks' : List Reached) (objects : List ℕ) (h : AreResupported ks ks1 objects) where
  pub changes_since : (changes : List StrengthChange) → AreChanges ks1 ks' changes → AreChanges ks ks' changes
  changes_since changes c = record {
    once = c.once;
    each = λ d is. let e = c.each d is in (sym (h.strengths d.object) ∙ e.0, e.1, e.2);
    all = λ o differ. c.all o (λ same. differ (sym (h.strengths o) ∙ same));
  }

  pub region_since : (gained : List Holding) → ((o : ℕ) → Contains objects o → (x : Holding) × Contains gained x × (x.target ≡ o)) → (o : ℕ)
      → ((InGainRegion ks1 ks' gained o → ⊥) → reached_at ks' o ≡ reached_at ks1 o) → (InGainRegion ks ks' gained o → ⊥) → reached_at ks' o ≡ reached_at ks o
  region_since gained only o outside out =
      outside (λ in_region. out (since gained o in_region)) ∙
      h.others o (λ c. let x = only o c in out (rw (← x.2) (as_target x.0 x.1)))
    where
      since : (gained : List Holding) (o : ℕ) → InGainRegion ks1 ks' gained o → InGainRegion ks ks' gained o
      since gained o (as_target x c) = as_target x c
      since gained o (by_change differ) = by_change (λ same. differ (h.strengths o ∙ same))

-- what is offered after one more is offered to objects
pub taken_targets : (ks ks' : List Reached) (offers offers' : List Offer) (x : Offer) (n : ℕ) → IsTaken ks ks' offers offers' x
    → ((f : Offer) → Contains offers f → f.target < n) → x.target < n → (f : Offer) → Contains offers' f → f.target < n
taken_targets ks ks' offers offers' x n (is_offered more same adds) old here f c = elim (adds.made f c) [
  | inl before ↦ old f before
  | inr last ↦ rw last here
]
taken_targets ks ks' offers offers' x n (is_held no_more count same there others) old here f c = old f (rw same at c)
