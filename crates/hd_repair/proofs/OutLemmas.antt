use Rattle.std.proofs.Common.{◌≡◌, ◌∙◌, ℕ, ◌+◌, ◌<◌, ◌≤◌, inl, inr, List, [], ◌∷◌, ◌++◌, Contains, length, take, refl, ap, subst, arith, Some, true, slice_get}
use Rattle.std.proofs.lemmas.Option.{get_or_from_slice_get}
use Rattle.std.proofs.lemmas.List.{take_more, length_push}
use Rattle.std.proofs.lemmas.List.Elements.{Contains-push_cases}
use Rattle.hd_terms.specs.Settled.{Reached}
use Rattle.hd_terms.specs.Ranks.{rank}
use Rattle.hd_terms.specs.EdgeRows.{MarkedEdge}
use Rattle.hd_terms.specs.EdgeRows.{Rows, AreRows}
use Rattle.hd_repair.specs.declared.offers.Offer.{Offer}
use Rattle.hd_repair.specs.Offering.{AddsOffer}
use Rattle.hd_repair.specs.Spreading.{AddsOffers, IsOfferOf, IsEdgeWithin, offered_strength, rank_at}

-- one more entry is looked at
module _ (r : Rows) (laws : AreRows r) (ks : List Reached) (o : ℕ) (es : List MarkedEdge) (old new : List Offer) (h : AddsOffers r.standing ks o es old new)
    (y : MarkedEdge) (is : Contains (r.out o) y) where
  pub adds : (new' : List Offer) (x : Offer) → IsOfferOf ks y x → AddsOffer new new' x → AddsOffers r.standing ks o (es ++ y ∷ []) old new'
  adds new' x offer p =
      let some : 1 ≤ rank x.strength = let more : rank_at ks y.edge.target < rank (offered_strength ks y.edge) = offer.more in rw offer.is (omega arith) in
      record {
        kept = λ z c. p.kept z (h.kept z c);
        made = λ z c. elim (p.made z c) [
          | inl before ↦ h.made z before
          | inr same ↦ inr (record {
            edge = y.edge;
            stands = laws.out_stands o y is offer.stands;
            from_source = laws.out_source o y is;
            to_object = rw (same, offer.is) refl;
            strength = rw (same, offer.is) refl;
            support = rw (same, offer.is) refl;
          })
        ];
        done = λ z c stands. elim (Contains-push_cases es y z c) [
          | inl before ↦ elim (h.done z before stands) [
            | inl le ↦ inl le
            | inr f ↦
                inr (record { offer = f.offer; made = p.kept f.offer f.made; to_object = f.to_object; enough = f.enough })
          ]
          | inr same ↦ rw (← same) (inr (record { offer = x; made = p.there some; to_object = rw offer.is refl; enough = rw offer.is (omega arith) }))
        ];
        count = omega (arith, h.count, p.count, length_push es y);
      }

  pub adds_none : (y.stands ≡ true → rank (offered_strength ks y.edge) ≤ rank_at ks y.edge.target) → AddsOffers r.standing ks o (es ++ y ∷ []) old new
  adds_none no_more = record {
    kept = h.kept;
    made = h.made;
    done = λ z c stands. elim (Contains-push_cases es y z c) [
      | inl before ↦ h.done z before stands
      | inr same ↦ inl (rw (← same) (no_more (rw same stands)))
    ];
    count = omega (arith, h.count, length_push es y);
  }

pub Contains-slice_get : {X : Type 0} (xs : List X) (i : ℕ) (y : X) → i < length xs → slice_get xs i ≡ Some y → Contains xs y
Contains-slice_get xs i y lt e = (i, lt, get_or_from_slice_get xs i y y e)

pub take_one_more : {X : Type 0} (xs : List X) (i : ℕ) (y : X) → i < length xs → slice_get xs i ≡ Some y → take (i + 1) xs ≡ take i xs ++ y ∷ []
take_one_more xs i y lt e = take_more xs i y lt ∙ ap (λ (z : _). take i xs ++ z ∷ []) (get_or_from_slice_get xs i y y e)

-- the step of the loop over out-edges
module _ (r r' : Rows) (same : r' ≡ r) (laws : AreRows r') (ks : List Reached) (o i : ℕ) (y : MarkedEdge) (lt : i < length (r.out o))
    (is : slice_get (r'.out o) i ≡ Some y) where
  laws_here : AreRows r
  laws_here = subst AreRows same laws

  is_here : slice_get (r.out o) i ≡ Some y
  is_here = subst (λ (r : Rows). slice_get (r.out o) i ≡ Some y) same is

  pub entry_within : (n : ℕ) → n ≡ r.objects → o < r.objects → IsEdgeWithin n y
  entry_within n e o_lt = record {
    source = rw (e, laws_here.out_source o y (Contains-slice_get (r.out o) i y lt is_here)) o_lt;
    target = rw e (laws_here.out_target o y (Contains-slice_get (r.out o) i y lt is_here));
  }

  module _ (old new new' : List Offer) (h : AddsOffers r.standing ks o (take i (r.out o)) old new) where
    pub step_some : (x : Offer) → IsOfferOf ks y x → AddsOffer new new' x → AddsOffers r.standing ks o (take (i + 1) (r.out o)) old new'
    step_some x offer p = rw (take_one_more (r.out o) i y lt is_here)
        (adds r laws_here ks o (take i (r.out o)) old new h y (Contains-slice_get (r.out o) i y lt is_here) new' x offer p)

    pub step_none : (y.stands ≡ true → rank (offered_strength ks y.edge) ≤ rank_at ks y.edge.target) → new' ≡ new
        → AddsOffers r.standing ks o (take (i + 1) (r.out o)) old new'
    step_none none e = rw (e, take_one_more (r.out o) i y lt is_here)
        (adds_none r laws_here ks o (take i (r.out o)) old new h y (Contains-slice_get (r.out o) i y lt is_here) none)
