use Rattle.std.proofs.Common.{◌≡◌, ◌∙◌, ℕ, suc, ◌+◌, ◌<◌, ◌≤◌, ◌⊎◌, inl, inr, List, Contains, length, drop, get_or, refl, sym, subst, arith, true, drop-cons}
use Rattle.std.proofs.Common.{add-one, length-drop}
use Rattle.hd_terms.specs.Settled.{Reached}
use Rattle.hd_terms.specs.Ranks.{rank}
use Rattle.hd_terms.specs.Paths.{Standing}
use Rattle.hd_terms.specs.EdgeRows.{Rows, AreRows}
use Rattle.hd_repair.specs.declared.offers.Offer.{Offer}
use Rattle.hd_repair.proofs.QueueLemmas.{cons_cases}
use Rattle.hd_repair.specs.Offering.{AddsOffer}
use Rattle.hd_repair.proofs.BestLemmas.{into_all}
use Rattle.std.proofs.lemmas.Bool.{cases_lt}
use Rattle.hd_repair.specs.Spreading.{IsSpreading, IsDone, NoRoot, NoEdge, RootOn, EdgeTo, IsBestSoFar, offered_strength}

-- what is in a list from a place on is there, or later
pub from_place : (xs : List ℕ) (i d x : ℕ) → i < length xs → Contains (drop i xs) x → (x ≡ get_or xs i d) ⊎ Contains (drop (i + 1) xs) x
from_place xs i d x lt c = rw add-one (cons_cases (get_or xs i d) (drop (suc i) xs) x (subst (λ (zs : List ℕ). Contains zs x) (drop-cons xs i d lt) c))

-- one more object has its best offer
module _ (r : Rows) (laws : AreRows r) (ks : List Reached) (xs ys : List ℕ) (o : ℕ) (part : (t : ℕ) → Contains xs t → (t ≡ o) ⊎ Contains ys t)
    (offers : List Offer) (h : IsSpreading r.standing ks offers (RootOn xs) (EdgeTo xs))
    (x : Offer) (best : IsBestSoFar r.standing ks o (r.roots o) (r.into o) x) where
  still_done : (new : List Offer) → AddsOffer offers new x → (t n : ℕ) → IsDone ks offers t n → IsDone ks new t n
  still_done new p t n (inl le) = inl le
  still_done new p t n (inr f) = inr (record { offer = f.offer; made = p.kept f.offer f.made; to_object = f.to_object; enough = f.enough })

  offered : (new : List Offer) → AddsOffer offers new x → (t n : ℕ) → t ≡ o → n ≤ rank x.strength → IsDone ks new t n
  offered new p t n same le = elim (cases_lt 0 (rank x.strength)) [
    | inl some ↦ inr (record { offer = x; made = p.there (omega arith); to_object = best.target ∙ sym same; enough = le })
    | inr none ↦ inl (omega arith)
  ]

  pub one_more : (new : List Offer) → AddsOffer offers new x → IsSpreading r.standing ks new (RootOn ys) (EdgeTo ys)
  one_more new p = record {
    supported = h.supported;
    in_order = h.in_order;
    backed = λ f c. elim (p.made f c) [
      | inl before ↦ h.backed f before
      | inr here ↦ rw (here, best.target) best.backed
    ];
    by_roots = λ a stands. elim (h.by_roots a stands) [
      | inr done ↦ inr (still_done new p a.target 5 done)
      | inl to_do ↦ elim (part a.target to_do) [
        | inr later ↦ inl later
        | inl same ↦ inr (offered new p a.target 5 same (best.by_marks (record { root = a; stands = true }) (rw (← same) (laws.root_all a stands)) refl))
      ]
    ];
    by_edges = λ e stands. elim (h.by_edges e stands) [
      | inr done ↦ inr (λ q. still_done new p e.target (rank (offered_strength ks e)) (done q))
      | inl to_do ↦ elim (part e.target to_do) [
        | inr later ↦ inl later
        | inl same ↦ inr (λ q. offered new p e.target (rank (offered_strength ks e)) same
            (best.by_entries (record { edge = e; stands = true }) (rw (← same) (into_all r laws e stands)) refl q))
      ]
    ];
  }

-- in the end nothing is to do
pub none_to_do : (g : Standing) (ks : List Reached) (offers : List Offer) (xs : List ℕ) → ((x : ℕ) → Contains xs x → ⊥)
    → IsSpreading g ks offers (RootOn xs) (EdgeTo xs) → IsSpreading g ks offers NoRoot NoEdge
none_to_do g ks offers xs none h = record {
  supported = h.supported;
  in_order = h.in_order;
  backed = h.backed;
  by_roots = λ a stands. elim (h.by_roots a stands) [ inr done ↦ inr done | inl to_do ↦ absurd (none a.target to_do) ];
  by_edges = λ e stands. elim (h.by_edges e stands) [ inr done ↦ inr done | inl to_do ↦ absurd (none e.target to_do) ];
}

-- past the end there is nothing
pub past_end : (xs : List ℕ) (i x : ℕ) → length xs ≤ i → Contains (drop i xs) x → ⊥
past_end xs i x le (k, lt, is) = omega (arith, length-drop i xs, lt)
