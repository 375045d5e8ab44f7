use Rattle.std.proofs.Common.{◌≡◌, ℕ, ◌+◌, ◌<◌, ◌≤◌, ◌⊎◌, inl, inr, List, [], Contains, length, take, refl, sym, ap, subst, arith, Some, true, false, slice_get}
use Rattle.std.proofs.lemmas.List.Elements.{Contains-push_cases}
use Rattle.hd_terms.specs.declared.Strength.TheVariants as strengths
use Rattle.hd_terms.specs.declared.Support.{Support}
use Rattle.hd_terms.specs.declared.Support.TheVariants as supports
use Rattle.hd_terms.specs.Paths.{Edge, RootEntry}
use Rattle.hd_terms.specs.Settled.{Reached}
use Rattle.hd_terms.specs.declared.Mode.{Mode}
use Rattle.hd_terms.specs.Ranks.{rank}
use Rattle.hd_terms.specs.Settled.{reached_at, IsBefore, PassesOn}
use Rattle.hd_terms.proofs.RankLemmas.{rank-le}
use Rattle.hd_terms.specs.EdgeRows.{MarkedEdge}
use Rattle.hd_terms.specs.EdgeRows.{MarkedRoot}
use Rattle.hd_terms.specs.EdgeRows.{Rows, AreRows}
use Rattle.hd_repair.specs.declared.offers.Offer.{Offer}
use Rattle.hd_repair.specs.Spreading.{rank_at, offered_strength, IsBacked, IsBestSoFar, IsBetterBy, IsEdgeWithin, IsInOrder}
use Rattle.hd_repair.proofs.OutLemmas.{Contains-slice_get, take_one_more}

-- an edge in the row of its target is one to it
pub into_target : (r : Rows) → AreRows r → (o : ℕ) (y : MarkedEdge) → Contains (r.into o) y → y.edge.target ≡ o
into_target r laws o y c = ((laws.into_out o y).0 c).0

-- where it is marked so, it stands
pub into_stands : (r : Rows) → AreRows r → (o : ℕ) (y : MarkedEdge) → Contains (r.into o) y → y.stands ≡ true → Contains r.standing.edges y.edge
into_stands r laws o y c stands = laws.out_stands y.edge.source y ((laws.into_out o y).0 c).1 stands

-- and each one that stands is there
pub into_all : (r : Rows) → AreRows r → (e : Edge) → Contains r.standing.edges e → Contains (r.into e.target) (record { edge = e; stands = true })
into_all r laws e stands = (laws.into_out e.target (record { edge = e; stands = true })).1 (refl, laws.out_all e stands)

-- what comes before what comes before an object comes before it
pub before_trans : (a b c : Reached) → IsBefore a b → IsBefore b c → IsBefore a c
before_trans a b c (inl x) (inl y) = inl (omega (arith, x, y))
before_trans a b c (inl x) (inr y) = inl (omega (arith, x, y.0))
before_trans a b c (inr x) (inl y) = inl (omega (arith, x.0, y))
before_trans a b c (inr x) (inr y) = inr (omega (arith, x.0, y.0), omega (arith, x.1, y.1))

-- the offer by a root
abbrev pub by_root : ℕ → ℕ → Offer
by_root o n = record { target = o; strength = strengths.Strong; support = supports.Root n }

module _ (r r' : Rows) (same : r' ≡ r) (laws : AreRows r') (ks : List Reached) (o i : ℕ) (m : MarkedRoot) (lt : i < length (r.roots o))
    (is : slice_get (r'.roots o) i ≡ Some m) (x : Offer) (h : IsBestSoFar r.standing ks o (take i (r.roots o)) [] x) where
  laws_here : AreRows r
  laws_here = subst AreRows same laws

  is_here : slice_get (r.roots o) i ≡ Some m
  is_here = subst (λ (r : Rows). slice_get (r.roots o) i ≡ Some m) same is

  pub root_stands : m.stands ≡ true → IsBestSoFar r.standing ks o (take (i + 1) (r.roots o)) [] (by_root o m.root.number)
  root_stands stands = record {
    target = refl;
    backed =
        let c : Contains (r.roots o) m = Contains-slice_get (r.roots o) i m lt is_here in
        let there : m.root ≡ record { number = m.root.number; target = o } = ap (λ (t : ℕ). record { number = m.root.number; target = t })
        (laws_here.root_target o m c) in
        (subst (λ (x : RootEntry). Contains r.standing.roots x) there (laws_here.root_stands o m c stands), refl);
    no_less = omega (arith, rank-le (reached_at ks o).strength);
    in_order = λ le. tt;
    by_marks = λ z c z_stands. omega arith;
    by_entries = λ y c y_stands p. omega (arith, rank-le (offered_strength ks y.edge));
  }

  pub root_falls : m.stands ≡ false → IsBestSoFar r.standing ks o (take (i + 1) (r.roots o)) [] x
  root_falls falls = rw (take_one_more (r.roots o) i m lt is_here) (record {
    target = h.target;
    backed = h.backed;
    no_less = h.no_less;
    in_order = h.in_order;
    by_marks = λ z c stands. elim (Contains-push_cases (take i (r.roots o)) m z c) [
      | inl before ↦ h.by_marks z before stands
      | inr here ↦ let s : m.stands ≡ true = rw here stands in cc
    ];
    by_entries = h.by_entries;
  })

module _ (r r' : Rows) (same : r' ≡ r) (laws : AreRows r') (ks : List Reached) (o i : ℕ) (y : MarkedEdge) (lt : i < length (r.into o))
    (is : slice_get (r'.into o) i ≡ Some y) where
  laws_in : AreRows r
  laws_in = subst AreRows same laws

  is_in : Contains (r.into o) y
  is_in = Contains-slice_get (r.into o) i y lt (subst (λ (r : Rows). slice_get (r.into o) i ≡ Some y) same is)

  pub in_within : (n : ℕ) → n ≡ r.objects → o < r.objects → IsEdgeWithin n y
  in_within n e o_lt = record { source = rw e (laws_in.into_source o y is_in); target = rw (e, into_target r laws_in o y is_in) o_lt }

  module _ (mode : Mode) (is_mode : mode ≡ r.standing.mode) (marks : List MarkedRoot) (x x' : Offer)
      (h : IsBestSoFar r.standing ks o marks (take i (r.into o)) x) (least : rank x.strength ≤ rank x'.strength)
      (covers : y.stands ≡ true → PassesOn mode (reached_at ks y.edge.source) → rank (offered_strength ks y.edge) ≤ rank x'.strength)
      (which : (x' ≡ x) ⊎ IsBetterBy mode ks y x x') where
    target : x'.target ≡ o
    target = elim which [ inl old ↦ rw old h.target | inr new ↦ rw new.is (into_target r laws_in o y is_in) ]

    backed : IsBacked r.standing ks o x'.strength x'.support
    backed = elim which [
      | inl old ↦ rw old h.backed
      | inr new ↦ rw new.is (
        y.edge,
        record {
          stands = into_stands r laws_in o y is_in new.stands;
          from_source = refl;
          from_slot = refl;
          to_object = into_target r laws_in o y is_in;
          passes_on = subst (λ (m : Mode). PassesOn m (reached_at ks y.edge.source)) is_mode new.passes_on;
          enough = omega arith;
        },
      )
    ]

    -- where it gives no more than o has, its source comes before the one that is known, and so before o
    in_order : rank x'.strength ≤ rank_at ks o → IsInOrder ks (reached_at ks o) x'.support
    in_order le = elim which [
      | inl old ↦ rw old (h.in_order (omega (arith, least, le)))
      | inr new ↦ rw (ap (λ (f : Offer). f.support) new.is) (elim new.better [
        | inl more ↦ absurd (omega (arith, h.no_less, more, le))
        | inr earlier ↦ before_trans (reached_at ks y.edge.source) (reached_at ks earlier.source) (reached_at ks o) earlier.before
            (subst (λ (by : Support). IsInOrder ks (reached_at ks o) by) earlier.is (h.in_order (omega (arith, least, le))))
      ])
    ]

    pub edge_more : IsBestSoFar r.standing ks o marks (take (i + 1) (r.into o)) x'
    edge_more = rw (take_one_more (r.into o) i y lt (subst (λ (r : Rows). slice_get (r.into o) i ≡ Some y) same is)) (record {
      target = target;
      backed = backed;
      no_less = omega (arith, h.no_less, least);
      in_order = in_order;
      by_marks = λ m c stands. omega (arith, h.by_marks m c stands, least);
      by_entries = λ z c stands p. elim (Contains-push_cases (take i (r.into o)) y z c) [
        | inl before ↦ omega (arith, h.by_entries z before stands p, least)
        | inr here ↦ rw (← here) (covers (rw here stands) (subst (λ (m : Mode). PassesOn m (reached_at ks y.edge.source)) (sym is_mode) (rw here p)))
      ];
    })
