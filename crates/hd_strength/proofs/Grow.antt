use Rattle.std.proofs.Common.{◌≡◌, ◌≢◌, ◌∙◌, ℕ, ◌+◌, ◌<◌, ◌≤◌, ◌⊎◌, inl, inr, List, Contains, Option, Some, refl, sym, ap, subst, arith}
use Rattle.std.proofs.lemmas.Bool.{cases_eq, cases_lt}
use Rattle.hd_terms.specs.declared.Strength.{Strength}
use Rattle.hd_terms.specs.declared.Strength.TheVariants as strengths
use Rattle.hd_terms.specs.declared.Support.{Support}
use Rattle.hd_terms.specs.declared.Support.TheVariants as supports
use Rattle.hd_terms.specs.Ranks.{rank, given_by, weaker_of}
use Rattle.hd_terms.specs.Paths.{Edge, Standing}
use Rattle.hd_terms.specs.Settled.{Reached, reached_at, PassesOn, IsSupported, SupportedBy, Settled}
use Rattle.hd_terms.proofs.RankLemmas.{same_rank, weaker-le_left, least-positive}
use Rattle.hd_strength.specs.declared.buckets.Offer.{Offer}
use Rattle.hd_strength.specs.Growing.{rank_at, offered_strength, IsBacked, IsHadOrPromised, IsGrowing}

-- indexes give the edges that stand, each from its own object
pub record AreRows (g : Standing) (at : ℕ → ℕ → Option Edge) : Type 0 where
  pub stands : (o i : ℕ) (e : Edge) → at o i ≡ Some e → Contains g.edges e
  pub source : (o i : ℕ) (e : Edge) → at o i ≡ Some e → e.source ≡ o
  pub all : (e : Edge) → Contains g.edges e → (i : ℕ) × (at e.source i ≡ Some e)

-- offers of all strengths
abbrev pub Offers : Type 1
Offers = Strength → Offer → Type 0

-- an edge gives no more than its source has
pub offered_strength-le : (ks : List Reached) (e : Edge) → rank (offered_strength ks e) ≤ rank_at ks e.source
offered_strength-le ks e = weaker-le_left (reached_at ks e.source).strength (given_by e.kind)

-- what has or is promised a rank, has or is promised each lesser one
pub less_had : (at : ℕ → ℕ → Option Edge) (ks : List Reached) (offers : Offers) (given less o : ℕ) → less ≤ given → IsHadOrPromised at ks offers given o
    → IsHadOrPromised at ks offers less o
less_had at ks offers given less o le (inl had) = inl (omega arith)
less_had at ks offers given less o le (inr p) = inr (record {
  strength = p.strength;
  offer = p.offer;
  edge = p.edge;
  made = p.made;
  is = p.is;
  target = p.target;
  enough = omega (arith, p.enough);
})

-- where no rank falls and offers stay, as much is had or promised
pub still_had : (at : ℕ → ℕ → Option Edge) (ks ks' : List Reached) (old new : Offers) → ((o : ℕ) → rank_at ks o ≤ rank_at ks' o)
    → ((t : Strength) (x : Offer) → old t x → new t x)
    → (given o : ℕ) → IsHadOrPromised at ks old given o → IsHadOrPromised at ks' new given o
still_had at ks ks' old new raises stay given o (inl had) = inl (omega (arith, raises o))
still_had at ks ks' old new raises stay given o (inr p) = inr (record {
  strength = p.strength;
  offer = p.offer;
  edge = p.edge;
  made = stay p.strength p.offer p.made;
  is = p.is;
  target = p.target;
  enough = p.enough;
})

-- and where one offer goes whose target has what it gives
pub still_had_but : (at : ℕ → ℕ → Option Edge) (ks : List Reached) (old new : Offers) (s : Strength) (x : Offer) (e : Edge) → at x.source x.index ≡ Some e
    → rank s ≤ rank_at ks e.target
    → ((t : Strength) (y : Offer) → old t y → ((t ≡ s) × (y ≡ x)) ⊎ new t y) → (given o : ℕ) → IsHadOrPromised at ks old given o
    → IsHadOrPromised at ks new given o
still_had_but at ks old new s x e is has left given o (inl had) = inl had
still_had_but at ks old new s x e is has left given o (inr p) = elim (left p.strength p.offer p.made) [
  | inr still ↦ inr (record { strength = p.strength; offer = p.offer; edge = p.edge; made = still; is = p.is; target = p.target; enough = p.enough })
  | inl both ↦
      let there : at x.source x.index ≡ Some p.edge = subst (λ (y : Offer). at y.source y.index ≡ Some p.edge) both.1 p.is in
      let same : Some p.edge ≡ Some e = sym there ∙ is in
      let edge : p.edge ≡ e = cc in
      let to : rank_at ks o ≡ rank_at ks e.target = ap (rank_at ks) (sym p.target ∙ ap (λ (f : Edge). f.target) edge) in
      let gives : rank p.strength ≡ rank s = ap rank both.0 in
      inl (omega (arith, p.enough))
]

-- a slot that is done was done before, or is by a fact of its own
pub weaken : (g : Standing) (at : ℕ → ℕ → Option Edge) (ks : List Reached) (offers : Offers) (s : Strength) (limit : ℕ) (D D' : ℕ → ℕ → Type 0)
    → IsGrowing g at ks offers s limit D
    → ((o i : ℕ) (e : Edge) → D' o i → at o i ≡ Some e → PassesOn g.mode (reached_at ks o) → D o i
    ⊎ IsHadOrPromised at ks offers (rank (offered_strength ks e)) e.target) → IsGrowing g at ks offers s limit D'
weaken g at ks offers s limit D D' h part = record {
  supported = h.supported;
  by_roots = h.by_roots;
  by_edges = λ o i f done there p. elim (part o i f done there p) [
    | inl before ↦ h.by_edges o i f before there p
    | inr fact ↦ fact
  ];
  backed = h.backed;
  floor = h.floor;
  ceiling = h.ceiling;
}

-- other offers, as many or more, each backed, with a limit that is as great or greater
pub offer : (g : Standing) (at : ℕ → ℕ → Option Edge) (ks : List Reached) (old new : Offers) (s : Strength) (limit limit' : ℕ) (D : ℕ → ℕ → Type 0)
    → IsGrowing g at ks old s limit D → limit ≤ limit'
    → ((t : Strength) (x : Offer) → old t x → new t x) → ((t : Strength) (x : Offer) → new t x → old t x ⊎ (IsBacked g.mode at ks t x × (rank t < limit')))
    → IsGrowing g at ks new s limit' D
offer g at ks old new s limit limit' D h le stay parts = record {
  supported = h.supported;
  by_roots = h.by_roots;
  by_edges = λ o i f done there p. still_had at ks ks old new (λ o. omega arith) stay (rank (offered_strength ks f)) f.target (h.by_edges o i f done there p);
  backed = λ t x c. elim (parts t x c) [
    | inl before ↦ h.backed t x before
    | inr made ↦ made.0
  ];
  floor = h.floor;
  ceiling = λ t x c. elim (parts t x c) [
    | inl before ↦ omega (arith, h.ceiling t x before)
    | inr made ↦ made.1
  ];
}

-- an offer to an object that has what it gives is let go
pub decline : (g : Standing) (at : ℕ → ℕ → Option Edge) (ks : List Reached) (old new : Offers) (s : Strength) (limit : ℕ) (D : ℕ → ℕ → Type 0) (x : Offer)
    (e : Edge)
    → IsGrowing g at ks old s limit D → at x.source x.index ≡ Some e → 1 ≤ rank_at ks e.target
    → ((t : Strength) (y : Offer) → new t y → old t y) → ((t : Strength) (y : Offer) → old t y → ((t ≡ s) × (y ≡ x)) ⊎ new t y)
    → IsGrowing g at ks new s limit D
decline g at ks old new s limit D x e h is reached within left = record {
  supported = h.supported;
  by_roots = h.by_roots;
  by_edges = λ o i f done there p. still_had_but at ks old new s x e is (h.floor e.target reached) left (rank (offered_strength ks f)) f.target
      (h.by_edges o i f done there p);
  backed = λ t y c. h.backed t y (within t y c);
  floor = h.floor;
  ceiling = λ t y c. h.ceiling t y (within t y c);
}

-- once no offer of the strength is left each is of less
pub none_left : (g : Standing) (at : ℕ → ℕ → Option Edge) (ks : List Reached) (offers : Offers) (s : Strength) (D : ℕ → ℕ → Type 0)
    → IsGrowing g at ks offers s (rank s + 1) D → ((x : Offer) → offers s x → ⊥) → IsGrowing g at ks offers s (rank s) D
none_left g at ks offers s D h none = record {
  supported = h.supported;
  by_roots = h.by_roots;
  by_edges = h.by_edges;
  backed = h.backed;
  floor = h.floor;
  ceiling = λ t x c. elim (cases_eq (rank t) (rank s)) [
    | inl one ↦ absurd (none x (subst (λ (t : Strength). offers t x) (same_rank t s one) c))
    | inr less ↦ omega (arith, h.ceiling t x c)
  ];
}

-- what is reached has more than a lesser strength
pub descend : (g : Standing) (at : ℕ → ℕ → Option Edge) (ks : List Reached) (offers : Offers) (s next : Strength) (limit : ℕ) (D : ℕ → ℕ → Type 0)
    → IsGrowing g at ks offers s limit D → rank next ≤ rank s → IsGrowing g at ks offers next limit D
descend g at ks offers s next limit D h le = record {
  supported = h.supported;
  by_roots = h.by_roots;
  by_edges = h.by_edges;
  backed = h.backed;
  floor = λ o reached. omega (arith, h.floor o reached);
  ceiling = h.ceiling;
}

-- an object takes what an edge gives it, which is the strength that is spread
module _ (g : Standing) (at : ℕ → ℕ → Option Edge) (rows : AreRows g at) (ks ks' : List Reached) (old new : Offers) (s : Strength) (limit : ℕ)
    (D D' : ℕ → ℕ → Type 0) (x : Offer) (e : Edge)
    (h : IsGrowing g at ks old s limit D)
    (within : (t : Strength) (y : Offer) → new t y → old t y)
    (stay : (t : Strength) (y : Offer) → old t y → new t y)
    (is : at x.source x.index ≡ Some e) (passes_on : PassesOn g.mode (reached_at ks x.source)) (gives : s ≡ offered_strength ks e)
    (low : rank_at ks e.target ≡ 0)
    (stamp : ℕ) (last : (reached_at ks x.source).stamp ≤ stamp)
    (here : reached_at ks' e.target ≡ record { strength = s; support = supports.Edge e.source e.slot; stamp = stamp + 1 })
    (others : (o : ℕ) → o ≢ e.target → reached_at ks' o ≡ reached_at ks o)
    (part : (o i : ℕ) → D' o i → PassesOn g.mode (reached_at ks' o) → D o i × (o ≢ e.target)) where
  source : e.source ≡ x.source
  source = rows.source x.source x.index e is

  passes : PassesOn g.mode (reached_at ks e.source)
  passes = subst (λ (o : ℕ). PassesOn g.mode (reached_at ks o)) (sym source) passes_on

  -- what is reached stays
  pub stays : (o : ℕ) → 1 ≤ rank_at ks o → reached_at ks' o ≡ reached_at ks o
  stays o reached = others o (λ same. let l : rank_at ks o ≡ 0 = ap (rank_at ks) same ∙ low in omega arith)

  rank_here : rank_at ks' e.target ≡ rank s
  rank_here = ap (λ (k : Reached). rank k.strength) here

  source_stays : reached_at ks' e.source ≡ reached_at ks e.source
  source_stays = stays e.source (omega (arith, passes, least-positive g.mode))

  kept_support : (o : ℕ) (by : Support) → reached_at ks' o ≡ reached_at ks o → IsSupported g ks o by → IsSupported g ks' o by
  kept_support o supports.Nothing same is = rw same is
  kept_support o (supports.Root n) same is = (is.0, rw same is.1)
  kept_support o (supports.Edge source slot) same (f, is) =
      let there : reached_at ks' source ≡ reached_at ks source = stays source (omega (arith, is.passes_on, least-positive g.mode)) in (
        f,
        record {
          stands = is.stands;
          from_source = is.from_source;
          from_slot = is.from_slot;
          to_object = is.to_object;
          passes_on = rw there is.passes_on;
          strength = rw (same, there) is.strength;
          earlier = rw (same, there) is.earlier;
        },
      )

  less : rank s ≤ rank_at ks e.source
  less = let same : rank s ≡ rank (offered_strength ks e) = ap rank gives in omega (arith, offered_strength-le ks e)

  new_support : SupportedBy g ks' e.target e.source e.slot e
  new_support = record {
    stands = rows.stands x.source x.index e is;
    from_source = refl;
    from_slot = refl;
    to_object = refl;
    passes_on = rw source_stays passes;
    strength = rw (here, source_stays) gives;
    earlier = rw (here, source_stays) (elim (cases_lt (rank s) (rank_at ks e.source)) [
      | inl less ↦ inl less
      | inr more ↦ inr (omega (arith, less), omega (arith, ap (λ (o : ℕ). (reached_at ks o).stamp) source))
    ]);
  }

  supported : (o : ℕ) → IsSupported g ks' o (reached_at ks' o).support
  supported o = elim (cases_eq o e.target) [
    | inl same ↦ rw (same, here) (e, new_support)
    | inr other ↦ rw (ap (λ (k : Reached). k.support) (others o other)) (kept_support o (reached_at ks o).support (others o other) (h.supported o))
  ]

  -- no rank falls
  pub raises : (o : ℕ) → rank_at ks o ≤ rank_at ks' o
  raises o = elim (cases_eq o e.target) [
    | inl same ↦ let r : rank_at ks o ≡ 0 = ap (rank_at ks) same ∙ low in omega arith
    | inr other ↦ let r : rank_at ks' o ≡ rank_at ks o = ap (λ (k : Reached). rank k.strength) (others o other) in omega arith
  ]

  -- what is reached has at least the strength that is spread
  floor : (o : ℕ) → 1 ≤ rank_at ks' o → rank s ≤ rank_at ks' o
  floor o reached = elim (cases_eq o e.target) [
    | inl same ↦ let r : rank_at ks' o ≡ rank s = ap (rank_at ks') same ∙ rank_here in omega arith
    | inr other ↦ let r : rank_at ks' o ≡ rank_at ks o = ap (λ (k : Reached). rank k.strength) (others o other) in omega (arith, h.floor o (omega arith))
  ]

  same_offered_strength : (f : Edge) → reached_at ks' f.source ≡ reached_at ks f.source → offered_strength ks' f ≡ offered_strength ks f
  same_offered_strength f same = ap (λ (k : Reached). weaker_of k.strength (given_by f.kind)) same

  pub still_backed : (r : Strength) (y : Offer) → IsBacked g.mode at ks r y → IsBacked g.mode at ks' r y
  still_backed r y b =
      let there : reached_at ks' y.source ≡ reached_at ks y.source = stays y.source (omega (arith, b.passes_on, least-positive g.mode)) in
      let from : b.edge.source ≡ y.source = rows.source y.source y.index b.edge b.is in
      record {
        edge = b.edge;
        is = b.is;
        passes_on = rw there b.passes_on;
        gives = b.gives ∙ sym (same_offered_strength b.edge (subst (λ (o : ℕ). reached_at ks' o ≡ reached_at ks o) (sym from) there));
      }

  still_done : (o i : ℕ) (f : Edge) → D o i → o ≢ e.target → at o i ≡ Some f → PassesOn g.mode (reached_at ks' o)
      → IsHadOrPromised at ks' new (rank (offered_strength ks' f)) f.target
  still_done o i f done other there p =
      let same : reached_at ks' o ≡ reached_at ks o = others o other in
      let from : offered_strength ks' f ≡ offered_strength ks f =
      same_offered_strength f (subst (λ (o : ℕ). reached_at ks' o ≡ reached_at ks o) (sym (rows.source o i f there)) same) in
      subst (λ (r : Strength). IsHadOrPromised at ks' new (rank r) f.target) (sym from)
      (still_had at ks ks' old new raises stay (rank (offered_strength ks f)) f.target (h.by_edges o i f done there (rw (← same) p)))

  pub take : IsGrowing g at ks' new s limit D'
  take = record {
    supported = supported;
    by_roots = λ r c. let strong : (reached_at ks r.target).strength ≡ strengths.Strong = h.by_roots r c in
        rw (stays r.target (rw strong (omega arith))) strong;
    by_edges = λ o i f done there p. let before : D o i × (o ≢ e.target) = part o i done p in still_done o i f before.0 before.1 there p;
    backed = λ r y c. still_backed r y (h.backed r y (within r y c));
    floor = floor;
    ceiling = λ r y c. h.ceiling r y (within r y c);
  }

-- once no offer is left all is settled
pub settled_in_the_end : (g : Standing) (at : ℕ → ℕ → Option Edge) → AreRows g at → (ks : List Reached) (offers : Offers) (s : Strength) (limit : ℕ)
    (D : ℕ → ℕ → Type 0) → IsGrowing g at ks offers s limit D
    → ((t : Strength) (x : Offer) → offers t x → ⊥) → ((o i : ℕ) → D o i) → Settled g ks
settled_in_the_end g at rows ks offers s limit D h none all = record {
  supported = h.supported;
  by_roots = h.by_roots;
  by_edges = λ e c p.
      let index : (i : ℕ) × (at e.source i ≡ Some e) = rows.all e c in
      elim (h.by_edges e.source index.0 e (all e.source index.0) index.1 p) [
        | inl le ↦ le
        | inr offer ↦ absurd (none offer.strength offer.offer offer.made)
      ];
}
