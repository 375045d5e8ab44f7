use Rattle.std.proofs.Common.{◌≡◌, ◌≢◌, ℕ, ◌<◌, ◌≤◌, ◌⊎◌, inl, inr, List, [], Contains, refl, sym, ap, arith}
use Rattle.std.proofs.lemmas.Bool.{cases_eq, cases_lt}
use Rattle.hd_terms.specs.declared.Strength.{Strength}
use Rattle.hd_terms.specs.declared.Strength.TheVariants as strengths
use Rattle.hd_terms.specs.declared.Support.{Support}
use Rattle.hd_terms.specs.declared.Support.TheVariants as supports
use Rattle.hd_terms.specs.Paths.{Edge}
use Rattle.hd_terms.specs.Paths.{RootEntry}
use Rattle.hd_terms.specs.Settled.{Reached}
use Rattle.hd_terms.specs.declared.Slot.{Slot}
use Rattle.hd_terms.specs.Ranks.{rank, given_by, weaker_of}
use Rattle.hd_terms.specs.Paths.{Standing}
use Rattle.hd_terms.specs.Settled.{Settled, reached_at, PassesOn, IsSupported}
use Rattle.hd_terms.proofs.RankLemmas.{weaker-le_left, rank-le, same_rank, rank-weaker}
use Rattle.hd_repair.specs.declared.offers.Offer.{Offer}
use Rattle.hd_repair.specs.Spreading.{IsSpreading, IsOffered, IsDone, NoRoot, NoEdge, IsBacked, IsInOrder, offered_strength, rank_at}

-- once no offer is left all is settled

none_left : (o n : ℕ) → IsOffered [] o n → ⊥
none_left o n f = let lt : f.made.0 < 0 = f.made.1 in omega arith

not_offered : (ks : List Reached) (o n : ℕ) → IsDone ks [] o n → n ≤ rank_at ks o
not_offered ks o n (inl le) = le
not_offered ks o n (inr f) = absurd (none_left o n f)

edges_done : (g : Standing) (ks : List Reached) → IsSpreading g ks [] NoRoot NoEdge → (e : Edge) → Contains g.edges e → PassesOn g.mode (reached_at ks e.source)
    → rank (offered_strength ks e) ≤ rank_at ks e.target
edges_done g ks h e is p = elim (h.by_edges e is) [ inl none ↦ absurd none | inr done ↦ not_offered ks e.target (rank (offered_strength ks e)) (done p) ]

roots_done : (g : Standing) (ks : List Reached) → IsSpreading g ks [] NoRoot NoEdge → (r : RootEntry) → Contains g.roots r → 5 ≤ rank_at ks r.target
roots_done g ks h r is = elim (h.by_roots r is) [ inl none ↦ absurd none | inr done ↦ not_offered ks r.target 5 done ]

settled_support : (g : Standing) (ks : List Reached) → IsSpreading g ks [] NoRoot NoEdge → (o : ℕ) (s : Support) → IsBacked g ks o (reached_at ks o).strength s
    → IsInOrder ks (reached_at ks o) s → IsSupported g ks o s
settled_support g ks h o supports.Nothing b i = b
settled_support g ks h o (supports.Root n) b i = b
settled_support g ks h o (supports.Edge source slot) (e, b) i =
    let most : rank (weaker_of (reached_at ks source).strength (given_by e.kind)) ≤ rank_at ks o =
    rw (← b.from_source, ← b.to_object) (edges_done g ks h e b.stands (rw b.from_source b.passes_on)) in (
      e,
      record {
        stands = b.stands;
        from_source = b.from_source;
        from_slot = b.from_slot;
        to_object = b.to_object;
        passes_on = b.passes_on;
        strength = same_rank _ _ (omega (arith, b.enough));
        earlier = i;
      },
    )

pub settled_in_the_end : (g : Standing) (ks : List Reached) → IsSpreading g ks [] NoRoot NoEdge → Settled g ks
settled_in_the_end g ks h = record {
  supported = λ o. settled_support g ks h o (reached_at ks o).support (h.supported o) (h.in_order o);
  by_roots = λ r is. same_rank (reached_at ks r.target).strength strengths.Strong
      (omega (arith, roots_done g ks h r is, rank-le (reached_at ks r.target).strength));
  by_edges = edges_done g ks h;
}

-- what is settled is spreading with no offer
pub exact_support : (g : Standing) (ks : List Reached) (o : ℕ) (s : Support) → IsSupported g ks o s → IsBacked g ks o (reached_at ks o).strength s
exact_support g ks o supports.Nothing h = h
exact_support g ks o (supports.Root n) h = h
exact_support g ks o (supports.Edge source slot) (e, h) = (
  e,
  record {
    stands = h.stands;
    from_source = h.from_source;
    from_slot = h.from_slot;
    to_object = h.to_object;
    passes_on = h.passes_on;
    enough = rw (ap rank h.strength) (omega arith);
  },
)

pub order_of : (g : Standing) (ks : List Reached) (o : ℕ) (s : Support) → IsSupported g ks o s → IsInOrder ks (reached_at ks o) s
order_of g ks o supports.Nothing h = tt
order_of g ks o (supports.Root n) h = tt
order_of g ks o (supports.Edge source slot) (e, h) = h.earlier

-- an offer is taken, which gives more than its target has
module _ (g : Standing) (ks ks' : List Reached) (t : ℕ) (k : Reached) (more : rank_at ks t < rank k.strength)
    (here : reached_at ks' t ≡ k) (others : (o : ℕ) → o ≢ t → reached_at ks' o ≡ reached_at ks o) where
  -- no rank falls
  pub raises : (o : ℕ) → rank_at ks o ≤ rank_at ks' o
  raises o = elim (cases_eq o t) [
    | inl same ↦ rw (same, here) (omega arith)
    | inr other ↦ rw (others o other) (omega arith)
  ]

  more_offered : (source : ℕ) (e : Edge) → rank (weaker_of (reached_at ks source).strength (given_by e.kind)) ≤ rank
      (weaker_of (reached_at ks' source).strength (given_by e.kind))
  more_offered source e = omega (
    arith,
    raises source,
    rank-weaker (reached_at ks source).strength (given_by e.kind),
    rank-weaker
        (reached_at ks' source).strength (given_by e.kind),
  )

  pub backed_still : (o : ℕ) (s : Strength) (by : Support) → IsBacked g ks o s by → IsBacked g ks' o s by
  backed_still o s supports.Nothing h = h
  backed_still o s (supports.Root n) h = h
  backed_still o s (supports.Edge source slot) (e, h) = (
    e,
    record {
      stands = h.stands;
      from_source = h.from_source;
      from_slot = h.from_slot;
      to_object = h.to_object;
      passes_on = omega (arith, h.passes_on, raises source);
      enough = omega (arith, h.enough, more_offered source e);
    },
  )

  -- the order of the others stays
  order_still : (x : Reached) (o : ℕ) (by : Support) → IsBacked g ks o x.strength by → IsInOrder ks x by → IsInOrder ks' x by
  order_still x o supports.Nothing b h = tt
  order_still x o (supports.Root n) b h = tt
  order_still x o (supports.Edge source slot) (e, b) h = elim (cases_eq source t) [
    | inl same ↦ rw (same, here)
        (inl (let le : rank x.strength ≤ rank_at ks t =
        rw (ap (rank_at ks) (sym same)) (omega (arith, b.enough, weaker-le_left (reached_at ks source).strength (given_by e.kind))) in omega arith))
    | inr other ↦ rw (others source other) h
  ]

-- an offer that gives more than its target has is taken
module _ (g : Standing) (ks ks' : List Reached) (offers offers' : List Offer) (f : Offer) (stamp : ℕ) (more : rank_at ks f.target < rank f.strength)
    (here : reached_at ks' f.target ≡ record { strength = f.strength; support = f.support; stamp = stamp })
    (others : (o : ℕ) → o ≢ f.target → reached_at ks' o ≡ reached_at ks o)
    (ToDo Later : Edge → Type 0) (h : IsSpreading g ks offers NoRoot ToDo) (is : Contains offers f)
    (left : (x : Offer) → Contains offers x → (x ≡ f) ⊎ Contains offers' x)
    (within : (x : Offer) → Contains offers' x → Contains offers x)
    (later : (source : ℕ) (slot : Slot) → f.support ≡ supports.Edge source slot → (reached_at ks source).stamp < stamp)
    (still : (e : Edge) → ToDo e → Later e) (from : (e : Edge) → e.source ≡ f.target → Later e) where
  abbrev k : Reached
  k = record { strength = f.strength; support = f.support; stamp = stamp }

  done_still : (o n : ℕ) → IsDone ks offers o n → IsDone ks' offers' o n
  done_still o n (inl le) = inl (omega (arith, raises g ks ks' f.target k more here others o))
  done_still o n (inr x) = elim (left x.offer x.made) [
    | inl same ↦ inl (let l : rank_at ks' o ≡ rank f.strength = rw (← x.to_object, same, here) refl in
        rw l (rw (ap (λ (y : Offer). rank y.strength) (sym same)) x.enough))
    | inr still ↦ inr (record { offer = x.offer; made = still; to_object = x.to_object; enough = x.enough })
  ]

  new_order : (by : Support) → f.support ≡ by → IsBacked g ks f.target f.strength by → IsInOrder ks' k by
  new_order supports.Nothing same b = tt
  new_order (supports.Root n) same b = tt
  new_order (supports.Edge source slot) same (e, b) =
      let source_high : rank f.strength ≤ rank_at ks source = omega (arith, b.enough, weaker-le_left (reached_at ks source).strength (given_by e.kind)) in
      let other : source ≢ f.target = λ same. let r : rank_at ks source ≡ rank_at ks f.target = ap (rank_at ks) same in omega arith in
      rw (others source other) (elim (cases_lt (rank f.strength) (rank_at ks source)) [
        | inl less ↦ inl less
        | inr le ↦ inr (omega arith, later source slot same)
      ])

  pub take : IsSpreading g ks' offers' NoRoot Later
  take = record {
    supported = λ o. elim (cases_eq o f.target) [
      | inl same ↦ rw (same, here) (backed_still g ks ks' f.target k more here others f.target f.strength f.support (h.backed f is))
      | inr other ↦ rw (others o other) (backed_still g ks ks' f.target k more here others o (reached_at ks o).strength (reached_at ks o).support
          (h.supported o))
    ];
    in_order = λ o. elim (cases_eq o f.target) [
      | inl same ↦ rw (same, here) (new_order f.support refl (h.backed f is))
      | inr other ↦ rw (others o other) (order_still g ks ks' f.target k more here others (reached_at ks o) o (reached_at ks o).support (h.supported o)
          (h.in_order o))
    ];
    backed = λ x made. backed_still g ks ks' f.target k more here others x.target x.strength x.support (h.backed x (within x made));
    by_roots = λ r stands. elim (h.by_roots r stands) [ inl none ↦ absurd none | inr done ↦ inr (done_still r.target 5 done) ];
    by_edges = λ e stands. elim (cases_eq e.source f.target) [
      | inl same ↦ inl (from e same)
      | inr other ↦ elim (h.by_edges e stands) [
        | inl to_do ↦ inl (still e to_do)
        | inr done ↦ inr (λ p.
            let same : reached_at ks' e.source ≡ reached_at ks e.source = others e.source other in
            let gifts : offered_strength ks' e ≡ offered_strength ks e = ap (λ (x : Reached). weaker_of x.strength (given_by e.kind)) same in
            rw gifts (done_still e.target (rank (offered_strength ks e)) (done (rw (← same) p))))
      ]
    ];
  }
