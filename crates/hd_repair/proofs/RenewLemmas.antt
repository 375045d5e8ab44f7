use Rattle.std.proofs.Common.{◌≡◌, ◌≢◌, ◌∙◌, ℕ, ◌+◌, ◌<◌, ◌≤◌, ◌⊎◌, inl, inr, List, [], ◌∷◌, ◌++◌, Contains, length, refl, sym, ap, subst, arith}
use Rattle.std.proofs.lemmas.Bool.{cases_eq, cases_lt}
use Rattle.std.proofs.lemmas.List.{get_or-map, get_or_past, length-map, map-append}
use Rattle.std.proofs.lemmas.List.Elements.{Contains-append_left, Contains-push, Contains-push_cases}
use Rattle.hd_terms.specs.declared.Slot.{Slot}
use Rattle.hd_terms.specs.declared.Strength.{Strength}
use Rattle.hd_terms.specs.declared.Support.{Support}
use Rattle.hd_terms.specs.declared.Support.TheVariants as supports
use Rattle.hd_terms.specs.Paths.{Edge, Standing, Lead, IsPath}
use Rattle.hd_terms.specs.Ranks.{rank, given_by, least_passed_on, weaker_of}
use Rattle.hd_terms.specs.Regions.{AreChanges, Holding, StrengthChange, changed_objects, IsWithout, InLossRegion, by_support, by_source}
use Rattle.hd_terms.specs.Settled.{Reached, Settled, IsBefore, IsSupported, reached_at, SupportedBy}
use Rattle.hd_terms.proofs.Lower.{AreSupports, NoneTwice-push, found}
use Rattle.hd_terms.proofs.RankLemmas.{rank-weaker, same_rank}
use Rattle.hd_terms.proofs.Upper.{greatest}
use Rattle.hd_repair.specs.declared.marking.Known.{Known}
use Rattle.hd_repair.specs.declared.marking.Known.TheVariants as knowns
use Rattle.hd_repair.specs.Marking.{known_at, AreKnown, IsKnownAs, IsMarkedByChange}
use Rattle.hd_repair.specs.Renewing.{change_at, raised, AreChangesBelow, AreRenewed, IsGreatestStamp, IsNoted, IsRenewedAt}
use Rattle.hd_repair.specs.Spreading.{rank_at}
use Rattle.hd_repair.proofs.LossLemmas.{no_better}

-- outside the region of a loss chains stand, so strengths are as they were
module _ (less more : Standing) (lost : List Holding) (ks fs : List Reached) (w : IsWithout less more lost) (before : Settled more ks)
    (after : Settled less fs) where
  -- an edge that supports an object outside stands, and its source is outside
  edge_left : (e : Edge) → Contains more.edges e → (reached_at ks e.target).support ≡ supports.Edge e.source e.slot → (InLossRegion ks lost e.target → ⊥)
      → Contains less.edges e × (InLossRegion ks lost e.source → ⊥)
  edge_left e stood is out = (
    elim (w.edges e stood) [
      | inl stands ↦ stands
      | inr gone ↦ absurd (out (by_support (rw is gone)))
    ],
    λ r. out (by_source e.source e.slot is r),
  )

  chain_left : (es : List Edge) (a o : ℕ) → Lead more a es o → AreSupports ks es → (InLossRegion ks lost o → ⊥)
      → Lead less a es o × (InLossRegion ks lost a → ⊥)
  chain_left [] a o l stored out = (l, rw l out)
  chain_left (e ∷ es) a o l stored out =
      let later = chain_left es e.target o l.2 stored.1 out in
      let here = edge_left e l.0 stored.0 later.1 in
      ((here.0, l.1, later.0), rw (← l.1) here.1)

  no_worse : (o : ℕ) → (InLossRegion ks lost o → ⊥) → rank_at ks o ≤ rank_at fs o
  no_worse o out = elim (cases_lt 0 (rank_at ks o)) [
    | inr none ↦ omega arith
    | inl reached ↦
        let way = found more ks before o (λ is. let z : rank_at ks o ≡ 0 = ap rank is in omega arith) in
        let left = chain_left way.1 way.0.target o way.2.path.edges way.3.edges out in
        let path : IsPath less way.0 way.1 o = record {
          root = elim (w.roots way.0 way.2.path.root) [
            | inl stands ↦ stands
            | inr gone ↦ absurd (left.1 (by_support (rw way.3.root gone)))
          ];
          edges = left.0;
          passed_on = rw w.mode way.2.path.passed_on;
        } in
        let s : rank _ ≡ rank_at ks o = ap rank way.2.strength in
        omega (arith, s, greatest less fs after o way.0 way.1 path)
  ]

  pub same_outside : (o : ℕ) → (InLossRegion ks lost o → ⊥) → (reached_at fs o).strength ≡ (reached_at ks o).strength
  same_outside o out = same_rank (reached_at fs o).strength (reached_at ks o).strength
      (omega (arith, no_worse o out, no_better less more lost ks fs w before after o))

-- what is renewed by a search has the strengths of the search, and the order of supports stays
module _ (g : Standing) (ks fs ks' : List Reached) (base : ℕ) (after : Settled g fs) (greatest : IsGreatestStamp ks base)
    (same_strength : (o : ℕ) → (reached_at ks' o).strength ≡ (reached_at fs o).strength)
    (which : (o : ℕ) → (reached_at ks' o ≡ raised base (reached_at fs o)) ⊎ (reached_at ks' o ≡ reached_at ks o)) where
  same_at : (o : ℕ) → rank_at ks' o ≡ rank_at fs o
  same_at o = ap rank (same_strength o)

  -- a source comes before what it supports by the search
  still_before : (source o : ℕ) → reached_at ks' o ≡ raised base (reached_at fs o) → IsBefore (reached_at fs source) (reached_at fs o)
      → IsBefore (reached_at ks' source) (reached_at ks' o)
  still_before source o is (inl more_than) = inl (rw (same_at source, same_at o) more_than)
  still_before source o is (inr (same, earlier)) =
      let stamp : (reached_at ks' o).stamp ≡ (reached_at fs o).stamp + base = ap (λ (k : Reached). k.stamp) is in
      inr (
        same_at o ∙ same ∙ sym (same_at source),
        elim (which source) [
          | inl there ↦
              let lifted : (reached_at ks' source).stamp ≡ (reached_at fs source).stamp + base = ap (λ (k : Reached). k.stamp) there in
              omega (arith, stamp, lifted, earlier)
          | inr there ↦
              let kept : (reached_at ks' source).stamp ≡ (reached_at ks source).stamp = ap (λ (k : Reached). k.stamp) there in
              omega (arith, stamp, kept, earlier, greatest.greatest source)
        ],
      )

  supported_by_search : (o : ℕ) (by : Support) → reached_at ks' o ≡ raised base (reached_at fs o) → IsSupported g fs o by → IsSupported g ks' o by
  supported_by_search o supports.Nothing is s = same_strength o ∙ s
  supported_by_search o (supports.Root r) is s = (s.0, same_strength o ∙ s.1)
  supported_by_search o (supports.Edge source slot) is (e, s) = (
    e,
    record {
      stands = s.stands;
      from_source = s.from_source;
      from_slot = s.from_slot;
      to_object = s.to_object;
      passes_on = rw (same_strength source) s.passes_on;
      strength = same_strength o ∙ s.strength ∙ ap (λ (x : Strength). weaker_of x (given_by e.kind)) (sym (same_strength source));
      earlier = still_before source o is s.earlier;
    },
  )

  -- where all else is supported as it was, all is settled
  pub settled_by : ((o : ℕ) → (reached_at ks' o ≡ raised base (reached_at fs o)) ⊎ IsSupported g ks' o (reached_at ks' o).support) → Settled g ks'
  settled_by supported = record {
    supported = λ o. elim (supported o) [
      | inl is ↦ rw is (supported_by_search o (reached_at fs o).support is (after.supported o))
      | inr is ↦ is
    ];
    by_roots = λ r stands. same_strength r.target ∙ after.by_roots r stands;
    by_edges = λ e stands passes. rw (same_strength e.target, same_strength e.source) (after.by_edges e stands (rw (same_strength e.source) at passes));
  }

-- what is renewed in the region of a loss is settled
module _ (less more : Standing) (lost : List Holding) (ks fs ks' : List Reached) (known : List Known) (base : ℕ) (w : IsWithout less more lost)
    (before : Settled more ks) (after : Settled less fs) (marks : AreKnown ks lost known) (all : (o : ℕ) → known_at known o ≢ knowns.Unknown)
    (greatest : IsGreatestStamp ks base) (h : (o : ℕ) → ((known_at known o ≡ knowns.Inside) × (reached_at ks' o ≡ raised base (reached_at fs o)))
    ⊎ ((known_at known o ≢ knowns.Inside) × (reached_at ks' o ≡ reached_at ks o))) where
  is_outside : (found : Known) (o : ℕ) → IsKnownAs ks lost found o → found ≢ knowns.Unknown → found ≢ knowns.Inside → InLossRegion ks lost o → ⊥
  is_outside knowns.Unknown o is some not_inside = absurd (some refl)
  is_outside knowns.Inside o is some not_inside = absurd (not_inside refl)
  is_outside knowns.Outside o is some not_inside = is

  outside : (o : ℕ) → known_at known o ≢ knowns.Inside → InLossRegion ks lost o → ⊥
  outside o not_inside = is_outside (known_at known o) o (marks.right o) (all o) not_inside

  same_in_region : (o : ℕ) → (reached_at ks' o).strength ≡ (reached_at fs o).strength
  same_in_region o = elim (h o) [
    | inl is ↦ ap (λ (k : Reached). k.strength) is.1
    | inr is ↦ ap (λ (k : Reached). k.strength) is.1 ∙ sym (same_outside less more lost ks fs w before after o (outside o is.0))
  ]

  -- outside supports stand as they did
  supported_outside : (o : ℕ) (by : Support) → reached_at ks' o ≡ reached_at ks o → (InLossRegion ks lost o → ⊥) → (reached_at ks o).support ≡ by
      → IsSupported more ks o by → IsSupported less ks' o by
  supported_outside o supports.Nothing same out is s = ap (λ (k : Reached). k.strength) same ∙ s
  supported_outside o (supports.Root r) same out is s = (
    elim (w.roots (record { number = r; target = o }) s.0) [
      | inl stands ↦ stands
      | inr gone ↦ absurd (out (by_support (rw is gone)))
    ],
    ap (λ (k : Reached). k.strength) same ∙ s.1,
  )
  supported_outside o (supports.Edge source slot) same out is (e, s) =
      let there : reached_at ks' source ≡ reached_at ks source = elim (h source) [
        | inl in_region ↦ absurd (out (by_source source slot is (source_in_region source in_region.0)))
        | inr kept ↦ kept.1
      ] in (
        e,
        record {
          stands = elim (w.edges e s.stands) [
            | inl stands ↦ stands
            | inr gone ↦ absurd (out (by_support (rw (is, ← s.from_source, ← s.from_slot, ← s.to_object) gone)))
          ];
          from_source = s.from_source;
          from_slot = s.from_slot;
          to_object = s.to_object;
          passes_on = rw (there, w.mode) s.passes_on;
          strength = rw (same, there) s.strength;
          earlier = rw (same, there) s.earlier;
        },
      )
    where
      source_in_region : (x : ℕ) → known_at known x ≡ knowns.Inside → InLossRegion ks lost x
      source_in_region x is = subst (λ (found : Known). IsKnownAs ks lost found x) is (marks.right x)

  pub renewed_settled : Settled less ks'
  renewed_settled = settled_by less ks fs ks' base after greatest same_in_region
      (λ o. elim (h o) [ inl is ↦ inl is.1 | inr is ↦ inr is.1 ])
      (λ o. elim (h o) [
        | inl is ↦ inl is.1
        | inr is ↦ inr (rw is.1 (supported_outside o (reached_at ks o).support is.1 (outside o is.0) refl (before.supported o)))
      ])

-- what is renewed where a gain changes strengths is settled
module _ (before now : Standing) (gained : List Holding) (ks fs ks' : List Reached) (base : ℕ) (w : IsWithout before now gained)
    (settled : Settled before ks) (after : Settled now fs) (greatest : IsGreatestStamp ks base)
    (h : (o : ℕ) → (((reached_at ks o).strength ≢ (reached_at fs o).strength) × (reached_at ks' o ≡ raised base (reached_at fs o)))
    ⊎ (((reached_at ks o).strength ≡ (reached_at fs o).strength) × (reached_at ks' o ≡ reached_at ks o))) where
  same_by_gain : (o : ℕ) → (reached_at ks' o).strength ≡ (reached_at fs o).strength
  same_by_gain o = elim (h o) [
    | inl is ↦ ap (λ (k : Reached). k.strength) is.1
    | inr is ↦ ap (λ (k : Reached). k.strength) is.1 ∙ is.0
  ]

  rises : (o : ℕ) → rank_at ks o ≤ rank_at fs o
  rises o = no_better before now gained fs ks w after settled o

  -- a source that rose comes before what it supports, and gives it what it has
  risen_source : (o source : ℕ) (slot : Slot) (e : Edge) → reached_at ks' o ≡ reached_at ks o → (reached_at ks o).strength ≡ (reached_at fs o).strength
      → SupportedBy before ks o source slot e → (reached_at ks source).strength ≢ (reached_at fs source).strength → SupportedBy now ks' o source slot e
  risen_source o source slot e same equal s rose =
      let stands : Contains now.edges e = w.edges_within e s.stands in
      let m : rank (least_passed_on before.mode) ≡ rank (least_passed_on now.mode) = ap (λ (m : _). rank (least_passed_on m)) w.mode in
      let there : rank_at ks' source ≡ rank_at fs source = ap rank (same_by_gain source) in
      let here : rank_at ks' o ≡ rank_at ks o = ap (λ (k : Reached). rank k.strength) same in
      let was : rank_at ks o ≡ rank (weaker_of (reached_at ks source).strength (given_by e.kind)) = ap rank s.strength in
      let is : rank_at ks o ≡ rank_at fs o = ap rank equal in
      let up : rank_at ks source ≤ rank_at fs source = rises source in
      let more_than : rank_at ks source < rank_at fs source = elim (cases_lt (rank_at ks source) (rank_at fs source)) [
        | inl lt ↦ lt
        | inr le ↦ absurd (rose (same_rank (reached_at ks source).strength (reached_at fs source).strength (omega arith)))
      ] in
      let most = rw (s.from_source, s.to_object) at (after.by_edges e stands (rw s.from_source (omega (arith, s.passes_on)))) in
      record {
        stands = stands;
        from_source = s.from_source;
        from_slot = s.from_slot;
        to_object = s.to_object;
        passes_on = omega (arith, s.passes_on);
        strength = same_rank (reached_at ks' o).strength (weaker_of (reached_at ks' source).strength (given_by e.kind)) (omega (
          arith,
          most,
          rank-weaker (reached_at ks source).strength (given_by e.kind),
          rank-weaker (reached_at fs source).strength (given_by e.kind),
          rank-weaker (reached_at ks' source).strength (given_by e.kind),
        ));
        earlier = inl (omega (arith, rank-weaker (reached_at ks source).strength (given_by e.kind)));
      }

  supported_still : (o : ℕ) (by : Support) → reached_at ks' o ≡ reached_at ks o → (reached_at ks o).strength ≡ (reached_at fs o).strength
      → IsSupported before ks o by → IsSupported now ks' o by
  supported_still o supports.Nothing same equal s = ap (λ (k : Reached). k.strength) same ∙ s
  supported_still o (supports.Root r) same equal s = (w.roots_within (record { number = r; target = o }) s.0, ap (λ (k : Reached). k.strength) same ∙ s.1)
  supported_still o (supports.Edge source slot) same equal (e, s) = (
    e,
    elim (h source) [
      | inl rose ↦ risen_source o source slot e same equal s rose.0
      | inr kept ↦ record {
        stands = w.edges_within e s.stands;
        from_source = s.from_source;
        from_slot = s.from_slot;
        to_object = s.to_object;
        passes_on = rw (kept.1, ← w.mode) s.passes_on;
        strength = rw (same, kept.1) s.strength;
        earlier = rw (same, kept.1) s.earlier;
      }
    ],
  )

  pub gain_settled : Settled now ks'
  gain_settled = settled_by now ks fs ks' base after greatest same_by_gain
      (λ o. elim (h o) [ inl is ↦ inl is.1 | inr is ↦ inr is.1 ])
      (λ o. elim (h o) [
        | inl is ↦ inl is.1
        | inr is ↦ inr (rw is.1 (supported_still o (reached_at ks o).support is.1 is.0 (settled.supported o)))
      ])

-- one object after another is renewed, or stays
module _ (ks fs ks1 : List Reached) (known : List Known) (base n : ℕ) (h : AreRenewed ks fs ks1 known base n) where
  pub one_renewed : (ks2 : List Reached) (changes changes' : List StrengthChange) → known_at known n ≡ knowns.Inside
      → IsRenewedAt ks1 ks2 fs base n changes changes' → AreRenewed ks fs ks2 known base (n + 1)
  one_renewed ks2 changes changes' is r = record {
    count = r.count ∙ h.count;
    inside = λ o lt there. elim (cases_eq o n) [
      | inl same ↦ rw same r.here
      | inr other ↦ r.others o other ∙ h.inside o (omega arith) there
    ];
    others = λ o not_inside. elim (cases_eq o n) [
      | inl same ↦ absurd (not_inside (omega arith) (rw same is))
      | inr other ↦ r.others o other ∙ h.others o (λ lt. not_inside (omega arith))
    ];
  }

  pub one_left : known_at known n ≢ knowns.Inside → AreRenewed ks fs ks1 known base (n + 1)
  one_left not_here = record {
    count = h.count;
    inside = λ o lt there. elim (cases_eq o n) [
      | inl same ↦ absurd (not_here (rw same at there))
      | inr other ↦ h.inside o (omega arith) there
    ];
    others = λ o not_inside. h.others o (λ lt. not_inside (omega arith));
  }

-- an object that isn't renewed yet has the strength that it had
module _ (ks fs ks1 : List Reached) (known : List Known) (n : ℕ) (changes : List StrengthChange) (h : AreChangesBelow ks fs known n changes)
    (same : reached_at ks1 n ≡ reached_at ks n) where
  pub one_noted : (changes' : List StrengthChange) → known_at known n ≡ knowns.Inside → IsNoted ks1 fs n changes changes'
      → AreChangesBelow ks fs known (n + 1) changes'
  one_noted changes' is (inr (equal, none)) = record {
    once = rw none h.once;
    below = λ o c. (omega (arith, (h.below o (rw none at c)).0), (h.below o (rw none at c)).1);
    each = rw none h.each;
    all = λ o lt there differ. rw none (elim (cases_eq o n) [
      | inl this ↦ absurd (differ (rw this (ap (λ (k : Reached). k.strength) (sym same) ∙ equal)))
      | inr other ↦ h.all o (omega arith) there differ
    ]);
  }
  one_noted changes' is (inl (differs, more)) =
      let objects : changed_objects changes' ≡ changed_objects changes ++ n ∷ [] = ap changed_objects more
      ∙ map-append (λ (d : StrengthChange). d.object) changes (change_at ks1 fs n ∷ []) in
      record {
        once = rw objects (NoneTwice-push n (changed_objects changes) h.once (λ c. omega (arith, (h.below n c).0)));
        below = λ o c. elim (Contains-push_cases (changed_objects changes) n o (rw objects at c)) [
          | inl old ↦ (omega (arith, (h.below o old).0), (h.below o old).1)
          | inr this ↦ (omega (arith, this), rw (← this) is)
        ];
        each = λ d c. elim (Contains-push_cases changes (change_at ks1 fs n) d (rw more at c)) [
          | inl old ↦ h.each d old
          | inr this ↦ rw (← this) (ap (λ (k : Reached). k.strength) (sym same), refl, differs)
        ];
        all = λ o lt there differ. rw objects (elim (cases_eq o n) [
          | inl this ↦ rw this (Contains-push (changed_objects changes) n)
          | inr other ↦ Contains-append_left (changed_objects changes) (n ∷ []) o (h.all o (omega arith) there differ)
        ]);
      }

  pub one_unnoted : known_at known n ≢ knowns.Inside → AreChangesBelow ks fs known (n + 1) changes
  one_unnoted not_here = record {
    once = h.once;
    below = λ o c. (omega (arith, (h.below o c).0), (h.below o c).1);
    each = h.each;
    all = λ o lt there differ. elim (cases_eq o n) [
      | inl this ↦ absurd (not_here (rw this at there))
      | inr other ↦ h.all o (omega arith) there differ
    ];
  }

pub none_renewed : (ks fs : List Reached) (known : List Known) (base : ℕ) → AreRenewed ks fs ks known base 0
none_renewed ks fs known base = record { count = refl; inside = λ o lt is. absurd (omega arith); others = λ o out. refl }

pub none_noted : (ks fs : List Reached) (known : List Known) → AreChangesBelow ks fs known 0 []
none_noted ks fs known = record {
  once = tt;
  below = λ o (k, lt, is). absurd (omega arith);
  each = λ d (k, lt, is). absurd (omega arith);
  all = λ o lt is differ. absurd (omega arith);
}

-- with all objects done, each is as it was found or as it was
inside_or_not : (found : Known) → (found ≡ knowns.Inside) ⊎ (found ≢ knowns.Inside)
inside_or_not knowns.Inside = inl refl
inside_or_not knowns.Outside = inr (λ is. absurd cc)
inside_or_not knowns.Unknown = inr (λ is. absurd cc)

module _ (ks fs ks' : List Reached) (known : List Known) (base n : ℕ) (h : AreRenewed ks fs ks' known base n) (count : length known ≤ n) where
  inside_below : (o : ℕ) → known_at known o ≡ knowns.Inside → o < n
  inside_below o is = elim (cases_lt o (length known)) [
    | inl lt ↦ omega arith
    | inr past ↦ let both : knowns.Outside ≡ knowns.Inside = sym (get_or_past known o knowns.Outside past) ∙ is in absurd cc
  ]

  pub each_renewed : (o : ℕ) → ((known_at known o ≡ knowns.Inside) × (reached_at ks' o ≡ raised base (reached_at fs o)))
      ⊎ ((known_at known o ≢ knowns.Inside) × (reached_at ks' o ≡ reached_at ks o))
  each_renewed o = elim (inside_or_not (known_at known o)) [
    | inl is ↦ inl (is, h.inside o (inside_below o is) is)
    | inr not_inside ↦ inr (not_inside, h.others o (λ lt. not_inside))
  ]

  pub all_noted : (changes : List StrengthChange) → AreChangesBelow ks fs known n changes → AreChanges ks ks' changes
  all_noted changes c = record {
    once = c.once;
    each = λ d is. (
      (c.each d is).0,
      ap (λ (k : Reached). k.strength) (h.inside d.object (of d is).0 (of d is).1) ∙ (c.each d is).1,
      (c.each d is).2,
    );
    all = λ o differ. elim (each_renewed o) [
      | inl is ↦ c.all o (inside_below o is.0) is.0 (λ same. differ (same ∙ ap (λ (k : Reached). k.strength) (sym is.1)))
      | inr is ↦ absurd (differ (ap (λ (k : Reached). k.strength) (sym is.1)))
    ];
  }
    where
      of : (d : StrengthChange) → Contains changes d → (d.object < n) × (known_at known d.object ≡ knowns.Inside)
      of d (k, lt, is) = c.below d.object (
        k,
        omega (arith, lt, length-map changes (λ (x : StrengthChange). x.object)),
        get_or-map (λ (x : StrengthChange). x.object) changes k d d.object lt ∙ ap (λ (x : StrengthChange). x.object) is,
      )

  pub stamps_renewed : IsGreatestStamp ks base → (top : ℕ) → ((o : ℕ) → (reached_at fs o).stamp ≤ top)
      → (m : ℕ) → ((o : ℕ) → (reached_at ks o).stamp ≤ m) → (o : ℕ) → (reached_at ks' o).stamp ≤ m + top
  stamps_renewed greatest top found m high o = elim (each_renewed o) [
    | inl is ↦ let stamp : (reached_at ks' o).stamp ≡ (reached_at fs o).stamp + base = ap (λ (k : Reached). k.stamp) is.1
        in omega (arith, stamp, found o, greatest.least m high)
    | inr is ↦ let stamp : (reached_at ks' o).stamp ≡ (reached_at ks o).stamp = ap (λ (k : Reached). k.stamp) is.1 in omega (arith, stamp, high o)
  ]

  pub outside_kept : (lost : List Holding) → AreKnown ks lost known → (o : ℕ) → (InLossRegion ks lost o → ⊥) → reached_at ks' o ≡ reached_at ks o
  outside_kept lost marks o out = elim (each_renewed o) [
    | inl is ↦ absurd (out (subst (λ (found : Known). IsKnownAs ks lost found o) is.0 (marks.right o)))
    | inr is ↦ is.1
  ]

  -- by marks of what has another strength
  pub each_changed : ((o : ℕ) → IsMarkedByChange ks fs known o)
      → (o : ℕ) → (((reached_at ks o).strength ≢ (reached_at fs o).strength) × (reached_at ks' o ≡ raised base (reached_at fs o)))
      ⊎ (((reached_at ks o).strength ≡ (reached_at fs o).strength) × (reached_at ks' o ≡ reached_at ks o))
  each_changed marked o = elim (marked o) [
    | inl is ↦ inl (is.0, h.inside o (inside_below o is.1) is.1)
    | inr is ↦ inr (is.0, h.others o (λ lt. is.1))
  ]
