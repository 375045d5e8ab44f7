use Rattle.std.proofs.Common.{
  ◌≡◌,
  ◌≢◌,
  ◌∙◌,
  ℕ,
  ◌+◌,
  ◌^◌,
  ◌<◌,
  ◌≤◌,
  ◌⊎◌,
  inl,
  inr,
  List,
  [],
  ◌∷◌,
  ◌++◌,
  Contains,
  length,
  drop,
  refl,
  sym,
  ap,
  subst,
  arith,
  true,
}
use Rattle.std.proofs.lemmas.Bool.{cases_eq}
use Rattle.std.proofs.lemmas.List.{length_push, drop-append-le}
use Rattle.std.proofs.lemmas.List.Elements.{Contains-push, Contains-push_cases}
use Rattle.hd_terms.specs.declared.Slot.{Slot}
use Rattle.hd_terms.specs.declared.Strength.{Strength}
use Rattle.hd_terms.specs.declared.Support.{Support}
use Rattle.hd_terms.specs.declared.Support.TheVariants as supports
use Rattle.hd_terms.specs.Ranks.{rank, given_by}
use Rattle.hd_terms.specs.Chains.{NoneTwice}
use Rattle.hd_terms.specs.Paths.{Standing}
use Rattle.hd_terms.specs.Settled.{Reached, reached_at, IsBefore}
use Rattle.hd_terms.specs.Regions.{Holding, InLossRegion, by_source}
use Rattle.hd_terms.specs.EdgeRows.{AreRows, MarkedEdge, Rows}
use Rattle.hd_terms.proofs.Lower.{Contains-first, Contains-later, NoneTwice-push}
use Rattle.hd_terms.proofs.RankLemmas.{weaker-le_left}
use Rattle.hd_repair.specs.Hanging.{AreInOrder, HaveSources, IsHolding, IsHung, IsSupportFor, NoneLate}
use Rattle.hd_repair.specs.Hanging.{by_root as hangs_by_root, by_source as hangs_by_source}
use Rattle.hd_repair.specs.Losing.{
  before_all,
  AreLifted,
  IsBelow,
  IsLifting,
  IsSince,
  IsUnderway,
  LateFrom,
  Progress,
  on_top,
  under,
  waits,
  hangs,
  is_lifted,
  is_gone,
}
use Rattle.hd_repair.specs.Spreading.{IsBacked, rank_at}
use Rattle.hd_repair.proofs.BestLemmas.{into_all}
use Rattle.hd_repair.proofs.HungLemmas.{hung_still, loose_not_hung}
use Rattle.hd_repair.proofs.QueueLemmas.{cons_cases}
use Rattle.hd_repair.proofs.UnderwayLemmas.{backed_same, before_same}

-- an object that waited hangs again, and others are lifted
abbrev pub with_rehung : ℕ → List ℕ → Progress → Progress
with_rehung o lifted p = record { waiting = p.waiting; rehung = p.rehung ++ o ∷ []; lifted = lifted; gone = p.gone; strengths = p.strengths }

abbrev pub with_lifted : List ℕ → Progress → Progress
with_lifted lifted p = record { waiting = p.waiting; rehung = p.rehung; lifted = lifted; gone = p.gone; strengths = p.strengths }

-- an object hangs on a new support
module _ (g : Standing) (n : ℕ) (ks ks' : List Reached) (o : ℕ) (p : Progress) (by : Support) (stamp : ℕ) (lifted' : List ℕ) (Late : ℕ → Type 0)
    (h : IsUnderway g n ks (before_all o p) NoneLate) (good : IsSupportFor g ks o by)
    (count : length ks' ≡ length ks) (here : reached_at ks' o ≡ record { strength = (reached_at ks o).strength; support = by; stamp = stamp })
    (others : (x : ℕ) → x ≢ o → reached_at ks' x ≡ reached_at ks x)
    (order : (source : ℕ) (slot : Slot) → by ≡ supports.Edge source slot → IsBefore (reached_at ks source) (reached_at ks' o))
    (below : (x : ℕ) (slot : Slot) → (reached_at ks x).support ≡ supports.Edge o slot → Late o ⊎ IsBefore (reached_at ks' o) (reached_at ks x))
    (which : (x : ℕ) → Contains lifted' x → Contains p.lifted x ⊎ (x ≡ o)) (once : NoneTwice lifted') (longer : length p.lifted ≤ length lifted')
    (room : stamp ≤ 2 ^ 47 + length lifted') where
  loose_first : ((reached_at ks o).support ≡ supports.Nothing) × (1 ≤ rank_at ks o)
  loose_first = h.waiting o (Contains-first o p.waiting)

  not_hung : IsHung ks o → ⊥
  not_hung = loose_not_hung ks o loose_first.0

  changed : (x : ℕ) → (x ≡ o) ⊎ (reached_at ks' x ≡ reached_at ks x)
  changed x = elim (cases_eq x o) [ inl same ↦ inl same | inr other ↦ inr (others x other) ]

  still : (x : ℕ) → IsHung ks x → IsHung ks' x
  still = hung_still ks ks' (λ x. x ≡ o) changed (λ x same. subst (λ (z : ℕ). IsHung ks z → ⊥) (sym same) not_hung)

  hung_other : (x : ℕ) → IsHung ks x → x ≢ o
  hung_other x hung same = not_hung (subst (λ (z : ℕ). IsHung ks z) same hung)

  pub rehung_strength : (x : ℕ) → (reached_at ks' x).strength ≡ (reached_at ks x).strength
  rehung_strength x = elim (changed x) [
    | inl same ↦ rw (same, here) refl
    | inr same ↦ ap (λ (k : Reached). k.strength) same
  ]

  support_here : (reached_at ks' o).support ≡ by
  support_here = ap (λ (k : Reached). k.support) here

  source_hung : (b : Support) → IsHolding ks b → (source : ℕ) (slot : Slot) → b ≡ supports.Edge source slot → IsHung ks source
  source_hung b holds source slot is = subst (λ (x : Support). IsHolding ks x) is holds

  before_here : (source : ℕ) (slot : Slot) → by ≡ supports.Edge source slot → IsBefore (reached_at ks' source) (reached_at ks' o)
  before_here source slot is = rw (others source (hung_other source (source_hung by good.1 source slot is))) (order source slot is)

  hung_here : (b : Support) → by ≡ b → IsHolding ks b → IsHung ks' o
  hung_here supports.Nothing is holds = absurd holds
  hung_here (supports.Root number) is holds = hangs_by_root number (support_here ∙ is)
  hung_here (supports.Edge source slot) is holds = hangs_by_source source slot (support_here ∙ is) (before_here source slot is) (still source holds)

  not_first : (x : ℕ) → Contains p.waiting x → x ≢ o
  not_first x c same = h.distinct.waiting.0 (rw same at c)

  not_gone : (x : ℕ) → Contains p.gone x → x ≢ o
  not_gone x c same = let z : rank_at ks o ≡ 0 = rw same at (ap rank (h.gone x c).1) in omega (arith, loose_first.1)

  in_order : AreInOrder ks' Late
  in_order x source slot is = elim (cases_eq x o) [
    | inl same ↦
        let held : by ≡ supports.Edge source slot = sym support_here ∙ (rw same at is) in
        inr (rw same (before_here source slot held))
    | inr other ↦
        let was : (reached_at ks x).support ≡ supports.Edge source slot = rw (others x other) at is in
        elim (cases_eq source o) [
          | inl first ↦ rw (first, others x other) (below x slot (was ∙ ap (λ (z : ℕ). supports.Edge z slot) first))
          | inr apart ↦ elim (h.in_order x source slot was) [
            | inl late ↦ absurd late
            | inr before ↦ inr (rw (others x other, others source apart) before)
          ]
        ]
  ]

  pub underway_rehung : IsUnderway g n ks' (with_rehung o lifted' p) Late
  underway_rehung = record {
    count = count ∙ h.count;
    room = λ x. elim (changed x) [
      | inl same ↦ rw (same, here) room
      | inr same ↦ rw same (omega (arith, h.room x, longer))
    ];
    backed = λ x. elim (cases_eq x o) [
      | inl same ↦ inr (rw (same, here) (backed_same g ks ks' o (reached_at ks o).strength by (λ source slot is. rehung_strength source) good.0))
      | inr other ↦ elim (h.backed x) [
        | inl c ↦ elim (cons_cases o p.waiting x c) [
          | inl first ↦ absurd (other first)
          | inr later ↦ inl later
        ]
        | inr b ↦ inr (rw (others x other) (backed_same g ks ks' x (reached_at ks x).strength (reached_at ks x).support
            (λ source slot is. rehung_strength source) b))
      ]
    ];
    in_order = in_order;
    reached = λ x some. elim (changed x) [
      | inl same ↦ rw (same, here) loose_first.1
      | inr same ↦ rw same (h.reached x (rw same at some))
    ];
    waiting = λ x c. rw (others x (not_first x c)) (h.waiting x (Contains-later o x p.waiting c));
    gone = λ x c. rw (others x (not_gone x c)) (h.gone x c);
    rehung = λ x c. elim (Contains-push_cases p.rehung o x c) [
      | inl before ↦ still x (h.rehung x before)
      | inr last ↦ rw (← last) (hung_here by refl good.1)
    ];
    lifted = λ x c. elim (which x c) [
      | inl before ↦ still x (h.lifted x before)
      | inr same ↦ rw same (hung_here by refl good.1)
    ];
    distinct = record {
      waiting = h.distinct.waiting.1;
      rehung = NoneTwice-push o p.rehung h.distinct.rehung (λ c. not_hung (h.rehung o c));
      lifted = once;
      gone = h.distinct.gone;
      within = λ x t. elim t [
        | waits c ↦ h.distinct.within x (waits (Contains-later o x p.waiting c))
        | hangs c ↦ elim (Contains-push_cases p.rehung o x c) [
          | inl before ↦ h.distinct.within x (hangs before)
          | inr last ↦ rw (← last) (h.distinct.within o (waits (Contains-first o p.waiting)))
        ]
        | is_lifted c ↦ elim (which x c) [
          | inl before ↦ h.distinct.within x (is_lifted before)
          | inr same ↦ rw same (h.distinct.within o (waits (Contains-first o p.waiting)))
        ]
        | is_gone c ↦ h.distinct.within x (is_gone c)
      ];
    };
  }

  module _ (ks0 : List Reached) (lost : List Holding) (f : IsSince ks0 lost ks (before_all o p))
      (bound : (m : ℕ) → ((x : ℕ) → (reached_at ks x).stamp ≤ m + length p.lifted) → stamp ≤ m + length lifted') where
    pub since_rehung : IsSince ks0 lost ks' (with_rehung o lifted' p)
    since_rehung = record {
      strengths = λ x. elim (f.strengths x) [
        | inl c ↦ inl c
        | inr same ↦ inr (rehung_strength x ∙ same)
      ];
      origin = λ x. elim (cases_eq x o) [
        | inl same ↦ inl (rw same (f.hit o (waits (Contains-first o p.waiting))))
        | inr other ↦ elim (f.origin x) [
          | inl in_region ↦ inl in_region
          | inr same ↦ inr (others x other ∙ same)
        ]
      ];
      hit = λ x t. elim t [
        | waits c ↦ f.hit x (waits (Contains-later o x p.waiting c))
        | hangs c ↦ elim (Contains-push_cases p.rehung o x c) [
          | inl before ↦ f.hit x (hangs before)
          | inr last ↦ rw (← last) (f.hit o (waits (Contains-first o p.waiting)))
        ]
        | is_lifted c ↦ elim (which x c) [
          | inl before ↦ f.hit x (is_lifted before)
          | inr same ↦ rw same (f.hit o (waits (Contains-first o p.waiting)))
        ]
        | is_gone c ↦ f.hit x (is_gone c)
      ];
      stamps = λ m small x. elim (changed x) [
        | inl same ↦ rw (same, here) (bound m (f.stamps m small))
        | inr same ↦ rw same (omega (arith, f.stamps m small x, longer))
      ];
      before = f.before;
    }

-- what a standing edge says of its source
module _ (r : Rows) (laws : AreRows r) (ks : List Reached) (o : ℕ) (s : Strength) where
  edge_of : (by : Support) → IsBacked r.standing ks o s by → (source : ℕ) (slot : Slot) → by ≡ supports.Edge source slot
      → (y : MarkedEdge) × Contains (r.out source) y × (y.edge.target ≡ o) × (y.edge.slot ≡ slot)
  edge_of by b source slot is =
      let c = subst (λ (by : Support). IsBacked r.standing ks o s by) is b in
      let y : MarkedEdge = record { edge = c.0; stands = true } in
      (y, subst (λ (z : ℕ). Contains (r.out z) y) c.1.from_source (laws.out_all c.0 c.1.stands), c.1.to_object, c.1.from_slot)

  pub source_gives : (by : Support) → IsBacked r.standing ks o s by → (source : ℕ) (slot : Slot) → by ≡ supports.Edge source slot → rank s ≤ rank_at ks source
  source_gives by b source slot is =
      let c = subst (λ (by : Support). IsBacked r.standing ks o s by) is b in
      omega (arith, c.1.enough, weaker-le_left (reached_at ks source).strength (given_by c.0.kind))

  pub source_within : (by : Support) → IsBacked r.standing ks o s by → (source : ℕ) (slot : Slot) → by ≡ supports.Edge source slot → source < r.objects
  source_within by b source slot is =
      let c = subst (λ (by : Support). IsBacked r.standing ks o s by) is b in
      rw (← c.1.from_source) (laws.into_source c.0.target (record { edge = c.0; stands = true }) (into_all r laws c.0 c.1.stands))

module _ (r : Rows) (laws : AreRows r) (ks : List Reached) (p : Progress) (Late : ℕ → Type 0) (h : IsUnderway r.standing r.objects ks p Late) where
  -- what has an edge as its support doesn't wait
  backed_by : (o source : ℕ) (slot : Slot) → (reached_at ks o).support ≡ supports.Edge source slot
      → IsBacked r.standing ks o (reached_at ks o).strength (reached_at ks o).support
  backed_by o source slot is = elim (h.backed o) [
    | inl c ↦ let nothing : supports.Nothing ≡ supports.Edge source slot = sym (h.waiting o c).0 ∙ is in absurd cc
    | inr b ↦ b
  ]

  pub have_sources : HaveSources ks
  have_sources o source slot is = rw h.count (source_within r laws ks o (reached_at ks o).strength (reached_at ks o).support (backed_by o source slot is)
      source slot is)

  pub begin_lifting : IsLifting r ks p.lifted Late
  begin_lifting = record {
    count = h.count;
    edges = λ o source slot is. edge_of r laws ks o (reached_at ks o).strength (reached_at ks o).support (backed_by o source slot is) source slot is;
    room = h.room;
    give = λ o source slot is. source_gives r laws ks o (reached_at ks o).strength (reached_at ks o).support (backed_by o source slot is) source slot is;
    in_order = h.in_order;
    hung = h.lifted;
    once = h.distinct.lifted;
    within = λ o c. h.distinct.within o (is_lifted c);
  }

  module _ (ks' : List Reached) (lifted' : List ℕ) (l : IsLifting r ks' lifted' NoneLate) (a : AreLifted ks ks' p.lifted lifted') where
    pub underway_lifted : IsUnderway r.standing r.objects ks' (with_lifted lifted' p) NoneLate
    underway_lifted = record {
      count = l.count;
      room = l.room;
      backed = λ x. elim (h.backed x) [
        | inl c ↦ inl c
        | inr b ↦ inr (rw (a.same_strength x, a.same_support x)
            (backed_same r.standing ks ks' x (reached_at ks x).strength (reached_at ks x).support (λ source slot is. a.same_strength source) b))
      ];
      in_order = l.in_order;
      reached = λ x some. rw (a.same_strength x) (h.reached x (rw (a.same_support x) at some));
      waiting = λ x c. rw (a.same_strength x, a.same_support x) (h.waiting x c);
      gone = λ x c. rw (a.same_strength x, a.same_support x) (h.gone x c);
      rehung = λ x c. a.hung x (h.rehung x c);
      lifted = l.hung;
      distinct = record {
        waiting = h.distinct.waiting;
        rehung = h.distinct.rehung;
        lifted = l.once;
        gone = h.distinct.gone;
        within = λ x t. elim t [
          | waits c ↦ h.distinct.within x (waits c)
          | hangs c ↦ h.distinct.within x (hangs c)
          | is_lifted c ↦ l.within x c
          | is_gone c ↦ h.distinct.within x (is_gone c)
        ];
      };
    }

-- what is lifted is of the region
module _ (ks0 : List Reached) (lost : List Holding) (ks : List Reached) (p : Progress) (f : IsSince ks0 lost ks p) where
  hit_below : (o : ℕ) → IsBelow ks p.lifted o → InLossRegion ks0 lost o
  hit_below o (on_top c) = f.hit o (is_lifted c)
  hit_below o (under source slot is b) = elim (f.origin o) [
    | inl in_region ↦ in_region
    | inr same ↦ by_source source slot (ap (λ (k : Reached). k.support) (sym same) ∙ is) (hit_below source b)
  ]

  pub since_lifted : (ks' : List Reached) (lifted' : List ℕ) → AreLifted ks ks' p.lifted lifted' → IsSince ks0 lost ks' (with_lifted lifted' p)
  since_lifted ks' lifted' a = record {
    strengths = λ x. elim (f.strengths x) [
      | inl c ↦ inl c
      | inr same ↦ inr (a.same_strength x ∙ same)
    ];
    origin = λ x. elim (a.others x) [
      | inl c ↦ inl (hit_below x (a.below x c))
      | inr kept ↦ elim (f.origin x) [
        | inl in_region ↦ inl in_region
        | inr same ↦ inr (kept ∙ same)
      ]
    ];
    hit = λ x t. elim t [
      | waits c ↦ f.hit x (waits c)
      | hangs c ↦ f.hit x (hangs c)
      | is_lifted c ↦ hit_below x (a.below x c)
      | is_gone c ↦ f.hit x (is_gone c)
    ];
    stamps = λ m small x. a.stamps m (f.stamps m small) x;
    before = f.before;
  }

-- the last one is late
pub last_late : (lifted : List ℕ) (o : ℕ) → LateFrom (length lifted) (lifted ++ o ∷ []) o
last_late lifted o = rw (drop-append-le (length lifted) lifted (o ∷ []) (omega arith)) (Contains-push (drop (length lifted) lifted) o)

-- an object hangs on a new support: by the least stamp that it may have
module _ (r : Rows) (laws : AreRows r) (ks ks' : List Reached) (o : ℕ) (p : Progress) (by : Support) (s : Strength) (stamp least : ℕ)
    (h : IsUnderway r.standing r.objects ks (before_all o p) NoneLate) (good : IsSupportFor r.standing ks o by)
    (s_is : s ≡ (reached_at ks o).strength) (stamp_is : stamp ≡ (reached_at ks o).stamp)
    (later : (source : ℕ) (slot : Slot) → by ≡ supports.Edge source slot → (m : ℕ) → least ≤ m
    → IsBefore (reached_at ks source) (record { strength = s; support = by; stamp = m }))
    (bounded : (m : ℕ) → ((x : ℕ) → (reached_at ks x).stamp ≤ m) → least ≤ m + 1) (count : length ks' ≡ length ks)
    (others : (x : ℕ) → x ≢ o → reached_at ks' x ≡ reached_at ks x) where
  -- the old one is enough
  module _ (le : least ≤ stamp) (here : reached_at ks' o ≡ record { strength = s; support = by; stamp = stamp }) where
    early_here : reached_at ks' o ≡ record { strength = (reached_at ks o).strength; support = by; stamp = stamp }
    early_here = here ∙ ap (λ (x : Strength). record { strength = x; support = by; stamp = stamp }) s_is

    early_order : (source : ℕ) (slot : Slot) → by ≡ supports.Edge source slot → IsBefore (reached_at ks source) (reached_at ks' o)
    early_order source slot is = rw here (later source slot is stamp le)

    early_below : (x : ℕ) (slot : Slot) → (reached_at ks x).support ≡ supports.Edge o slot → NoneLate o ⊎ IsBefore (reached_at ks' o) (reached_at ks x)
    early_below x slot is = elim (h.in_order x o slot is) [
      | inl late ↦ absurd late
      | inr before ↦ inr (before_same (reached_at ks o) (reached_at ks x) (reached_at ks' o) (reached_at ks x) (ap (λ (k : Reached). k.strength) early_here)
          (ap (λ (k : Reached). k.stamp) early_here ∙ stamp_is) refl refl before)
    ]

    pub rehung_early : IsUnderway r.standing r.objects ks' (with_rehung o p.lifted p) NoneLate
    rehung_early = underway_rehung r.standing r.objects ks ks' o p by stamp p.lifted NoneLate h good count early_here others early_order early_below
        (λ x c. inl c) h.distinct.lifted (omega arith) (omega (arith, h.room o))

    pub since_early : (ks0 : List Reached) (lost : List Holding) → IsSince ks0 lost ks (before_all o p) → IsSince ks0 lost ks' (with_rehung o p.lifted p)
    since_early ks0 lost f = since_rehung r.standing r.objects ks ks' o p by stamp p.lifted NoneLate h good count early_here others early_order early_below
        (λ x c. inl c) h.distinct.lifted (omega arith) (omega (arith, h.room o)) ks0 lost f (λ m small. omega (arith, small o))

  -- the stamp is lifted, and what is below it
  module _ (lifted' : List ℕ) (pushed : lifted' ≡ p.lifted ++ o ∷ []) (here : reached_at ks' o ≡ record { strength = s; support = by; stamp = least }) where
    late_here : reached_at ks' o ≡ record { strength = (reached_at ks o).strength; support = by; stamp = least }
    late_here = here ∙ ap (λ (x : Strength). record { strength = x; support = by; stamp = least }) s_is

    late_order : (source : ℕ) (slot : Slot) → by ≡ supports.Edge source slot → IsBefore (reached_at ks source) (reached_at ks' o)
    late_order source slot is = rw here (later source slot is least (omega arith))

    late_below : (x : ℕ) (slot : Slot) → (reached_at ks x).support ≡ supports.Edge o slot
        → LateFrom (length p.lifted) lifted' o ⊎ IsBefore (reached_at ks' o) (reached_at ks x)
    late_below x slot is = inl (rw pushed (last_late p.lifted o))

    which : (x : ℕ) → Contains lifted' x → Contains p.lifted x ⊎ (x ≡ o)
    which x c = elim (Contains-push_cases p.lifted o x (rw (← pushed) c)) [ inl before ↦ inl before | inr same ↦ inr (sym same) ]

    lifted_once : NoneTwice lifted'
    lifted_once = rw pushed (NoneTwice-push o p.lifted h.distinct.lifted (λ c. loose_not_hung ks o (h.waiting o (Contains-first o p.waiting)).0 (h.lifted o c)))

    one_longer : length lifted' ≡ length p.lifted + 1
    one_longer = ap length pushed ∙ length_push p.lifted o

    pub rehung_late : IsUnderway r.standing r.objects ks' (with_rehung o lifted' p) (LateFrom (length p.lifted) lifted')
    rehung_late = underway_rehung r.standing r.objects ks ks' o p by least lifted' (LateFrom (length p.lifted) lifted') h good count late_here others
        late_order late_below which lifted_once (omega (arith, one_longer)) (omega (arith, one_longer, bounded (2 ^ 47 + length p.lifted) h.room))

    pub since_late : (ks0 : List Reached) (lost : List Holding) → IsSince ks0 lost ks (before_all o p) → IsSince ks0 lost ks' (with_rehung o lifted' p)
    since_late ks0 lost f = since_rehung r.standing r.objects ks ks' o p by least lifted' (LateFrom (length p.lifted) lifted') h good count late_here others
        late_order late_below which lifted_once (omega (arith, one_longer)) (omega (arith, one_longer, bounded (2 ^ 47 + length p.lifted) h.room)) ks0 lost
        f (λ m small. omega (arith, one_longer, bounded (m + length p.lifted) small))
