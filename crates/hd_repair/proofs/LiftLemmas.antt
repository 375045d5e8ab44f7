use Rattle.std.proofs.Common.{
  ◌≡◌,
  ◌≢◌,
  ◌∙◌,
  ℕ,
  ◌+◌,
  ◌<◌,
  ◌≤◌,
  ◌⊎◌,
  inl,
  inr,
  List,
  [],
  ◌∷◌,
  ◌++◌,
  Contains,
  length,
  take,
  drop,
  get_or,
  refl,
  sym,
  ap,
  subst,
  arith,
}
use Rattle.std.proofs.lemmas.Bool.{cases_eq, cases_lt}
use Rattle.std.proofs.lemmas.List.{length_push, drop-append-le, take-append-le, get_or_append_left}
use Rattle.std.proofs.lemmas.List.Elements.{Contains-push, Contains-push_cases, Contains-append_left}
use Rattle.hd_terms.specs.declared.Slot.{Slot}
use Rattle.hd_terms.specs.declared.Support.TheVariants as supports
use Rattle.hd_terms.specs.Ranks.{rank}
use Rattle.hd_terms.specs.Settled.{Reached, reached_at, IsBefore}
use Rattle.hd_terms.specs.EdgeRows.{MarkedEdge, Rows}
use Rattle.hd_terms.proofs.Lower.{NoneTwice-push}
use Rattle.hd_repair.specs.Hanging.{AreInOrder, IsHung, NoneLate, by_source}
use Rattle.hd_repair.specs.Losing.{AreEarly, AreLifted, IsLifted, IsLifting, IsNotLifted, LateFrom, on_top, under}
use Rattle.hd_repair.specs.Spreading.{rank_at}
use Rattle.hd_repair.proofs.EachLemmas.{from_place, past_end}
use Rattle.hd_repair.proofs.HungLemmas.{hung_source, hung_still, source_in}

-- nothing is lifted yet
pub none_lifted : (ks : List Reached) (lifted : List ℕ) → AreLifted ks ks lifted lifted
none_lifted ks lifted = record {
  same_strength = λ o. refl;
  same_support = λ o. refl;
  hung = λ o h. h;
  others = λ o. inr refl;
  below = λ o c. on_top c;
  stamps = λ m small o. small o;
}

-- the stamp of what a late source supports is lifted
module _ (r : Rows) (ks ks' : List Reached) (lifted lifted' : List ℕ) (next source t : ℕ) (slot : Slot) (h : IsLifting r ks lifted (LateFrom next lifted))
    (le : next ≤ length lifted) (top : Contains lifted source) (t_lt : t < r.objects)
    (d : IsLifted ks ks' lifted lifted' source t slot) where
  not_hung : IsHung ks t → ⊥
  not_hung hung = d.late (hung_source ks t source slot d.held hung).0

  changed : (o : ℕ) → (o ≡ t) ⊎ (reached_at ks' o ≡ reached_at ks o)
  changed o = elim (cases_eq o t) [ inl same ↦ inl same | inr other ↦ inr (d.others o other) ]

  still : (o : ℕ) → IsHung ks o → IsHung ks' o
  still = hung_still ks ks' (λ o. o ≡ t) changed (λ o same. subst (λ (x : ℕ). IsHung ks x → ⊥) (sym same) not_hung)

  other : source ≢ t
  other same = not_hung (subst (λ (x : ℕ). IsHung ks x) same (h.hung source top))

  pub same_strength : (o : ℕ) → (reached_at ks' o).strength ≡ (reached_at ks o).strength
  same_strength o = elim (cases_eq o t) [
    | inl same ↦ rw same (ap (λ (k : Reached). k.strength) d.here)
    | inr apart ↦ ap (λ (k : Reached). k.strength) (d.others o apart)
  ]

  pub same_support : (o : ℕ) → (reached_at ks' o).support ≡ (reached_at ks o).support
  same_support o = elim (cases_eq o t) [
    | inl same ↦ rw same (ap (λ (k : Reached). k.support) d.here)
    | inr apart ↦ ap (λ (k : Reached). k.support) (d.others o apart)
  ]

  pub before_now : IsBefore (reached_at ks' source) (reached_at ks' t)
  before_now =
      let le : rank_at ks t ≤ rank_at ks source = h.give t source slot d.held in
      rw (d.others source other, d.here) (elim (cases_lt (rank_at ks t) (rank_at ks source)) [
        | inl less ↦ inl less
        | inr no_less ↦ inr (omega arith, omega arith)
      ])

  late_still : (s : ℕ) → LateFrom next lifted s → LateFrom next lifted' s
  late_still s c = rw (d.pushed, drop-append-le next lifted (t ∷ []) le) (Contains-append_left (drop next lifted) (t ∷ []) s c)

  late_here : LateFrom next lifted' t
  late_here = rw (d.pushed, drop-append-le next lifted (t ∷ []) le) (Contains-push (drop next lifted) t)

  in_order : AreInOrder ks' (LateFrom next lifted')
  in_order o s sl is =
      let was : (reached_at ks o).support ≡ supports.Edge s sl = sym (same_support o) ∙ is in
      elim (cases_eq o t) [
        | inl same ↦
            let held : (reached_at ks o).support ≡ supports.Edge source slot = rw same d.held in
            let there : s ≡ source = ap source_in (sym was ∙ held) in
            inr (rw (same, there) before_now)
        | inr apart ↦ elim (cases_eq s t) [
          | inl same ↦ inl (rw same late_here)
          | inr differ ↦ elim (h.in_order o s sl was) [
            | inl late ↦ inl (late_still s late)
            | inr before ↦ inr (rw (d.others o apart, d.others s differ) before)
          ]
        ]
      ]

  pub longer : length lifted' ≡ length lifted + 1
  longer = ap length d.pushed ∙ length_push lifted t

  pub lift_one : IsLifting r ks' lifted' (LateFrom next lifted')
  lift_one = record {
    count = d.count ∙ h.count;
    edges = λ o s sl is. h.edges o s sl (sym (same_support o) ∙ is);
    room = λ o. elim (cases_eq o t) [
      | inl same ↦ rw (same, d.here) (omega (arith, h.room source, longer))
      | inr apart ↦ rw (d.others o apart) (omega (arith, h.room o, longer))
    ];
    give = λ o s sl is.
        let a : rank_at ks' o ≡ rank_at ks o = ap rank (same_strength o) in
        let b : rank_at ks' s ≡ rank_at ks s = ap rank (same_strength s) in
        omega (arith, h.give o s sl (sym (same_support o) ∙ is));
    in_order = in_order;
    hung = λ o c. elim (Contains-push_cases lifted t o (rw (← d.pushed) c)) [
      | inl before ↦ still o (h.hung o before)
      | inr same ↦ rw (← same) (by_source source slot (same_support t ∙ d.held) before_now (still source (h.hung source top)))
    ];
    once = rw d.pushed (NoneTwice-push t lifted h.once (λ c. not_hung (h.hung t c)));
    within = λ o c. elim (Contains-push_cases lifted t o (rw (← d.pushed) c)) [
      | inl before ↦ h.within o before
      | inr same ↦ rw (← same) t_lt
    ];
  }

  pub lifted_more : (ks0 : List Reached) (lifted0 : List ℕ) → AreLifted ks0 ks lifted0 lifted → AreLifted ks0 ks' lifted0 lifted'
  lifted_more ks0 lifted0 a = record {
    same_strength = λ o. same_strength o ∙ a.same_strength o;
    same_support = λ o. same_support o ∙ a.same_support o;
    hung = λ o hung. still o (a.hung o hung);
    others = λ o. elim (cases_eq o t) [
      | inl same ↦ inl (rw (d.pushed, same) (Contains-push lifted t))
      | inr apart ↦ elim (a.others o) [
        | inl before ↦ inl (rw d.pushed (Contains-append_left lifted (t ∷ []) o before))
        | inr kept ↦ inr (d.others o apart ∙ kept)
      ]
    ];
    below = λ o c. elim (Contains-push_cases lifted t o (rw (← d.pushed) c)) [
      | inl before ↦ a.below o before
      | inr same ↦ rw (← same) (under source slot (sym (a.same_support t) ∙ d.held) (a.below source top))
    ];
    stamps = λ m small o. elim (cases_eq o t) [
      | inl same ↦ rw (same, d.here) (omega (arith, a.stamps m small source, longer))
      | inr apart ↦ rw (d.others o apart) (omega (arith, a.stamps m small o, longer))
    ];
  }

  pub early_more : (entries : List MarkedEdge) (y : MarkedEdge) → y.edge.target ≡ t → AreEarly ks source entries → AreEarly ks' source (entries ++ y ∷ [])
  early_more entries y there e z c is = elim (cases_eq z.edge.target t) [
    | inl same ↦ rw same before_now
    | inr apart ↦ elim (Contains-push_cases entries y z c) [
      | inl before ↦ rw (d.others z.edge.target apart, d.others source other) (e z before (sym (same_support z.edge.target) ∙ is))
      | inr last ↦ absurd (apart (ap (λ (x : MarkedEdge). x.edge.target) (sym last) ∙ there))
    ]
  ]

-- the edge supports nothing that is late
pub early_same : (ks ks' : List Reached) (lifted lifted' : List ℕ) (source : ℕ) (entries : List MarkedEdge) (y : MarkedEdge)
    → IsNotLifted ks ks' lifted lifted' source y.edge.target y.edge.slot → AreEarly ks source entries → AreEarly ks' source (entries ++ y ∷ [])
early_same ks ks' lifted lifted' source entries y d e = rw d.same_kept (λ z c is. elim (Contains-push_cases entries y z c) [
  | inl before ↦ e z before is
  | inr last ↦ subst (λ (x : MarkedEdge). IsBefore (reached_at ks source) (reached_at ks x.edge.target)) last (d.early (rw last is))
])

-- what one test of an edge leaves
pub record IsLiftStep (r : Rows) (ks0 ks' : List Reached) (lifted0 lifted lifted' : List ℕ) (next source : ℕ) (entries : List MarkedEdge) : Type 0 where
  pub lifting : IsLifting r ks' lifted' (LateFrom next lifted')
  pub changed : AreLifted ks0 ks' lifted0 lifted'
  pub early : AreEarly ks' source entries
  pub longer : length lifted ≤ length lifted'
  pub front : (j : ℕ) → j ≤ length lifted → take j lifted' ≡ take j lifted
  pub place : (j d : ℕ) → j < length lifted → get_or lifted' j d ≡ get_or lifted j d

pub lift_step : (r : Rows) (ks0 ks ks' : List Reached) (lifted0 lifted lifted' : List ℕ) (next source : ℕ) (entries : List MarkedEdge) (y : MarkedEdge)
    → IsLifting r ks lifted (LateFrom next lifted) → AreLifted ks0 ks lifted0 lifted → AreEarly ks source entries → next ≤ length lifted
    → Contains lifted source → y.edge.target < r.objects
    → IsLifted ks ks' lifted lifted' source y.edge.target y.edge.slot ⊎ IsNotLifted ks ks' lifted lifted' source y.edge.target y.edge.slot
    → IsLiftStep r ks0 ks' lifted0 lifted lifted' next source (entries ++ y ∷ [])
lift_step r ks0 ks ks' lifted0 lifted lifted' next source entries y h a e le top lt (inl d) = record {
  lifting = lift_one r ks ks' lifted lifted' next source y.edge.target y.edge.slot h le top lt d;
  changed = lifted_more r ks ks' lifted lifted' next source y.edge.target y.edge.slot h le top lt d ks0 lifted0 a;
  early = early_more r ks ks' lifted lifted' next source y.edge.target y.edge.slot h le top lt d entries y refl e;
  longer = omega (arith, longer r ks ks' lifted lifted' next source y.edge.target y.edge.slot h le top lt d);
  front = λ j j_le. rw d.pushed (take-append-le j lifted (y.edge.target ∷ []) j_le);
  place = λ j e j_lt. rw d.pushed (get_or_append_left lifted (y.edge.target ∷ []) e j j_lt);
}
lift_step r ks0 ks ks' lifted0 lifted lifted' next source entries y h a e le top lt (inr d) = record {
  lifting = rw (d.same_kept, d.same_lifted) h;
  changed = rw (d.same_kept, d.same_lifted) a;
  early = early_same ks ks' lifted lifted' source entries y d e;
  longer = rw d.same_lifted (omega arith);
  front = λ j j_le. ap (take j) d.same_lifted;
  place = λ j e j_lt. ap (λ (xs : List ℕ). get_or xs j e) d.same_lifted;
}

-- all that an object supports comes after it now
pub lift_next : (r : Rows) (ks : List Reached) (lifted : List ℕ) (next source : ℕ) → next < length lifted → get_or lifted next 0 ≡ source
    → IsLifting r ks lifted (LateFrom next lifted) → AreEarly ks source (r.out source) → IsLifting r ks lifted (LateFrom (next + 1) lifted)
lift_next r ks lifted next source lt is h early = record {
  count = h.count;
  edges = h.edges;
  room = h.room;
  give = h.give;
  in_order = λ o s sl held. elim (h.in_order o s sl held) [
    | inr before ↦ inr before
    | inl late ↦ elim (from_place lifted next 0 s lt late) [
      | inr later ↦ inl later
      | inl here ↦
          let same : s ≡ source = here ∙ is in
          let e = h.edges o s sl held in
          let y : MarkedEdge = e.0 in
          let row : Contains (r.out source) y = subst (λ (x : ℕ). Contains (r.out x) y) same e.1 in
          let by : (reached_at ks y.edge.target).support ≡ supports.Edge source y.edge.slot = rw (e.2, e.3, ← same) held in
          inr (subst (λ (x : ℕ). IsBefore (reached_at ks x) (reached_at ks o)) (sym same)
          (subst (λ (x : ℕ). IsBefore (reached_at ks source) (reached_at ks x)) e.2 (early y row by)))
    ]
  ];
  hung = h.hung;
  once = h.once;
  within = h.within;
}

-- in the end nothing is late
pub lift_end : (r : Rows) (ks : List Reached) (lifted : List ℕ) (next : ℕ) → length lifted ≤ next → IsLifting r ks lifted (LateFrom next lifted)
    → IsLifting r ks lifted NoneLate
lift_end r ks lifted next le h = record {
  count = h.count;
  edges = h.edges;
  room = h.room;
  give = h.give;
  in_order = λ o s sl held. elim (h.in_order o s sl held) [
    | inr before ↦ inr before
    | inl late ↦ absurd (past_end lifted next s le late)
  ];
  hung = h.hung;
  once = h.once;
  within = h.within;
}
