use Rattle.std.proofs.Common.{◌≡◌, ◌∙◌, ℕ, ◌^◌, ◌≤◌, ◌⊎◌, inl, inr, List, [], Contains, length, refl, sym, ap, subst, arith}
use Rattle.hd_terms.specs.declared.Slot.{Slot}
use Rattle.hd_terms.specs.declared.Strength.{Strength}
use Rattle.hd_terms.specs.declared.Support.{Support}
use Rattle.hd_terms.specs.declared.Support.TheVariants as supports
use Rattle.hd_terms.specs.Ranks.{rank, given_by, least_passed_on, weaker_of}
use Rattle.hd_terms.specs.Paths.{Standing}
use Rattle.hd_terms.specs.Settled.{Reached, Settled, reached_at, IsBefore, IsSupported}
use Rattle.hd_terms.specs.Regions.{Holding, IsWithout, by_support}
use Rattle.hd_terms.proofs.RankLemmas.{least-positive}
use Rattle.hd_repair.specs.Alone.{AreSought}
use Rattle.hd_repair.specs.Hanging.{NoneLate}
use Rattle.hd_repair.specs.Losing.{AreLoosened, HoldNone, IsLost, IsSince, IsUnderway, Progress, waits, hangs, is_lifted, is_gone}
use Rattle.hd_repair.specs.Spreading.{EdgeTo, IsBacked, IsInOrder, IsSpreading, RootOn, offered_strength, rank_at}
use Rattle.hd_repair.proofs.MarkLemmas.{in_or_not, supported_reached}
use Rattle.hd_repair.proofs.UnderwayLemmas.{backed_same, before_same, supported_within}

-- nothing is in an empty list
in_none : (o : ℕ) → Contains [] o → ⊥
in_none o (k, lt, is) = omega (arith, lt)

-- the objects wait that what is lost held up, and nothing else has happened
abbrev pub begun : List ℕ → Progress
begun waiting = record { waiting = waiting; rehung = []; lifted = []; gone = []; strengths = [] }

module _ (less more : Standing) (lost : List Holding) (n : ℕ) (ks0 ks : List Reached) (waiting : List ℕ) (w : IsWithout less more lost)
    (h : Settled more ks0) (count : length ks0 ≡ n) (small : (o : ℕ) → (reached_at ks0 o).stamp ≤ 2 ^ 47)
    (a : AreLoosened ks0 ks [] waiting (IsLost lost)) (none : HoldNone ks lost) where
  changed : (x : ℕ) → Contains a.more x ⊎ (reached_at ks x ≡ reached_at ks0 x)
  changed x = elim (in_or_not a.more x) [ inl c ↦ inl c | inr out ↦ inr (a.others x out) ]

  same_strength : (x : ℕ) → (reached_at ks x).strength ≡ (reached_at ks0 x).strength
  same_strength x = elim (changed x) [
    | inl c ↦ ap (λ (k : Reached). k.strength) (a.loose x c)
    | inr same ↦ ap (λ (k : Reached). k.strength) same
  ]

  same_stamp : (x : ℕ) → (reached_at ks x).stamp ≡ (reached_at ks0 x).stamp
  same_stamp x = elim (changed x) [
    | inl c ↦ ap (λ (k : Reached). k.stamp) (a.loose x c)
    | inr same ↦ ap (λ (k : Reached). k.stamp) same
  ]

  waits_more : (x : ℕ) → Contains waiting x → Contains a.more x
  waits_more x c = elim (a.waits x c) [
    | inl none_yet ↦ absurd (in_none x none_yet)
    | inr new ↦ new
  ]

  -- an object that doesn't wait keeps its support, which stands
  stands_still : (o : ℕ) → reached_at ks o ≡ reached_at ks0 o → (by : Support) → (reached_at ks0 o).support ≡ by → IsSupported more ks0 o by
      → IsBacked less ks0 o (reached_at ks0 o).strength by
  stands_still o same supports.Nothing is s = s
  stands_still o same (supports.Root number) is s = elim (w.roots (record { number = number; target = o }) s.0) [
    | inl stands ↦ (stands, s.1)
    | inr gone ↦ absurd (none (record { target = o; holder = supports.Root number }) gone (ap (λ (k : Reached). k.support) same ∙ is))
  ]
  stands_still o same (supports.Edge source slot) is (e, s) = elim (w.edges e s.stands) [
    | inl stands ↦ (
      e,
      record {
        stands = stands;
        from_source = s.from_source;
        from_slot = s.from_slot;
        to_object = s.to_object;
        passes_on = rw w.mode s.passes_on;
        enough = rw (ap rank s.strength) (omega arith);
      },
    )
    | inr gone ↦ absurd (none (record { target = e.target; holder = supports.Edge e.source e.slot }) gone
        (rw (s.to_object, s.from_source, s.from_slot) (ap (λ (k : Reached). k.support) same ∙ is)))
  ]

  comes_before : (o : ℕ) (by : Support) → IsSupported more ks0 o by → (source : ℕ) (slot : Slot) → by ≡ supports.Edge source slot
      → IsBefore (reached_at ks0 source) (reached_at ks0 o)
  comes_before o by s source slot is = let t = subst (λ (by : Support). IsSupported more ks0 o by) is s in t.1.earlier

  pub begin_losing : IsUnderway less n ks (begun waiting) NoneLate
  begin_losing = record {
    count = a.count ∙ count;
    room = λ x. omega (arith, same_stamp x, small x);
    backed = λ x. elim (changed x) [
      | inl c ↦ inl (a.too x c)
      | inr same ↦ inr (rw same (backed_same less ks0 ks x (reached_at ks0 x).strength (reached_at ks0 x).support (λ source slot is. same_strength source)
          (stands_still x same (reached_at ks0 x).support refl (h.supported x))))
    ];
    in_order = λ x source slot is. elim (changed x) [
      | inl c ↦ let nothing : supports.Nothing ≡ supports.Edge source slot = sym (ap (λ (k : Reached). k.support) (a.loose x c)) ∙ is in absurd cc
      | inr same ↦ inr (before_same (reached_at ks0 source) (reached_at ks0 x) (reached_at ks source) (reached_at ks x) (same_strength source)
          (same_stamp source) (same_strength x) (same_stamp x)
          (comes_before x (reached_at ks0 x).support (h.supported x) source slot (ap (λ (k : Reached). k.support) (sym same) ∙ is)))
    ];
    reached = λ x some. elim (changed x) [
      | inl c ↦ absurd (some (ap (λ (k : Reached). k.support) (a.loose x c)))
      | inr same ↦ rw same (supported_reached more ks0 x (reached_at ks0 x).support (rw same at some) (h.supported x))
    ];
    waiting = λ x c. rw (a.loose x (waits_more x c)) (
      refl,
      supported_reached more ks0 x (reached_at ks0 x).support (a.some x (waits_more x c))
          (h.supported x),
    );
    gone = λ x c. absurd (in_none x c);
    rehung = λ x c. absurd (in_none x c);
    lifted = λ x c. absurd (in_none x c);
    distinct = record {
      waiting = a.apart tt (λ x c new. in_none x c);
      rehung = tt;
      lifted = tt;
      gone = tt;
      within = λ x t. elim t [
        | waits c ↦ rw (← count) (supported_within ks0 x (a.some x (waits_more x c)))
        | hangs c ↦ absurd (in_none x c)
        | is_lifted c ↦ absurd (in_none x c)
        | is_gone c ↦ absurd (in_none x c)
      ];
    };
  }

  pub begin_since : IsSince ks0 lost ks (begun waiting)
  begin_since = record {
    strengths = λ x. inr (same_strength x);
    origin = λ x. elim (changed x) [
      | inl c ↦ inl (by_support (a.held x c))
      | inr same ↦ inr same
    ];
    hit = λ x t. elim t [
      | waits c ↦ by_support (a.held x (waits_more x c))
      | hangs c ↦ absurd (in_none x c)
      | is_lifted c ↦ absurd (in_none x c)
      | is_gone c ↦ absurd (in_none x c)
    ];
    stamps = λ m low x. omega (arith, same_stamp x, low x);
    before = refl;
  }

-- once nothing waits, what is left is spreading, but for what leads to what is sought
module _ (less more : Standing) (lost : List Holding) (n : ℕ) (ks0 ks : List Reached) (p : Progress) (sought : List ℕ) (w : IsWithout less more lost)
    (h0 : Settled more ks0) (h : IsUnderway less n ks p NoneLate) (f : IsSince ks0 lost ks p) (empty : p.waiting ≡ [])
    (searched : AreSought less ks p.gone sought) where
  order : (o : ℕ) (by : Support) → (reached_at ks o).support ≡ by → IsInOrder ks (reached_at ks o) by
  order o supports.Nothing is = tt
  order o (supports.Root number) is = tt
  order o (supports.Edge source slot) is = elim (h.in_order o source slot is) [
    | inl late ↦ absurd late
    | inr before ↦ before
  ]

  pub end_losing : IsSpreading less ks [] (RootOn sought) (EdgeTo sought)
  end_losing = record {
    supported = λ o. elim (h.backed o) [
      | inl c ↦ absurd (in_none o (rw empty at c))
      | inr b ↦ b
    ];
    in_order = λ o. order o (reached_at ks o).support refl;
    backed = λ x (k, lt, is). absurd (omega arith);
    by_roots = λ r stands. elim (f.strengths r.target) [
      | inl gone ↦ elim (searched.which r.target gone) [
        | inl is ↦ inl is
        | inr alone ↦ absurd (alone.roots r stands refl)
      ]
      | inr same ↦ inr (inl (rw (same, h0.by_roots r (w.roots_within r stands)) (omega arith)))
    ];
    by_edges = λ e stands. elim (f.strengths e.target) [
      | inl gone ↦ elim (searched.which e.target gone) [
        | inl is ↦ inl is
        | inr alone ↦ inr (λ passes.
            let z : rank_at ks e.source ≡ 0 = ap rank (alone.edges e stands refl) in
            absurd (omega (arith, least-positive less.mode, passes)))
      ]
      | inr same ↦ inr (λ passes. elim (f.strengths e.source) [
        | inl gone ↦ let z : rank_at ks e.source ≡ 0 = ap rank (h.gone e.source gone).1 in absurd (omega (arith, least-positive less.mode, passes))
        | inr there ↦
            let l : rank_at ks e.target ≡ rank_at ks0 e.target = ap rank same in
            let m : rank (least_passed_on less.mode) ≡ rank (least_passed_on more.mode) = ap (λ (m : _). rank (least_passed_on m)) w.mode in
            let high : rank_at ks e.source ≡ rank_at ks0 e.source = ap rank there in
            let gifts : rank (offered_strength ks e) ≡ rank (offered_strength ks0 e) = ap (λ (x : Strength). rank (weaker_of x (given_by e.kind))) there in
            inl (omega (arith, h0.by_edges e (w.edges_within e stands) (omega (arith, passes))))
      ])
    ];
  }
