use Rattle.std.proofs.Common.{◌≡◌, ◌≢◌, ◌∙◌, ℕ, ◌+◌, ◌-◌, ◌<◌, ◌≤◌, ◌⊎◌, inl, inr, List, [], ◌∷◌, ◌++◌, append_assoc, Contains, length, take, drop}
use Rattle.std.proofs.Common.{sum_by, refl, sym, ap, subst, arith, slice_get, slice_index_or, Some, true}
use Rattle.std.proofs.lemmas.Bool.{cases_lt}
use Rattle.std.proofs.lemmas.List.{map-append, append-nil, take-append-drop, take-append-le, take_all, get_or_past, get_or-append_right}
use Rattle.std.proofs.lemmas.List.{length-append, length-drop}
use Rattle.std.proofs.lemmas.List.Elements.{Contains-get_or, Contains-push, Contains-push_cases, Contains-append_left, Contains-append_right}
use Rattle.std.proofs.lemmas.List.Elements.{Contains-append_cases}
use Rattle.std.proofs.lemmas.List.Sums.{sum_by-append}
use Rattle.hd_terms.specs.declared.Slot.{Slot}
use Rattle.hd_terms.specs.declared.Support.{Support}
use Rattle.hd_terms.specs.declared.Support.TheVariants as supports
use Rattle.hd_terms.specs.Ranks.{rank}
use Rattle.hd_terms.specs.Chains.{NoneTwice}
use Rattle.hd_terms.specs.EdgeRows.{AreRows, MarkedEdge, Rows}
use Rattle.hd_terms.specs.Regions.{Holding, InLossRegion, by_source}
use Rattle.hd_terms.specs.Settled.{Reached, reached_at, unreached}
use Rattle.hd_terms.proofs.Lower.{Contains-first, Contains-later}
use Rattle.hd_terms.proofs.RankLemmas.{least-positive}
use Rattle.hd_repair.specs.declared.waiting.Region.{Region}
use Rattle.hd_repair.specs.Alone.{AreSought}
use Rattle.hd_repair.specs.Falling.{AreDetached, FindsBelow, FindsFrom, HaveLost, IsBelowAdded, IsDetached, IsUnder}
use Rattle.hd_repair.specs.Hanging.{IsHung, NoneLate}
use Rattle.hd_repair.specs.Losing.{
  strengths_of,
  looks_due,
  without_support,
  sources_of,
  targets_of,
  IsBelow,
  IsSince,
  IsUnderway,
  Progress,
  waits,
  hangs,
  is_lifted,
  is_gone,
  on_top,
  under,
}
use Rattle.hd_repair.specs.Spreading.{IsBacked, rank_at}
use Rattle.hd_repair.proofs.AloneLemmas.{alone_still}
use Rattle.hd_repair.proofs.DistinctLemmas.{length-different}
use Rattle.hd_repair.proofs.HungLemmas.{hung_source, hung_still, loose_not_hung}
use Rattle.hd_repair.proofs.MarkLemmas.{in_or_not}
use Rattle.hd_repair.proofs.OutLemmas.{Contains-slice_get, take_one_more}
use Rattle.hd_repair.proofs.QueueLemmas.{cons_cases}
use Rattle.hd_repair.proofs.UnderwayLemmas.{NoneTwice-append, backed_same, supported_within}

in_none : (x : ℕ) → Contains [] x → ⊥
in_none x (k, lt, is) = omega (arith, lt)

in_one : (o x : ℕ) → Contains (o ∷ []) x → x ≡ o
in_one o x c = elim (cons_cases o [] x c) [ inl same ↦ same | inr none ↦ absurd (in_none x none) ]

pub in_drop : (xs : List ℕ) (i x : ℕ) → Contains (drop i xs) x → Contains xs x
in_drop xs i x c = subst (λ (ys : List ℕ). Contains ys x) (take-append-drop i xs) (Contains-append_right (take i xs) (drop i xs) x c)

-- no edge is looked at yet
pub none_from : (ks : List Reached) (source : ℕ) (old : List ℕ) → FindsFrom ks source [] old old
none_from ks source old = record { kept = λ x c. c; only = λ x c. inl c; all = λ y (k, lt, is). absurd (omega (arith, lt)) }

-- one more edge of the row is looked at
pub from_step : (r r' : Rows) → r' ≡ r → AreRows r' → (ks : List Reached) (o i : ℕ) (y : MarkedEdge) → i < length (r.out o) → slice_get (r'.out o) i ≡ Some y
    → (old new new' : List ℕ) → IsBelowAdded ks y.edge.source y.edge.slot y.edge.target new new' → FindsFrom ks o (take i (r.out o)) old new
    → FindsFrom ks o (take (i + 1) (r.out o)) old new'
from_step r r' same laws ks o i y lt is old new new' added h =
    let here : slice_get (r.out o) i ≡ Some y = subst (λ (r : Rows). slice_get (r.out o) i ≡ Some y) same is in
    let from : y.edge.source ≡ o = (subst AreRows same laws).out_source o y (Contains-slice_get (r.out o) i y lt here) in
    rw (take_one_more (r.out o) i y lt here) (elim added [
      | inl (held, more) ↦ rw more (record {
        kept = λ x c. Contains-append_left new (y.edge.target ∷ []) x (h.kept x c);
        only = λ x c. elim (Contains-push_cases new y.edge.target x c) [
          | inl before ↦ h.only x before
          | inr last ↦ inr (record { source = o; slot = y.edge.slot; from = Contains-first o []; support = rw (← last, ← from) held })
        ];
        all = λ z c by. elim (Contains-push_cases (take i (r.out o)) y z c) [
          | inl before ↦ Contains-append_left new (y.edge.target ∷ []) z.edge.target (h.all z before by)
          | inr last ↦ rw (← last) (Contains-push new y.edge.target)
        ];
      })
      | inr (not, same_list) ↦ rw same_list (record {
        kept = h.kept;
        only = h.only;
        all = λ z c by. elim (Contains-push_cases (take i (r.out o)) y z c) [
          | inl before ↦ h.all z before by
          | inr last ↦
              let there : z.edge.source ≡ o = rw (← last) from in
              let by_y : (reached_at ks z.edge.target).support ≡ supports.Edge z.edge.source z.edge.slot = by
              ∙ ap (λ (s : ℕ). supports.Edge s z.edge.slot) (sym there) in
              absurd (not (rw last by_y))
        ];
      })
    ])

-- objects below several
pub none_below : (r : Rows) (ks : List Reached) (old : List ℕ) → FindsBelow r ks [] old old
none_below r ks old = record { kept = λ x c. c; only = λ x c. inl c; all = λ source y c row is. absurd (in_none source c) }

under_more : (ks : List Reached) (xs ys : List ℕ) → ((x : ℕ) → Contains xs x → Contains ys x) → (o : ℕ) → IsUnder ks xs o → IsUnder ks ys o
under_more ks xs ys part o u = record { source = u.source; slot = u.slot; from = part u.source u.from; support = u.support }

pub more_below : (r : Rows) (ks : List Reached) (xs : List ℕ) (o : ℕ) (old new new' : List ℕ) → FindsBelow r ks xs old new → FindsFrom ks o (r.out o) new new'
    → FindsBelow r ks (xs ++ o ∷ []) old new'
more_below r ks xs o old new new' h f = record {
  kept = λ x c. f.kept x (h.kept x c);
  only = λ x c. elim (f.only x c) [
    | inl before ↦ elim (h.only x before) [
      | inl was ↦ inl was
      | inr u ↦ inr (under_more ks xs (xs ++ o ∷ []) (λ z. Contains-append_left xs (o ∷ []) z) x u)
    ]
    | inr u ↦ inr (under_more ks (o ∷ []) (xs ++ o ∷ []) (λ z. Contains-append_right xs (o ∷ []) z) x u)
  ];
  all = λ source y c row is. elim (Contains-push_cases xs o source c) [
    | inl before ↦ f.kept y.edge.target (h.all source y before row is)
    | inr last ↦ f.all y (rw last row) (rw last is)
  ];
}

pub both_below : (r : Rows) (ks : List Reached) (xs ys a b : List ℕ) → FindsBelow r ks xs [] a → FindsBelow r ks ys [] b
    → FindsBelow r ks (xs ++ ys) [] (a ++ b)
both_below r ks xs ys a b h k = record {
  kept = λ x c. absurd (in_none x c);
  only = λ x c. elim (Contains-append_cases a b x c) [
    | inl first ↦ elim (h.only x first) [
      | inl none ↦ absurd (in_none x none)
      | inr u ↦ inr (under_more ks xs (xs ++ ys) (λ z. Contains-append_left xs ys z) x u)
    ]
    | inr second ↦ elim (k.only x second) [
      | inl none ↦ absurd (in_none x none)
      | inr u ↦ inr (under_more ks ys (xs ++ ys) (λ z. Contains-append_right xs ys z) x u)
    ]
  ];
  all = λ source y c row is. elim (Contains-append_cases xs ys source c) [
    | inl first ↦ Contains-append_left a b y.edge.target (h.all source y first row is)
    | inr second ↦ Contains-append_right a b y.edge.target (k.all source y second row is)
  ];
}

-- strengths that are the same before and after
strengths_same : (ks ks' : List Reached) (xs : List ℕ) → ((x : ℕ) → Contains xs x → (reached_at ks' x).strength ≡ (reached_at ks x).strength)
    → strengths_of ks' xs ≡ strengths_of ks xs
strengths_same ks ks' [] same = refl
strengths_same ks ks' (x ∷ xs) same =
    rw (same x (Contains-first x xs), strengths_same ks ks' xs (λ y c. same y (Contains-later x y xs c))) refl

-- nothing is lost yet
pub none_detached : (ks : List Reached) (gone : Region) → AreDetached ks ks gone gone []
none_detached ks gone = record {
  lost = record {
    more = [];
    objects = sym (append-nil gone.objects.items);
    strengths = sym (append-nil gone.strengths.items);
    count = refl;
    once = tt;
    had = λ x c. absurd (in_none x c);
    fallen = λ x c. absurd (in_none x c);
    others = λ x out. refl;
  };
  from = λ x c. c;
  all = λ x c. absurd (in_none x c);
}

-- an object that had no strength
pub not_detached : (ks : List Reached) (gone : Region) (o : ℕ) → rank_at ks o ≡ 0 → IsDetached ks ks gone gone o
unfolding none_detached
not_detached ks gone o none = record {
  lost = (none_detached ks gone).lost;
  from = λ x c. absurd (in_none x c);
  all = λ x c. rw (in_one o x c) none;
}

-- an object that had one
pub one_detached : (ks ks' : List Reached) (gone gone' : Region) (o : ℕ) → 1 ≤ rank_at ks o → gone'.objects.items ≡ gone.objects.items ++ o ∷ []
    → gone'.strengths.items ≡ gone.strengths.items ++ (reached_at ks o).strength ∷ [] → length ks' ≡ length ks
    → reached_at ks' o ≡ without_support (reached_at ks o) → ((x : ℕ) → x ≢ o → reached_at ks' x ≡ reached_at ks x)
    → IsDetached ks ks' gone gone' o
one_detached ks ks' gone gone' o had objects strengths count here others = record {
  lost = record {
    more = o ∷ [];
    objects = objects;
    strengths = strengths;
    count = count;
    once = (λ c. in_none o c, tt);
    had = λ x c. rw (in_one o x c) had;
    fallen = λ x c. rw (in_one o x c) here;
    others = λ x out. others x (λ same. out (rw same (Contains-first o [])));
  };
  from = λ x c. c;
  all = λ x c. rw (in_one o x c, here) refl;
}

-- some objects lost their strength, and then some others
module _ (ks ks1 ks2 : List Reached) (g g1 g2 : Region) (a : HaveLost ks ks1 g g1) (b : HaveLost ks1 ks2 g1 g2) where
  apart : (x : ℕ) → Contains a.more x → Contains b.more x → ⊥
  apart x c d = let z : rank_at ks1 x ≡ 0 = ap (λ (k : Reached). rank k.strength) (a.fallen x c) in omega (arith, b.had x d)

  later : (x : ℕ) → Contains b.more x → reached_at ks1 x ≡ reached_at ks x
  later x d = a.others x (λ c. apart x c d)

  pub lost_both : HaveLost ks ks2 g g2
  lost_both = record {
    more = a.more ++ b.more;
    objects = b.objects ∙ ap (λ (xs : List ℕ). xs ++ b.more) a.objects ∙ append_assoc g.objects.items a.more b.more;
    strengths = b.strengths ∙ ap (λ (xs : List _). xs ++ strengths_of ks1 b.more) a.strengths
        ∙ append_assoc g.strengths.items (strengths_of ks a.more) (strengths_of ks1 b.more)
        ∙ ap (λ (xs : List _). g.strengths.items ++ (strengths_of ks a.more ++ xs))
        (strengths_same ks ks1 b.more (λ x d. ap (λ (k : Reached). k.strength) (later x d)))
        ∙ ap (λ (xs : List _). g.strengths.items ++ xs) (sym (map-append (λ (o : ℕ). (reached_at ks o).strength) a.more b.more));
    count = b.count ∙ a.count;
    once = NoneTwice-append a.more b.more a.once b.once apart;
    had = λ x c. elim (Contains-append_cases a.more b.more x c) [
      | inl first ↦ a.had x first
      | inr second ↦ subst (λ (k : Reached). 1 ≤ rank k.strength) (later x second) (b.had x second)
    ];
    fallen = λ x c. elim (Contains-append_cases a.more b.more x c) [
      | inl first ↦ b.others x (λ d. apart x first d) ∙ a.fallen x first
      | inr second ↦ b.fallen x second ∙ ap without_support (later x second)
    ];
    others = λ x out. b.others x (λ d. out (Contains-append_right a.more b.more x d)) ∙ a.others x (λ c. out (Contains-append_left a.more b.more x c));
  }

pub detached_both : (ks ks1 ks2 : List Reached) (g g1 g2 : Region) (xs ys : List ℕ) → AreDetached ks ks1 g g1 xs → AreDetached ks1 ks2 g1 g2 ys
    → AreDetached ks ks2 g g2 (xs ++ ys)
unfolding lost_both
detached_both ks ks1 ks2 g g1 g2 xs ys a b = record {
  lost = lost_both ks ks1 ks2 g g1 g2 a.lost b.lost;
  from = λ x c. elim (Contains-append_cases a.lost.more b.lost.more x c) [
    | inl first ↦ Contains-append_left xs ys x (a.from x first)
    | inr second ↦ Contains-append_right xs ys x (b.from x second)
  ];
  all = λ x c. elim (Contains-append_cases xs ys x c) [
    | inl first ↦ elim (in_or_not b.lost.more x) [
      | inl d ↦ ap (λ (k : Reached). rank k.strength) (b.lost.fallen x d)
      | inr out ↦ ap (λ (k : Reached). rank k.strength) (b.lost.others x out) ∙ a.all x first
    ]
    | inr second ↦ b.all x second
  ];
}

-- the second of two slices
pub second_within : (xs ys all : List ℕ) (n m : ℕ) → all ≡ xs ++ ys → ((k d : ℕ) → k < length all → slice_index_or all k d < n) → m ≡ n → (k d : ℕ)
    → k < length ys → slice_index_or ys k d < m
second_within xs ys all n m is within same k d lt =
    let place : length xs + k - length xs ≡ k = omega arith in
    let there : slice_index_or all (length xs + k) d ≡ slice_index_or ys k d = rw is
    (get_or-append_right xs ys (length xs) (length xs + k) d refl (omega arith) ∙ ap (λ (i : ℕ). slice_index_or ys i d) place) in
    omega (arith, there, within (length xs + k) d (omega (arith, ap length is, length-append xs ys, lt)), same)

-- an edge that is a support is in the row of its source
pub row_of_support : (r : Rows) → AreRows r → (ks : List Reached) (x : ℕ) (s : _) (source : ℕ) (slot : Slot)
    → IsBacked r.standing ks x s (supports.Edge source slot)
    → (y : MarkedEdge) × Contains (r.out source) y × (y.edge.target ≡ x) × (y.edge.slot ≡ slot)
row_of_support r laws ks x s source slot (e, b) = (
  record { edge = e; stands = true },
  subst (λ (z : ℕ). Contains (r.out z) (record { edge = e; stands = true })) b.from_source (laws.out_all e b.stands),
  b.to_object,
  b.from_slot,
)

-- what hangs below objects of the region is in the region
pub region_below : (ks0 : List Reached) (lost : List Holding) (ks : List Reached) (p : Progress) → IsSince ks0 lost ks p → (x : ℕ) → IsBelow ks p.waiting x
    → InLossRegion ks0 lost x
region_below ks0 lost ks p s x (on_top c) = s.hit x (waits c)
region_below ks0 lost ks p s x (under source slot is b) = elim (s.origin x) [
  | inl in_region ↦ in_region
  | inr same ↦ by_source source slot (ap (λ (k : Reached). k.support) (sym same) ∙ is) (region_below ks0 lost ks p s source b)
]

pub drop_append : (xs ys : List ℕ) → drop (length xs) (xs ++ ys) ≡ ys
drop_append [] ys = refl
drop_append (x ∷ xs) ys = drop_append xs ys

-- what an edge supports that was looked at is found
found_hit : (r : Rows) (ks : List Reached) (front below : List ℕ) → FindsBelow r ks front [] below → (y : MarkedEdge) (x source : ℕ) (slot : Slot)
    → Contains front source → Contains (r.out source) y → y.edge.target ≡ x → y.edge.slot ≡ slot → (reached_at ks x).support ≡ supports.Edge source slot
    → Contains below x
found_hit r ks front below found y x source slot c row target same is =
    let held : (reached_at ks y.edge.target).support ≡ supports.Edge source y.edge.slot = rw (target, same) is in
    rw (← target) (found.all source y c row held)

-- all that waits is gone, and of what hangs below it all that hangs on the first ones
pub record IsFalling (waiting : List ℕ) (ks ks' : List Reached) (gone gone' : Region) (next : ℕ) : Type 0 where
  pub lost : HaveLost ks ks' gone gone'
  pub tops : (x : ℕ) → Contains waiting x → Contains lost.more x
  pub below : (x : ℕ) → Contains lost.more x → IsBelow ks waiting x
  pub looked : length gone.objects.items ≤ next
  pub within : next ≤ length gone'.objects.items
  pub closed : (x source : ℕ) (slot : Slot) → (reached_at ks' x).support ≡ supports.Edge source slot → Contains (take next gone'.objects.items) source → ⊥

module _ (r : Rows) (laws : AreRows r) (p : Progress) (ks : List Reached) (h : IsUnderway r.standing r.objects ks p NoneLate)
    (gone : Region) (same_gone : gone.objects.items ≡ p.gone) where
  -- what is gone supports nothing
  gone_supports_none : (x source : ℕ) (slot : Slot) → (reached_at ks x).support ≡ supports.Edge source slot → Contains gone.objects.items source → ⊥
  gone_supports_none x source slot is c = elim (h.backed x) [
    | inl waiting ↦ let none : supports.Nothing ≡ supports.Edge source slot = sym (h.waiting x waiting).0 ∙ is in absurd cc
    | inr b ↦
        let e = subst (λ (by : Support). IsBacked r.standing ks x (reached_at ks x).strength by) is b in
        let z : rank_at ks source ≡ 0 = ap rank (h.gone source (rw same_gone at c)).1 in
        omega (arith, e.1.passes_on, least-positive r.standing.mode)
  ]

  -- it has no strength
  not_gone : (x : ℕ) → 1 ≤ rank_at ks x → Contains gone.objects.items x → ⊥
  not_gone x some c = let z : rank_at ks x ≡ 0 = ap rank (h.gone x (rw same_gone at c)).1 in omega (arith, some)

  module _ (ks' : List Reached) (gone' : Region) (l : HaveLost ks ks' gone gone') where
    -- what still has a support is as it was
    pub supported_same : (x source : ℕ) (slot : Slot) → (reached_at ks' x).support ≡ supports.Edge source slot → reached_at ks' x ≡ reached_at ks x
    supported_same x source slot is = elim (in_or_not l.more x) [
      | inl c ↦ let none : supports.Nothing ≡ supports.Edge source slot = sym (ap (λ (k : Reached). k.support) (l.fallen x c)) ∙ is in absurd cc
      | inr out ↦ l.others x out
    ]

    pub lost_within : (x : ℕ) → Contains l.more x → x < r.objects
    lost_within x c = elim (cases_lt x (length ks)) [
      | inl lt ↦ omega (arith, h.count, lt)
      | inr past ↦ let z : rank_at ks x ≡ 0 = ap (λ (k : Reached). rank k.strength) (get_or_past ks x unreached past) in omega (arith, l.had x c)
    ]

    in_gone : (x : ℕ) → Contains gone'.objects.items x → Contains gone.objects.items x ⊎ Contains l.more x
    in_gone x c = Contains-append_cases gone.objects.items l.more x (rw l.objects at c)

    once : NoneTwice gone'.objects.items
    once = rw l.objects (NoneTwice-append gone.objects.items l.more (rw same_gone h.distinct.gone) l.once (λ x c d. not_gone x (l.had x d) c))

    pub all_within : (x : ℕ) → Contains gone'.objects.items x → x < r.objects
    all_within x c = elim (in_gone x c) [
      | inl old ↦ h.distinct.within x (is_gone (rw same_gone at old))
      | inr new ↦ lost_within x new
    ]

    pub few_gone : length gone'.objects.items ≤ r.objects
    few_gone = length-different r.objects gone'.objects.items once all_within

  -- what waits is gone, and nothing below it is looked at yet
  pub falls : (ks' : List Reached) (gone' : Region) → AreDetached ks ks' gone gone' p.waiting
      → IsFalling p.waiting ks ks' gone gone' (length gone.objects.items)
  falls ks' gone' d = record {
    lost = d.lost;
    tops = λ x c. elim (in_or_not d.lost.more x) [
      | inl is ↦ is
      | inr out ↦ let z : rank_at ks x ≡ 0 = ap (λ (k : Reached). rank k.strength) (sym (d.lost.others x out)) ∙ d.all x c in
          absurd (omega (arith, (h.waiting x c).1))
    ];
    below = λ x c. on_top (d.from x c);
    looked = omega arith;
    within = omega (arith, ap length d.lost.objects, length-append gone.objects.items d.lost.more);
    closed = λ x source slot is c.
        let was : (reached_at ks x).support ≡ supports.Edge source slot =
        ap (λ (k : Reached). k.support) (sym (supported_same ks' gone' d.lost x source slot is)) ∙ is in
        let first : take (length gone.objects.items) gone'.objects.items ≡ gone.objects.items =
        ap (take (length gone.objects.items)) d.lost.objects ∙ take-append-le (length gone.objects.items) gone.objects.items d.lost.more (omega arith)
        ∙ take_all (length gone.objects.items) gone.objects.items (omega arith) in
        gone_supports_none x source slot was (rw first at c);
  }

  -- a round: what hangs on those that weren't looked at is gone too
  pub falls_on : (ks1 ks2 : List Reached) (gone1 gone2 : Region) (next : ℕ) (below : List ℕ) → IsFalling p.waiting ks ks1 gone gone1 next
      → FindsBelow r ks1 (drop next gone1.objects.items) [] below → AreDetached ks1 ks2 gone1 gone2 below
      → IsFalling p.waiting ks ks2 gone gone2 (length gone1.objects.items)
  unfolding lost_both
  falls_on ks1 ks2 gone1 gone2 next below f found d = record {
    lost = lost_both ks ks1 ks2 gone gone1 gone2 f.lost d.lost;
    tops = λ x c. Contains-append_left f.lost.more d.lost.more x (f.tops x c);
    below = λ x c. elim (Contains-append_cases f.lost.more d.lost.more x c) [
      | inl first ↦ f.below x first
      | inr second ↦ elim (found.only x (d.from x second)) [
        | inl none ↦ absurd (in_none x none)
        | inr u ↦
            let was : (reached_at ks x).support ≡ supports.Edge u.source u.slot =
            ap (λ (k : Reached). k.support) (sym (supported_same ks1 gone1 f.lost x u.source u.slot u.support)) ∙ u.support in
            elim (in_gone ks1 gone1 f.lost u.source (in_drop gone1.objects.items next u.source u.from)) [
              | inl old ↦ absurd (gone_supports_none x u.source u.slot was old)
              | inr new ↦ under u.source u.slot was (f.below u.source new)
            ]
      ]
    ];
    looked = omega (arith, f.looked, f.within);
    within = omega (arith, ap length d.lost.objects, length-append gone1.objects.items d.lost.more);
    closed = λ x source slot is c.
        let first : take (length gone1.objects.items) gone2.objects.items ≡ gone1.objects.items =
        ap (take (length gone1.objects.items)) d.lost.objects ∙ take-append-le (length gone1.objects.items) gone1.objects.items d.lost.more (omega arith)
        ∙ take_all (length gone1.objects.items) gone1.objects.items (omega arith) in
        let out : Contains d.lost.more x → ⊥ = λ new.
        let none : supports.Nothing ≡ supports.Edge source slot = sym (ap (λ (k : Reached). k.support) (d.lost.fallen x new)) ∙ is in absurd cc in
        let one : (reached_at ks1 x).support ≡ supports.Edge source slot = ap (λ (k : Reached). k.support) (sym (d.lost.others x out)) ∙ is in
        let same : reached_at ks1 x ≡ reached_at ks x = supported_same ks1 gone1 f.lost x source slot one in
        let was : (reached_at ks x).support ≡ supports.Edge source slot = ap (λ (k : Reached). k.support) (sym same) ∙ one in
        let there : Contains (take next gone1.objects.items ++ drop next gone1.objects.items) source =
        subst (λ (zs : List ℕ). Contains zs source) (first ∙ sym (take-append-drop next gone1.objects.items)) c in
        elim (Contains-append_cases (take next gone1.objects.items) (drop next gone1.objects.items) source there) [
          | inl looked ↦ f.closed x source slot one looked
          | inr front ↦ elim (h.backed x) [
            | inl waiting ↦ let none : supports.Nothing ≡ supports.Edge source slot = sym (h.waiting x waiting).0 ∙ was in absurd cc
            | inr b ↦
                let row = row_of_support r laws ks x (reached_at ks x).strength source slot
                (subst (λ (by : Support). IsBacked r.standing ks x (reached_at ks x).strength by) was b) in
                let hit : Contains below x = found_hit r ks1 (drop next gone1.objects.items) below found row.0 x source slot front row.1 row.2 row.3 one in
                let z : rank_at ks1 x ≡ 0 = ap (λ (k : Reached). rank k.strength) (sym (d.lost.others x out)) ∙ d.all x hit in
                let held : (reached_at ks x).support ≢ supports.Nothing = λ nothing.
                let both : supports.Nothing ≡ supports.Edge source slot = sym nothing ∙ was in absurd cc in
                let some : 1 ≤ rank_at ks x = h.reached x held in
                let still : rank_at ks1 x ≡ rank_at ks x = ap (λ (k : Reached). rank k.strength) same in
                omega (arith, some)
          ]
        ];
  }

  -- in the end nothing that is gone supports anything, and all else is as it was
  module _ (ks' : List Reached) (gone' : Region) (next : ℕ) (f : IsFalling p.waiting ks ks' gone gone' next) (all : length gone'.objects.items ≤ next)
      (same_strengths : gone.strengths.items ≡ p.strengths) where
    abbrev fallen_progress : Progress
    fallen_progress = record { waiting = []; rehung = p.rehung; lifted = p.lifted; gone = gone'.objects.items; strengths = gone'.strengths.items }

    none_held : (x source : ℕ) (slot : Slot) → (reached_at ks' x).support ≡ supports.Edge source slot → Contains f.lost.more source → ⊥
    none_held x source slot is c =
        f.closed x source slot is (rw (take_all next gone'.objects.items all, f.lost.objects) (Contains-append_right gone.objects.items f.lost.more source c))

    changed : (x : ℕ) → Contains f.lost.more x ⊎ (reached_at ks' x ≡ reached_at ks x)
    changed x = elim (in_or_not f.lost.more x) [ inl c ↦ inl c | inr out ↦ inr (f.lost.others x out) ]

    below_not_hung : (x : ℕ) → IsBelow ks p.waiting x → IsHung ks x → ⊥
    below_not_hung x (on_top c) hung = loose_not_hung ks x (h.waiting x c).0 hung
    below_not_hung x (under source slot is b) hung = below_not_hung source b (hung_source ks x source slot is hung).1

    still : (x : ℕ) → IsHung ks x → IsHung ks' x
    still = hung_still ks ks' (λ x. Contains f.lost.more x) changed (λ x c. below_not_hung x (f.below x c))

    old_same : (x : ℕ) → Contains gone.objects.items x → reached_at ks' x ≡ reached_at ks x
    old_same x c = f.lost.others x (λ new. not_gone x (f.lost.had x new) c)

    pub underway_fallen : IsUnderway r.standing r.objects ks' fallen_progress NoneLate
    underway_fallen = record {
      count = f.lost.count ∙ h.count;
      room = λ x. elim (changed x) [
        | inl c ↦ rw (f.lost.fallen x c) (h.room x)
        | inr same ↦ rw same (h.room x)
      ];
      backed = λ x. inr (elim (changed x) [
        | inl c ↦ rw (f.lost.fallen x c) refl
        | inr same ↦ elim (h.backed x) [
          | inl waiting ↦ rw (f.lost.fallen x (f.tops x waiting)) refl
          | inr b ↦ rw same (backed_same r.standing ks ks' x (reached_at ks x).strength (reached_at ks x).support
              (λ source slot is. ap (λ (k : Reached). k.strength)
              (f.lost.others source (none_held x source slot (ap (λ (k : Reached). k.support) same ∙ is)))) b)
        ]
      ]);
      in_order = λ x source slot is.
          let same : reached_at ks' x ≡ reached_at ks x = supported_same ks' gone' f.lost x source slot is in
          let there : reached_at ks' source ≡ reached_at ks source = f.lost.others source (none_held x source slot is) in
          rw (same, there) (h.in_order x source slot (ap (λ (k : Reached). k.support) (sym same) ∙ is));
      reached = λ x some. elim (changed x) [
        | inl c ↦ absurd (some (rw (f.lost.fallen x c) refl))
        | inr same ↦ rw same (h.reached x (rw same at some))
      ];
      waiting = λ x c. absurd (in_none x c);
      gone = λ x c. elim (in_gone ks' gone' f.lost x c) [
        | inl old ↦ rw (old_same x old) (h.gone x (rw same_gone at old))
        | inr new ↦ rw (f.lost.fallen x new) (refl, refl)
      ];
      rehung = λ x c. still x (h.rehung x c);
      lifted = λ x c. still x (h.lifted x c);
      distinct = record {
        waiting = tt;
        rehung = h.distinct.rehung;
        lifted = h.distinct.lifted;
        gone = once ks' gone' f.lost;
        within = λ x t. elim t [
          | waits c ↦ absurd (in_none x c)
          | hangs c ↦ h.distinct.within x (hangs c)
          | is_lifted c ↦ h.distinct.within x (is_lifted c)
          | is_gone c ↦ all_within ks' gone' f.lost x c
        ];
      };
    }

    pub since_fallen : (ks0 : List Reached) (lost : List Holding) → IsSince ks0 lost ks p → IsSince ks0 lost ks' fallen_progress
    since_fallen ks0 lost s =
        let hit : (x : ℕ) → IsBelow ks p.waiting x → InLossRegion ks0 lost x = region_below ks0 lost ks p s in
        record {
          strengths = λ x. elim (changed x) [
            | inl c ↦ inl (rw f.lost.objects (Contains-append_right gone.objects.items f.lost.more x c))
            | inr same ↦ elim (s.strengths x) [
              | inl old ↦ inl (rw f.lost.objects (Contains-append_left gone.objects.items f.lost.more x (rw (← same_gone) at old)))
              | inr was ↦ inr (ap (λ (k : Reached). k.strength) same ∙ was)
            ]
          ];
          origin = λ x. elim (changed x) [
            | inl c ↦ inl (hit x (f.below x c))
            | inr same ↦ elim (s.origin x) [ inl in_region ↦ inl in_region | inr was ↦ inr (same ∙ was) ]
          ];
          hit = λ x t. elim t [
            | waits c ↦ absurd (in_none x c)
            | hangs c ↦ s.hit x (hangs c)
            | is_lifted c ↦ s.hit x (is_lifted c)
            | is_gone c ↦ elim (in_gone ks' gone' f.lost x c) [
              | inl old ↦ s.hit x (is_gone (rw same_gone at old))
              | inr new ↦ hit x (f.below x new)
            ]
          ];
          stamps = λ m small x. elim (changed x) [
            | inl c ↦ rw (f.lost.fallen x c) (s.stamps m small x)
            | inr same ↦ rw same (s.stamps m small x)
          ];
          before = f.lost.strengths ∙ ap (λ (xs : List _). xs ++ strengths_of ks f.lost.more) (same_strengths ∙ s.before)
              ∙ ap (λ (xs : List _). strengths_of ks0 p.gone ++ xs) (strengths_same ks0 ks f.lost.more (λ x c. elim (s.strengths x) [
                | inl old ↦ absurd (not_gone x (f.lost.had x c) (rw (← same_gone) at old))
                | inr was ↦ was
              ]))
              ∙ sym (map-append (λ (o : ℕ). (reached_at ks0 o).strength) p.gone f.lost.more)
              ∙ ap (strengths_of ks0) (ap (λ (xs : List ℕ). xs ++ f.lost.more) (sym same_gone) ∙ sym f.lost.objects);
        }

    pub sought_fallen : (sought sought' : List ℕ) → AreSought r.standing ks p.gone sought
        → sought' ≡ sought ++ drop (length gone.objects.items) gone'.objects.items → AreSought r.standing ks' gone'.objects.items sought'
    sought_fallen sought sought' s is =
        let new : drop (length gone.objects.items) gone'.objects.items ≡ f.lost.more =
        ap (drop (length gone.objects.items)) f.lost.objects ∙ drop_append gone.objects.items f.lost.more in
        rw (is, new) (record {
          which = λ x c. elim (in_gone ks' gone' f.lost x c) [
            | inl old ↦ elim (s.which x (rw same_gone at old)) [
              | inl there ↦ inl (Contains-append_left sought f.lost.more x there)
              | inr alone ↦ inr (alone_still r.standing ks ks' (λ y. elim (changed y) [
                | inl c ↦ inr (ap (λ (k : Reached). k.strength) (f.lost.fallen y c))
                | inr same ↦ inl (ap (λ (k : Reached). k.strength) same)
              ]) x alone)
            ]
            | inr more ↦ inl (Contains-append_right sought f.lost.more x more)
          ];
          part = λ x c. elim (Contains-append_cases sought f.lost.more x c) [
            | inl old ↦ rw f.lost.objects (Contains-append_left gone.objects.items f.lost.more x (rw (← same_gone) at (s.part x old)))
            | inr more ↦ rw f.lost.objects (Contains-append_right gone.objects.items f.lost.more x more)
          ];
          once = NoneTwice-append sought f.lost.more s.once f.lost.once
              (λ x c d. not_gone x (f.lost.had x d) (rw (← same_gone) at (s.part x c)));
        })

    -- the looks at the edges of what is gone are due
    pub looks_fallen : (looks looks' : ℕ) → looks' + sum_by (targets_of r) gone.objects.items ≤ looks + sum_by (targets_of r) gone'.objects.items
        → looks' + looks_due r p ≤ looks + looks_due r fallen_progress
    looks_fallen looks looks' le =
        omega (
          arith,
          le,
          ap (sum_by (targets_of r)) same_gone,
          ap (sum_by (sources_of r)) same_gone,
          ap (sum_by (sources_of r)) f.lost.objects,
          sum_by-append (sources_of r) gone.objects.items f.lost.more,
        )

pub joined_below : (r : Rows) (ks : List Reached) (xs ys all a b c : List ℕ) → all ≡ xs ++ ys → c ≡ a ++ b → FindsBelow r ks xs [] a
    → FindsBelow r ks ys [] b → FindsBelow r ks all [] c
joined_below r ks xs ys all a b c is joined h k = rw (is, joined) (both_below r ks xs ys a b h k)

-- the objects of a list that are within a bound
pub each_within : (xs : List ℕ) (n : ℕ) → ((x : ℕ) → Contains xs x → x < n) → (k d : ℕ) → k < length xs → slice_index_or xs k d < n
each_within xs n within k d lt = within (slice_index_or xs k d) (Contains-get_or xs k d lt)

-- what is found below others has a support
pub found_within : (r : Rows) (ks : List Reached) (front below : List ℕ) → FindsBelow r ks front [] below → (x : ℕ) → Contains below x → x < length ks
found_within r ks front below found x c = elim (found.only x c) [
  | inl none ↦ absurd (in_none x none)
  | inr u ↦ supported_within ks x (λ nothing. let both : supports.Nothing ≡ supports.Edge u.source u.slot = sym nothing ∙ u.support in absurd cc)
]

pub rest_of : (xs : List ℕ) (i : ℕ) → take (length xs - i) (drop i xs) ≡ drop i xs
rest_of xs i = take_all (length xs - i) (drop i xs) (omega (arith, length-drop i xs))

-- sums over the first ones that are gone
pub sum_first : (f : ℕ → ℕ) (gone gone' more : List ℕ) → gone' ≡ gone ++ more → sum_by f (take (length gone) gone') ≡ sum_by f gone
sum_first f gone gone' more is = ap (sum_by f) (ap (take (length gone)) is ∙ take-append-le (length gone) gone more (omega arith)
    ∙ take_all (length gone) gone (omega arith))

pub looks_on : (f : ℕ → ℕ) (xs : List ℕ) (i base looks looks' sum0 : ℕ) → looks + sum0 ≤ base + sum_by f (take i xs)
    → looks' ≤ looks + sum_by f (drop i xs) → looks' + sum0 ≤ base + sum_by f xs
looks_on f xs i base looks looks' sum0 before step =
    let whole : sum_by f (take i xs) + sum_by f (drop i xs) ≡ sum_by f xs = sym (sum_by-append f (take i xs) (drop i xs))
    ∙ ap (sum_by f) (take-append-drop i xs) in
    omega (arith, before, step)

pub from_each : (xs : List ℕ) (n : ℕ) → ((k d : ℕ) → k < length xs → slice_index_or xs k d < n) → (x : ℕ) → Contains xs x → x < n
from_each xs n within x (k, lt, is) = rw (← is) (within k x lt)
