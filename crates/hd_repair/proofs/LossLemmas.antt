use Rattle.std.proofs.Common.{
  ◌≡◌,
  ◌≢◌,
  ◌∙◌,
  ℕ,
  zero,
  suc,
  ◌+◌,
  ◌*◌,
  ◌<◌,
  ◌≤◌,
  inl,
  inr,
  List,
  [],
  ◌∷◌,
  ◌++◌,
  Contains,
  length,
  take,
  get_or,
  sum_by,
  sym,
  ap,
  subst,
  arith,
}
use Rattle.std.proofs.lemmas.Bool.{cases_lt}
use Rattle.std.proofs.lemmas.List.{take_more, length-append, length-map, get_or-map, map-append}
use Rattle.std.proofs.lemmas.List.Elements.{Contains-append_cases, Contains-append_left, Contains-push, Contains-push_cases, Contains-get_or}
use Rattle.std.proofs.lemmas.List.Sums.{sum_by-append}
use Rattle.hd_terms.specs.declared.Strength.TheVariants as strengths
use Rattle.hd_terms.specs.Paths.{Edge}
use Rattle.hd_terms.specs.Settled.{Reached}
use Rattle.hd_terms.specs.Ranks.{rank}
use Rattle.hd_terms.specs.Paths.{Standing, Lead, IsPath, path_strength}
use Rattle.hd_terms.specs.Chains.{NoneTwice}
use Rattle.hd_terms.specs.Settled.{Settled, reached_at}
use Rattle.hd_terms.proofs.Upper.{greatest}
use Rattle.hd_terms.proofs.Lower.{found, NoneTwice-push}
use Rattle.hd_terms.specs.Regions.{StrengthChange, changed_objects}
use Rattle.hd_terms.specs.Regions.{Holding}
use Rattle.hd_terms.specs.Regions.{IsWithout, InLossRegion, AreChanges}
use Rattle.hd_terms.specs.EdgeRows.{Rows, degree}
use Rattle.hd_repair.specs.Changing.{AreChangesAmong}
use Rattle.hd_repair.specs.Alone.{AreSought}
use Rattle.hd_repair.specs.Hanging.{NoneLate}
use Rattle.hd_repair.specs.Losing.{looks_due, sources_of, targets_of, IsSince, IsUnderway, Progress, hangs, is_gone, is_lifted}
use Rattle.hd_repair.specs.Spreading.{AreRises, IsRise, rank_at}
use Rattle.hd_repair.proofs.HungLemmas.{loose_not_hung}
use Rattle.hd_repair.proofs.UnderwayLemmas.{NoneTwice-append}
use Rattle.hd_repair.proofs.MarkLemmas.{in_or_not}
use Rattle.hd_repair.proofs.DistinctLemmas.{sum_by-part, sum_by-both}
pub use Rattle.hd_repair.proofs.DistinctLemmas.{length-different}
use Rattle.hd_repair.proofs.QueueLemmas.{cons_cases}

abbrev no_change : StrengthChange
no_change = record { object = 0; before = strengths.Unreachable; after = strengths.Unreachable }

pub changed_from : (changes : List StrengthChange) (o : ℕ) → Contains (changed_objects changes) o → (d : StrengthChange) × Contains changes d × (d.object ≡ o)
changed_from changes o (k, lt, is) =
    let within : k < length changes = omega (arith, length-map changes (λ (d : StrengthChange). d.object)) in (
      get_or changes k no_change,
      Contains-get_or changes k no_change within,
      sym
          (get_or-map (λ (d : StrengthChange). d.object) changes k no_change o within) ∙ is,
    )

-- an object of a list isn't among those before it
fresh_front : (xs : List ℕ) (i d : ℕ) → NoneTwice xs → i < length xs → Contains (take i xs) (get_or xs i d) → ⊥
fresh_front [] i d once lt c = omega arith
fresh_front (x ∷ xs) zero d once lt (k, k_lt, is) = omega arith
fresh_front (x ∷ xs) (suc i) d once lt c = elim (cons_cases x (take i xs) (get_or xs i d) c) [
  | inl same ↦ once.0 (subst (λ (y : ℕ). Contains xs y) same (Contains-get_or xs i d (omega arith)))
  | inr later ↦ fresh_front xs i d once.1 (omega arith) later
]

-- nothing is compared yet
pub none_compared : (before after : List Reached) → AreChangesAmong before after [] []
none_compared before after = record {
  once = tt;
  within = λ o (k, lt, is). absurd (omega arith);
  each = λ d (k, lt, is). absurd (omega arith);
  all = λ o (k, lt, is). absurd (omega arith);
}

-- one more object is compared
module _ (before after : List Reached) (xs : List ℕ) (i d : ℕ) (changes : List StrengthChange) (once : NoneTwice xs) (lt : i < length xs)
    (h : AreChangesAmong before after (take i xs) changes) where
  abbrev o : ℕ
  o = get_or xs i d

  pub differs : (x : StrengthChange) → x.object ≡ o → (reached_at before o).strength ≡ x.before → (reached_at after o).strength ≡ x.after
      → x.before ≢ x.after → AreChangesAmong before after (take (i + 1) xs) (changes ++ x ∷ [])
  differs x here was now other =
      let objects : changed_objects (changes ++ x ∷ []) ≡ changed_objects changes ++ o ∷ [] =
      map-append (λ (c : StrengthChange). c.object) changes (x ∷ []) ∙ ap (λ (y : ℕ). changed_objects changes ++ y ∷ []) here in
      let front : take (i + 1) xs ≡ take i xs ++ o ∷ [] = take_more xs i d lt in
      record {
        once = rw objects (NoneTwice-push o (changed_objects changes) h.once (λ c. fresh_front xs i d once lt (h.within o c)));
        within = λ y c. elim (Contains-push_cases (changed_objects changes) o y (rw (← objects) c)) [
          | inl old ↦ rw front (Contains-append_left (take i xs) (o ∷ []) y (h.within y old))
          | inr same ↦ rw front (rw (← same) (Contains-push (take i xs) o))
        ];
        each = λ y c. elim (Contains-push_cases changes x y c) [
          | inl old ↦ h.each y old
          | inr same ↦ rw (← same, here) (was, now, other)
        ];
        all = λ y c differ. rw objects (elim (Contains-push_cases (take i xs) o y (rw (← front) c)) [
          | inl old ↦ Contains-append_left (changed_objects changes) (o ∷ []) y (h.all y old differ)
          | inr same ↦ rw (← same) (Contains-push (changed_objects changes) o)
        ]);
      }

  pub agrees : (reached_at before o).strength ≡ (reached_at after o).strength → AreChangesAmong before after (take (i + 1) xs) changes
  agrees same =
      let front : take (i + 1) xs ≡ take i xs ++ o ∷ [] = take_more xs i d lt in
      record {
        once = h.once;
        within = λ y c. rw front (Contains-append_left (take i xs) (o ∷ []) y (h.within y c));
        each = h.each;
        all = λ y c differ. elim (Contains-push_cases (take i xs) o y (rw (← front) c)) [
          | inl old ↦ h.all y old differ
          | inr this ↦ absurd (differ (rw (← this) same))
        ];
      }

-- an object can't rise: a path that is left was there before
module _ (less more : Standing) (lost : List Holding) (ks0 ks' : List Reached) (w : IsWithout less more lost) (before : Settled more ks0)
    (after : Settled less ks') where
  still_leads : (es : List Edge) (a b : ℕ) → Lead less a es b → Lead more a es b
  still_leads [] a b l = l
  still_leads (e ∷ es) a b l = (w.edges_within e l.0, l.1, still_leads es e.target b l.2)

  pub no_better : (o : ℕ) → rank_at ks' o ≤ rank_at ks0 o
  no_better o = elim (cases_lt 0 (rank_at ks' o)) [
    | inr none ↦ omega arith
    | inl reached ↦
        let way = found less ks' after o (λ is. let z : rank_at ks' o ≡ 0 = ap rank is in omega arith) in
        let path = way.2.path in
        let old : IsPath more way.0 way.1 o = record {
          root = w.roots_within way.0 path.root;
          edges =
              still_leads way.1 way.0.target o path.edges;
          passed_on = rw (← w.mode) path.passed_on;
        } in
        let s : rank (path_strength way.1) ≡ rank_at ks' o = ap rank way.2.strength in
        omega (arith, greatest more ks0 before o way.0 way.1 old)
  ]

-- what is kept of an object that isn't gone can't rise
module _ (less more : Standing) (lost : List Holding) (n : ℕ) (ks0 ks ks' : List Reached) (p : Progress) (changes : List StrengthChange)
    (w : IsWithout less more lost) (before : Settled more ks0) (after : Settled less ks')
    (h : IsUnderway less n ks p NoneLate) (f : IsSince ks0 lost ks p) (changed : AreRises ks ks' changes) where
  pub changed_is_gone : (o : ℕ) → Contains (changed_objects changes) o → Contains p.gone o
  changed_is_gone o c = elim (f.strengths o) [
    | inl gone ↦ gone
    | inr kept ↦
        let d = changed_from changes o c in
        let rise : IsRise ks ks' d.0 = changed.each d.0 d.1 in
        let was : rank_at ks o ≡ rank d.0.before = ap (rank_at ks) (sym d.2) ∙ ap rank rise.before in
        let now : rank_at ks' o ≡ rank d.0.after = ap (rank_at ks') (sym d.2) ∙ ap rank rise.after in
        let same : rank_at ks o ≡ rank_at ks0 o = ap rank kept in
        absurd (omega (arith, rise.rises, no_better less more lost ks0 ks' w before after o))
  ]

  pub outside : (o : ℕ) → (InLossRegion ks0 lost o → ⊥) → reached_at ks' o ≡ reached_at ks0 o
  outside o out = changed.others o (λ c. out (f.hit o (is_gone (changed_is_gone o c)))) ∙ (elim (f.origin o) [
    | inl in_region ↦ absurd (out in_region)
    | inr same ↦ same
  ])

  -- what is lifted hangs, and so isn't gone
  lifted_not_gone : (x : ℕ) → Contains p.gone x → Contains p.lifted x → ⊥
  lifted_not_gone x c d = loose_not_hung ks x (h.gone x c).0 (h.lifted x d)

  -- stamps grow by at most the number of objects
  pub stamps_grow : (top : ℕ) → ((o : ℕ) → (reached_at ks0 o).stamp ≤ top) → (o : ℕ) → (reached_at ks' o).stamp ≤ top + n
  stamps_grow top small o =
      let touched : List ℕ = changed_objects changes ++ p.lifted in
      let once : NoneTwice touched = NoneTwice-append (changed_objects changes) p.lifted changed.once h.distinct.lifted
      (λ x c d. lifted_not_gone x (changed_is_gone x c) d) in
      let few : length touched ≤ n = length-different n touched once (λ x c. elim (Contains-append_cases (changed_objects changes) p.lifted x c) [
        | inl rises ↦ h.distinct.within x (is_gone (changed_is_gone x rises))
        | inr lifts ↦ h.distinct.within x (is_lifted lifts)
      ]) in
      omega (
        arith,
        few,
        length-append (changed_objects changes) p.lifted,
        changed.stamps (top + length p.lifted) (f.stamps top small) o,
        length-map changes
            (λ (d : StrengthChange). d.object),
      )

  -- the looks of the three phases
  pub few_looks : (r : Rows) (looks0 looks1 looks2 looks3 : ℕ) (sought : List ℕ) → AreSought less ks p.gone sought
      → looks1 ≤ looks0 + looks_due r p → looks2 ≤ looks1 + sum_by (sources_of r) sought
      → looks3 ≤ looks2 + sum_by (targets_of r) (changed_objects changes)
      → (whole : List ℕ) → ((o : ℕ) → InLossRegion ks0 lost o → Contains whole o) → looks3 ≤ looks0 + 2 * sum_by (degree r) whole
  few_looks r looks0 looks1 looks2 looks3 sought searching a b c whole all =
      let searched : sum_by (sources_of r) (p.rehung ++ p.gone) ≤ sum_by (sources_of r) whole = sum_by-part (sources_of r) (p.rehung ++ p.gone) whole
      (NoneTwice-append p.rehung p.gone h.distinct.rehung h.distinct.gone (λ x again gone. loose_not_hung ks x (h.gone x gone).0 (h.rehung x again)))
      (λ x c. all x (elim (Contains-append_cases p.rehung p.gone x c) [ inl again ↦ f.hit x (hangs again) | inr gone ↦ f.hit x (is_gone gone) ])) in
      let followed : sum_by (targets_of r) (p.gone ++ p.lifted) ≤ sum_by (targets_of r) whole = sum_by-part (targets_of r) (p.gone ++ p.lifted) whole
      (NoneTwice-append p.gone p.lifted h.distinct.gone h.distinct.lifted lifted_not_gone)
      (λ x c. all x (elim (Contains-append_cases p.gone p.lifted x c) [ inl gone ↦ f.hit x (is_gone gone) | inr lifts ↦ f.hit x (is_lifted lifts) ])) in
      let offered : sum_by (sources_of r) sought ≤ sum_by (sources_of r) whole =
      sum_by-part (sources_of r) sought whole searching.once (λ x c. all x (f.hit x (is_gone (searching.part x c)))) in
      let again : sum_by (targets_of r) (changed_objects changes) ≤ sum_by (targets_of r) whole =
      sum_by-part (targets_of r) (changed_objects changes) whole changed.once (λ x rises. all x (f.hit x (is_gone (changed_is_gone x rises)))) in
      omega (
        arith,
        searched,
        followed,
        offered,
        again,
        sum_by-append (sources_of r) p.rehung p.gone,
        sum_by-append (targets_of r) p.gone p.lifted,
        sum_by-both (targets_of r) (sources_of r) whole,
      )

  -- the changes of the objects that were gone are all there are
  pub all_changes : (told : List StrengthChange) → AreChangesAmong ks0 ks' p.gone told → AreChanges ks0 ks' told
  all_changes told among = record {
    once = among.once;
    each = among.each;
    all = λ o differ. elim (in_or_not p.gone o) [
      | inl is ↦ among.all o is differ
      | inr out ↦ elim (f.strengths o) [
        | inl gone ↦ absurd (out gone)
        | inr same ↦ absurd (differ (sym (ap (λ (k : Reached). k.strength) (changed.others o (λ c. out (changed_is_gone o c))) ∙ same)))
      ]
    ];
  }
