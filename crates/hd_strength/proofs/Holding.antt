use Rattle.std.proofs.Common.{min, ◌≡◌, ◌≢◌, ◌∙◌, ℕ, zero, suc, ◌+◌, ◌-◌, ◌^◌, ◌<◌, ◌≤◌, ◌⊎◌, inl, inr, Bool, true, false, ◌%◌, ◌==◌, List, [], ◌∷◌, ◌++◌}
use Rattle.std.proofs.Common.{Contains, length, length-set, set, get_or, replicate, Some, slice_get, refl, sym, ap, subst, arith}
use Rattle.std.proofs.lemmas.Bool.{cases_eq, cases_lt, eqb-true}
use Rattle.std.proofs.lemmas.Option.{slice_get_within, slice_get-get_or}
use Rattle.std.proofs.lemmas.List.{get_or-set_same, get_or-set_other, get_or_past, length-replicate}
use Rattle.std.proofs.lemmas.List.Elements.{Contains-push, Contains-push_cases, Contains-append_left}
use Rattle.std.proofs.lemmas.List.Sums.{sum_by-cons}
use Rattle.hd_terms.specs.declared.Event.{Event}
use Rattle.hd_terms.specs.declared.Strength.{Strength}
use Rattle.hd_terms.specs.declared.Strength.TheVariants as strengths
use Rattle.hd_terms.specs.declared.Support.TheVariants as supports
use Rattle.hd_terms.specs.Ranks.{rank, least_passed_on}
use Rattle.hd_terms.proofs.RankLemmas.{rank-le, least-positive}
use Rattle.hd_terms.specs.Paths.{RootEntry}
use Rattle.hd_terms.specs.Dump.{Dump}
use Rattle.hd_terms.specs.EditedDump.{standing}
use Rattle.hd_terms.specs.Settled.{Reached, reached_at, unreached, IsSupported}
use Rattle.hd_strength.specs.declared.buckets.Offer.{Offer}
use Rattle.hd_strength.specs.declared.part.Part.{Part}
use Rattle.hd_supports.specs.PackedReached.{reached_by_root}
use Rattle.hd_strength.specs.Buckets.{bucket}
use Rattle.hd_strength.specs.Found.{seen}
use Rattle.hd_strength.specs.Rows.{edge_at, root_at, root_count}
use Rattle.hd_strength.specs.Growing.{rank_at, AreHeld, IsHeldOrNot}
use Rattle.hd_strength.specs.Parts.{AreBlank, BeginInSteps, IsOwn, IsNew, IsFresh, IsFit, IsPartOf, IsHolding, AreHolding, IsHeldBy, IsHeldIn, IsOfferedIn}
use Rattle.hd_strength.specs.Parts.{IsReady, AreReady, IsSameBut, HasQueued, HaveEachQueued, HaveNotFailed, HaveComeTo, AreInRow, IsDoneIn, found_at, cells}
use Rattle.hd_strength.specs.Parts.{is_handed, unreached_of, unreached_in, with_found}
use Rattle.hd_strength.proofs.Lists.{Contains-nil}
use Rattle.hd_strength.proofs.FoundLemmas.{alike-at, seen-strength}
use Rattle.hd_strength.proofs.Weights.{unreached_count-le}
use Rattle.hd_strength.proofs.RowLemmas.{root_stands_at, root_has_number}
use Rattle.hd_strength.proofs.Rowed.{slice_get-set_cases, row-alike, row-set, row-holder, row-one}

-- one more root holds its object
module _ (dump : Dump) (log : List Event) (ks : List Reached) (n t : ℕ) (h : AreHeld dump log ks n) (lt : t < length ks)
    (is : root_at dump log n ≡ Some (record { number = n; target = t })) where
  abbrev after : List Reached
  after = set ks t (reached_by_root n)

  here : reached_at after t ≡ reached_by_root n
  here = get_or-set_same ks t (reached_by_root n) unreached lt

  other : (o : ℕ) → o ≢ t → reached_at after o ≡ reached_at ks o
  other o ne = get_or-set_other ks t o (reached_by_root n) unreached ne

  still : (o : ℕ) → o ≢ t → IsHeldOrNot dump log ks o → IsHeldOrNot dump log after o
  still o ne (inl none) = inl (other o ne ∙ none)
  still o ne (inr (r, at, held)) = inr (r, at, other o ne ∙ held)

  strong_here : (reached_at after t).strength ≡ strengths.Strong
  strong_here = ap (λ (k : Reached). k.strength) here

  strong_still : (o : ℕ) → (reached_at ks o).strength ≡ strengths.Strong → (reached_at after o).strength ≡ strengths.Strong
  strong_still o strong = elim (cases_eq o t) [
    | inl same ↦ ap (λ (o : ℕ). (reached_at after o).strength) same ∙ strong_here
    | inr ne ↦ ap (λ (k : Reached). k.strength) (other o ne) ∙ strong
  ]

  pub one_held : AreHeld dump log after (n + 1)
  one_held = record {
    each = λ o. elim (cases_eq o t) [
      | inl same ↦ subst (IsHeldOrNot dump log after) (sym same) (inr (n, is, here))
      | inr ne ↦ still o ne (h.each o)
    ];
    by_roots = λ r r_lt x at. elim (cases_eq r n) [
      | inl same ↦
          let both : Some x ≡ Some (record { number = n; target = t }) = sym (subst (λ (r : ℕ). root_at dump log r ≡ Some x) same at) ∙ is in
          let entry : x ≡ record { number = n; target = t } = cc in
          ap (λ (y : RootEntry). (reached_at after y.target).strength) entry ∙ strong_here
      | inr before ↦ strong_still x.target (h.by_roots r (omega arith) x at)
    ];
  }

-- a root on no object holds none
pub no_root : (dump : Dump) (log : List Event) (ks : List Reached) (n : ℕ) → AreHeld dump log ks n → ((x : RootEntry) → root_at dump log n ≡ Some x → ⊥)
    → AreHeld dump log ks (n + 1)
no_root dump log ks n h none = record {
  each = h.each;
  by_roots = λ r r_lt x at. elim (cases_eq r n) [
    | inl same ↦ absurd (none x (subst (λ (r : ℕ). root_at dump log r ≡ Some x) same at))
    | inr before ↦ h.by_roots r (omega arith) x at
  ];
}

-- no root is looked at yet
pub none_held : (dump : Dump) (log : List Event) (ks : List Reached) → ((o : ℕ) → reached_at ks o ≡ unreached) → AreHeld dump log ks 0
none_held dump log ks none = record { each = λ o. inl (none o); by_roots = λ r lt x at. absurd (omega arith) }

-- what is held by a root is supported by it
held_support : (dump : Dump) (log : List Event) (ks : List Reached) (o : ℕ) → IsHeldOrNot dump log ks o
    → IsSupported (standing dump log) ks o (reached_at ks o).support
held_support dump log ks o (inl none) = let s : (reached_at ks o).support ≡ supports.Nothing = ap (λ (k : Reached). k.support) none in
    rw s (ap (λ (k : Reached). k.strength) none)
held_support dump log ks o (inr (r, at, held)) = let s : (reached_at ks o).support ≡ supports.Root r = ap (λ (k : Reached). k.support) held in
    rw s (root_stands_at dump log r (record { number = r; target = o }) at, ap (λ (k : Reached). k.strength) held)

-- no object has a stamp yet
held_stamp : (dump : Dump) (log : List Event) (ks : List Reached) (o : ℕ) → IsHeldOrNot dump log ks o → (reached_at ks o).stamp ≤ 0
held_stamp dump log ks o (inl none) = rw none (omega arith)
held_stamp dump log ks o (inr (r, at, held)) = rw held (omega arith)

-- what is reached is strong
held_strong : (dump : Dump) (log : List Event) (ks : List Reached) (o : ℕ) → IsHeldOrNot dump log ks o → 1 ≤ rank_at ks o
    → (reached_at ks o).strength ≡ strengths.Strong
held_strong dump log ks o (inl none) reached = let z : rank_at ks o ≡ 0 = ap (λ (k : Reached). rank k.strength) none in absurd (omega arith)
held_strong dump log ks o (inr (r, at, held)) reached = ap (λ (k : Reached). k.strength) held

-- what is reached is among the objects
reached_within : (ks : List Reached) (o : ℕ) → 1 ≤ rank_at ks o → o < length ks
reached_within ks o reached = elim (cases_lt o (length ks)) [
  | inl lt ↦ lt
  | inr past ↦ let none : rank_at ks o ≡ 0 = ap (λ (k : Reached). rank k.strength) (get_or_past ks o unreached past) in absurd (omega arith)
]

-- of what nothing reaches, the same is seen
seen-unreached : (b : Bool) → seen b unreached ≡ unreached
seen-unreached true = refl
seen-unreached false = refl

-- a new part finds that nothing is reached
pub new-fresh : (dump : Dump) (first len n : ℕ) (whole : Bool) (p : Part) → IsNew first len whole p → n ≡ length dump.objects → first + len ≤ n
    → IsFresh dump (replicate n unreached) whole p
new-fresh dump first len n whole p new objects within =
    let list : p.found.list ≡ replicate len unreached = ap (λ (f : _). f.list) new.found in
    let long : length p.found.list ≡ len = ap length list ∙ length-replicate len unreached in
    record {
      alike = ap (λ (f : _). f.whole) new.found;
      own = λ o own.
          let here : found_at p o ≡ unreached = ap (λ (ks : List Reached). reached_at ks (o - p.first)) list ∙ alike-at len unreached (o - p.first) in
          here ∙ sym (ap (seen whole) (alike-at n unreached o) ∙ seen-unreached whole);
      within = omega (arith, long, new.same_first, objects, within);
      none_offered = new.none_offered;
      none_queued = new.none_queued;
      handed = new.handed;
      count = new.count;
    }

-- parts of which nothing is reached, one behind the other up to an object
pub record AreFresh (dump : Dump) (whole : Bool) (n : ℕ) (parts : List Part) (end : ℕ) : Type 0 where
  pub each : (k : ℕ) (p : Part) → slice_get parts k ≡ Some p → IsFresh dump (replicate n unreached) whole p
  pub row : AreInRow 0 parts end

-- one more part begins behind the others
steps-push : (len n : ℕ) (ps : List Part) (first end : ℕ) (p : Part) → BeginInSteps len n first ps end → p.first ≡ end
    → BeginInSteps len n first (ps ++ p ∷ []) (end + min len (n - end))
steps-push len n [] first end p steps is = (is ∙ sym steps, ap (λ (m : ℕ). m + min len (n - m)) steps)
steps-push len n (q ∷ qs) first end p steps is = (steps.0, steps-push len n qs (first + min len (n - first)) end p steps.1 is)

-- what stands in a list with one more element stood there, or is that one
push-cases : {X : Type 0} (xs : List X) (x : X) (k : ℕ) (y : X) → slice_get (xs ++ x ∷ []) k ≡ Some y → (slice_get xs k ≡ Some y) ⊎ (y ≡ x)
push-cases [] x zero y there = let both : Some x ≡ Some y = there in inr (cc)
push-cases [] x (suc k) y there = absurd (cc)
push-cases (z ∷ zs) x zero y there = inl there
push-cases (z ∷ zs) x (suc k) y there = push-cases zs x k y there

-- there is one more part
pub one_part : (len n : ℕ) (whole : Bool) (parts new : List Part) (first : ℕ) (p : Part) → AreBlank len n whole parts first → IsNew first 0 whole p → first ≤ n
    → new ≡ parts ++ p ∷ [] → AreBlank len n whole new (first + min len (n - first))
one_part len n whole parts new first p h blank le is = rw is (record {
  each = λ k q there. elim (push-cases parts p k q there) [
    | inl before ↦ h.each k q before
    | inr same ↦ subst (λ (q : Part). IsNew q.first 0 whole q × (q.first ≤ n)) (sym same)
        (subst (λ (m : ℕ). IsNew m 0 whole p × (m ≤ n)) (sym blank.same_first) (blank, le))
  ];
  steps = steps-push len n parts 0 first p h.steps blank.same_first;
})

-- where one list has an element another of the same length has one
there_too : {X Y : Type 0} (xs : List X) (ys : List Y) (k : ℕ) (y : Y) → length ys ≡ length xs → slice_get ys k ≡ Some y → (x : X) × (slice_get xs k ≡ Some x)
there_too [] [] k y same there = absurd (cc)
there_too [] (z ∷ ys) k y same there = absurd (omega (arith, same))
there_too (x ∷ xs) [] k y same there = absurd (cc)
there_too (x ∷ xs) (z ∷ ys) zero y same there = (x, refl)
there_too (x ∷ xs) (z ∷ ys) (suc k) y same there = there_too xs ys k y (omega (arith, same)) there

-- parts that have their objects are in a row
filled-row : (len n : ℕ) (whole : Bool) (ps qs : List Part) (first end : ℕ) → BeginInSteps len n first ps end → length qs ≡ length ps
    → ((k : ℕ) (p q : Part) → slice_get ps k ≡ Some p → slice_get qs k ≡ Some q → IsNew p.first (min len (n - p.first)) whole q) → AreInRow first qs end
filled-row len n whole [] [] first end steps same each = steps
filled-row len n whole [] (q ∷ qs) first end steps same each = absurd (omega (arith, same))
filled-row len n whole (p ∷ ps) [] first end steps same each = absurd (omega (arith, same))
filled-row len n whole (p ∷ ps) (q ∷ qs) first end steps same each =
    let new = each 0 p q refl refl in
    let long : length q.found.list ≡ min len (n - first) = ap (λ (f : _). length f.list) new.found ∙ length-replicate (min len (n - p.first)) unreached
    ∙ ap (λ (m : ℕ). min len (n - m)) steps.0 in (
      new.same_first ∙ steps.0,
      subst (λ (m : ℕ). AreInRow (first + m) qs end) (sym long)
          (filled-row len n whole ps qs (first + min len (n - first)) end steps.1 (omega (arith, same)) (λ k p q there here. each (suc k) p q there here)),
    )

-- and nothing is reached of them
pub filled : (dump : Dump) (len n : ℕ) (whole : Bool) (ps qs : List Part) (end : ℕ) → AreBlank len n whole ps end → length qs ≡ length ps
    → ((k : ℕ) (p q : Part) → slice_get ps k ≡ Some p → slice_get qs k ≡ Some q → IsNew p.first (min len (n - p.first)) whole q) → n ≡ length dump.objects
    → AreFresh dump whole n qs end
filled dump len n whole ps qs end h same each objects = record {
  each = λ k q there.
      let was = there_too ps qs k q same there in
      let le : was.0.first ≤ n = (h.each k was.0 was.1).1 in
      new-fresh dump was.0.first (min len (n - was.0.first)) n whole q (each k was.0 q was.1 there) objects (omega arith);
  row = filled-row len n whole ps qs 0 end h.steps same each;
}

-- they have all objects
pub all_parts : (dump : Dump) (log : List Event) (whole : Bool) (n : ℕ) (parts : List Part) (end : ℕ) → AreFresh dump whole n parts end → n < 2 ^ 32
    → n ≡ length dump.objects → end ≡ n → AreHolding dump log whole 0 parts
all_parts dump log whole n parts end h few objects all = record {
  kept = replicate n unreached;
  holds = record {
    few = omega (arith, few, objects);
    held = none_held dump log (replicate n unreached) (alike-at n unreached);
    each = h.each;
    row = subst (AreInRow 0 parts) (all ∙ objects) h.row;
    objects = length-replicate n unreached ∙ objects;
  };
}

-- each object is held by one of the parts
pub is_held_in : (dump : Dump) (log : List Event) (whole : Bool) (n : ℕ) (parts : List Part) (o : ℕ) → AreHolding dump log whole n parts
    → o < length dump.objects → IsHeldIn parts o
is_held_in dump log whole n parts o h lt = row-holder parts 0 (length dump.objects) o h.holds.row (omega arith) lt

-- one more root holds its object, by its part
module _ (dump : Dump) (log : List Event) (whole : Bool) (n t : ℕ) (parts new : List Part) (ks : List Reached) (h : IsHolding dump log parts ks whole n)
    (lt : t < length dump.objects)
    (root : root_at dump log n ≡ Some (record { number = n; target = t })) (by : IsHeldBy parts new t n) where
  abbrev kept : List Reached
  kept = set ks t (reached_by_root n)

  abbrev new_part : Part
  new_part = with_found by.holder.part
      (record {
        whole = by.holder.part.found.whole;
        list = set by.holder.part.found.list (t - by.holder.part.first)
            (seen by.holder.part.found.whole (reached_by_root n));
      })

  within : t < length ks
  within = omega (arith, h.objects)

  was : IsFresh dump ks whole by.holder.part
  was = h.each by.index by.holder.part by.holder.there

  same_length : length new_part.found.list ≡ length by.holder.part.found.list
  same_length = length-set by.holder.part.found.list (t - by.holder.part.first) (seen by.holder.part.found.whole (reached_by_root n))

  own_is : (o : ℕ) → IsOwn new_part o → found_at new_part o ≡ seen whole (reached_at kept o)
  own_is o own = elim (cases_eq o t) [
    | inl same ↦
        let place : o - by.holder.part.first ≡ t - by.holder.part.first = ap (λ (o : ℕ). o - by.holder.part.first) same in
        let inside : t - by.holder.part.first < length by.holder.part.found.list = omega (arith, by.holder.own.first, by.holder.own.last) in
        ap (reached_at new_part.found.list) place
        ∙ get_or-set_same by.holder.part.found.list (t - by.holder.part.first) (seen by.holder.part.found.whole (reached_by_root n)) unreached inside
        ∙ ap (λ (w : Bool). seen w (reached_by_root n)) was.alike
        ∙ sym (ap (λ (o : ℕ). seen whole (reached_at kept o)) same ∙ ap (seen whole) (get_or-set_same ks t (reached_by_root n) unreached within))
    | inr other ↦
        let ne : o - by.holder.part.first ≢ t - by.holder.part.first = λ same. other (omega (arith, same, own.first, by.holder.own.first)) in
        get_or-set_other by.holder.part.found.list (t - by.holder.part.first) (o - by.holder.part.first)
        (seen by.holder.part.found.whole (reached_by_root n)) unreached ne
        ∙ was.own o (record { first = own.first; last = omega (arith, own.last, same_length) })
        ∙ sym (ap (seen whole) (get_or-set_other ks t o (reached_by_root n) unreached other))
  ]

  part_fresh : IsFresh dump kept whole new_part
  part_fresh = record {
    alike = was.alike;
    own = own_is;
    within = omega (arith, was.within, same_length);
    none_offered = was.none_offered;
    none_queued = was.none_queued;
    handed = was.handed;
    count = was.count;
  }

  other_fresh : (j : ℕ) (p : Part) → j ≢ by.index → slice_get parts j ≡ Some p → IsFresh dump kept whole p
  other_fresh j p ne there =
      let f = h.each j p there in
      record {
        alike = f.alike;
        own = λ o own.
            let other : o ≢ t = λ same. ne (row-one parts 0 (length dump.objects) j by.index t p by.holder.part h.row there by.holder.there
            (subst (IsOwn p) same own) by.holder.own) in
            f.own o own ∙ sym (ap (seen whole) (get_or-set_other ks t o (reached_by_root n) unreached other));
        within = f.within;
        none_offered = f.none_offered;
        none_queued = f.none_queued;
        handed = f.handed;
        count = f.count;
      }

  still_holding : IsHolding dump log new kept whole (n + 1)
  still_holding = record {
    few = h.few;
    held = one_held dump log ks n t h.held within root;
    each = λ j p there. elim
        (slice_get-set_cases parts by.index j by.holder.part new_part p by.holder.there
        (subst (λ (parts : List Part). slice_get parts j ≡ Some p) by.is there)) [
          | inl both ↦ subst (IsFresh dump kept whole) (sym both.1) part_fresh
          | inr other ↦ other_fresh j p other.0 other.1
        ];
    row = subst (λ (parts : List Part). AreInRow 0 parts (length dump.objects)) (sym by.is)
        (row-set parts 0 (length dump.objects) by.index by.holder.part new_part h.row by.holder.there refl same_length);
    objects = length-set ks t (reached_by_root n) ∙ h.objects;
  }

-- the same, whatever is kept
pub one_holds : (dump : Dump) (log : List Event) (whole : Bool) (n t : ℕ) (parts new : List Part) → AreHolding dump log whole n parts → t < length dump.objects
    → root_at dump log n ≡ Some (record { number = n; target = t }) → IsHeldBy parts new t n → AreHolding dump log whole (n + 1) new
one_holds dump log whole n t parts new h lt root by =
    record { kept = set h.kept t (reached_by_root n); holds = still_holding dump log whole n t parts new h.kept h.holds lt root by }

-- a root on no object changes nothing
pub none_holds : (dump : Dump) (log : List Event) (whole : Bool) (n : ℕ) (parts : List Part) → AreHolding dump log whole n parts
    → ((x : RootEntry) → root_at dump log n ≡ Some x → ⊥) → AreHolding dump log whole (n + 1) parts
none_holds dump log whole n parts h none = record {
  kept = h.kept;
  holds = record { few = h.holds.few; held = no_root dump log h.kept n h.holds.held none; each = h.holds.each; row = h.holds.row; objects = h.holds.objects };
}

-- as many parts are left
pub held_count : (old new : List Part) (o root : ℕ) → IsHeldBy old new o root → length new ≡ length old
held_count old new o root by = omega (arith, ap length by.is, length-set {A = Part})

-- of the first n objects of a part those are queued that are reached, and nothing else
pub record AreQueued (p : Part) (queue : List ℕ) (n : ℕ) : Type 0 where
  pub reached : (o : ℕ) → Contains queue o → IsOwn p o × (1 ≤ rank (found_at p o).strength)
  pub all : (o : ℕ) → IsOwn p o → o < p.first + n → 1 ≤ rank (found_at p o).strength → Contains queue o

-- none is looked at yet
pub none_queued : (p : Part) (queue : List ℕ) → queue ≡ [] → AreQueued p queue 0
none_queued p queue none = record {
  reached = λ o c. absurd (Contains-nil o (subst (λ (xs : List ℕ). Contains xs o) none c));
  all = λ o own lt reached. absurd (omega (arith, own.first));
}

-- one more object is looked at
module _ (p : Part) (queue queue' : List ℕ) (n : ℕ) (h : AreQueued p queue n) (lt : n < length p.found.list) where
  place : (o : ℕ) → o ≡ p.first + n → o - p.first ≡ n
  place o same = omega arith

  rank_there : (o : ℕ) → o ≡ p.first + n → rank (found_at p o).strength ≡ rank_at p.found.list n
  rank_there o same = ap (rank_at p.found.list) (place o same)

  pub one_queued : 1 ≤ rank_at p.found.list n → queue' ≡ queue ++ (p.first + n) ∷ [] → AreQueued p queue' (n + 1)
  one_queued here is = record {
    reached = λ o c. elim (Contains-push_cases queue (p.first + n) o (subst (λ (xs : List ℕ). Contains xs o) is c)) [
      | inl before ↦ h.reached o before
      | inr same ↦ let at : o ≡ p.first + n = omega (arith, same) in (record { first = omega arith; last = omega arith }, omega (arith, rank_there o at))
    ];
    all = λ o own below reached. elim (cases_eq o (p.first + n)) [
      | inl same ↦ subst (λ (o : ℕ). Contains queue' o) (sym same)
          (subst (λ (xs : List ℕ). Contains xs (p.first + n)) (sym is) (Contains-push queue (p.first + n)))
      | inr other ↦ subst (λ (xs : List ℕ). Contains xs o) (sym is) (Contains-append_left queue ((p.first + n) ∷ []) o (h.all o own (omega arith) reached))
    ];
  }

  pub not_queued : rank_at p.found.list n ≡ 0 → queue' ≡ queue → AreQueued p queue' (n + 1)
  not_queued none is = record {
    reached = λ o c. h.reached o (subst (λ (xs : List ℕ). Contains xs o) is c);
    all = λ o own below reached. elim (cases_eq o (p.first + n)) [
      | inl same ↦ absurd (omega (arith, rank_there o same))
      | inr other ↦ subst (λ (xs : List ℕ). Contains xs o) (sym is) (h.all o own (omega arith) reached)
    ];
  }

-- all of them were looked at
pub all_queued : (old new : Part) (n : ℕ) → IsSameBut old new → AreQueued old new.queue n → length old.found.list ≤ n → HasQueued old new
all_queued old new n same h le =
    let long : length new.found.list ≡ length old.found.list = ap (λ (f : _). length f.list) same.found in
    let finds : (o : ℕ) → found_at new o ≡ found_at old o = λ o. ap (λ (f : _). reached_at f.list (o - new.first)) same.found
    ∙ ap (λ (n : ℕ). reached_at old.found.list (o - n)) same.first in
    record {
      same = same;
      reached = λ o c.
          let was = h.reached o c in (
            record { first = omega (arith, was.0.first, same.first); last = omega (arith, was.0.last, same.first, long) },
            omega
                (arith, ap (λ (k : Reached). rank k.strength) (finds o), was.1),
          );
      all = λ o own reached.
          h.all o (record { first = omega (arith, own.first, same.first); last = omega (arith, own.last, same.first, long) })
          (omega (arith, own.last, same.first, long)) (omega (arith, ap (λ (k : Reached). rank k.strength) (finds o)));
    }

-- what was noted before, but for the queue, doesn't count
pub queued_after : (a b c : Part) → IsSameBut a b → HasQueued b c → HasQueued a c
queued_after a b c same h = record {
  same = record {
    first = h.same.first ∙ same.first;
    found = h.same.found ∙ same.found;
    buckets = h.same.buckets ∙ same.buckets;
    handed = λ o is. same.handed o (h.same.handed o is);
    count = h.same.count ∙ same.count;
  };
  reached = h.reached;
  all = h.all;
}

-- nor what is noted afterwards
pub queued_noted : (a b c : Part) → HasQueued a b → IsSameBut b c → c.queue ≡ b.queue → HasQueued a c
queued_noted a b c h same queue =
    let long : length c.found.list ≡ length b.found.list = ap (λ (f : _). length f.list) same.found in
    let finds : (o : ℕ) → found_at c o ≡ found_at b o = λ o. ap (λ (f : _). reached_at f.list (o - c.first)) same.found
    ∙ ap (λ (n : ℕ). reached_at b.found.list (o - n)) same.first in
    record {
      same = record {
        first = same.first ∙ h.same.first;
        found = same.found ∙ h.same.found;
        buckets = same.buckets ∙ h.same.buckets;
        handed = λ o is. h.same.handed o (same.handed o is);
        count = same.count ∙ h.same.count;
      };
      reached = λ o there.
          let was = h.reached o (subst (λ (xs : List ℕ). Contains xs o) queue there) in (
            record { first = omega (arith, was.0.first, same.first); last = omega (arith, was.0.last, same.first, long) },
            omega
                (arith, ap (λ (k : Reached). rank k.strength) (finds o), was.1),
          );
      all = λ o own reached.
          subst (λ (xs : List ℕ). Contains xs o) (sym queue)
          (h.all o (record { first = omega (arith, own.first, same.first); last = omega (arith, own.last, same.first, long) })
          (omega (arith, ap (λ (k : Reached). rank k.strength) (finds o), reached)));
    }

-- a part that is the same but for its flags is as ready
pub still_ready : (a b : Part) → IsReady a → IsSameBut a b → b.queue ≡ a.queue → IsReady b
still_ready a b ready same queue = record {
  few = omega (arith, ready.few, same.first, ap (λ (f : _). length f.list) same.found);
  none_queued = queue ∙ ready.none_queued;
}

-- each part of a search that has just begun is ready
pub ready : (dump : Dump) (log : List Event) (parts : List Part) (ks : List Reached) (whole : Bool) (n : ℕ) → IsHolding dump log parts ks whole n
    → AreReady parts
ready dump log parts ks whole n h k p there = let f = h.each k p there in record { few = omega (arith, f.within, h.few); none_queued = f.none_queued }

-- all parts have queued what is reached of theirs, and stand in a row as before
pub record HaveQueued (old new : List Part) (end : ℕ) : Type 0 where
  pub done : (k : ℕ) (p' : Part) → slice_get new k ≡ Some p' → (p : Part) × (slice_get old k ≡ Some p) × HasQueued p p'
  pub count : length new ≡ length old
  pub row : AreInRow 0 new end

-- they have, where each did and memory ran out in none
pub have_queued : (old sent new now : List Part) (end : ℕ) → sent ≡ old → now ≡ new → length new ≡ length sent → HaveEachQueued sent new → HaveNotFailed now
    → AreInRow 0 old end → HaveQueued old new end
have_queued old sent new now end same after count each well row =
    let counts : length new ≡ length old = count ∙ ap length same in
    let one : (k : ℕ) (p q : Part) → slice_get old k ≡ Some p → slice_get new k ≡ Some q → HasQueued p q =
    λ k p q there here. each k p q (subst (λ (ps : List Part). slice_get ps k ≡ Some p) (sym same) there) here
    (well k q (subst (λ (ps : List Part). slice_get ps k ≡ Some q) (sym after) here)) in
    record {
      done = λ k q here. let p : Part = get_or old k q in let there : slice_get old k ≡ Some p =
          slice_get-get_or old k q (omega (arith, slice_get_within new k q here, counts)) in (p, there, one k p q there here);
      count = counts;
      row = row-alike old new 0 end counts (λ k p q there here. let both = (one k p q there here).same in
          (both.first, ap (λ (f : _). length f.list) both.found)) row;
    }

-- no more objects are unreached than the parts of a row have
pub row-unreached : (ps : List Part) (first end : ℕ) → AreInRow first ps end → unreached_in ps + first ≤ end
row-unreached [] first end row = omega (arith, row)
row-unreached (p ∷ ps) first end row =
    omega (arith, sum_by-cons unreached_of p ps, unreached_count-le p.found.list, row-unreached ps (first + length p.found.list) end row.1)

-- all parts have queued what is reached of theirs
module _ (dump : Dump) (log : List Event) (whole : Bool) (old new : List Part) (ks : List Reached) (h : IsHolding dump log old ks whole (root_count dump log))
    (q : HaveQueued old new (length dump.objects)) where
  part_was : (k : ℕ) (p : Part) → slice_get new k ≡ Some p → (was : Part) × (slice_get old k ≡ Some was) × HasQueued was p
  part_was = q.done

  -- such a part is as fresh but for its queue
  module _ (was p : Part) (f : IsFresh dump ks whole was) (b : HasQueued was p) where
    own_before : (o : ℕ) → IsOwn p o → IsOwn was o
    own_before o own = record {
      first = omega (arith, own.first, b.same.first);
      last =
          omega (arith, own.last, b.same.first, ap (λ (f : _). length f.list) b.same.found);
    }

    finds : (o : ℕ) → IsOwn p o → found_at p o ≡ seen whole (reached_at ks o)
    finds o own =
        ap (λ (f : _). reached_at f.list (o - p.first)) b.same.found
        ∙ ap (λ (n : ℕ). reached_at was.found.list (o - n)) b.same.first
        ∙ f.own o (own_before o own)

    strength_found : (o : ℕ) → IsOwn p o → (found_at p o).strength ≡ (reached_at ks o).strength
    strength_found o own = ap (λ (k : Reached). k.strength) (finds o own) ∙ seen-strength whole (reached_at ks o)

    rank_found : (o : ℕ) → IsOwn p o → rank (found_at p o).strength ≡ rank_at ks o
    rank_found o own = ap rank (strength_found o own)

    none_made : (t : Strength) (x : Offer) → Contains (bucket p.buckets t) x → ⊥
    none_made t x made = Contains-nil x (subst (λ (xs : List Offer). Contains xs x) (ap (λ (b : _). bucket b t) b.same.buckets ∙ f.none_offered t) made)

    none_handed : (o : ℕ) → is_handed p o ≡ true → ⊥
    none_handed o is =
        let last : (get_or [] (o % cells) (o + 1) == o) ≡ true = subst (λ (numbers : List ℕ). (get_or numbers (o % cells) (o + 1) == o) ≡ true) f.handed
        (b.same.handed o is) in
        let no : o + 1 ≡ o = eqb-true (o + 1) o last in
        absurd (omega (arith, no))

    fits : IsFit dump strengths.Strong p
    fits = record {
      within = omega (arith, f.within, b.same.first, ap (λ (f : _). length f.list) b.same.found);
      few = h.few;
      queued = λ o c.
          let there = b.reached o c in (
            there.0,
            strength_found o there.0 ∙ held_strong dump log ks o (h.held.each o) (omega (arith, rank_found o there.0, there.1)),
            rank-le
                (least_passed_on dump.mode),
          );
      room = omega (arith, b.same.count, f.count, unreached_count-le p.found.list, f.within, ap (λ (f : _). length f.list) b.same.found);
      offered = λ t x made. absurd (none_made t x made);
    }

    begins_part : IsPartOf dump (edge_at dump log) ks whole strengths.Strong (unreached_in new) (IsOfferedIn new) p
    begins_part = record {
      fit = fits;
      alike = ap (λ (f : _). f.whole) b.same.found ∙ f.alike;
      own = finds;
      stamps = λ o own. omega (arith, held_stamp dump log ks o (h.held.each o));
      room = omega (arith, b.same.count, f.count, row-unreached new 0 (length dump.objects) q.row);
      handed = λ o is. absurd (none_handed o is);
    }

  none_offered_in : (t : Strength) (x : Offer) → IsOfferedIn new t x → ⊥
  none_offered_in t x c = let was = part_was c.index c.part c.there in none_made was.0 c.part (h.each c.index was.0 was.1) was.2 t x c.made

  queued_there : (o : ℕ) → 1 ≤ rank_at ks o → IsDoneIn new o → ⊥
  queued_there o reached done =
      let there = row-holder new 0 (length dump.objects) o q.row (omega arith) (omega (arith, reached_within ks o reached, h.objects)) in
      let was = part_was there.index there.holder.part there.holder.there in
      let same = rank_found was.0 there.holder.part (h.each there.index was.0 was.1) was.2 o there.holder.own in
      done there.index there.holder.part there.holder.there (was.2.all o there.holder.own (omega (arith, same)))

  pub begins : HaveComeTo dump log whole strengths.Strong new
  begins = record {
    kept = ks;
    holds = record {
      growing = record {
        supported = λ o. held_support dump log ks o (h.held.each o);
        by_roots = λ x c. let number : (r : ℕ) × (r < root_count dump log) × (root_at dump log r ≡ Some x) = root_has_number dump log x c in
            h.held.by_roots number.0 number.1 x number.2;
        by_edges = λ o i e done is p. absurd (queued_there o (omega (arith, p, least-positive dump.mode)) done.0);
        backed = λ t x c. absurd (none_offered_in t x c);
        floor = λ o reached. omega (arith, ap rank (held_strong dump log ks o (h.held.each o) reached));
        ceiling = λ t x c. absurd (none_offered_in t x c);
      };
      each = λ k p there. let was = part_was k p there in begins_part was.0 p (h.each k was.0 was.1) was.2;
      row = q.row;
      objects = h.objects;
    };
  }
