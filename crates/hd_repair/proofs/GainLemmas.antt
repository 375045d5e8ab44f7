use Rattle.std.proofs.Common.{◌≡◌, ◌∙◌, ℕ, ◌+◌, ◌<◌, ◌≤◌, ◌⊎◌, inl, inr, List, [], ◌∷◌, ◌++◌, Contains, length, sum_by, sym, ap, arith}
use Rattle.std.specs.Prelude.{nat_eq, not, if◌then◌else◌}
use Rattle.std.specs.List.{list_any}
use Rattle.std.proofs.Common.{Bool, true, false, true≢false, eqb-true}
use Rattle.std.proofs.lemmas.Cmp.{nat_eq_equiv}
use Rattle.std.proofs.lemmas.Map.Views.{list_any-from_Contains, Contains-from_any}
use Rattle.std.proofs.lemmas.Bool.{cases_lt, cases_Bool, cond-true, cond-false}
use Rattle.std.proofs.lemmas.List.{length-map, get_or_past}
use Rattle.std.proofs.lemmas.List.Elements.{Contains-push, Contains-push_cases, Contains-append_left}
use Rattle.hd_terms.proofs.Lower.{NoneTwice-push}
use Rattle.hd_terms.specs.declared.Support.{Support}
use Rattle.hd_terms.specs.declared.Support.TheVariants as supports
use Rattle.hd_terms.specs.declared.Strength.{Strength}
use Rattle.hd_terms.specs.Settled.{Reached}
use Rattle.hd_terms.specs.Ranks.{rank}
use Rattle.hd_terms.specs.Paths.{Standing}
use Rattle.hd_terms.specs.Chains.{NoneTwice}
use Rattle.hd_terms.specs.Settled.{Settled, reached_at, unreached}
use Rattle.hd_terms.specs.Regions.{StrengthChange, changed_objects}
use Rattle.hd_terms.specs.Regions.{Holding}
use Rattle.hd_terms.specs.Regions.{IsWithout, InGainRegion, AreChanges, by_change}
use Rattle.hd_repair.specs.Spreading.{IsSpreading, IsBacked, RootOn, EdgeTo, AreRises, rank_at}
use Rattle.hd_repair.proofs.SettledLemmas.{exact_support, order_of}
use Rattle.hd_repair.proofs.MarkLemmas.{in_or_not}
use Rattle.hd_repair.proofs.DistinctLemmas.{sum_by-part, sum_by-both, length-different}
use Rattle.hd_repair.proofs.LossLemmas.{changed_from}

-- what was settled is spreading, but for what leads to the targets of what is gained
module _ (less more : Standing) (gained : List Holding) (ks : List Reached) (targets : List ℕ) (w : IsWithout less more gained) (h : Settled less ks)
    (all : (x : Holding) → Contains gained x → Contains targets x.target) where
  more_backed : (o : ℕ) (s : Strength) (by : Support) → IsBacked less ks o s by → IsBacked more ks o s by
  more_backed o s supports.Nothing b = b
  more_backed o s (supports.Root n) b = (w.roots_within (record { number = n; target = o }) b.0, b.1)
  more_backed o s (supports.Edge source slot) (e, b) = (
    e,
    record {
      stands = w.edges_within e b.stands;
      from_source = b.from_source;
      from_slot = b.from_slot;
      to_object = b.to_object;
      passes_on = rw (← w.mode) b.passes_on;
      enough = b.enough;
    },
  )

  pub begin_gain : IsSpreading more ks [] (RootOn targets) (EdgeTo targets)
  begin_gain = record {
    supported = λ o. more_backed o (reached_at ks o).strength (reached_at ks o).support (exact_support less ks o (reached_at ks o).support (h.supported o));
    in_order = λ o. order_of less ks o (reached_at ks o).support (h.supported o);
    backed = λ f (k, lt, is). absurd (omega arith);
    by_roots = λ r stands. elim (w.roots r stands) [
      | inl was ↦ inr (inl (rw (h.by_roots r was) (omega arith)))
      | inr new ↦ inl (all (record { target = r.target; holder = supports.Root r.number }) new)
    ];
    by_edges = λ e stands. elim (w.edges e stands) [
      | inl was ↦ inr (λ p. inl (h.by_edges e was (rw w.mode p)))
      | inr new ↦ inl (all (record { target = e.target; holder = supports.Edge e.source e.slot }) new)
    ];
  }

module _ (ks ks' : List Reached) (changes : List StrengthChange) (changed : AreRises ks ks' changes) where
  pub rises : (o : ℕ) → Contains (changed_objects changes) o → rank_at ks o < rank_at ks' o
  rises o c =
      let d = changed_from changes o c in
      let h = changed.each d.0 d.1 in
      let was : rank_at ks o ≡ rank d.0.before = ap (rank_at ks) (sym d.2) ∙ ap rank h.before in
      let now : rank_at ks' o ≡ rank d.0.after = ap (rank_at ks') (sym d.2) ∙ ap rank h.after in
      omega (arith, h.rises)

  within : (n : ℕ) → length ks' ≡ n → (o : ℕ) → Contains (changed_objects changes) o → o < n
  within n count o c = elim (cases_lt o n) [
    | inl lt ↦ lt
    | inr past ↦ let z : rank_at ks' o ≡ 0 = ap (λ (k : Reached). rank k.strength) (get_or_past ks' o unreached (omega arith)) in absurd
        (omega (arith, rises o c))
  ]

  pub stamps_up : (n : ℕ) → length ks' ≡ n → (top : ℕ) → ((o : ℕ) → (reached_at ks o).stamp ≤ top) → (o : ℕ) → (reached_at ks' o).stamp ≤ top + n
  stamps_up n count top small o = omega (
    arith,
    changed.stamps top small o,
    length-map changes (λ (d : StrengthChange). d.object),
    length-different n
        (changed_objects changes) changed.once (within n count),
  )

  pub looks_up : (targets : List ℕ) → NoneTwice targets → (out others : ℕ → ℕ) (looks0 looks1 looks2 : ℕ) → looks1 ≤ looks0 + sum_by others targets
      → looks2 ≤ looks1 + sum_by out (changed_objects changes)
      → (region : List ℕ) → ((o : ℕ) → Contains targets o → Contains region o) → ((o : ℕ) → rank_at ks o < rank_at ks' o → Contains region o)
      → looks2 ≤ looks0 + sum_by (λ o. out o + others o) region
  looks_up targets once out others looks0 looks1 looks2 a b region first rising =
      omega (
        arith,
        sum_by-both out others region,
        sum_by-part others targets region once first,
        sum_by-part out (changed_objects changes) region
            changed.once (λ o c. rising o (rises o c)),
      )

-- what was gained and rises is the region
module _ (ks ks' : List Reached) (changes : List StrengthChange) (changed : AreRises ks ks' changes) where
  -- the changes told are all there are
  pub told : AreChanges ks ks' changes
  told = record {
    once = changed.once;
    each = λ d c. let h = changed.each d c in (h.before, h.after, λ same. let one : rank d.before ≡ rank d.after = ap rank same in omega (arith, h.rises));
    all = λ o differ. elim (in_or_not (changed_objects changes) o) [
      | inl is ↦ is
      | inr out ↦ absurd (differ (ap (λ (k : Reached). k.strength) (sym (changed.others o out))))
    ];
  }

  -- outside the region nothing has changed
  pub outside_gain : (gained : List Holding) (o : ℕ) → (InGainRegion ks ks' gained o → ⊥) → reached_at ks' o ≡ reached_at ks o
  outside_gain gained o out = changed.others o (λ c. out (by_change
      (λ same. let one : rank_at ks o ≡ rank_at ks' o = ap rank same in omega (arith, rises ks ks' changes changed o c))))

-- a set of numbers after an insert: a number that was there leaves them as they are, and another goes last
pub inserted : (k : ℕ) (ks ks' : List ℕ) (is_new : Bool) → is_new ≡ not (list_any (nat_eq k) ks)
    → ks' ≡ (if list_any (nat_eq k) ks then ks else ks ++ k ∷ [])
    → ((is_new ≡ true) × (Contains ks k → ⊥) × (ks' ≡ ks ++ k ∷ [])) ⊎ ((is_new ≡ false) × Contains ks k × (ks' ≡ ks))
inserted k ks ks' is_new added keys = elim (cases_Bool (list_any (nat_eq k) ks)) [
  | inl there ↦ inr (added ∙ ap not there, Contains-from_any eqb-true k ks there, keys ∙ cond-true (list_any (nat_eq k) ks) ks (ks ++ k ∷ []) there)
  | inr fresh ↦ inl (
    added ∙ ap not fresh,
    (λ c. true≢false (sym (list_any-from_Contains nat_eq_equiv k ks c) ∙ fresh)),
    keys ∙ cond-false
        (list_any (nat_eq k) ks) ks (ks ++ k ∷ []) fresh,
  )
]

-- the targets so far
pub record AreTargets (items seen : List Holding) (ts : List ℕ) : Type 0 where
  pub once : NoneTwice ts
  pub all : (h : Holding) → Contains seen h → Contains ts h.target
  pub only : (o : ℕ) → Contains ts o → (h : Holding) × Contains items h × (h.target ≡ o)

pub add_target : (items seen : List Holding) (ts : List ℕ) (x : Holding) → AreTargets items seen ts → Contains items x → (Contains ts x.target → ⊥)
    → AreTargets items (seen ++ x ∷ []) (ts ++ x.target ∷ [])
add_target items seen ts x h is fresh = record {
  once = NoneTwice-push x.target ts h.once fresh;
  all = λ y c. elim (Contains-push_cases seen x y c) [
    | inl before ↦ Contains-append_left ts (x.target ∷ []) y.target (h.all y before)
    | inr same ↦ rw (← same) (Contains-push ts x.target)
  ];
  only = λ o c. elim (Contains-push_cases ts x.target o c) [ inl before ↦ h.only o before | inr same ↦ (x, is, same) ];
}

pub keep_targets : (items seen : List Holding) (ts : List ℕ) (x : Holding) → AreTargets items seen ts → Contains ts x.target
    → AreTargets items (seen ++ x ∷ []) ts
keep_targets items seen ts x h there = record {
  once = h.once;
  all = λ y c. elim (Contains-push_cases seen x y c) [ inl before ↦ h.all y before | inr same ↦ rw (← same) there ];
  only = h.only;
}
