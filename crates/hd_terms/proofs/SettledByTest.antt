-- A test that computes on whole lists whether what is kept is settled, for examples.
use Rattle.std.proofs.Common.{◌≡◌, ◌∙◌, ℕ, zero, suc, ◌+◌, ◌<◌, ◌==◌, ◌⊎◌, inl, inr, Bool, true, false, ◌&&◌, ◌||◌, nat_lt, nat_le, List, [], ◌∷◌, length}
use Rattle.std.proofs.Common.{slice_index_or, Contains, subst, sym, ap, refl, arith}
use Rattle.std.specs.List.{list_any, list_all}
use Rattle.std.proofs.lemmas.Bool.{cases_lt, and_parts, eqb-true, leb-true, ltb-true}
use Rattle.std.proofs.lemmas.List.{get_or_past}
use Rattle.std.proofs.lemmas.List.Folds.{Any-from_list_any}
use Rattle.std.proofs.lemmas.List.Recursion.{and_at}
use Rattle.hd_terms.specs.declared.Strength.{Strength}
use Rattle.hd_terms.specs.declared.Strength.TheVariants as strengths
use Rattle.hd_terms.specs.declared.Slot.{Slot}
use Rattle.hd_terms.specs.declared.Slot.TheVariants as slots
use Rattle.hd_terms.specs.declared.Support.{Support}
use Rattle.hd_terms.specs.declared.Support.TheVariants as supports
use Rattle.hd_terms.specs.declared.Mode.{Mode}
use Rattle.hd_terms.specs.Ranks.{rank, given_by, weaker_of, least_passed_on}
use Rattle.hd_terms.specs.Paths.{Edge, RootEntry, Standing}
use Rattle.hd_terms.specs.Strengths.{HasStrength}
use Rattle.hd_terms.specs.EditedDump.{slot_code, same_slot}
use Rattle.hd_terms.specs.Settled.{Reached, Settled, unreached, reached_at, IsBefore, SupportedBy, IsSupported}
use Rattle.hd_terms.proofs.RankLemmas.{same_rank}
use Rattle.hd_terms.proofs.Upper.{greatest}
use Rattle.hd_terms.proofs.Lower.{found}

-- the slot of a code
abbrev of_code : ℕ → ℕ → Slot
of_code zero i = slots.Field i
of_code (suc zero) i = slots.Element i
of_code (suc (suc zero)) i = slots.Static i
of_code (suc (suc (suc zero))) i = slots.Const i
of_code (suc (suc (suc (suc zero)))) i = slots.OfClass
of_code (suc (suc (suc (suc (suc zero))))) i = slots.Super
of_code (suc (suc (suc (suc (suc (suc zero)))))) i = slots.Loader
of_code (suc (suc (suc (suc (suc (suc (suc zero))))))) i = slots.Signers
of_code (suc (suc (suc (suc (suc (suc (suc (suc k)))))))) i = slots.Domain

of_code-slot_code : (s : Slot) → of_code (slot_code s).0 (slot_code s).1 ≡ s
of_code-slot_code (slots.Field i) = refl
of_code-slot_code (slots.Element i) = refl
of_code-slot_code (slots.Static i) = refl
of_code-slot_code (slots.Const i) = refl
of_code-slot_code slots.OfClass = refl
of_code-slot_code slots.Super = refl
of_code-slot_code slots.Loader = refl
of_code-slot_code slots.Signers = refl
of_code-slot_code slots.Domain = refl

-- slots that the test calls the same are one
same_slot-true : (a b : Slot) → same_slot a b ≡ true → a ≡ b
same_slot-true a b h =
    let parts = and_parts ((slot_code a).0 == (slot_code b).0) ((slot_code a).1 == (slot_code b).1) h in
    sym (of_code-slot_code a)
    ∙ ap (λ (k : ℕ). of_code k (slot_code a).1) (eqb-true (slot_code a).0 (slot_code b).0 parts.0)
    ∙ ap (λ (i : ℕ). of_code (slot_code b).0 i) (eqb-true (slot_code a).1 (slot_code b).1 parts.1)
    ∙ of_code-slot_code b

-- the rank kept of an object
abbrev rank_at : List Reached → ℕ → ℕ
rank_at ks o = rank (reached_at ks o).strength

-- the least rank that is passed on
abbrev least : Mode → ℕ
least mode = rank (least_passed_on mode)

-- what an edge gives its target
abbrev gives : List Reached → Edge → Strength
gives ks e = weaker_of (reached_at ks e.source).strength (given_by e.kind)

-- `IsBefore` as a test
abbrev is_before : Reached → Reached → Bool
is_before a b = nat_lt (rank b.strength) (rank a.strength) || ((rank b.strength == rank a.strength) && nat_lt a.stamp b.stamp)

-- `SupportedBy` as a test of an edge that stands: first that it is the edge, then that it supports
abbrev is_the_edge : ℕ → ℕ → Slot → Edge → Bool
is_the_edge o source slot e = (e.source == source) && (same_slot e.slot slot && (e.target == o))

abbrev gives_enough : Mode → List Reached → Edge → Bool
gives_enough mode ks e =
    nat_le (least mode) (rank_at ks e.source) && ((rank_at ks e.target == rank (gives ks e)) && is_before (reached_at ks e.source) (reached_at ks e.target))

-- `IsSupported` as a test
abbrev is_supported : Standing → List Reached → ℕ → Support → Bool
is_supported g ks o supports.Nothing = rank_at ks o == 0
is_supported g ks o (supports.Root n) = list_any (λ (r : RootEntry). (r.number == n) && (r.target == o)) g.roots && (rank_at ks o == 5)
is_supported g ks o (supports.Edge source slot) = list_any (λ (e : Edge). is_the_edge o source slot e && gives_enough g.mode ks e) g.edges

-- the same of all objects from a number on
abbrev are_supported : Standing → List Reached → ℕ → List Reached → Bool
are_supported g ks o [] = true
are_supported g ks o (k ∷ rest) = is_supported g ks o k.support && are_supported g ks (o + 1) rest

-- a root's object is strong
abbrev is_strong : List Reached → RootEntry → Bool
is_strong ks r = rank_at ks r.target == 5

-- an edge gives no more than its target has
abbrev is_enough : Mode → List Reached → Edge → Bool
is_enough mode ks e = nat_lt (rank_at ks e.source) (least mode) || nat_le (rank (gives ks e)) (rank_at ks e.target)

-- `Settled` as a test
abbrev pub is_settled : Standing → List Reached → Bool
is_settled g ks = are_supported g ks 0 ks && (list_all (is_strong ks) g.roots && list_all (is_enough g.mode ks) g.edges)

-- one of two tests passes
or_parts : (x y : Bool) → (x || y) ≡ true → (x ≡ true) ⊎ (y ≡ true)
or_parts true y h = inl refl
or_parts false y h = inr h

-- what passes for all passes for what is contained
pub all_contains : {X : Type 0} (p : X → Bool) (xs : List X) (x : X) → list_all p xs ≡ true → Contains xs x → p x ≡ true
all_contains {X} p xs x h (k, lt, is) = subst (λ (y : X). p y ≡ true) is (and_at (list_all p) p refl (λ _ _. refl) xs k x lt h)

is_before-true : (a b : Reached) → is_before a b ≡ true → IsBefore a b
is_before-true a b h =
    elim (or_parts (nat_lt (rank b.strength) (rank a.strength)) ((rank b.strength == rank a.strength) && nat_lt a.stamp b.stamp) h) [
      | inl more ↦ inl (ltb-true (rank b.strength) (rank a.strength) more)
      | inr same ↦ (let parts = and_parts (rank b.strength == rank a.strength) (nat_lt a.stamp b.stamp) same in
          inr (eqb-true (rank b.strength) (rank a.strength) parts.0, ltb-true a.stamp b.stamp parts.1))
    ]

-- an edge that gives its target enough supports it
supports_its_target : (g : Standing) (ks : List Reached) (e : Edge) → Contains g.edges e → gives_enough g.mode ks e ≡ true
    → SupportedBy g ks e.target e.source e.slot e
supports_its_target g ks e stands h =
    let a = and_parts (nat_le (least g.mode) (rank_at ks e.source))
    ((rank_at ks e.target == rank (gives ks e)) && is_before (reached_at ks e.source) (reached_at ks e.target)) h in
    let b = and_parts (rank_at ks e.target == rank (gives ks e)) (is_before (reached_at ks e.source) (reached_at ks e.target)) a.1 in
    record {
      stands = stands;
      from_source = refl;
      from_slot = refl;
      to_object = refl;
      passes_on = leb-true (least g.mode) (rank_at ks e.source) a.0;
      strength = same_rank (reached_at ks e.target).strength (gives ks e) (eqb-true (rank_at ks e.target) (rank (gives ks e)) b.0);
      earlier = is_before-true (reached_at ks e.source) (reached_at ks e.target) b.1;
    }

is_supported-true : (g : Standing) (ks : List Reached) (o : ℕ) (s : Support) → is_supported g ks o s ≡ true → IsSupported g ks o s
is_supported-true g ks o supports.Nothing h = same_rank (reached_at ks o).strength strengths.Unreachable (eqb-true (rank_at ks o) 0 h)
is_supported-true g ks o (supports.Root n) h =
    let parts = and_parts (list_any (λ (r : RootEntry). (r.number == n) && (r.target == o)) g.roots) (rank_at ks o == 5) h in
    let any = Any-from_list_any (λ (r : RootEntry). (r.number == n) && (r.target == o)) g.roots parts.0 in
    let r : RootEntry = any.1 in
    let same = and_parts (r.number == n) (r.target == o) any.4 in
    let is : r ≡ record { number = n; target = o } =
    ap (λ (m : ℕ). let entry : RootEntry = record { number = m; target = r.target } in entry) (eqb-true r.number n same.0)
    ∙ ap (λ (m : ℕ). let entry : RootEntry = record { number = n; target = m } in entry) (eqb-true r.target o same.1) in (
      subst (λ (x : RootEntry). Contains g.roots x) is (any.0, any.2, any.3),
      same_rank (reached_at ks o).strength strengths.Strong
          (eqb-true (rank_at ks o) 5 parts.1),
    )
is_supported-true g ks o (supports.Edge source slot) h =
    let any = Any-from_list_any (λ (e : Edge). is_the_edge o source slot e && gives_enough g.mode ks e) g.edges h in
    let e : Edge = any.1 in
    let parts = and_parts (is_the_edge o source slot e) (gives_enough g.mode ks e) any.4 in
    let a = and_parts (e.source == source) (same_slot e.slot slot && (e.target == o)) parts.0 in
    let b = and_parts (same_slot e.slot slot) (e.target == o) a.1 in
    let own : SupportedBy g ks e.target e.source e.slot e = supports_its_target g ks e (any.0, any.2, any.3) parts.1 in
    let at_source : SupportedBy g ks e.target source e.slot e = subst (λ (x : ℕ). SupportedBy g ks e.target x e.slot e) (eqb-true e.source source a.0) own in
    let at_slot : SupportedBy g ks e.target source slot e = subst (λ (x : Slot). SupportedBy g ks e.target source x e)
    (same_slot-true e.slot slot b.0) at_source in
    (e, subst (λ (x : ℕ). SupportedBy g ks x source slot e) (eqb-true e.target o b.1) at_slot)

-- the objects from a number on, and beyond the list
are_supported-true : (g : Standing) (ks : List Reached) (o : ℕ) (rest : List Reached) → are_supported g ks o rest ≡ true → (i : ℕ) → i < length rest
    → IsSupported g ks (o + i) (slice_index_or rest i unreached).support
are_supported-true g ks o [] h i lt = absurd (omega arith)
are_supported-true g ks o (k ∷ rest) h zero lt =
    let parts = and_parts (is_supported g ks o k.support) (are_supported g ks (o + 1) rest) h in
    let same : o ≡ o + 0 = omega arith in
    subst (λ (x : ℕ). IsSupported g ks x k.support) same (is_supported-true g ks o k.support parts.0)
are_supported-true g ks o (k ∷ rest) h (suc i) lt =
    let parts = and_parts (is_supported g ks o k.support) (are_supported g ks (o + 1) rest) h in
    let same : (o + 1) + i ≡ o + suc i = omega arith in
    subst (λ (x : ℕ). IsSupported g ks x (slice_index_or rest i unreached).support) same (are_supported-true g ks (o + 1) rest parts.1 i (omega arith))

-- of an object beyond the list
beyond : (g : Standing) (ks : List Reached) (o : ℕ) (k : Reached) → reached_at ks o ≡ unreached → k ≡ unreached → IsSupported g ks o k.support
beyond g ks o k is same = subst (λ (x : Reached). IsSupported g ks o x.support) (sym same) (ap (λ (x : Reached). x.strength) is)

-- what passes the test is settled
settled : (g : Standing) (ks : List Reached) → is_settled g ks ≡ true → Settled g ks
settled g ks h =
    let a = and_parts (are_supported g ks 0 ks) (list_all (is_strong ks) g.roots && list_all (is_enough g.mode ks) g.edges) h in
    let b = and_parts (list_all (is_strong ks) g.roots) (list_all (is_enough g.mode ks) g.edges) a.1 in
    record {
      supported = λ o. elim (cases_lt o (length ks)) [
        | inl within ↦ (let same : 0 + o ≡ o = omega arith in subst (λ (x : ℕ). IsSupported g ks x (reached_at ks o).support) same
            (are_supported-true g ks 0 ks a.0 o within))
        | inr past ↦ (let is : reached_at ks o ≡ unreached = get_or_past ks o unreached past in beyond g ks o (reached_at ks o) is is)
      ];
      by_roots = λ r c. same_rank (reached_at ks r.target).strength strengths.Strong
          (eqb-true (rank_at ks r.target) 5 (all_contains (is_strong ks) g.roots r b.0 c));
      by_edges = λ e c passes. elim (or_parts (nat_lt (rank_at ks e.source) (least g.mode)) (nat_le (rank (gives ks e)) (rank_at ks e.target))
          (all_contains (is_enough g.mode ks) g.edges e b.1 c)) [
            | inl low ↦ absurd (omega (arith, ltb-true (rank_at ks e.source) (least g.mode) low))
            | inr enough ↦ leb-true (rank (gives ks e)) (rank_at ks e.target) enough
          ];
    }

-- so each object has the strength that is kept of it
pub strengths_of : (g : Standing) (ks : List Reached) → is_settled g ks ≡ true → (o : ℕ) → HasStrength g o (reached_at ks o).strength
strengths_of g ks h o =
    let is : Settled g ks = settled g ks h in
    record {
      found = λ reached. let f = found g ks is o reached in (f.0, f.1, f.2.path, f.2.strength);
      greatest = greatest g ks is o;
    }
