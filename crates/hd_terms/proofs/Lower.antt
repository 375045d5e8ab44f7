use Rattle.std.proofs.Common.{◌≡◌, ◌≢◌, ◌∙◌, ℕ, zero, suc, ◌+◌, ◌≤◌, ◌<◌, ◌⊎◌, inl, inr, List, [], ◌∷◌, ◌++◌, map, Contains, subst, sym, ap, refl, arith}
use Rattle.std.specs.List.{AllByRecursion}
use Rattle.std.proofs.lemmas.List.Elements.{Contains-push_cases}
use Rattle.std.proofs.lemmas.List.{map-append}
use Rattle.hd_terms.specs.declared.Mode.{Mode}
use Rattle.hd_terms.specs.declared.Strength.{Strength}
use Rattle.hd_terms.specs.declared.Strength.TheVariants as strengths
use Rattle.hd_terms.specs.declared.Slot.{Slot}
use Rattle.hd_terms.specs.declared.Support.{Support}
use Rattle.hd_terms.specs.declared.Support.TheVariants as supports
use Rattle.hd_terms.specs.Ranks.{rank, given_by, weaker_of, IsPassedOn}
use Rattle.hd_terms.specs.Paths.{Edge, RootEntry, Standing, Lead, PassOn, path_strength, IsPath, objects_on}
use Rattle.hd_terms.specs.Chains.{NoneTwice, IsChain}
use Rattle.hd_terms.specs.Settled.{Reached, Settled, IsStoredChain, reached_at, PassesOn, IsBefore, SupportedBy, IsSupported}
use Rattle.hd_terms.proofs.RankLemmas.{weaker-le_left, weaker-le_right, rank-le, reached_rank, weaker_comm, weaker_assoc, least-positive}

-- one more edge at the end

Lead-push : (g : Standing) (e : Edge) (es : List Edge) (a b : ℕ) → Lead g a es b → Contains g.edges e → e.source ≡ b → Lead g a (es ++ e ∷ []) e.target
Lead-push g e [] a b lead stands from = (stands, from ∙ sym lead, refl)
Lead-push g e (f ∷ es) a b lead stands from = (lead.0, lead.1, Lead-push g e es f.target b lead.2 stands from)

PassOn-push : (mode : Mode) (e : Edge) (es : List Edge) → IsPassedOn mode (path_strength es) → PassOn mode (es ++ e ∷ [])
PassOn-push mode e [] h = tt
PassOn-push mode e (f ∷ []) h = (omega (arith, weaker-le_left (given_by f.kind) (path_strength [])), tt)
PassOn-push mode e (f ∷ f' ∷ es) h = (
  omega (arith, weaker-le_left (given_by f.kind) (path_strength (f' ∷ es))),
  PassOn-push mode e (f' ∷ es) (omega (arith, weaker-le_right (given_by f.kind) (path_strength (f' ∷ es)))),
)

path_strength-push : (e : Edge) (es : List Edge) → path_strength (es ++ e ∷ []) ≡ weaker_of (path_strength es) (given_by e.kind)
path_strength-push e [] = weaker_comm (given_by e.kind) strengths.Strong
path_strength-push e (f ∷ es) = ap (weaker_of (given_by f.kind)) (path_strength-push e es)
    ∙ sym (weaker_assoc (given_by f.kind) (path_strength es) (given_by e.kind))

pub Contains-later : (x o : ℕ) (xs : List ℕ) → Contains xs o → Contains (x ∷ xs) o
Contains-later x o xs (k, lt, is) = (suc k, omega arith, is)

pub Contains-first : (x : ℕ) (xs : List ℕ) → Contains (x ∷ xs) x
Contains-first x xs = (0, omega arith, refl)

only_one : (x y : ℕ) → Contains (x ∷ []) y → y ≡ x
only_one x y (zero, lt, is) = sym is
only_one x y (suc k, lt, is) = absurd (omega arith)

pub NoneTwice-push : (o : ℕ) (xs : List ℕ) → NoneTwice xs → (Contains xs o → ⊥) → NoneTwice (xs ++ o ∷ [])
NoneTwice-push o [] h new = (λ (k, lt, is). absurd (omega arith), tt)
NoneTwice-push o (x ∷ xs) h new = (
  λ c. elim (Contains-push_cases xs o x c) [ inl old ↦ h.0 old | inr same ↦ new (subst (λ (y : ℕ). Contains (x ∷ xs) y) (sym same) (Contains-first x xs)) ],
  NoneTwice-push o xs h.1 (λ c. new (Contains-later x o xs c)),
)

-- the order of supports

before_trans : (a b c : Reached) → IsBefore a b → IsBefore b c → IsBefore a c
before_trans a b c (inl h) (inl k) = inl (omega arith)
before_trans a b c (inl h) (inr k) = inl (omega arith)
before_trans a b c (inr h) (inl k) = inl (omega arith)
before_trans a b c (inr h) (inr k) = inr (omega arith, omega arith)

not_before_itself : (a : Reached) → IsBefore a a → ⊥
not_before_itself a (inl h) = omega arith
not_before_itself a (inr h) = omega arith

-- each object that these edges lead to is supported by its edge
abbrev pub AreSupports : List Reached → List Edge → Type 0
AreSupports ks es = AllByRecursion (λ e. (reached_at ks e.target).support ≡ supports.Edge e.source e.slot) es

AreSupports-push : (ks : List Reached) (e : Edge) (es : List Edge) → AreSupports ks es → (reached_at ks e.target).support ≡ supports.Edge e.source e.slot
    → AreSupports ks (es ++ e ∷ [])
AreSupports-push ks e [] h is = (is, tt)
AreSupports-push ks e (f ∷ es) h is = (h.0, AreSupports-push ks e es h.1 is)

-- a chain to an object, whose objects come before it
pub record Found (g : Standing) (ks : List Reached) (o : ℕ) : Type 0 where
  pub root : RootEntry
  pub edges : List Edge
  pub path : IsPath g root edges o
  pub strength : path_strength edges ≡ (reached_at ks o).strength
  pub simple : NoneTwice (objects_on root edges)
  pub by_root : (reached_at ks root.target).support ≡ supports.Root root.number
  pub stored : AreSupports ks edges
  pub earlier : (x : ℕ) → Contains (objects_on root edges) x → (x ≡ o) ⊎ IsBefore (reached_at ks x) (reached_at ks o)

module _ (g : Standing) (ks : List Reached) where
  -- a chain to the source of a support makes one to its object
  extend : (b o : ℕ) (slot : Slot) (e : Edge) → Found g ks b → (reached_at ks o).support ≡ supports.Edge b slot → SupportedBy g ks o b slot e → Found g ks o
  extend b o slot e f is s =
      let new : Contains (objects_on f.root f.edges) o → ⊥ = λ c.
      elim (f.earlier o c) [
        | inl same ↦ not_before_itself (reached_at ks o) (subst (λ (x : ℕ). IsBefore (reached_at ks x) (reached_at ks o)) (sym same) s.earlier)
        | inr earlier ↦ not_before_itself (reached_at ks o) (before_trans (reached_at ks o) (reached_at ks b) (reached_at ks o) earlier s.earlier)
      ] in
      let objects : objects_on f.root (f.edges ++ e ∷ []) ≡ objects_on f.root f.edges ++ o ∷ [] =
      ap (λ (xs : List ℕ). f.root.target ∷ xs) (map-append (λ (e : Edge). e.target) f.edges (e ∷ [])
      ∙ ap (λ (x : ℕ). map (λ (e : Edge). e.target) f.edges ++ x ∷ []) s.to_object) in
      record {
        root = f.root;
        edges = f.edges ++ e ∷ [];
        path = record {
          root = f.path.root;
          edges = subst (λ (x : ℕ). Lead g f.root.target (f.edges ++ e ∷ []) x) s.to_object
              (Lead-push g e f.edges f.root.target b f.path.edges s.stands s.from_source);
          passed_on = PassOn-push g.mode e f.edges (rw f.strength s.passes_on);
        };
        strength = path_strength-push e f.edges ∙ ap (λ (x : Strength). weaker_of x (given_by e.kind)) f.strength ∙ sym s.strength;
        simple = subst NoneTwice (sym objects) (NoneTwice-push o (objects_on f.root f.edges) f.simple new);
        by_root = f.by_root;
        stored = AreSupports-push ks e f.edges f.stored (rw (s.to_object, s.from_source, s.from_slot) is);
        earlier = λ x c.
            elim (Contains-push_cases (objects_on f.root f.edges) o x (subst (λ (xs : List ℕ). Contains xs x) objects c)) [
              | inl old ↦ elim (f.earlier x old) [
                | inl same ↦ inr (subst (λ (y : ℕ). IsBefore (reached_at ks y) (reached_at ks o)) (sym same) s.earlier)
                | inr earlier ↦ inr (before_trans (reached_at ks x) (reached_at ks b) (reached_at ks o) earlier s.earlier)
              ]
              | inr same ↦ inl (sym same)
            ];
      }

  -- a root alone
  at_root : (o n : ℕ) → Contains g.roots (record { number = n; target = o }) → (reached_at ks o).strength ≡ strengths.Strong
      → (reached_at ks o).support ≡ supports.Root n → Found g ks o
  at_root o n stands strong is = record {
    root = record { number = n; target = o };
    edges = [];
    path = record { root = stands; edges = refl; passed_on = tt };
    strength = sym strong;
    simple = (λ (k, lt, is). absurd (omega arith), tt);
    by_root = is;
    stored = tt;
    earlier = λ x c. inl (only_one o x c);
  }

-- the rank and the stamp kept of an object
abbrev rank_at : List Reached → ℕ → ℕ
rank_at ks o = rank (reached_at ks o).strength

abbrev stamp_at : List Reached → ℕ → ℕ
stamp_at ks o = (reached_at ks o).stamp

module _ (g : Standing) (ks : List Reached) (settled : Settled g ks) where
  -- where each object that comes before o and passes on has a chain, o has one
  one_more : (o : ℕ) (s : Support) → (reached_at ks o).support ≡ s → IsSupported g ks o s → 1 ≤ rank_at ks o
      → ((b : ℕ) → IsBefore (reached_at ks b) (reached_at ks o) → PassesOn g.mode (reached_at ks b) → Found g ks b) → Found g ks o
  one_more o supports.Nothing is h reached earlier = let none : rank_at ks o ≡ 0 = ap rank h in absurd (omega arith)
  one_more o (supports.Root n) is h reached earlier = at_root g ks o n h.0 h.1 is
  one_more o (supports.Edge source slot) is (e, h) reached earlier = extend g ks source o slot e (earlier source h.earlier h.passes_on) is h

  -- by the stamps, where the objects of higher rank have chains
  by_stamp : (d : ℕ) → ((o : ℕ) → 5 < rank_at ks o + d → 1 ≤ rank_at ks o → Found g ks o) → (t : ℕ) (o : ℕ) → 5 < rank_at ks o + suc d → stamp_at ks o < t
      → 1 ≤ rank_at ks o → Found g ks o
  by_stamp d higher zero o near lt reached = absurd (omega arith)
  by_stamp d higher (suc t) o near lt reached =
      one_more o (reached_at ks o).support refl (settled.supported o) reached (λ b earlier passes.
      elim earlier [
        | inl above ↦ higher b (omega arith) (omega (arith, least-positive g.mode))
        | inr same ↦ by_stamp d higher t b (omega arith) (omega arith) (omega (arith, least-positive g.mode))
      ])

  -- by the ranks
  by_rank : (d : ℕ) (o : ℕ) → 5 < rank_at ks o + d → 1 ≤ rank_at ks o → Found g ks o
  by_rank zero o near reached = let top : rank_at ks o ≤ 5 = rank-le (reached_at ks o).strength in absurd (omega arith)
  by_rank (suc d) o near reached = by_stamp d (by_rank d) (suc (stamp_at ks o)) o near (omega arith) reached

  -- each object that is reached has a chain
  pub found : (o : ℕ) → (reached_at ks o).strength ≢ strengths.Unreachable → (r : RootEntry) × (es : List Edge) × IsChain g r es o (reached_at ks o).strength
      × IsStoredChain g ks r es o
  found o reached =
      let f : Found g ks o = by_rank 6 o (let low : 1 ≤ rank_at ks o = reached_rank (reached_at ks o).strength reached in omega arith)
      (reached_rank (reached_at ks o).strength reached) in
      (f.root, f.edges, record { path = f.path; strength = f.strength; simple = f.simple }, record { root = f.by_root; edges = f.stored; leads = f.path.edges })
