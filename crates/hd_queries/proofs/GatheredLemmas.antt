-- IDs in order, and the first of them, as one more is put in or left out.
use Rattle.std.proofs.Common.{◌≡◌, ◌∙◌, ℕ, zero, suc, ◌+◌, ◌-◌, ◌<◌, ◌≤◌, ◌⊎◌, inl, inr, Bool, true, false, List, [], ◌∷◌, ◌++◌, take, Contains, Option, Some}
use Rattle.std.proofs.Common.{None, refl, sym, ap, subst, arith}
use Rattle.std.specs.List.{fold, AllByRecursion}
use Rattle.std.specs.List.Sorted.{IsStrictlySortedBy}
use Rattle.std.specs.Cmp.{nat_cmp_total, ranks}
use Rattle.std.specs.Ordering.{nat_cmp, match_ordering, ordering_reverse, MatchOrdering}
use Rattle.std.specs.declared.cmp.Ordering.{Ordering}
use Rattle.std.specs.declared.cmp.Ordering.TheVariants.{Less, Equal, Greater}
use Rattle.std.proofs.lemmas.Map.Keys.{IsStrictlyIncreasing-from_sorted}
use Rattle.hd_terms.specs.Dump.{Dump, object_at}
use Rattle.hd_strength.proofs.Lists.{Contains-nil, Contains-head, Contains-tail, Contains-cons_cases}
use Rattle.hd_queries.specs.LeastIds.{Least, with_id}
use Rattle.hd_queries.specs.Gathered.{in_order, AreAll, AreFirst, AreGathered, AreLeast, HaveSameIds}
use Rattle.hd_queries.specs.declared.gathered.Gathered.{Gathered}
use Rattle.hd_queries.specs.Listed.{AreGatheredBefore}
use Rattle.hd_queries.proofs.ListedLemmas.{ids-with, ids-without}

-- the first of the first
take-twice : (n : ℕ) (xs : List ℕ) → take n (take n xs) ≡ take n xs
take-twice zero xs = refl
take-twice (suc n) [] = refl
take-twice (suc n) (x ∷ xs) = ap (λ (ys : List ℕ). x ∷ ys) (take-twice n xs)

take-fewer : (n : ℕ) (xs : List ℕ) → take n (take (suc n) xs) ≡ take n xs
take-fewer zero xs = refl
take-fewer (suc n) [] = refl
take-fewer (suc n) (x ∷ xs) = ap (λ (ys : List ℕ). x ∷ ys) (take-fewer n xs)

take-behind : (n x : ℕ) (xs : List ℕ) → take n (x ∷ take n xs) ≡ take n (x ∷ xs)
take-behind zero x xs = refl
take-behind (suc n) x xs = ap (λ (ys : List ℕ). x ∷ ys) (take-fewer n xs)

-- one more among the first goes where it goes among all
among-first : (n id x : ℕ) (xs : List ℕ) → take n (with_id (take n xs) id) ≡ take n (with_id xs id)
    → (r : Ordering) → take (suc n) (match_ordering r (id ∷ x ∷ take n xs) (x ∷ take n xs) (x ∷ with_id (take n xs) id)) ≡ take (suc n)
    (match_ordering r (id ∷ x ∷ xs) (x ∷ xs) (x ∷ with_id xs id))
among-first n id x xs rest Less = ap (λ (ys : List ℕ). id ∷ ys) (take-behind n x xs)
among-first n id x xs rest Equal = ap (λ (ys : List ℕ). x ∷ ys) (take-twice n xs)
among-first n id x xs rest Greater = ap (λ (ys : List ℕ). x ∷ ys) rest

put-among-first : (n id : ℕ) (ids : List ℕ) → take n (with_id (take n ids) id) ≡ take n (with_id ids id)
put-among-first zero id ids = refl
put-among-first (suc n) id [] = refl
put-among-first (suc n) id (x ∷ xs) = among-first n id x xs (put-among-first n id xs) (nat_cmp id x)

-- IDs in order stay so
all-first : (P : ℕ → Type 0) (id x : ℕ) (xs : List ℕ) → P id → AllByRecursion P (x ∷ xs) → AllByRecursion P (with_id xs id) → (r : Ordering)
    → AllByRecursion P (match_ordering r (id ∷ x ∷ xs) (x ∷ xs) (x ∷ with_id xs id))
all-first P id x xs p h rest Less = (p, h)
all-first P id x xs p h rest Equal = h
all-first P id x xs p h rest Greater = (h.0, rest)

all-with : (P : ℕ → Type 0) (id : ℕ) (ids : List ℕ) → P id → AllByRecursion P ids → AllByRecursion P (with_id ids id)
all-with P id [] p h = (p, tt)
all-with P id (x ∷ xs) p h = all-first P id x xs p h (all-with P id xs p h.1) (nat_cmp id x)

all-below : (id x : ℕ) (xs : List ℕ) → nat_cmp id x ≡ Less → AllByRecursion (λ (y : ℕ). nat_cmp x y ≡ Less) xs
    → AllByRecursion (λ (y : ℕ). nat_cmp id y ≡ Less) xs
all-below id x [] lt h = tt
all-below id x (y ∷ ys) lt h = (nat_cmp_total.trans id x y lt h.0, all-below id x ys lt h.1)

sorted-first : (id x : ℕ) (xs : List ℕ) → IsStrictlySortedBy nat_cmp (x ∷ xs) → IsStrictlySortedBy nat_cmp (with_id xs id)
    → (r : Ordering) → nat_cmp id x ≡ r → IsStrictlySortedBy nat_cmp (match_ordering r (id ∷ x ∷ xs) (x ∷ xs) (x ∷ with_id xs id))
unfolding IsStrictlySortedBy
sorted-first id x xs h rest Less e = ((e, all-below id x xs e h.0), h)
sorted-first id x xs h rest Equal e = h
sorted-first id x xs h rest Greater e = (all-with (λ (y : ℕ). nat_cmp x y ≡ Less) id xs (nat_cmp_total.antisymm x id ∙ ap ordering_reverse e) h.0, rest)

sorted-with : (id : ℕ) (ids : List ℕ) → IsStrictlySortedBy nat_cmp ids → IsStrictlySortedBy nat_cmp (with_id ids id)
unfolding IsStrictlySortedBy
sorted-with id [] h = (tt, tt)
sorted-with id (x ∷ xs) h = sorted-first id x xs h (sorted-with id xs h.1) (nat_cmp id x) refl

sorted-all : (before ids : List ℕ) → IsStrictlySortedBy nat_cmp before → IsStrictlySortedBy nat_cmp (fold with_id before ids)
sorted-all before [] h = h
sorted-all before (x ∷ xs) h = sorted-all (with_id before x) xs (sorted-with x before h)

-- they are those that were put in
has-first : (id x : ℕ) (xs : List ℕ) → Contains (with_id xs id) id → (r : Ordering) → MatchOrdering r (id < x) (id ≡ x) (x < id)
    → Contains (match_ordering r (id ∷ x ∷ xs) (x ∷ xs) (x ∷ with_id xs id)) id
has-first id x xs rest Less lt = Contains-head id (x ∷ xs)
has-first id x xs rest Equal same = subst (λ (y : ℕ). Contains (x ∷ xs) y) (sym same) (Contains-head x xs)
has-first id x xs rest Greater gt = Contains-tail x (with_id xs id) id rest

has-with : (id : ℕ) (ids : List ℕ) → Contains (with_id ids id) id
has-with id [] = Contains-head id []
has-with id (x ∷ xs) = has-first id x xs (has-with id xs) (nat_cmp id x) (ranks id x)

keeps-first : (id x : ℕ) (xs : List ℕ) (y : ℕ) → (Contains xs y → Contains (with_id xs id) y) → Contains (x ∷ xs) y → (r : Ordering)
    → Contains (match_ordering r (id ∷ x ∷ xs) (x ∷ xs) (x ∷ with_id xs id)) y
keeps-first id x xs y rest has Less = Contains-tail id (x ∷ xs) y has
keeps-first id x xs y rest has Equal = has
keeps-first id x xs y rest has Greater = elim (Contains-cons_cases x xs y has) [
  | inl same ↦ subst (λ (z : ℕ). Contains (x ∷ with_id xs id) z) same (Contains-head x (with_id xs id))
  | inr later ↦ Contains-tail x (with_id xs id) y (rest later)
]

keeps-with : (id : ℕ) (ids : List ℕ) (y : ℕ) → Contains ids y → Contains (with_id ids id) y
keeps-with id [] y has = absurd (Contains-nil y has)
keeps-with id (x ∷ xs) y has = keeps-first id x xs y (keeps-with id xs y) has (nat_cmp id x)

only-first : (id x : ℕ) (xs : List ℕ) (y : ℕ) → (Contains (with_id xs id) y → (id ≡ y) ⊎ Contains xs y)
    → (r : Ordering) → Contains (match_ordering r (id ∷ x ∷ xs) (x ∷ xs) (x ∷ with_id xs id)) y → (id ≡ y) ⊎ Contains (x ∷ xs) y
only-first id x xs y rest Less has = Contains-cons_cases id (x ∷ xs) y has
only-first id x xs y rest Equal has = inr has
only-first id x xs y rest Greater has = elim (Contains-cons_cases x (with_id xs id) y has) [
  | inl same ↦ inr (subst (λ (z : ℕ). Contains (x ∷ xs) z) same (Contains-head x xs))
  | inr later ↦ elim (rest later) [
    | inl is ↦ inl is
    | inr old ↦ inr (Contains-tail x xs y old)
  ]
]

only-with : (id : ℕ) (ids : List ℕ) (y : ℕ) → Contains (with_id ids id) y → (id ≡ y) ⊎ Contains ids y
only-with id [] y has = elim (Contains-cons_cases id [] y has) [
  | inl same ↦ inl same
  | inr none ↦ absurd (Contains-nil y none)
]
only-with id (x ∷ xs) y has = only-first id x xs y (only-with id xs y) (nat_cmp id x) has

only-all : (before ids : List ℕ) (y : ℕ) → Contains (fold with_id before ids) y → Contains before y ⊎ Contains ids y
only-all before [] y has = inl has
only-all before (x ∷ xs) y has = elim (only-all (with_id before x) xs y has) [
  | inl early ↦ elim (only-with x before y early) [
    | inl same ↦ inr (subst (λ (z : ℕ). Contains (x ∷ xs) z) same (Contains-head x xs))
    | inr old ↦ inl old
  ]
  | inr late ↦ inr (Contains-tail x xs y late)
]

keeps-all : (before ids : List ℕ) (y : ℕ) → Contains before y → Contains (fold with_id before ids) y
keeps-all before [] y has = has
keeps-all before (x ∷ xs) y has = keeps-all (with_id before x) xs y (keeps-with x before y has)

has-all : (before ids : List ℕ) (y : ℕ) → Contains ids y → Contains (fold with_id before ids) y
has-all before [] y has = absurd (Contains-nil y has)
has-all before (x ∷ xs) y has = elim (Contains-cons_cases x xs y has) [
  | inl same ↦ subst (λ (z : ℕ). Contains (fold with_id before (x ∷ xs)) z) same (keeps-all (with_id before x) xs x (has-with x before))
  | inr later ↦ has-all (with_id before x) xs y later
]

pub ordered : (all : List ℕ) → HaveSameIds all (in_order all)
unfolding IsStrictlySortedBy
ordered all = record {
  rises = IsStrictlyIncreasing-from_sorted (in_order all) (sorted-all [] all tt);
  same = λ y. (
    λ has. elim (only-all [] all y has) [
      | inl none ↦ absurd (Contains-nil y none)
      | inr some ↦ some
    ],
    has-all [] all y,
  );
}

-- one more behind all
more-in-order : (before all : List ℕ) (id : ℕ) → fold with_id before (all ++ id ∷ []) ≡ with_id (fold with_id before all) id
more-in-order before [] id = refl
more-in-order before (x ∷ xs) id = more-in-order (with_id before x) xs id

first-with : (n : ℕ) (all : List ℕ) (id : ℕ) → take n (with_id (take n (in_order all)) id) ≡ take n (in_order (all ++ id ∷ []))
first-with n all id = put-among-first n id (in_order all) ∙ ap (take n) (sym (more-in-order [] all id))

-- the least of all IDs, as one more is put in
pub put-least : (most : Option ℕ) (all : List ℕ) (id : ℕ) (old new : Least) → new ≡ record { most = old.most; ids = take old.most (with_id old.ids id) }
    → AreLeast most all old → AreLeast most (all ++ id ∷ []) new
put-least None all id old new is h = absurd h
put-least (Some n) all id old new is h =
    is
    ∙ ap (λ (l : Least). record { most = l.most; ids = take l.most (with_id l.ids id) }) h
    ∙ ap (λ (ids : List ℕ). record { most = n; ids = ids }) (first-with n all id)

-- as one that would not be kept is left out
pub skip-least : (most : Option ℕ) (all : List ℕ) (id : ℕ) (kept : Least) → take kept.most (with_id kept.ids id) ≡ kept.ids
    → AreLeast most all kept → AreLeast most (all ++ id ∷ []) kept
skip-least None all id kept same h = absurd h
skip-least (Some n) all id kept same h =
    let there : take n (with_id (take n (in_order all)) id) ≡ take n (in_order all) = subst (λ (l : Least). take l.most (with_id l.ids id) ≡ l.ids) h same in
    h ∙ ap (λ (ids : List ℕ). record { most = n; ids = ids }) (sym there ∙ first-with n all id)

-- they are the first of all in order
pub first-least : (most : Option ℕ) (all : List ℕ) (kept : Least) (ids : List ℕ) → ids ≡ kept.ids → AreLeast most all kept → AreFirst most (HaveSameIds all) ids
first-least None all kept ids is h = absurd h
first-least (Some n) all kept ids is h = (in_order all, ordered all, is ∙ ap (λ (l : Least). l.ids) h)

-- all IDs, put in order
pub first-all : (most : Option ℕ) (all : List ℕ) (kept ids : List ℕ) → HaveSameIds kept ids → AreAll most all kept → AreFirst most (HaveSameIds all) ids
first-all None all kept ids same h = (ids, subst (λ (xs : List ℕ). HaveSameIds xs ids) h same, refl)
first-all (Some n) all kept ids same h = absurd h

-- objects whose IDs would not be kept
module _ (dump : Dump) (test : ℕ → Bool) (most : Option ℕ) (kept : Gathered) where
  -- an ID would not be kept
  abbrev pub IsLeftOut : ℕ → Type 0
  IsLeftOut id = (all : List ℕ) → AreGathered most all kept → AreGathered most (all ++ id ∷ []) kept

  one-left-out : (k : ℕ) (b : Bool) → test k ≡ b → (test k ≡ true → IsLeftOut (object_at dump k).id) → AreGatheredBefore dump test most k kept
      → AreGatheredBefore dump test most (k + 1) kept
  one-left-out k true e out h = (h.0 ++ (object_at dump k).id ∷ [], ids-with dump test k h.0 h.1 e, out e h.0 h.2)
  one-left-out k false e out h = (h.0, ids-without dump test k h.0 h.1 e, h.2)

  left-out : (k j : ℕ) → ((o : ℕ) → k ≤ o → o < k + j → test o ≡ true → IsLeftOut (object_at dump o).id) → AreGatheredBefore dump test most k kept
      → AreGatheredBefore dump test most (k + j) kept
  left-out k zero out h = let same : k ≡ k + 0 = omega arith in subst (λ (n : ℕ). AreGatheredBefore dump test most n kept) same h
  left-out k (suc j) out h =
      let before = left-out k j (λ o after lt. out o after (omega (arith, lt))) h in
      let next : k + j + 1 ≡ k + suc j = omega arith in
      subst (λ (n : ℕ). AreGatheredBefore dump test most n kept) next
      (one-left-out (k + j) (test (k + j)) refl (out (k + j) (omega arith) (omega arith)) before)

  pub all-left-out : (k m : ℕ) → k ≤ m → ((o : ℕ) → k ≤ o → o < m → test o ≡ true → IsLeftOut (object_at dump o).id) → AreGatheredBefore dump test most k kept
      → AreGatheredBefore dump test most m kept
  all-left-out k m le out h =
      let end : k + (m - k) ≡ m = omega (arith, le) in
      subst (λ (n : ℕ). AreGatheredBefore dump test most n kept) end (left-out k (m - k) (λ o after lt. out o after (omega (arith, lt, le))) h)
