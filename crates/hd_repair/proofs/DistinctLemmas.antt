use Rattle.std.proofs.Common.{
  ◌≡◌,
  ◌≢◌,
  ◌∙◌,
  ℕ,
  zero,
  suc,
  ◌+◌,
  ◌<◌,
  ◌≤◌,
  inl,
  inr,
  List,
  [],
  ◌∷◌,
  ◌++◌,
  Contains,
  length,
  take,
  drop,
  get_or,
  sum_by,
  refl,
  sym,
  ap,
  subst,
  arith,
  zero-add,
}
use Rattle.std.proofs.lemmas.Bool.{cases_eq}
use Rattle.std.proofs.lemmas.List.{take-append-drop, take_more}
use Rattle.std.proofs.lemmas.List.Elements.{Contains-append_cases, Contains-append_left, Contains-append_right, Contains-push_cases}
use Rattle.std.proofs.lemmas.List.Sums.{sum_by-append}
use Rattle.hd_terms.specs.Chains.{NoneTwice}
use Rattle.hd_terms.proofs.Lower.{Contains-first, Contains-later}

-- a list without one place
around : (xs : List ℕ) (i x : ℕ) → i < length xs → get_or xs i x ≡ x → (take i xs ++ x ∷ []) ++ drop (i + 1) xs ≡ xs
around xs i x lt is = ap (λ (y : ℕ). (take i xs ++ y ∷ []) ++ drop (i + 1) xs) (sym is) ∙ ap (λ (ys : List ℕ). ys ++ drop (i + 1) xs)
    (sym (take_more xs i x lt)) ∙ take-append-drop (i + 1) xs

-- another element is in the rest
in_rest : (xs : List ℕ) (i x y : ℕ) → i < length xs → get_or xs i x ≡ x → y ≢ x → Contains xs y → Contains (take i xs ++ drop (i + 1) xs) y
in_rest xs i x y lt is other c = elim (Contains-append_cases (take i xs ++ x ∷ []) (drop (i + 1) xs) y (rw (around xs i x lt is) c)) [
  | inl front ↦ elim (Contains-push_cases (take i xs) x y front) [
    | inl before ↦ Contains-append_left (take i xs) (drop (i + 1) xs) y before
    | inr same ↦ absurd (other (sym same))
  ]
  | inr rest ↦ Contains-append_right (take i xs) (drop (i + 1) xs) y rest
]

sum_rest : (f : ℕ → ℕ) (xs : List ℕ) (i x : ℕ) → i < length xs → get_or xs i x ≡ x → f x + sum_by f (take i xs ++ drop (i + 1) xs) ≡ sum_by f xs
sum_rest f xs i x lt is =
    let one : sum_by f (x ∷ []) ≡ f x = zero-add (f x) in
    let parts : sum_by f ((take i xs ++ x ∷ []) ++ drop (i + 1) xs) ≡ sum_by f xs = ap (sum_by f) (around xs i x lt is) in
    omega (arith, sum_by-append f (take i xs ++ x ∷ []) (drop (i + 1) xs), sum_by-append f (take i xs) (x ∷ []), sum_by-append f (take i xs) (drop (i + 1) xs))

pub sum_by-cons : (f : ℕ → ℕ) (x : ℕ) (xs : List ℕ) → sum_by f (x ∷ xs) ≡ f x + sum_by f xs
sum_by-cons f x xs = let one : sum_by f (x ∷ []) ≡ f x = zero-add (f x) in omega (arith, sum_by-append f (x ∷ []) xs)

-- a sum over a part, no element twice, is no more than the whole
pub sum_by-part : (f : ℕ → ℕ) (xs ys : List ℕ) → NoneTwice xs → ((x : ℕ) → Contains xs x → Contains ys x) → sum_by f xs ≤ sum_by f ys
sum_by-part f [] ys once part = omega arith
sum_by-part f (x ∷ xs) ys once part =
    let c : Contains ys x = part x (Contains-first x xs) in
    let rest : List ℕ = take c.0 ys ++ drop (c.0 + 1) ys in
    let smaller : sum_by f xs ≤ sum_by f rest = sum_by-part f xs rest once.1
    (λ y is. in_rest ys c.0 x y c.1 c.2 (λ same. once.0 (subst (λ (z : ℕ). Contains xs z) same is)) (part y (Contains-later x y xs is))) in
    let whole : f x + sum_by f rest ≡ sum_by f ys = sum_rest f ys c.0 x c.1 c.2 in
    let first : sum_by f (x ∷ xs) ≡ f x + sum_by f xs = sum_by-cons f x xs in
    omega arith

pub sum_by-both : (f g : ℕ → ℕ) (xs : List ℕ) → sum_by (λ x. f x + g x) xs ≡ sum_by f xs + sum_by g xs
sum_by-both f g [] = omega arith
sum_by-both f g (x ∷ xs) = omega (arith, sum_by-both f g xs, sum_by-cons f x xs, sum_by-cons g x xs, sum_by-cons (λ x. f x + g x) x xs)

-- the numbers below n
abbrev below : ℕ → List ℕ
below zero = []
below (suc n) = n ∷ below n

in_below : (n x : ℕ) → x < n → Contains (below n) x
in_below zero x lt = absurd (omega arith)
in_below (suc n) x lt = elim (cases_eq x n) [
  | inl same ↦ subst (λ (z : ℕ). Contains (n ∷ below n) z) (sym same) (Contains-first n (below n))
  | inr other ↦ Contains-later n x (below n) (in_below n x (omega arith))
]

sum_by-one : (xs : List ℕ) → sum_by (λ x. 1) xs ≡ length xs
sum_by-one [] = refl
sum_by-one (x ∷ xs) = omega (arith, sum_by-one xs, sum_by-cons (λ x. 1) x xs)

length-below : (n : ℕ) → length (below n) ≡ n
length-below zero = refl
length-below (suc n) = omega (arith, length-below n)

-- different numbers below n are at most n
pub length-different : (n : ℕ) (xs : List ℕ) → NoneTwice xs → ((x : ℕ) → Contains xs x → x < n) → length xs ≤ n
length-different n xs once small = omega (
  arith,
  sum_by-part (λ x. 1) xs (below n) once (λ x c. in_below n x (small x c)),
  sum_by-one xs,
  sum_by-one
      (below n),
  length-below n,
)
