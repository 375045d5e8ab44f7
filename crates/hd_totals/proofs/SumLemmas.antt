-- Sums and counts over the numbers below a bound.
use Rattle.std.proofs.Common.{◌≡◌, ◌≢◌, ◌∙◌, ℕ, zero, suc, ◌+◌, ◌<◌, ◌≤◌, ◌*◌, Bool, true, false, ◌&&◌, true≢false, ◌⊎◌, inl, inr, List, [], ◌∷◌, ◌++◌}
use Rattle.std.proofs.Common.{Contains, cond, refl, sym, ap, subst, arith, zero-add, add-zero, eq-eqb}
use Rattle.std.specs.Prelude.{not, nat_eq, sum_by, count_by}
use Rattle.std.specs.List.{range_with_len}
use Rattle.std.proofs.lemmas.Bool.{cases_eq, ne_eqb}
use Rattle.std.proofs.lemmas.List.Sums.{sum_by-cons, sum_by_push}
use Rattle.hd_terms.specs.Chains.{NoneTwice}
use Rattle.hd_terms.proofs.Lower.{Contains-first, Contains-later}

-- one more number at the end
range_more : (a n : ℕ) → range_with_len a (suc n) ≡ range_with_len a n ++ (a + n) ∷ []
range_more a zero = ap (λ (x : ℕ). x ∷ []) (sym (add-zero a))
range_more a (suc n) =
    let last : (a + 1) + n ≡ a + suc n = omega arith in
    ap (λ (xs : List ℕ). a ∷ xs) (range_more (a + 1) n ∙ ap (λ (x : ℕ). range_with_len (a + 1) n ++ x ∷ []) last)

pub sum_suc : (f : ℕ → ℕ) (n : ℕ) → sum_by f (range_with_len 0 (suc n)) ≡ sum_by f (range_with_len 0 n) + f n
sum_suc f n = ap (sum_by f) (range_more 0 n) ∙ sum_by_push f (range_with_len 0 n) (0 + n) ∙ ap (λ (m : ℕ). sum_by f (range_with_len 0 n) + f m) (zero-add n)

-- terms that are equal
pub sum-same : (f g : ℕ → ℕ) (n : ℕ) → ((o : ℕ) → o < n → f o ≡ g o) → sum_by f (range_with_len 0 n) ≡ sum_by g (range_with_len 0 n)
sum-same f g zero same = refl
sum-same f g (suc n) same =
    let here : f n ≡ g n = same n (omega arith) in
    let below : sum_by f (range_with_len 0 n) ≡ sum_by g (range_with_len 0 n) = sum-same f g n (λ o lt. same o (omega arith)) in
    omega (arith, sum_suc f n, sum_suc g n)

-- terms that are equal but at one number
pub sum-at : (f g : ℕ → ℕ) (x n : ℕ) → x < n → ((o : ℕ) → o ≢ x → f o ≡ g o) → sum_by f (range_with_len 0 n) + g x ≡ sum_by g (range_with_len 0 n) + f x
sum-at f g x zero lt same = absurd (omega arith)
sum-at f g x (suc n) lt same = elim (cases_eq x n) [
  | inl is ↦
      let below : sum_by f (range_with_len 0 n) ≡ sum_by g (range_with_len 0 n) = sum-same f g n (λ o less. same o (λ (e : o ≡ x). omega arith)) in
      omega (arith, sum_suc f n, sum_suc g n, ap f is, ap g is)
  | inr other ↦
      let below : sum_by f (range_with_len 0 n) + g x ≡ sum_by g (range_with_len 0 n) + f x = sum-at f g x n (omega arith) same in
      let here : f n ≡ g n = same n (λ e. other (sym e)) in
      omega (arith, sum_suc f n, sum_suc g n)
]

-- a term is within the sum
pub sum-term : (f : ℕ → ℕ) (x n : ℕ) → x < n → f x ≤ sum_by f (range_with_len 0 n)
sum-term f x zero lt = absurd (omega arith)
sum-term f x (suc n) lt = elim (cases_eq x n) [
  | inl is ↦ omega (arith, sum_suc f n, ap f is)
  | inr other ↦ let below : f x ≤ sum_by f (range_with_len 0 n) = sum-term f x n (omega arith) in omega (arith, sum_suc f n)
]

-- terms up to a bound
pub sum-le : (f : ℕ → ℕ) (m n : ℕ) → ((o : ℕ) → o < n → f o ≤ m) → sum_by f (range_with_len 0 n) ≤ n * m
sum-le f m zero le = omega arith
sum-le f m (suc n) le =
    let here : f n ≤ m = le n (omega arith) in
    let below : sum_by f (range_with_len 0 n) ≤ n * m = sum-le f m n (λ o lt. le o (omega arith)) in
    omega (arith, sum_suc f n)

-- one, where a test is passed
abbrev pub one_if : Bool → ℕ
one_if b = cond b 1 0

pub count_cons : {X : Type 0} (p : X → Bool) (x : X) (xs : List X) → count_by p (x ∷ xs) ≡ one_if (p x) + count_by p xs
count_cons p x xs = sum_by-cons (λ y. one_if (p y)) x xs

pub count_suc : (p : ℕ → Bool) (n : ℕ) → count_by p (range_with_len 0 (suc n)) ≡ count_by p (range_with_len 0 n) + one_if (p n)
count_suc p n = sum_suc (λ o. one_if (p o)) n

-- tests that agree but at one number
pub count-at : (p q : ℕ → Bool) (x n : ℕ) → x < n → ((o : ℕ) → o ≢ x → p o ≡ q o) → count_by p (range_with_len 0 n) + one_if (q x) ≡ count_by q
    (range_with_len 0 n) + one_if (p x)
count-at p q x n lt same = sum-at (λ o. one_if (p o)) (λ o. one_if (q o)) x n lt (λ o e. ap one_if (same o e))

pub count-same : (p q : ℕ → Bool) (n : ℕ) → ((o : ℕ) → o < n → p o ≡ q o) → count_by p (range_with_len 0 n) ≡ count_by q (range_with_len 0 n)
count-same p q n same = sum-same (λ o. one_if (p o)) (λ o. one_if (q o)) n (λ o lt. ap one_if (same o lt))

pub count-term : (p : ℕ → Bool) (x n : ℕ) → x < n → p x ≡ true → 1 ≤ count_by p (range_with_len 0 n)
count-term p x n lt e = subst (λ (m : ℕ). m ≤ count_by p (range_with_len 0 n)) (ap one_if e) (sum-term (λ o. one_if (p o)) x n lt)

pub count-le : (p : ℕ → Bool) (n : ℕ) → count_by p (range_with_len 0 n) ≤ n
count-le p n = subst (λ (m : ℕ). count_by p (range_with_len 0 n) ≤ m) (omega arith) (sum-le (λ o. one_if (p o)) 1 n (λ o lt. at-most (p o)))
  where
    at-most : (b : Bool) → one_if b ≤ 1
    at-most true = omega arith
    at-most false = omega arith

-- what a list contains is its first element or a later one
pub no-element : (x : ℕ) → Contains [] x → ⊥
no-element x (k, lt, is) = omega arith

pub cons-cases : (x : ℕ) (xs : List ℕ) (y : ℕ) → Contains (x ∷ xs) y → (x ≡ y) ⊎ Contains xs y
cons-cases x xs y (zero, lt, is) = inl is
cons-cases x xs y (suc k, lt, is) = inr (k, omega arith, is)

-- what passes a test is counted once in a list that has all of it
list-same : (p q : ℕ → Bool) (xs : List ℕ) → ((x : ℕ) → Contains xs x → p x ≡ q x) → count_by p xs ≡ count_by q xs
list-same p q [] same = refl
list-same p q (x ∷ xs) same =
    let here : one_if (p x) ≡ one_if (q x) = ap one_if (same x (Contains-first x xs)) in
    let later : count_by p xs ≡ count_by q xs = list-same p q xs (λ y c. same y (Contains-later x y xs c)) in
    omega (arith, count_cons p x xs, count_cons q x xs)

count-none : (p : ℕ → Bool) (n : ℕ) → ((o : ℕ) → o < n → p o ≡ false) → count_by p (range_with_len 0 n) ≡ 0
count-none p zero none = refl
count-none p (suc n) none =
    let here : one_if (p n) ≡ 0 = ap one_if (none n (omega arith)) in
    let below : count_by p (range_with_len 0 n) ≡ 0 = count-none p n (λ o lt. none o (omega arith)) in
    omega (arith, count_suc p n)

pub not-true : (b : Bool) → (b ≡ true → ⊥) → b ≡ false
not-true true other = absurd (other refl)
not-true false other = refl

pub and-false : (b : Bool) → (b && false) ≡ false
and-false true = refl
and-false false = refl

pub and-true : (b : Bool) → (b && true) ≡ b
and-true true = refl
and-true false = refl

first-true : (a b : Bool) → (a && b) ≡ true → (a ≡ true) × (b ≡ true)
first-true true true e = (refl, refl)
first-true true false e = absurd cc
first-true false b e = absurd cc

-- a test less one number
abbrev without : (ℕ → Bool) → ℕ → ℕ → Bool
without p x o = p o && not (nat_eq o x)

elsewhere : (p : ℕ → Bool) (x o : ℕ) → o ≢ x → without p x o ≡ p o
elsewhere p x o e = ap (λ (b : Bool). p o && not b) (ne_eqb o x e) ∙ and-true (p o)

pub count-listed : (p : ℕ → Bool) (n : ℕ) (xs : List ℕ) → NoneTwice xs → ((x : ℕ) → Contains xs x → x < n) → ((o : ℕ) → o < n → p o ≡ true → Contains xs o)
    → count_by p (range_with_len 0 n) ≡ count_by p xs
count-listed p n [] once within all = count-none p n (λ o lt. not-true (p o) (λ e. no-element o (all o lt e)))
count-listed p n (x ∷ xs) once within all =
    let lt : x < n = within x (Contains-first x xs) in
    let at : count_by p (range_with_len 0 n) + one_if (without p x x) ≡ count_by (without p x) (range_with_len 0 n) + one_if (p x) =
    count-at p (without p x) x n lt (λ o e. sym (elsewhere p x o e)) in
    let gone : one_if (without p x x) ≡ 0 = ap one_if (ap (λ (b : Bool). p x && not b) (eq-eqb x x refl) ∙ and-false (p x)) in
    let rest : count_by (without p x) (range_with_len 0 n) ≡ count_by (without p x) xs =
    count-listed (without p x) n xs once.1 (λ y c. within y (Contains-later x y xs c)) listed in
    let same : count_by (without p x) xs ≡ count_by p xs =
    list-same (without p x) p xs (λ y c. elsewhere p x y (λ e. once.0 (subst (λ (z : ℕ). Contains xs z) e c))) in
    omega (arith, count_cons p x xs)
  where
    listed : (o : ℕ) → o < n → without p x o ≡ true → Contains xs o
    listed o less e =
        let parts = first-true (p o) (not (nat_eq o x)) e in
        elim (cons-cases x xs o (all o less parts.0)) [
          | inl same ↦ absurd (true≢false (sym parts.1 ∙ ap (λ (b : Bool). not b) (eq-eqb o x (sym same))))
          | inr later ↦ later
        ]

-- a number that passes a test, where there is one
passes-here : (p : ℕ → Bool) (n : ℕ) → (1 ≤ count_by p (range_with_len 0 n) → (o : ℕ) × (o < n) × (p o ≡ true)) → 1 ≤ count_by p (range_with_len 0 (suc n))
    → (b : Bool) → p n ≡ b → (o : ℕ) × (o < suc n) × (p o ≡ true)
passes-here p n below some true e = (n, omega arith, e)
passes-here p n below some false e =
    let none : one_if (p n) ≡ 0 = ap one_if e in
    let at : (o : ℕ) × (o < n) × (p o ≡ true) = below (omega (arith, count_suc p n)) in
    let less : at.0 < n = at.1 in
    (at.0, omega arith, at.2)

pub some-passes : (p : ℕ → Bool) (n : ℕ) → 1 ≤ count_by p (range_with_len 0 n) → (o : ℕ) × (o < n) × (p o ≡ true)
some-passes p zero some = absurd (some-of-none some)
  where
    some-of-none : 1 ≤ 0 → ⊥
    some-of-none le = omega arith
some-passes p (suc n) some = passes-here p n (some-passes p n) some (p n) refl
