use Rattle.std.proofs.Common.{◌≡◌, ◌≢◌, ◌∙◌, ℕ, zero, suc, ◌+◌, ◌<◌, ◌≤◌, ◌⊎◌, inl, inr, List, [], ◌∷◌, ◌++◌, length, set, get_or, Some, slice_get, refl, sym}
use Rattle.std.proofs.Common.{ap, subst, arith}
use Rattle.std.proofs.lemmas.Bool.{cases_eq, cases_lt}
use Rattle.std.proofs.lemmas.Option.{get_or_from_slice_get}
use Rattle.hd_strength.specs.declared.part.Part.{Part}
use Rattle.hd_strength.specs.Parts.{IsOwn, AreInRow, IsHeldIn}

-- what stands in a list where one element takes the place of another
module _ {X : Type 0} where
  pub slice_get-set_same : (xs : List X) (k : ℕ) (x y : X) → slice_get xs k ≡ Some x → slice_get (set xs k y) k ≡ Some y
  slice_get-set_same [] k x y h = absurd (cc)
  slice_get-set_same (z ∷ zs) zero x y h = refl
  slice_get-set_same (z ∷ zs) (suc k) x y h = slice_get-set_same zs k x y h

  pub slice_get-set_other : (xs : List X) (k j : ℕ) (y : X) → j ≢ k → slice_get (set xs k y) j ≡ slice_get xs j
  slice_get-set_other [] k j y ne = refl
  slice_get-set_other (z ∷ zs) zero zero y ne = absurd (ne refl)
  slice_get-set_other (z ∷ zs) zero (suc j) y ne = refl
  slice_get-set_other (z ∷ zs) (suc k) zero y ne = refl
  slice_get-set_other (z ∷ zs) (suc k) (suc j) y ne = slice_get-set_other zs k j y (λ same. ne (ap suc same))

  pub set-there : (xs : List X) (k : ℕ) (x : X) → slice_get xs k ≡ Some x → set xs k x ≡ xs
  set-there [] k x h = refl
  set-there (z ∷ zs) zero x h = let both : Some z ≡ Some x = h in let is : x ≡ z = cc in ap (λ (w : X). w ∷ zs) is
  set-there (z ∷ zs) (suc k) x h = ap (λ (ws : List X). z ∷ ws) (set-there zs k x h)

  -- what stands there is the new one or stood there
  pub slice_get-set_cases : (xs : List X) (k j : ℕ) (x y z : X) → slice_get xs k ≡ Some x → slice_get (set xs k y) j ≡ Some z → ((j ≡ k) × (z ≡ y))
      ⊎ ((j ≢ k) × (slice_get xs j ≡ Some z))
  slice_get-set_cases xs k j x y z h there = elim (cases_eq j k) [
    | inl same ↦ let both : Some z ≡ Some y = sym (subst (λ (j : ℕ). slice_get (set xs k y) j ≡ Some z) same there) ∙ slice_get-set_same xs k x y h in
        inl (same, cc)
    | inr other ↦ inr (other, sym (slice_get-set_other xs k j y other) ∙ there)
  ]

  -- one place has one element
  pub one_there : (xs : List X) (k : ℕ) (x y : X) → slice_get xs k ≡ Some x → slice_get xs k ≡ Some y → x ≡ y
  one_there xs k x y h i = let both : Some x ≡ Some y = sym h ∙ i in cc

  -- a fact of what stood at a place and what stands there, by reads with a default
  pub at_place : (P : X → X → Type 0) (old new : List X) (k : ℕ) (x y a b : X) → slice_get old k ≡ Some x → slice_get new k ≡ Some y → a ≡ get_or old k x
      → b ≡ get_or new k x → P a b → P x y
  at_place P old new k x y a b there here was is fact =
      subst (λ (x : X). P x y) (was ∙ get_or_from_slice_get old k x x there) (subst (P a) (is ∙ get_or_from_slice_get new k y x here) fact)

  -- a place behind a list
  pub slice_get_behind : (xs ys : List X) (x : X) → slice_get (xs ++ x ∷ ys) (length xs) ≡ Some x
  slice_get_behind [] ys x = refl
  slice_get_behind (z ∷ zs) ys x = slice_get_behind zs ys x

  pub set_behind : (xs ys : List X) (x y : X) → set (xs ++ x ∷ ys) (length xs) y ≡ xs ++ y ∷ ys
  set_behind [] ys x y = refl
  set_behind (z ∷ zs) ys x y = ap (λ (ws : List X). z ∷ ws) (set_behind zs ys x y)

-- a part takes the place of another with as many objects
pub row-set : (ps : List Part) (first end k : ℕ) (p new : Part) → AreInRow first ps end → slice_get ps k ≡ Some p → new.first ≡ p.first
    → length new.found.list ≡ length p.found.list → AreInRow first (set ps k new) end
row-set [] first end k p new row h same len = absurd (cc)
row-set (q ∷ qs) first end zero p new row h same len =
    let is : q ≡ p = let both : Some q ≡ Some p = h in cc in
    let len' : length new.found.list ≡ length q.found.list = len ∙ ap (λ (p : Part). length p.found.list) (sym is) in
    (same ∙ ap (λ (p : Part). p.first) (sym is) ∙ row.0, subst (λ (n : ℕ). AreInRow (first + n) qs end) (sym len') row.1)
row-set (q ∷ qs) first end (suc k) p new row h same len = (row.0, row-set qs (first + length q.found.list) end k p new row.1 h same len)

-- parts that begin where others do, with as many objects, stand in a row as those do
pub row-alike : (ps qs : List Part) (first end : ℕ) → length qs ≡ length ps
    → ((k : ℕ) (p q : Part) → slice_get ps k ≡ Some p → slice_get qs k ≡ Some q → (q.first ≡ p.first) × (length q.found.list ≡ length p.found.list))
    → AreInRow first ps end → AreInRow first qs end
row-alike [] [] first end count alike row = row
row-alike [] (q ∷ qs) first end count alike row = absurd (omega (arith, count))
row-alike (p ∷ ps) [] first end count alike row = absurd (omega (arith, count))
row-alike (p ∷ ps) (q ∷ qs) first end count alike row =
    let both = alike 0 p q refl refl in
    let rest = row-alike ps qs (first + length p.found.list) end (omega (arith, count)) (λ k x y there here. alike (suc k) x y there here) row.1 in
    (both.0 ∙ row.0, subst (λ (n : ℕ). AreInRow (first + n) qs end) (sym both.1) rest)

-- the row ends where or after it begins
pub row-le : (ps : List Part) (first end : ℕ) → AreInRow first ps end → first ≤ end
row-le [] first end row = omega (arith, row)
row-le (p ∷ ps) first end row = omega (arith, row-le ps (first + length p.found.list) end row.1)

-- a part of the row begins no earlier and ends no later
pub row-bounds : (ps : List Part) (first end k : ℕ) (p : Part) → AreInRow first ps end → slice_get ps k ≡ Some p → (first ≤ p.first)
    × (p.first + length p.found.list ≤ end)
row-bounds [] first end k p row h = absurd (cc)
row-bounds (q ∷ qs) first end zero p row h =
    let is : q ≡ p = let both : Some q ≡ Some p = h in cc in
    let at : p.first ≡ first = ap (λ (p : Part). p.first) (sym is) ∙ row.0 in
    let len : length p.found.list ≡ length q.found.list = ap (λ (p : Part). length p.found.list) (sym is) in
    (omega arith, omega (arith, row-le qs (first + length q.found.list) end row.1))
row-bounds (q ∷ qs) first end (suc k) p row h =
    let later = row-bounds qs (first + length q.found.list) end k p row.1 h in
    (omega (arith, later.0), later.1)

-- each object of the row is some part's own
pub row-holder : (ps : List Part) (first end o : ℕ) → AreInRow first ps end → first ≤ o → o < end → IsHeldIn ps o
row-holder [] first end o row le lt = absurd (omega (arith, row))
row-holder (p ∷ ps) first end o row le lt = elim (cases_lt o (first + length p.found.list)) [
  | inl own ↦ record { index = 0; holder = record { part = p; there = refl; own = record { first = omega (arith, row.0); last = omega (arith, row.0) } } }
  | inr later ↦
      let there = row-holder ps (first + length p.found.list) end o row.1 later lt in
      record { index = suc there.index; holder = record { part = there.holder.part; there = there.holder.there; own = there.holder.own } }
]

-- and no other's
pub row-one : (ps : List Part) (first end j k o : ℕ) (p q : Part) → AreInRow first ps end → slice_get ps j ≡ Some p → slice_get ps k ≡ Some q → IsOwn p o
    → IsOwn q o → j ≡ k
row-one [] first end j k o p q row there here own other = absurd (cc)
row-one (x ∷ xs) first end zero zero o p q row there here own other = refl
row-one (x ∷ xs) first end zero (suc k) o p q row there here own other =
    let is : x ≡ p = let both : Some x ≡ Some p = there in cc in
    let later = row-bounds xs (first + length x.found.list) end k q row.1 here in
    let len : length p.found.list ≡ length x.found.list = ap (λ (p : Part). length p.found.list) (sym is) in
    let at : p.first ≡ first = ap (λ (p : Part). p.first) (sym is) ∙ row.0 in
    absurd (omega (arith, later.0, own.last, other.first))
row-one (x ∷ xs) first end (suc j) zero o p q row there here own other =
    let is : x ≡ q = let both : Some x ≡ Some q = here in cc in
    let later = row-bounds xs (first + length x.found.list) end j p row.1 there in
    let len : length q.found.list ≡ length x.found.list = ap (λ (p : Part). length p.found.list) (sym is) in
    let at : q.first ≡ first = ap (λ (p : Part). p.first) (sym is) ∙ row.0 in
    absurd (omega (arith, later.0, other.last, own.first))
row-one (x ∷ xs) first end (suc j) (suc k) o p q row there here own other =
    ap suc (row-one xs (first + length x.found.list) end j k o p q row.1 there here own other)
