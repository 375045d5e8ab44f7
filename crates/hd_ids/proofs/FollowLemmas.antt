-- IDs that are noted behind others, one after another.
use Rattle.std.proofs.Common.{◌≡◌, ◌≢◌, ◌∙◌, ℕ, zero, suc, ◌+◌, ◌<◌, ◌≤◌, Bool, true, false, true≢false, not, eqb, nat_eq, List, [], ◌∷◌, ◌++◌, length, get_or}
use Rattle.std.proofs.Common.{take, refl, sym, ap, arith, eq-eqb, append_assoc}
use Rattle.std.specs.List.{list_any, IsDistinct}
use Rattle.std.proofs.lemmas.Bool.{ne_eqb}
use Rattle.std.proofs.Math.Bool.{or-false}
use Rattle.std.proofs.lemmas.List.{take_all, take_more}
use Rattle.std.proofs.lemmas.List.Folds.{list_any-append, list_any_at}
use Rattle.std.proofs.lemmas.Map.Keys.{IsDistinct-tail, apart_from_distinct}
use Rattle.hd_ids.specs.Noted.{is_noted, noted, are_apart}

-- a distinct ID isn't one of those before it
not-before : (xs : List ℕ) (i : ℕ) → IsDistinct nat_eq xs → i < length xs → is_noted (take i xs) (get_or xs i 0) ≡ false
not-before [] i d lt = absurd (omega arith)
not-before (x ∷ xs) zero d lt = refl
not-before (x ∷ xs) (suc i) d lt =
    let apart : eqb x (get_or xs i 0) ≡ false = apart_from_distinct eqb (x ∷ xs) 0 (suc i) 0 d (omega arith) (omega arith) in
    let other : get_or xs i 0 ≢ x = λ is. true≢false (sym (eq-eqb x (get_or xs i 0) (sym is)) ∙ apart) in
    rw (ne_eqb (get_or xs i 0) x other) (not-before xs i (IsDistinct-tail nat_eq x xs d) (omega arith))

module _ (front back : List ℕ) (distinct : IsDistinct nat_eq back) (i : ℕ) (lt : i < length back) where
  abbrev next : ℕ
  next = get_or back i 0

  in-front : is_noted (front ++ take i back) next ≡ is_noted front next
  in-front = list_any-append (λ k. eqb next k) front (take i back) ∙ rw (not-before back i distinct lt) (or-false (is_noted front next))

  -- the next one is new
  pub next-noted : is_noted (front ++ take i back) next ≡ false → noted (front ++ take i back) next ≡ front ++ take (i + 1) back
  next-noted new = rw new (append_assoc front (take i back) (next ∷ []) ∙ ap (λ (xs : List ℕ). front ++ xs) (sym (take_more back i 0 lt)))

  pub none-yet : list_any (is_noted front) (take i back) ≡ false → is_noted (front ++ take i back) next ≡ false
      → list_any (is_noted front) (take (i + 1) back) ≡ false
  none-yet none new =
      ap (list_any (is_noted front)) (take_more back i 0 lt)
      ∙ list_any-append (is_noted front) (take i back) (next ∷ [])
      ∙ rw (none, sym in-front ∙ new) refl

  -- the next one is one of those in front
  pub not-apart : is_noted (front ++ take i back) next ≡ true → false ≡ are_apart front back
  not-apart old = ap not (sym (list_any_at (is_noted front) back i 0 lt (sym in-front ∙ old)))

-- all were new
pub all-apart : (front back : List ℕ) (i : ℕ) → length back ≤ i → list_any (is_noted front) (take i back) ≡ false → true ≡ are_apart front back
all-apart front back i end none = ap not (sym none ∙ ap (list_any (is_noted front)) (take_all i back end))

pub all-noted : (front back : List ℕ) (i : ℕ) → length back ≤ i → front ++ take i back ≡ front ++ back
all-noted front back i end = ap (λ (xs : List ℕ). front ++ xs) (take_all i back end)

-- nothing is one of no IDs
none-in : (back : List ℕ) → list_any (is_noted []) back ≡ false
none-in [] = refl
none-in (x ∷ xs) = none-in xs

pub none-apart : (front back : List ℕ) → length front ≡ 0 → are_apart front back ≡ true
none-apart [] back e = ap not (none-in back)
none-apart (x ∷ xs) back e = absurd (omega (arith, e))

pub none-before : (front back : List ℕ) → length front ≡ 0 → back ≡ front ++ back
none-before [] back e = refl
none-before (x ∷ xs) back e = absurd (omega (arith, e))

-- what isn't new is there
pub was-there : (is new : Bool) → new ≡ not is → new ≡ false → is ≡ true
was-there true new e old = refl
was-there false new e old = absurd (true≢false (sym e ∙ old))
