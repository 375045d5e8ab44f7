-- Lemmas on the first of each key.
use Rattle.std.proofs.Common.{◌≡◌, ◌∙◌, ℕ, suc, ◌+◌, ◌≤◌, List, [], ◌∷◌, ◌++◌, length, map, Option, Some, None, Bool, true, false, ◌||◌, cond, eqb, refl, sym}
use Rattle.std.proofs.Common.{ap, arith, append_assoc, length-append}
use Rattle.std.specs.List.{list_any, filter_map, cons_option, enumerate_from}
use Rattle.std.proofs.lemmas.List.{append-nil, map-append}
use Rattle.std.proofs.Math.Seq.{take-append_seam}
use Rattle.hd_terms.specs.FirstRecords.{first_one, first_of_each}
use Rattle.hd_classes.specs.Firsts.{firsts_from, firsts}

module _ {X : Type 0} (key : X → ℕ) where
  -- x's key is one of theirs
  abbrev pub is_known : List X → X → Bool
  is_known before x = list_any (λ y. eqb (key x) (key y)) before

  -- x, unless its key is known
  abbrev pub if_new : Bool → X → List X
  if_new known x = cond known [] (x ∷ [])

  case-push : (known : Bool) (a : X) (R S t : List X) → R ≡ S ++ t → cond known R (a ∷ R) ≡ cond known S (a ∷ S) ++ t
  case-push true a R S t e = e
  case-push false a R S t e = ap (λ (r : List X). a ∷ r) e

  case-nil : (known : Bool) (x : X) → cond known [] (x ∷ []) ≡ [] ++ if_new known x
  case-nil true x = refl
  case-nil false x = refl

  -- one more at the end
  pub firsts_from-push : (before xs : List X) (x : X) → firsts_from key before (xs ++ x ∷ []) ≡ firsts_from key before xs
      ++ if_new (is_known (before ++ xs) x) x
  firsts_from-push before [] x = case-nil (is_known before x) x ∙ ap (λ (b : List X). [] ++ if_new (is_known b x) x) (sym (append-nil before))
  firsts_from-push before (a ∷ xs) x =
      case-push (is_known before a) a (firsts_from key (before ++ a ∷ []) (xs ++ x ∷ [])) (firsts_from key (before ++ a ∷ []) xs)
      (if_new (is_known (before ++ a ∷ xs) x) x)
      (firsts_from-push (before ++ a ∷ []) xs x ∙ ap (λ (b : List X). firsts_from key (before ++ a ∷ []) xs ++ if_new (is_known b x) x)
      (append_assoc before (a ∷ []) xs))

  pub firsts-push : (xs : List X) (x : X) → firsts key (xs ++ x ∷ []) ≡ firsts key xs ++ if_new (is_known xs x) x
  firsts-push xs x = firsts_from-push [] xs x

  -- those of a list are those of its front, and then those that the front doesn't have
  pub firsts_from-append : (before xs ys : List X) → firsts_from key before (xs ++ ys) ≡ firsts_from key before xs ++ firsts_from key (before ++ xs) ys
  firsts_from-append before [] ys = ap (λ (b : List X). firsts_from key b ys) (sym (append-nil before))
  firsts_from-append before (a ∷ xs) ys =
      case-push (is_known before a) a (firsts_from key (before ++ a ∷ []) (xs ++ ys)) (firsts_from key (before ++ a ∷ []) xs)
      (firsts_from key (before ++ a ∷ xs) ys)
      (firsts_from-append (before ++ a ∷ []) xs ys ∙ ap (λ (b : List X). firsts_from key (before ++ a ∷ []) xs ++ firsts_from key b ys)
      (append_assoc before (a ∷ []) xs))

  -- the same at other items of the same keys
  case-map : {Y : Type 0} (f : Y → X) (known : Bool) (y : Y) (R : List X) (S : List Y) → R ≡ map f S → cond known R (f y ∷ R) ≡ map f (cond known S (y ∷ S))
  case-map f true y R S e = e
  case-map f false y R S e = ap (λ (r : List X). f y ∷ r) e

  pub known-map : {Y : Type 0} (f : Y → X) (before : List Y) (y : Y) → is_known (map f before) (f y) ≡ list_any (λ (z : Y). eqb (key (f y)) (key (f z))) before
  known-map f [] y = refl
  known-map f (z ∷ before) y = ap (λ (b : Bool). eqb (key (f y)) (key (f z)) || b) (known-map f before y)

pub firsts_from-map : {X Y : Type 0} (key : X → ℕ) (f : Y → X) (before ys : List Y) → firsts_from key (map f before) (map f ys) ≡ map f
    (firsts_from (λ y. key (f y)) before ys)
firsts_from-map key f before [] = refl
firsts_from-map key f before (y ∷ ys) =
    ap (λ b. cond b (firsts_from key (map f before ++ f y ∷ []) (map f ys)) (f y ∷ firsts_from key (map f before ++ f y ∷ []) (map f ys)))
    (known-map key f before y)
    ∙ case-map key f (is_known (λ y. key (f y)) before y) y _ _
    (ap (λ b. firsts_from key b (map f ys)) (sym (map-append f before (y ∷ []))) ∙ firsts_from-map key f (before ++ y ∷ []) ys)

pub firsts-map : {X Y : Type 0} (key : X → ℕ) (f : Y → X) (ys : List Y) → firsts key (map f ys) ≡ map f (firsts (λ y. key (f y)) ys)
firsts-map key f ys = firsts_from-map key f [] ys

-- what stands by the definition is the first of its key
module _ {X : Type 0} (key : X → ℕ) where
  case-stands : (known : Bool) (x : X) (R S : List X) → R ≡ S → cons_option (cond known None (Some x)) R ≡ cond known S (x ∷ S)
  case-stands true x R S e = e
  case-stands false x R S e = ap (λ (r : List X). x ∷ r) e

  stands-from : (before xs : List X) → filter_map (first_one key (before ++ xs)) (enumerate_from (length before) xs) ≡ firsts_from key before xs
  stands-from before [] = refl
  stands-from before (x ∷ xs) =
      let all = before ++ x ∷ xs in
      let rest : filter_map (first_one key all) (enumerate_from (length before + 1) xs) ≡ firsts_from key (before ++ x ∷ []) xs =
      ap (λ (ys : List X). filter_map (first_one key ys) (enumerate_from (length before + 1) xs)) (sym (append_assoc before (x ∷ []) xs))
      ∙ ap (λ (n : ℕ). filter_map (first_one key ((before ++ x ∷ []) ++ xs)) (enumerate_from n xs)) (sym (length-append before (x ∷ [])))
      ∙ stands-from (before ++ x ∷ []) xs in
      ap (λ (ys : List X). cons_option (cond (list_any (λ (y : X). eqb (key x) (key y)) ys) None (Some x))
      (filter_map (first_one key all) (enumerate_from (length before + 1) xs))) (take-append_seam before (x ∷ xs))
      ∙ case-stands (list_any (λ (y : X). eqb (key x) (key y)) before) x _ _ rest

  -- the definition's first of each key are these
  pub first_of_each-firsts : (xs : List X) → first_of_each key xs ≡ firsts key xs
  first_of_each-firsts xs = stands-from [] xs

  -- those of a list are those of its front, and then those that the front doesn't have
  pub first_of_each-append : (xs ys : List X) → first_of_each key (xs ++ ys) ≡ first_of_each key xs ++ firsts_from key xs ys
  first_of_each-append xs ys =
      first_of_each-firsts (xs ++ ys) ∙ firsts_from-append key [] xs ys ∙ ap (λ (zs : List X). zs ++ firsts_from key xs ys) (sym (first_of_each-firsts xs))

-- no more than there are
module _ {X : Type 0} where
  known-le : (b : Bool) (x : X) (rest : List X) (n : ℕ) → length rest ≤ n → length (cond b rest (x ∷ rest)) ≤ suc n
  known-le true x rest n le = omega arith
  known-le false x rest n le = omega arith

  option-le : (o : Option X) (rest : List X) (n : ℕ) → length rest ≤ n → length (cons_option o rest) ≤ suc n
  option-le None rest n le = omega arith
  option-le (Some y) rest n le = omega arith

pub firsts-le : {X : Type 0} (key : X → ℕ) (before xs : List X) → length (firsts_from key before xs) ≤ length xs
firsts-le key before [] = omega arith
firsts-le key before (x ∷ xs) = known-le (is_known key before x) x (firsts_from key (before ++ x ∷ []) xs) (length xs) (firsts-le key (before ++ x ∷ []) xs)

pub filter_map-le : {X Y : Type 0} (f : X → Option Y) (xs : List X) → length (filter_map f xs) ≤ length xs
filter_map-le f [] = omega arith
filter_map-le f (x ∷ xs) = option-le (f x) (filter_map f xs) (length xs) (filter_map-le f xs)
