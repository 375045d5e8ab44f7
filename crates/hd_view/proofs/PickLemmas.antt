-- Elements of lists that a function makes of some elements of another.
use Rattle.std.proofs.Common.{◌≡◌, ◌∙◌, inl, inr, Contains, map, ℕ, zero, suc, ◌+◌, Bool, true, false, cond, not, is_some, List, [], ◌∷◌, ◌++◌, length, take}
use Rattle.std.proofs.Common.{drop, slice_get, All, Option, Some, None, refl, sym, ap, arith}
use Rattle.std.specs.Option.{option_map}
use Rattle.hd_strength.proofs.Lists.{Contains-nil, Contains-head, Contains-tail, Contains-cons_cases}
use Rattle.std.specs.List.{filter_map, cons_option, count_by}
use Rattle.std.proofs.lemmas.Option.{get_or_from_slice_get, slice_get_within}
use Rattle.std.proofs.lemmas.List.{take-append-drop, drop_more}
use Rattle.std.proofs.lemmas.List.Elements.{filter_map-append, All-head, All-tail}
use Rattle.std.proofs.lemmas.List.Sums.{sum_by-cons, sum_by-le-sum_by}

-- tests that agree count alike
pub count_same : {X : Type 0} (p q : X → Bool) → ((x : X) → p x ≡ q x) → (xs : List X) → count_by p xs ≡ count_by q xs
count_same p q same xs =
    omega (
      arith,
      sum_by-le-sum_by (λ (x : _). cond (p x) 1 0) (λ (x : _). cond (q x) 1 0) xs (λ x. rw (same x) (omega arith)),
      sum_by-le-sum_by (λ (x : _). cond (q x) 1 0) (λ (x : _). cond (p x) 1 0) xs (λ x. rw (same x) (omega arith)),
    )

-- the element at the end of a list's front
pub slice_get_after : {X : Type 0} (xs : List X) (y : X) (ys : List X) → slice_get (xs ++ y ∷ ys) (length xs) ≡ Some y
slice_get_after [] y ys = refl
slice_get_after (x ∷ xs) y ys = slice_get_after xs y ys

-- an element of the front, and one after it
pub slice_get_front : {X : Type 0} (xs ys : List X) (i : ℕ) (x : X) → slice_get xs i ≡ Some x → slice_get (xs ++ ys) i ≡ Some x
slice_get_front [] ys i x at = absurd cc
slice_get_front (z ∷ xs) ys zero x at = at
slice_get_front (z ∷ xs) ys (suc i) x at = slice_get_front xs ys i x at

pub slice_get_back : {X : Type 0} (xs ys : List X) (i : ℕ) → slice_get (xs ++ ys) (length xs + i) ≡ slice_get ys i
slice_get_back [] ys i = let same : 0 + i ≡ i = omega arith in ap (slice_get ys) same
slice_get_back (x ∷ xs) ys i = let same : length (x ∷ xs) + i ≡ suc (length xs + i) = omega arith in ap (slice_get (x ∷ (xs ++ ys))) same
    ∙ slice_get_back xs ys i

module _ {X Y : Type 0} (h : X → Option Y) where
  length-option : (o : Option Y) (ys : List Y) → length (cons_option o ys) ≡ cond (is_some o) 1 0 + length ys
  length-option None ys = omega arith
  length-option (Some y) ys = omega arith

  -- as many as give something
  pub length_picked : (xs : List X) → length (filter_map h xs) ≡ count_by (λ (x : X). is_some (h x)) xs
  length_picked [] = refl
  length_picked (x ∷ xs) = omega (arith, length-option (h x) (filter_map h xs), length_picked xs, sum_by-cons (λ (z : X). cond (is_some (h z)) 1 0) x xs)

  -- what an element gives stands after what those before it give
  pub picked_at : (xs : List X) (i : ℕ) (x : X) (y : Y) → slice_get xs i ≡ Some x → h x ≡ Some y
      → slice_get (filter_map h xs) (count_by (λ (z : X). is_some (h z)) (take i xs)) ≡ Some y
  picked_at xs i x y at gives =
      let front : List Y = filter_map h (take i xs) in
      let back : List Y = filter_map h (drop (i + 1) xs) in
      let rest : drop i xs ≡ x ∷ drop (i + 1) xs = drop_more xs i x (slice_get_within xs i x at)
      ∙ ap (λ (z : X). z ∷ drop (i + 1) xs) (get_or_from_slice_get xs i x x at) in
      let whole : filter_map h xs ≡ front ++ y ∷ back =
      ap (filter_map h) (sym (take-append-drop i xs))
      ∙ filter_map-append h (take i xs) (drop i xs)
      ∙ ap (λ (zs : List X). front ++ filter_map h zs) rest
      ∙ ap (λ (o : Option Y). front ++ cons_option o back) gives in
      ap (slice_get (filter_map h xs)) (sym (length_picked (take i xs))) ∙ ap (λ (ys : List Y). slice_get ys (length front)) whole
      ∙ slice_get_after front y back

  -- where each element gives something, each has its place
  first-picked : (o : Option Y) (ys : List Y) → is_some o ≡ true → (slice_get (cons_option o ys) 0 ≡ o)
      × ((i : ℕ) → slice_get (cons_option o ys) (suc i) ≡ slice_get ys i) × (length (cons_option o ys) ≡ suc (length ys))
  first-picked None ys some = absurd cc
  first-picked (Some y) ys some = (refl, λ i. refl, refl)

  pub all_picked : (xs : List X) (i : ℕ) (x : X) → All (λ (z : X). is_some (h z) ≡ true) xs → slice_get xs i ≡ Some x → slice_get (filter_map h xs) i ≡ h x
  all_picked [] i x all at = absurd cc
  all_picked (z ∷ xs) zero x all at = let same : z ≡ x = cc in (first-picked (h z) (filter_map h xs) (All-head (λ (w : X). is_some (h w) ≡ true) z xs all)).0
      ∙ ap h same
  all_picked (z ∷ xs) (suc i) x all at =
      (first-picked (h z) (filter_map h xs) (All-head (λ (w : X). is_some (h w) ≡ true) z xs all)).1 i
      ∙ all_picked xs i x (All-tail (λ (w : X). is_some (h w) ≡ true) z xs all) at

  pub length_all_picked : (xs : List X) → All (λ (z : X). is_some (h z) ≡ true) xs → length (filter_map h xs) ≡ length xs
  length_all_picked [] all = refl
  length_all_picked (z ∷ xs) all =
      (first-picked (h z) (filter_map h xs) (All-head (λ (w : X). is_some (h w) ≡ true) z xs all)).2
      ∙ ap (λ (n : ℕ). suc n) (length_all_picked xs (All-tail (λ (w : X). is_some (h w) ≡ true) z xs all))

-- what an option becomes
pub mapped_some : {X Y : Type 0} (f : X → Y) (o : Option X) (y : Y) → option_map f o ≡ Some y → (x : X) × (o ≡ Some x) × (f x ≡ y)
mapped_some f None y is = absurd cc
mapped_some f (Some x) y is = let same : f x ≡ y = cc in (x, refl, same)

-- what a mapped list has is made of an element
pub map_only : {X Y : Type 0} (f : X → Y) (xs : List X) (y : Y) → Contains (map f xs) y → (x : X) × Contains xs x × (f x ≡ y)
map_only f [] y c = absurd (Contains-nil y c)
map_only f (z ∷ zs) y c = elim (Contains-cons_cases (f z) (map f zs) y c) [
  | inl same ↦ (z, Contains-head z zs, same)
  | inr later ↦ let r : (x : _) × Contains zs x × (f x ≡ y) = map_only f zs y later in (r.0, Contains-tail z zs r.0 r.1, r.2)
]

-- twice not
pub not_not : (b : Bool) → not (not b) ≡ b
not_not true = refl
not_not false = refl
