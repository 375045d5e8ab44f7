-- Lists that rise by a key and have the same items are one list.
use Rattle.std.proofs.Common.{◌≡◌, ◌∙◌, ℕ, zero, suc, ◌<◌, ◌⊎◌, inl, inr, ⊎_elim, List, [], ◌∷◌, refl, sym, ap, subst, arith}
use Rattle.std.specs.Prelude.{⊤, Contains, map}
use Rattle.std.specs.List.{AllPairs}
use Rattle.std.specs.List.Sorted.{IsStrictlyIncreasing}
use Rattle.std.proofs.lemmas.List.{length-map, get_or-map}
use Rattle.std.proofs.lemmas.List.Kept.{AllPairs-from_increasing}
use Rattle.std.proofs.lemmas.List.Elements.{Contains-append_right, Contains-append_cases}

module _ {X : Type 0} where
  -- nothing is in a list without items
  pub none : (z : X) → Contains [] z → ⊥
  none z at = let lt : at.0 < 0 = at.1 in absurd (omega (arith, lt))

  pub first : (x : X) (xs : List X) → Contains (x ∷ xs) x
  first x xs = (0, omega arith, refl)

  pub later : (x : X) (xs : List X) (z : X) → Contains xs z → Contains (x ∷ xs) z
  later x xs z at = Contains-append_right (x ∷ []) xs z at

  alone : (x z : X) → Contains (x ∷ []) z → x ≡ z
  alone x z (zero, lt, is) = is
  alone x z (suc k, lt, is) = absurd (omega (arith, lt))

  pub cases : (x : X) (xs : List X) (z : X) → Contains (x ∷ xs) z → (x ≡ z) ⊎ Contains xs z
  cases x xs z at = ⊎_elim (λ here. inl (alone x z here)) (λ there. inr there) (Contains-append_cases (x ∷ []) xs z at)

  module _ (key : X → ℕ) where
    -- each item's key is below those of the later ones
    abbrev pub Rises : List X → Type 0
    Rises [] = ⊤
    Rises (x ∷ xs) = ((z : X) → Contains xs z → key x < key z) × Rises xs

    pub rises : (xs : List X) → AllPairs (λ x y. key x < key y) xs → Rises xs
    rises [] h = tt
    rises (x ∷ xs) h = (
      (λ z at. let lt = at.1 in subst (λ (w : X). key x < key w) at.2 (h 0 (suc at.0) z (omega arith) (omega (arith, lt)))),
      rises xs (λ i j d lt within. h (suc i) (suc j) d (omega (arith, lt)) (omega (arith, within))),
    )

    same_first : (x : X) (xs : List X) (y : X) (ys : List X) → Rises (x ∷ xs) → Rises (y ∷ ys) → Contains (y ∷ ys) x → Contains (x ∷ xs) y → x ≡ y
    same_first x xs y ys u v f g =
        ⊎_elim (λ is. sym is)
        (λ x_later. ⊎_elim (λ is. is)
        (λ y_later. let a = v.0 x x_later in let b = u.0 y y_later in absurd (omega (arith, a, b)))
        (cases x xs y g))
        (cases y ys x f)

    not_first : (x : X) (xs : List X) (y : X) (ys : List X) (z : X) → Rises (x ∷ xs) → x ≡ y → Contains xs z → Contains (y ∷ ys) z → Contains ys z
    not_first x xs y ys z u same at h =
        ⊎_elim (λ is. let a = u.0 z at in let b : key x ≡ key z = ap key (same ∙ is) in absurd (omega (arith, a, b)))
        (λ there. there)
        (cases y ys z h)

    pub one_list : (xs ys : List X) → Rises xs → Rises ys → ((z : X) → Contains xs z → Contains ys z) → ((z : X) → Contains ys z → Contains xs z) → xs ≡ ys
    one_list [] [] u v f g = refl
    one_list [] (y ∷ ys) u v f g = absurd (none y (g y (first y ys)))
    one_list (x ∷ xs) [] u v f g = absurd (none x (f x (first x xs)))
    one_list (x ∷ xs) (y ∷ ys) u v f g =
        let same = same_first x xs y ys u v (f x (first x xs)) (g y (first y ys)) in
        let rest = one_list xs ys u.1 v.1
        (λ z at. not_first x xs y ys z u same at (f z (later x xs z at)))
        (λ z at. not_first y ys x xs z v (sym same) at (g z (later y ys z at))) in
        ap (λ (w : X). w ∷ xs) same ∙ ap (λ (ws : List X). y ∷ ws) rest

-- numbers that rise
pub rises_numbers : (xs : List ℕ) → IsStrictlyIncreasing xs → Rises (λ n. n) xs
rises_numbers xs h = rises (λ n. n) xs (AllPairs-from_increasing xs h)

-- items whose keys rise
pub rises_keys : {X : Type 0} (key : X → ℕ) (xs : List X) → IsStrictlyIncreasing (map key xs) → Rises key xs
rises_keys {X} key xs h = rises key xs pairs
  where
    pairs : AllPairs (λ x y. key x < key y) xs
    pairs i j d lt within =
        let long = length-map xs key in
        let p = AllPairs-from_increasing (map key xs) h i j (key d) lt (omega (arith, long, within)) in
        let a = get_or-map key xs i d (key d) (omega (arith, lt, within)) in
        let b = get_or-map key xs j d (key d) within in
        omega (arith, p, a, b)

-- lists that are equal item by item
pub same_head : {X : Type 0} (x y : X) (xs ys : List X) → x ∷ xs ≡ y ∷ ys → x ≡ y
same_head x y xs ys h = cc

pub same_tail : {X : Type 0} (x y : X) (xs ys : List X) → x ∷ xs ≡ y ∷ ys → xs ≡ ys
same_tail x y xs ys h = cc

pub no_items : {X : Type 0} (x : X) (xs : List X) → [] ≡ x ∷ xs → ⊥
no_items x xs h = absurd cc
