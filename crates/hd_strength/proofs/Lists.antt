use Rattle.std.proofs.Common.{◌≡◌, ◌∙◌, ℕ, zero, suc, ◌+◌, ◌<◌, ◌≤◌, ◌⊎◌, inl, inr, List, [], ◌∷◌, Contains, length, get_or, cond, zero-add, Option, None, Some}
use Rattle.std.proofs.Common.{slice_get, map, replicate, Bool, true, false, refl, sym, ap, arith}
use Rattle.std.specs.List.{flat_map, filter, filter_map, cons_option, enumerate_from}
use Rattle.std.proofs.lemmas.Option.{get_or_from_slice_get, slice_get-get_or, slice_get_within}
use Rattle.std.proofs.lemmas.List.Elements.{Contains-append_left, Contains-append_right, Contains-append_cases}
use Rattle.std.proofs.lemmas.List.FromFn.{length-enumerate_from, get_or-enumerate_from}

-- the first
pub Contains-head : {X : Type 0} (x : X) (xs : List X) → Contains (x ∷ xs) x
Contains-head x xs = (zero, omega arith, refl)

-- a later one
pub Contains-tail : {X : Type 0} (x : X) (xs : List X) (y : X) → Contains xs y → Contains (x ∷ xs) y
Contains-tail x xs y (k, lt, is) = (suc k, omega arith, is)

-- the first or a later one
pub Contains-cons_cases : {X : Type 0} (x : X) (xs : List X) (y : X) → Contains (x ∷ xs) y → (x ≡ y) ⊎ Contains xs y
Contains-cons_cases x xs y (zero, lt, is) = inl is
Contains-cons_cases x xs y (suc k, lt, is) = inr (k, omega arith, is)

-- an empty list has none
pub Contains-nil : {X : Type 0} (y : X) → Contains [] y → ⊥
Contains-nil y (k, lt, is) = omega arith

-- what stands at an index is in the list
pub Contains-slice_get : {X : Type 0} (xs : List X) (i : ℕ) (y : X) → i < length xs → slice_get xs i ≡ Some y → Contains xs y
Contains-slice_get xs i y lt e = (i, lt, get_or_from_slice_get xs i y y e)

-- what an element gives is in the joined list
pub flat_map_contains : {X Y : Type 0} (f : X → List Y) (xs : List X) (x : X) (y : Y) → Contains xs x → Contains (f x) y → Contains (flat_map f xs) y
flat_map_contains f [] x y c d = absurd (Contains-nil x c)
flat_map_contains f (z ∷ zs) x y c d = elim (Contains-cons_cases z zs x c) [
  | inl same ↦ Contains-append_left (f z) (flat_map f zs) y (rw same d)
  | inr later ↦ Contains-append_right (f z) (flat_map f zs) y (flat_map_contains f zs x y later d)
]

-- what is in the joined list is given by an element
pub flat_map_only : {X Y : Type 0} (f : X → List Y) (xs : List X) (y : Y) → Contains (flat_map f xs) y → (x : X) × Contains xs x × Contains (f x) y
flat_map_only f [] y c = absurd (Contains-nil y c)
flat_map_only f (z ∷ zs) y c = elim (Contains-append_cases (f z) (flat_map f zs) y c) [
  | inl here ↦ (z, Contains-head z zs, here)
  | inr later ↦ let r : (x : _) × Contains zs x × Contains (f x) y = flat_map_only f zs y later in (r.0, Contains-tail z zs r.0 r.1, r.2)
]

-- what the option holds stands first
first_contains : {Y : Type 0} (o : Option Y) (ys : List Y) (y : Y) → o ≡ Some y → Contains (cons_option o ys) y
first_contains None ys y e = absurd (cc)
first_contains (Some x) ys y e = let s : x ≡ y = cc in (zero, omega arith, s)

-- what was there is still there
later_contains : {Y : Type 0} (o : Option Y) (ys : List Y) (y : Y) → Contains ys y → Contains (cons_option o ys) y
later_contains None ys y c = c
later_contains (Some x) ys y c = Contains-tail x ys y c

-- what is there stood in the option or was there
first_or_later : {Y : Type 0} (o : Option Y) (ys : List Y) (y : Y) → Contains (cons_option o ys) y → (o ≡ Some y) ⊎ Contains ys y
first_or_later None ys y c = inr c
first_or_later (Some x) ys y c = elim (Contains-cons_cases x ys y c) [ inl same ↦ inl (ap (λ (z : _). Some z) same) | inr later ↦ inr later ]

-- an element that passes is kept
cond_here : {X : Type 0} (b : Bool) (z : X) (zs : List X) (x : X) → b ≡ true → z ≡ x → Contains (cond b (z ∷ zs) zs) x
cond_here true z zs x e same = (zero, omega arith, same)
cond_here false z zs x e same = absurd (cc)

-- what was kept is still kept
cond_later : {X : Type 0} (b : Bool) (z : X) (zs : List X) (x : X) → Contains zs x → Contains (cond b (z ∷ zs) zs) x
cond_later true z zs x c = Contains-tail z zs x c
cond_later false z zs x c = c

-- what is kept is the first or was kept
cond_cases : {X : Type 0} (b : Bool) (z : X) (zs : List X) (x : X) → Contains (cond b (z ∷ zs) zs) x → (z ≡ x) ⊎ Contains zs x
cond_cases true z zs x c = Contains-cons_cases z zs x c
cond_cases false z zs x c = inr c

-- what an element becomes is in the list
pub filter_map_contains : {X Y : Type 0} (h : X → Option Y) (xs : List X) (x : X) (y : Y) → Contains xs x → h x ≡ Some y → Contains (filter_map h xs) y
filter_map_contains h [] x y c e = absurd (Contains-nil x c)
filter_map_contains h (z ∷ zs) x y c e = elim (Contains-cons_cases z zs x c) [
  | inl same ↦ first_contains (h z) (filter_map h zs) y (ap h same ∙ e)
  | inr later ↦ later_contains (h z) (filter_map h zs) y (filter_map_contains h zs x y later e)
]

-- what is in the list is what an element became
pub filter_map_only : {X Y : Type 0} (h : X → Option Y) (xs : List X) (y : Y) → Contains (filter_map h xs) y → (x : X) × Contains xs x × (h x ≡ Some y)
filter_map_only h [] y c = absurd (Contains-nil y c)
filter_map_only h (z ∷ zs) y c = elim (first_or_later (h z) (filter_map h zs) y c) [
  | inl here ↦ (z, Contains-head z zs, here)
  | inr later ↦ let r : (x : _) × Contains zs x × (h x ≡ Some y) = filter_map_only h zs y later in (r.0, Contains-tail z zs r.0 r.1, r.2)
]

-- an element that passes is in the filtered list
pub filter_contains : {X : Type 0} (p : X → Bool) (xs : List X) (x : X) → Contains xs x → p x ≡ true → Contains (filter p xs) x
filter_contains p [] x c e = absurd (Contains-nil x c)
filter_contains p (z ∷ zs) x c e = elim (Contains-cons_cases z zs x c) [
  | inl same ↦ cond_here (p z) z (filter p zs) x (ap p same ∙ e) same
  | inr later ↦ cond_later (p z) z (filter p zs) x (filter_contains p zs x later e)
]

-- what is in the filtered list is in the list
pub filter_only : {X : Type 0} (p : X → Bool) (xs : List X) (x : X) → Contains (filter p xs) x → Contains xs x
filter_only p [] x c = absurd (Contains-nil x c)
filter_only p (z ∷ zs) x c = elim (cond_cases (p z) z (filter p zs) x c) [
  | inl same ↦ rw same (Contains-head x zs)
  | inr later ↦ Contains-tail z zs x (filter_only p zs x later)
]

-- each element stands with its index in the numbered list
pub enumerate_contains : {X : Type 0} (xs : List X) (i : ℕ) (x : X) → slice_get xs i ≡ Some x → Contains (enumerate_from 0 xs) (i, x)
enumerate_contains xs i x e =
    let lt : i < length xs = slice_get_within xs i x e in
    let is : get_or (enumerate_from 0 xs) i (i, x) ≡ (0 + i, get_or xs i x) = get_or-enumerate_from 0 xs i (i, x) lt in
    let at : get_or xs i x ≡ x = get_or_from_slice_get xs i x x e in
    let n : 0 + i ≡ i = zero-add i in
    (i, omega (arith, length-enumerate_from 0 xs), is ∙ ap (λ (m : ℕ). (m, get_or xs i x)) n ∙ ap (λ (y : _). (i, y)) at)

-- a numbered element stands at its number
pub enumerate_only : {X : Type 0} (xs : List X) (n : ℕ × X) → Contains (enumerate_from 0 xs) n → slice_get xs n.0 ≡ Some n.1
enumerate_only xs n (k, lt, is) =
    let k_lt : k < length xs = omega (arith, length-enumerate_from 0 xs) in
    let at : n ≡ (0 + k, get_or xs k n.1) = sym is ∙ get_or-enumerate_from 0 xs k n k_lt in
    let index : n.0 ≡ k = ap (λ (p : ℕ × _). p.0) at ∙ zero-add k in
    let value : n.1 ≡ get_or xs k n.1 = ap (λ (p : ℕ × _). p.1) at in
    rw index (slice_get-get_or xs k n.1 k_lt ∙ ap (λ (y : _). Some y) (sym value))

-- of many alike
pub map-replicate : {X Y : Type 0} (f : X → Y) (n : ℕ) (x : X) → map f (replicate n x) ≡ replicate n (f x)
map-replicate f zero x = refl
map-replicate f (suc n) x = ap (λ (ys : List _). f x ∷ ys) (map-replicate f n x)

-- a list without length has nothing
pub none-long : {X : Type 0} (xs : List X) → length xs ≤ 0 → xs ≡ []
none-long [] h = refl
none-long (x ∷ xs) h = absurd (omega arith)
