-- Shapes as they are kept, over classes and layouts of which there come more.
use Rattle.std.proofs.Common.{◌≡◌, ◌∙◌, ℕ, zero, suc, ◌+◌, ◌-◌, ◌<◌, ◌≤◌, List, [], ◌∷◌, ◌++◌, length, get_or, take, set, replicate, map, Option, Some, None}
use Rattle.std.proofs.Common.{true, refl, sym, ap, arith, All, length-append}
use Rattle.std.specs.Prelude.{is_some}
use Rattle.std.specs.Option.{option_map}
use Rattle.std.proofs.lemmas.List.{map-append, map-set, get_or-map}
use Rattle.std.proofs.lemmas.List.Elements.{All-head, All-tail, All-push, All-get_or}
use Rattle.hd_shapes.specs.declared.shape.ClassShape.{ClassShape}
use Rattle.hd_shapes.specs.declared.shape.LayoutShape.{LayoutShape}
use Rattle.hd_shapes.specs.declared.packed_shape.PackedShape.{PackedShape}
use Rattle.hd_shapes.specs.declared.packed_shape.PackedShape.TheVariants as kept
use Rattle.hd_shapes.specs.Shapes.{ObjectShape, ClassObject, shape_bytes}
use Rattle.hd_shapes.specs.PackedShapes.{class_shape_view, layout_view, shape_at, made_layout, kept_shape, numbered_layout, ShapeLists, IsPackedOver, ArePacked}

-- two functions that agree on the elements of a list
pub map-same : {X Y : Type 0} (P : X → Type 0) (f g : X → Y) → ((x : X) → P x → f x ≡ g x) → (xs : List X) → All P xs → map f xs ≡ map g xs
map-same {X} {Y} P f g same [] all = refl
map-same {X} {Y} P f g same (x ∷ xs) all = ap (λ (y : Y). y ∷ map f xs) (same x (All-head P x xs all))
    ∙ ap (λ (ys : List Y). g x ∷ ys) (map-same P f g same xs (All-tail P x xs all))

module _ (X : Type 0) (view : X → ObjectShape) where
  -- what stands in a list stays at its index
  at-kept : (xs : List X) (x : X) (k : ℕ) → k < length xs → shape_at (map view (xs ++ x ∷ [])) k ≡ shape_at (map view xs) k
  at-kept [] x k lt = absurd (omega arith)
  at-kept (y ∷ xs) x zero lt = refl
  at-kept (y ∷ xs) x (suc k) lt = at-kept xs x k (omega arith)

  -- the new one stands last
  at-new : (xs : List X) (x : X) → shape_at (map view (xs ++ x ∷ [])) (length xs) ≡ view x
  at-new [] x = refl
  at-new (y ∷ xs) x = at-new xs x

module _ (ls : List LayoutShape) where
  shape-kept : (cs : List ClassShape) (c : ClassShape) (k : PackedShape) → IsPackedOver (length cs) (length ls) k
      → kept_shape (cs ++ c ∷ []) ls k ≡ kept_shape cs ls k
  shape-kept cs c (kept.ObjectArray bytes) over = refl
  shape-kept cs c (kept.PrimitiveArray element bytes) over = refl
  shape-kept cs c (kept.Class index) over = at-kept ClassShape class_shape_view cs c index over
  shape-kept cs c (kept.Instance index) over = refl

  -- a class at the end
  pub class-push : (cs : List ClassShape) (c : ClassShape) (ks : List PackedShape) (index : ℕ) → All (IsPackedOver (length cs) (length ls)) ks
      → index ≡ length cs
      → map (kept_shape (cs ++ c ∷ []) ls) (ks ++ kept.Class index ∷ []) ≡ map (kept_shape cs ls) ks ++ class_shape_view c ∷ []
  class-push cs c ks index all is =
      map-append (kept_shape (cs ++ c ∷ []) ls) ks (kept.Class index ∷ [])
      ∙ ap (λ (ss : List ObjectShape). ss ++ shape_at (map class_shape_view (cs ++ c ∷ [])) index ∷ [])
      (map-same (IsPackedOver (length cs) (length ls)) (kept_shape (cs ++ c ∷ []) ls) (kept_shape cs ls) (shape-kept cs c) ks all)
      ∙ ap (λ (s : ObjectShape). map (kept_shape cs ls) ks ++ s ∷ []) (ap (shape_at (map class_shape_view (cs ++ c ∷ []))) is
      ∙ at-new ClassShape class_shape_view cs c)

module _ (ls : List LayoutShape) (l : LayoutShape) where
  layout-kept : (cs : List ClassShape) (k : PackedShape) → IsPackedOver (length cs) (length ls) k → kept_shape cs (ls ++ l ∷ []) k ≡ kept_shape cs ls k
  layout-kept cs (kept.ObjectArray bytes) over = refl
  layout-kept cs (kept.PrimitiveArray element bytes) over = refl
  layout-kept cs (kept.Class index) over = refl
  layout-kept cs (kept.Instance index) over = at-kept LayoutShape layout_view ls l index over

  -- the first instance of a class at the end
  instance-push : (cs : List ClassShape) (ks : List PackedShape) (index : ℕ) → All (IsPackedOver (length cs) (length ls)) ks → index ≡ length ls
      → map (kept_shape cs (ls ++ l ∷ [])) (ks ++ kept.Instance index ∷ []) ≡ map (kept_shape cs ls) ks ++ layout_view l ∷ []
  instance-push cs ks index all is =
      map-append (kept_shape cs (ls ++ l ∷ [])) ks (kept.Instance index ∷ [])
      ∙ ap (λ (ss : List ObjectShape). ss ++ shape_at (map layout_view (ls ++ l ∷ [])) index ∷ [])
      (map-same (IsPackedOver (length cs) (length ls)) (kept_shape cs (ls ++ l ∷ [])) (kept_shape cs ls) (layout-kept cs) ks all)
      ∙ ap (λ (s : ObjectShape). map (kept_shape cs ls) ks ++ s ∷ []) (ap (shape_at (map layout_view (ls ++ l ∷ []))) is ∙ at-new LayoutShape layout_view ls l)

  number-kept : (n : ℕ) → n ≤ length ls → numbered_layout (ls ++ l ∷ []) n ≡ numbered_layout ls n
  number-kept zero le = refl
  number-kept (suc n) le = ap (λ (s : ObjectShape). Some s) (at-kept LayoutShape layout_view ls l n (omega arith))

  number-new : (n : ℕ) → n ≡ length ls + 1 → numbered_layout (ls ++ l ∷ []) n ≡ Some (layout_view l)
  number-new n is =
      let next : n ≡ suc (length ls) = omega arith in
      ap (numbered_layout (ls ++ l ∷ [])) next ∙ ap (λ (s : ObjectShape). Some s) (at-new LayoutShape layout_view ls l)

  -- and its class gets the number of the new layout
  number-push : (ns : List ℕ) (class n : ℕ) → All (λ n. n ≤ length ls) ns → n ≡ length ls + 1
      → map (numbered_layout (ls ++ l ∷ [])) (set ns class n) ≡ set (map (numbered_layout ls) ns) class (Some (layout_view l))
  number-push ns class n all is =
      map-set (numbered_layout (ls ++ l ∷ [])) ns class n
      ∙ ap (λ (os : List (Option ObjectShape)). set os class (numbered_layout (ls ++ l ∷ []) n))
      (map-same (λ n. n ≤ length ls) (numbered_layout (ls ++ l ∷ [])) (numbered_layout ls) number-kept ns all)
      ∙ ap (set (map (numbered_layout ls) ns) class) (number-new n is)

-- no layout was made yet
pub zeros-none : (ls : List LayoutShape) (n : ℕ) → map (numbered_layout ls) (replicate n 0) ≡ replicate n None
zeros-none ls zero = refl
zeros-none ls (suc n) = ap (λ (os : List (Option ObjectShape)). None ∷ os) (zeros-none ls n)

pub resized : (n len : ℕ) (xs ys : List ℕ) → xs ≡ [] → len ≡ 0 → ys ≡ take n xs ++ replicate (n - len) 0 → ys ≡ replicate n 0
resized n len xs ys empty none is =
    let all : n - len ≡ n = omega arith in
    is ∙ ap (λ (zs : List ℕ). take n zs ++ replicate (n - len) 0) empty ∙ ap (λ (zs : List ℕ). zs ++ replicate (n - len) 0) (take-none n)
    ∙ ap (λ (m : ℕ). replicate m 0) all
  where
    take-none : (n : ℕ) → (let none : List ℕ = [] in take n none ≡ none)
    take-none zero = refl
    take-none (suc n) = refl

-- the lists of shapes that are kept so
abbrev lists : List ClassShape → List LayoutShape → List PackedShape → List ℕ → ShapeLists
lists cs ls ks ns = record { objects = map (kept_shape cs ls) ks; layouts = map (numbered_layout ls) ns }

-- the first instance of a class
pub first-push : (cs : List ClassShape) (ls : List LayoutShape) (l : LayoutShape) (ks : List PackedShape) (ns : List ℕ) (class index : ℕ)
    → ArePacked ks (length cs) (length ls) ns → index ≡ length ls
    → lists cs (ls ++ l ∷ []) (ks ++ kept.Instance index ∷ []) (set ns class (index + 1))
    ≡ record { objects = map (kept_shape cs ls) ks ++ layout_view l ∷ []; layouts = set (map (numbered_layout ls) ns) class (Some (layout_view l)) }
first-push cs ls l ks ns class index h is =
    ap (λ (ss : List ObjectShape). let s : ShapeLists = record { objects = ss; layouts = map (numbered_layout (ls ++ l ∷ [])) (set ns class (index + 1)) } in s)
    (instance-push ls l cs ks index h.over is)
    ∙ ap (λ (os : List (Option ObjectShape)). let s : ShapeLists = record { objects = map (kept_shape cs ls) ks ++ layout_view l ∷ []; layouts = os } in s)
    (number-push ls l ns class (index + 1) h.numbered (ap (λ (n : ℕ). n + 1) is))

-- a class whose layout was made has a number that isn't 0
number-some : (ls : List LayoutShape) (ns : List ℕ) (class : ℕ) → is_some (made_layout (map (numbered_layout ls) ns) class) ≡ true → (class < length ns)
    × (0 < get_or ns class 0)
number-some ls [] class is = absurd cc
number-some ls (zero ∷ ns) zero is = absurd cc
number-some ls (suc n ∷ ns) zero is = (omega arith, omega arith)
number-some ls (n ∷ ns) (suc class) is =
    let rest = number-some ls ns class is in
    (omega (arith, rest.0), rest.1)

-- and it's the one of its layout
shape-numbered : (ls : List LayoutShape) (ns : List ℕ) (class : ℕ) (shape : ObjectShape) → made_layout (map (numbered_layout ls) ns) class ≡ Some shape
    → shape_at (map layout_view ls) (get_or ns class 0 - 1) ≡ shape
shape-numbered ls [] class shape is = absurd cc
shape-numbered ls (zero ∷ ns) zero shape is = absurd cc
shape-numbered ls (suc n ∷ ns) zero shape is =
    let index : suc n - 1 ≡ n = omega arith in
    let same : shape_at (map layout_view ls) n ≡ shape = cc in
    ap (shape_at (map layout_view ls)) index ∙ same
shape-numbered ls (n ∷ ns) (suc class) shape is = shape-numbered ls ns class shape is

-- which it is however it is read
number-read : (ns : List ℕ) (class number : ℕ) → class < length ns → number ≡ get_or ns class number → number ≡ get_or ns class 0
number-read ns class number lt is = is ∙ same ns class lt
  where
    same : (ns : List ℕ) (class : ℕ) → class < length ns → get_or ns class number ≡ get_or ns class 0
    same [] class lt = absurd (omega arith)
    same (n ∷ ns) zero lt = refl
    same (n ∷ ns) (suc class) lt = same ns class (omega arith)

-- the bytes of its instances' values
bytes-numbered : (ls : List LayoutShape) (n : ℕ) (d : LayoutShape) → 0 < n → n ≤ length ls → Some (get_or ls (n - 1) d).bytes ≡ option_map shape_bytes
    (numbered_layout ls n)
bytes-numbered ls zero d some most = absurd (omega arith)
bytes-numbered ls (suc n) d some most =
    let index : suc n - 1 ≡ n = omega arith in
    ap (λ (k : ℕ). Some (get_or ls k d).bytes) index ∙ ap (λ (s : ObjectShape). Some (shape_bytes s))
    (sym (get_or-map layout_view ls n d (ClassObject 0 []) (omega arith)))

pub bytes-made : (ls : List LayoutShape) (ns : List ℕ) (class number : ℕ) (l : LayoutShape) → class < length ns → All (λ n. n ≤ length ls) ns
    → number ≡ get_or ns class number → 0 < number → l ≡ get_or ls (number - 1) l
    → Some l.bytes ≡ option_map shape_bytes (made_layout (map (numbered_layout ls) ns) class)
bytes-made ls ns class number l lt all is some l-is =
    let at = number-read ns class number lt is in
    let most : get_or ns class 0 ≤ length ls = All-get_or (λ n. n ≤ length ls) ns class 0 lt all in
    let few : number ≤ length ls = omega (arith, at, most) in
    ap (λ (x : LayoutShape). Some x.bytes) l-is
    ∙ bytes-numbered ls number l some few
    ∙ ap (λ (n : ℕ). option_map shape_bytes (numbered_layout ls n)) at
    ∙ ap (option_map shape_bytes) (sym (get_or-map (numbered_layout ls) ns class 0 None lt))

-- one more instance of it at the end
pub instance-again : (cs : List ClassShape) (ls : List LayoutShape) (ks : List PackedShape) (ns : List ℕ) (class number : ℕ) (shape : ObjectShape)
    → made_layout (map (numbered_layout ls) ns) class ≡ Some shape → number ≡ get_or ns class number
    → map (kept_shape cs ls) (ks ++ kept.Instance (number - 1) ∷ []) ≡ map (kept_shape cs ls) ks ++ shape ∷ []
instance-again cs ls ks ns class number shape made is =
    let there = number-some ls ns class (ap (λ (o : Option ObjectShape). is_some o) made) in
    map-append (kept_shape cs ls) ks (kept.Instance (number - 1) ∷ [])
    ∙ ap (λ (s : ObjectShape). map (kept_shape cs ls) ks ++ s ∷ [])
    (ap (λ (n : ℕ). shape_at (map layout_view ls) (n - 1)) (number-read ns class number there.0 is) ∙ shape-numbered ls ns class shape made)

pub packed-again : (ks : List PackedShape) (n : ℕ) (ls : List LayoutShape) (ns : List ℕ) (class number : ℕ) → ArePacked ks n (length ls) ns
    → is_some (made_layout (map (numbered_layout ls) ns) class) ≡ true → number ≡ get_or ns class number
    → ArePacked (ks ++ kept.Instance (number - 1) ∷ []) n (length ls) ns
packed-again ks n ls ns class number h some is =
    let there = number-some ls ns class some in
    let most : get_or ns class 0 ≤ length ls = All-get_or (λ n. n ≤ length ls) ns class 0 there.0 h.numbered in
    let index : number - 1 < length ls = omega (arith, there.1, number-read ns class number there.0 is) in
    record {
      over = All-push (IsPackedOver n (length ls)) ks (kept.Instance (number - 1)) h.over index;
      few = omega (arith, h.few, length-append ks (kept.Instance (number - 1) ∷ []));
      numbered = h.numbered;
    }
