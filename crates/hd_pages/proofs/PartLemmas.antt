-- Lists in parts: where an item is, and what a write to it and a further part change.
use Rattle.std.proofs.Common.{◌≡◌, ◌∙◌, ℕ, zero, suc, ◌+◌, ◌-◌, ◌*◌, ◌/◌, ◌%◌, ◌<◌, ◌≤◌, ◌⊎◌, inl, inr, List, [], ◌∷◌, ◌++◌, length, map, reverse, take, drop}
use Rattle.std.proofs.Common.{get_or, set, slice_get, Some, Result, Ok, Err, OnErr, sym, ap, refl, arith, length-append}
use Rattle.std.proofs.lemmas.List.{append_assoc, append-nil, set-append_left, set-append_right, length-set, length-map, length-reverse, reverse-append}
use Rattle.std.proofs.lemmas.List.{get_or-map, map-set, map_push, set-get_or, take-map, map-append, drop_more, length-drop}
use Rattle.std.proofs.lemmas.Option.{slice_get_within, get_or_from_slice_get}
use Rattle.std.proofs.Math.Seq.{drop-append-add}
use Rattle.hd_pages.specs.Parts.{joined, IsFilled}

-- what holds on both sides
pub either : {P : Type 0} → P ⊎ P → P
either (inl p) = p
either (inr p) = p

-- what holds, holds where the answer is an error
pub on_err : {T E P : Type 0} (r : Result T E) → P → OnErr r P
on_err (Ok x) p = tt
on_err (Err e) p = p

-- each part has n items
abbrev pub AreFull : {X : Type 0} → ℕ → List (List X) → Type 0
AreFull n [] = Unit {0}
AreFull n (p ∷ ps) = (length p ≡ n) × AreFull n ps

-- an item of two lists, one after the other
slice_get-append_left : {X : Type 0} (xs ys : List X) (i : ℕ) → i < length xs → slice_get (xs ++ ys) i ≡ slice_get xs i
slice_get-append_left [] ys i lt = absurd (omega arith)
slice_get-append_left (x ∷ xs) ys zero lt = refl
slice_get-append_left (x ∷ xs) ys (suc i) lt = slice_get-append_left xs ys i (omega arith)

slice_get-append_right : {X : Type 0} (xs ys : List X) (i : ℕ) → slice_get (xs ++ ys) (length xs + i) ≡ slice_get ys i
slice_get-append_right [] ys i = ap (slice_get ys) (let e : 0 + i ≡ i = omega arith in e)
slice_get-append_right (x ∷ xs) ys i = let e : suc (length xs) + i ≡ suc (length xs + i) = omega arith in ap (slice_get (x ∷ (xs ++ ys))) e
    ∙ slice_get-append_right xs ys i

-- a part is not longer than n, and none follows one that is shorter
full : {X : Type 0} (n : ℕ) (p : List X) (ps : List (List X)) (k j : ℕ) → IsFilled n (p ∷ ps) → suc k * n + j < length (joined (p ∷ ps)) → j < n → length p ≡ n
full n p [] k j is lt below = absurd (omega (arith, is.0, length-append p []))
full n p (q ∷ ps) k j is lt below = is.1 (omega arith)

later : {X : Type 0} (n : ℕ) (p : List X) (ps : List (List X)) (k j : ℕ) → length p ≡ n → suc k * n + j < length (joined (p ∷ ps))
    → k * n + j < length (joined ps)
later n p ps k j is lt = omega (arith, length-append p (joined ps))

first : {X : Type 0} (n : ℕ) (p : List X) (ps : List (List X)) (j : ℕ) → IsFilled n (p ∷ ps) → 0 * n + j < length (joined (p ∷ ps)) → j < n → j < length p
first n p [] j is lt below = omega (arith, length-append p [])
first n p (q ∷ ps) j is lt below = omega (arith, is.1 (omega arith))

-- the part is one of the parts
part_within : {X : Type 0} (n : ℕ) (ps : List (List X)) (k j : ℕ) → IsFilled n ps → k * n + j < length (joined ps) → j < n → k < length ps
part_within n [] k j is lt below = absurd (omega arith)
part_within n (p ∷ ps) zero j is lt below = omega arith
part_within n (p ∷ ps) (suc k) j is lt below =
    let within : k < length ps = part_within n ps k j is.2 (later n p ps k j (full n p ps k j is lt below) lt) below in
    omega arith

-- the place in it is one of its places
place_within : {X : Type 0} (n : ℕ) (ps : List (List X)) (k j : ℕ) (d : List X) → IsFilled n ps → k * n + j < length (joined ps) → j < n
    → j < length (get_or ps k d)
place_within n [] k j d is lt below = absurd (omega arith)
place_within n (p ∷ ps) zero j d is lt below = first n p ps j is lt below
place_within n (p ∷ ps) (suc k) j d is lt below = place_within n ps k j d is.2 (later n p ps k j (full n p ps k j is lt below) lt) below

-- what stands there
slice_get-joined : {X : Type 0} (n : ℕ) (ps : List (List X)) (k j : ℕ) (d : List X) → IsFilled n ps → k * n + j < length (joined ps) → j < n
    → slice_get (joined ps) (k * n + j) ≡ slice_get (get_or ps k d) j
slice_get-joined n [] k j d is lt below = absurd (omega arith)
slice_get-joined n (p ∷ ps) zero j d is lt below =
    let e : 0 * n + j ≡ j = omega arith in
    ap (slice_get (p ++ joined ps)) e ∙ slice_get-append_left p (joined ps) j (first n p ps j is lt below)
slice_get-joined n (p ∷ ps) (suc k) j d is lt below =
    let whole : length p ≡ n = full n p ps k j is lt below in
    let e : suc k * n + j ≡ length p + (k * n + j) = omega arith in
    ap (slice_get (p ++ joined ps)) e ∙ slice_get-append_right p (joined ps) (k * n + j) ∙ slice_get-joined n ps k j d is.2 (later n p ps k j whole lt) below

-- a write there
joined-set : {X : Type 0} (n : ℕ) (ps : List (List X)) (k j : ℕ) (d : List X) (x : X) → IsFilled n ps → k * n + j < length (joined ps) → j < n
    → joined (set ps k (set (get_or ps k d) j x)) ≡ set (joined ps) (k * n + j) x
joined-set n [] k j d x is lt below = absurd (omega arith)
joined-set n (p ∷ ps) zero j d x is lt below =
    let e : 0 * n + j ≡ j = omega arith in
    sym (ap (λ (i : ℕ). set (p ++ joined ps) i x) e ∙ set-append_left p (joined ps) j x (first n p ps j is lt below))
joined-set n (p ∷ ps) (suc k) j d x is lt below =
    let whole : length p ≡ n = full n p ps k j is lt below in
    let e : suc k * n + j - n ≡ k * n + j = omega arith in
    ap (λ (xs : List _). p ++ xs) (joined-set n ps k j d x is.2 (later n p ps k j whole lt) below ∙ ap (λ (i : ℕ). set (joined ps) i x) (sym e))
    ∙ sym (set-append_right p (joined ps) n (suc k * n + j) x whole (omega arith))

-- a part of the same length
IsFilled-set : {X : Type 0} (n : ℕ) (ps : List (List X)) (k : ℕ) (d q : List X) → IsFilled n ps → length q ≡ length (get_or ps k d) → IsFilled n (set ps k q)
IsFilled-set n [] k d q is same = tt
IsFilled-set n (p ∷ ps) zero d q is same = (omega (arith, is.0), λ more. same ∙ is.1 more, is.2)
IsFilled-set n (p ∷ ps) (suc k) d q is same = (is.0, λ more. is.1 (omega (arith, length-set ps k q)), IsFilled-set n ps k d q is.2 same)

-- one more part
joined-push : {X : Type 0} (ps : List (List X)) (p : List X) → joined (ps ++ p ∷ []) ≡ joined ps ++ p
joined-push [] p = append-nil p
joined-push (q ∷ ps) p = ap (λ (xs : List _). q ++ xs) (joined-push ps p) ∙ sym (append_assoc q (joined ps) p)

AreFull-push : {X : Type 0} (n : ℕ) (ps : List (List X)) (p : List X) → AreFull n ps → length p ≡ n → AreFull n (ps ++ p ∷ [])
AreFull-push n [] p are is = (is, tt)
AreFull-push n (q ∷ ps) p are is = (are.0, AreFull-push n ps p are.1 is)

IsFilled-push : {X : Type 0} (n : ℕ) (ps : List (List X)) (p : List X) → AreFull n ps → length p ≤ n → IsFilled n (ps ++ p ∷ [])
IsFilled-push n [] p are le = (le, λ more. absurd (omega arith), tt)
IsFilled-push n (q ∷ ps) p are le = (omega (arith, are.0), λ more. are.0, IsFilled-push n ps p are.1 le)

-- The parts as they are kept: f k is the part that k keeps. Item i is item i % n of part i / n.
module _ {A X : Type 0} (f : A → List X) (n : ℕ) (ks : List A) (i : ℕ) (some : 0 < n) (is : IsFilled n (map f ks)) (lt : i < length (joined (map f ks))) where
  sum : i ≡ i / n * n + i % n
  sum = omega arith

  below : i % n < n
  below = omega arith

  placed : i / n * n + i % n < length (joined (map f ks))
  placed = omega (arith, sum)

  pub kept_within : i / n < length ks
  kept_within = omega (arith, part_within n (map f ks) (i / n) (i % n) is placed below, length-map ks f)

  kept_at : (a : A) → get_or (map f ks) (i / n) (f a) ≡ f (get_or ks (i / n) a)
  kept_at a = get_or-map f ks (i / n) a (f a) kept_within

  pub kept_place_within : (a : A) → i % n < length (f (get_or ks (i / n) a))
  kept_place_within a = omega (arith, ap length (kept_at a), place_within n (map f ks) (i / n) (i % n) (f a) is placed below)

  -- a read
  pub kept_read : (a : A) → slice_get (joined (map f ks)) i ≡ slice_get (f (get_or ks (i / n) a)) (i % n)
  kept_read a =
      ap (slice_get (joined (map f ks))) sum
      ∙ slice_get-joined n (map f ks) (i / n) (i % n) (f a) is placed below
      ∙ ap (λ (p : List X). slice_get p (i % n)) (kept_at a)

  -- a write of what is there
  pub kept_same : (a b : A) → f b ≡ f (get_or ks (i / n) a) → map f (set ks (i / n) b) ≡ map f ks
  kept_same a b same = map-set f ks (i / n) b ∙ ap (set (map f ks) (i / n)) (same ∙ sym (kept_at a)) ∙ set-get_or (map f ks) (i / n) (f a)

  -- a write
  pub kept_put : (a b : A) (x : X) → f b ≡ set (f (get_or ks (i / n) a)) (i % n) x → joined (map f (set ks (i / n) b)) ≡ set (joined (map f ks)) i x
  kept_put a b x put =
      ap joined (map-set f ks (i / n) b ∙ ap (set (map f ks) (i / n)) (put ∙ ap (λ (p : List X). set p (i % n) x) (sym (kept_at a))))
      ∙ joined-set n (map f ks) (i / n) (i % n) (f a) x is placed below
      ∙ ap (λ (h : ℕ). set (joined (map f ks)) h x) (sym sum)

  pub IsFilled-kept_put : (a b : A) (x : X) → f b ≡ set (f (get_or ks (i / n) a)) (i % n) x → IsFilled n (map f (set ks (i / n) b))
  IsFilled-kept_put a b x put =
      let same : length (f b) ≡ length (get_or (map f ks) (i / n) (f a)) = ap length put ∙ length-set (f (get_or ks (i / n) a)) (i % n) x
      ∙ sym (ap length (kept_at a)) in
      rw map-set (IsFilled-set n (map f ks) (i / n) (f a) (f b) is same)

-- one more part p, kept by k
module _ {A X : Type 0} (f : A → List X) (ks vs : List A) (k : A) (p : List X) (is : vs ≡ ks ++ k ∷ []) (keeps : f k ≡ p) where
  kept_push : map f vs ≡ map f ks ++ p ∷ []
  kept_push = ap (map f) is ∙ map_push f ks k ∙ ap (λ (q : List X). map f ks ++ q ∷ []) keeps

  -- which is full, with more after it
  pub held_more : (rest after items : List X) → joined (map f ks) ++ rest ≡ items → p ++ after ≡ rest → joined (map f vs) ++ after ≡ items
  held_more rest after items held more =
      ap (λ (xs : List X). xs ++ after) (ap joined kept_push ∙ joined-push (map f ks) p)
      ∙ append_assoc (joined (map f ks)) p after
      ∙ ap (λ (xs : List X). joined (map f ks) ++ xs) more
      ∙ held

  pub AreFull_more : (n : ℕ) → AreFull n (map f ks) → length p ≡ n → AreFull n (map f vs)
  AreFull_more n are whole = rw kept_push (AreFull-push n (map f ks) p are whole)

  -- which is the last
  pub held_last : (items : List X) → joined (map f ks) ++ p ≡ items → joined (map f vs) ≡ items
  held_last items held = ap joined kept_push ∙ joined-push (map f ks) p ∙ held

  pub IsFilled_last : (n : ℕ) → AreFull n (map f ks) → length p ≤ n → IsFilled n (map f vs)
  IsFilled_last n are le = rw kept_push (IsFilled-push n (map f ks) p are le)

-- one more part p before the others, kept by k, where the parts are kept from the last one on
module _ {A X : Type 0} (f : A → List X) (ks vs : List A) (k : A) (p : List X) (is : vs ≡ ks ++ k ∷ []) (keeps : f k ≡ p) where
  kept_front : map f (reverse vs) ≡ p ∷ map f (reverse ks)
  kept_front =
      ap (λ (xs : List A). map f (reverse xs)) is
      ∙ ap (map f) (reverse-append ks (k ∷ []))
      ∙ ap (λ (q : List X). q ∷ map f (reverse ks)) keeps

  pub held_front : (rest before items : List X) → rest ++ joined (map f (reverse ks)) ≡ items → before ++ p ≡ rest → before
      ++ joined (map f (reverse vs)) ≡ items
  held_front rest before items held more =
      ap (λ (ps : List (List X)). before ++ joined ps) kept_front
      ∙ sym (append_assoc before p (joined (map f (reverse ks))))
      ∙ ap (λ (xs : List X). xs ++ joined (map f (reverse ks))) more
      ∙ held

  pub IsFilled_front : (n : ℕ) → IsFilled n (map f (reverse ks)) → length p ≤ n → (0 < length ks → length p ≡ n) → IsFilled n (map f (reverse vs))
  IsFilled_front n are le whole = rw kept_front (le, λ more. whole (omega (arith, more, length-map (reverse ks) f, length-reverse ks)), are)

-- of parts that hold n items or more the first one has n
first_full : {X : Type 0} (n : ℕ) (p : List X) (ps : List (List X)) → IsFilled n (p ∷ ps) → n ≤ length (joined (p ∷ ps)) → length p ≡ n
first_full n p [] is le = omega (arith, is.0, length-append p [])
first_full n p (q ∷ ps) is le = is.1 (omega arith)

-- where k times n items are held, the first k parts are full
AreFull-take : {X : Type 0} (n k : ℕ) (ps : List (List X)) → IsFilled n ps → 0 < n → k * n ≤ length (joined ps) → AreFull n (take k ps)
AreFull-take n zero ps is some le = tt
AreFull-take n (suc k) [] is some le = absurd (omega (arith, some))
AreFull-take n (suc k) (p ∷ ps) is some le =
    let whole : length p ≡ n = first_full n p ps is (omega arith) in
    (whole, AreFull-take n k ps is.2 some (omega (arith, whole, length-append p (joined ps))))

-- and the items are theirs, and those behind
joined-take : {X : Type 0} (n k : ℕ) (ps : List (List X)) → IsFilled n ps → 0 < n → k * n ≤ length (joined ps) → joined (take k ps)
    ++ drop (k * n) (joined ps) ≡ joined ps
joined-take n zero ps is some le = let e : 0 * n ≡ 0 = omega arith in ap (λ (i : ℕ). drop i (joined ps)) e
joined-take n (suc k) [] is some le = absurd (omega (arith, some))
joined-take n (suc k) (p ∷ ps) is some le =
    let whole : length p ≡ n = first_full n p ps is (omega arith) in
    let e : suc k * n ≡ length p + k * n = omega arith in
    append_assoc p (joined (take k ps)) (drop (suc k * n) (p ++ joined ps))
    ∙ ap (λ (xs : List _). p ++ (joined (take k ps) ++ xs)) (ap (λ (i : ℕ). drop i (p ++ joined ps)) e ∙ drop-append-add p (joined ps) (k * n))
    ∙ ap (λ (xs : List _). p ++ xs) (joined-take n k ps is.2 some (omega (arith, whole, length-append p (joined ps))))

-- the items of parts, and of others behind them
joined-append : {X : Type 0} (ps qs : List (List X)) → joined (ps ++ qs) ≡ joined ps ++ joined qs
joined-append [] qs = refl
joined-append (p ∷ ps) qs = ap (λ (xs : List _). p ++ xs) (joined-append ps qs) ∙ sym (append_assoc p (joined ps) (joined qs))

-- filled parts behind full ones
IsFilled-append : {X : Type 0} (n : ℕ) (ps qs : List (List X)) → AreFull n ps → IsFilled n qs → IsFilled n (ps ++ qs)
IsFilled-append n [] qs are is = is
IsFilled-append n (p ∷ ps) qs are is = (omega (arith, are.0), λ more. are.0, IsFilled-append n ps qs are.1 is)

-- the first k of parts, as they are kept, which are full, and others behind these
module _ {A X : Type 0} (f : A → List X) (n k : ℕ) (ks more vs : List A) (some : 0 < n) (is : IsFilled n (map f ks)) (le : k * n ≤ length (joined (map f ks)))
    (next : vs ≡ take k ks ++ more) where
  kept_behind : map f vs ≡ take k (map f ks) ++ map f more
  kept_behind = ap (map f) next ∙ map-append f (take k ks) more ∙ ap (λ (ps : List (List X)). ps ++ map f more) (sym (take-map f k ks))

  pub IsFilled_behind : IsFilled n (map f more) → IsFilled n (map f vs)
  IsFilled_behind others = rw kept_behind (IsFilled-append n (take k (map f ks)) (map f more) (AreFull-take n k (map f ks) is some le) others)

  -- where the others hold what the list has behind the full ones, and then other items
  pub held_behind : (items : List X) → joined (map f more) ≡ drop (k * n) (joined (map f ks)) ++ items → joined (map f vs) ≡ joined (map f ks) ++ items
  held_behind items held =
      ap joined kept_behind
      ∙ joined-append (take k (map f ks)) (map f more)
      ∙ ap (λ (xs : List X). joined (take k (map f ks)) ++ xs) held
      ∙ sym (append_assoc (joined (take k (map f ks))) (drop (k * n) (joined (map f ks))) items)
      ∙ ap (λ (xs : List X). xs ++ items) (joined-take n k (map f ks) is some le)

  -- there are as many items as full parts and the others have
  pub length_behind : (items : List X) → joined (map f more) ≡ drop (k * n) (joined (map f ks)) ++ items
      → k * n + length (joined (map f more)) ≡ length (joined (map f vs))
  length_behind items held =
      omega (
        arith,
        le,
        ap length held,
        length-append (drop (k * n) (joined (map f ks))) items,
        length-drop (k * n) (joined (map f ks)),
        ap length
            (held_behind items held),
        length-append (joined (map f ks)) items,
      )

-- one more item is copied, from the place i on
pub one_copied : {X : Type 0} (xs all before after : List X) (i : ℕ) (x : X) → before ++ drop i xs ≡ all → slice_get xs i ≡ Some x → after ≡ before ++ x ∷ []
    → after ++ drop (i + 1) xs ≡ all
one_copied xs all before after i x held at next =
    ap (λ (ys : List _). ys ++ drop (i + 1) xs) next
    ∙ append_assoc before (x ∷ []) (drop (i + 1) xs)
    ∙ ap (λ (ys : List _). before ++ ys)
    (sym (drop_more xs i x (slice_get_within xs i x at) ∙ ap (λ (y : _). y ∷ drop (i + 1) xs) (get_or_from_slice_get xs i x x at)))
    ∙ held
