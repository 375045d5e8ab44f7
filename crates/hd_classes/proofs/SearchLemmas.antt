-- Lemmas on what is first in a list.
use Rattle.std.proofs.Common.{◌≡◌, ◌∙◌, ℕ, zero, suc, ◌+◌, ◌<◌, ◌≤◌, List, [], ◌∷◌, ◌++◌, length, get_or, map, take, drop, Option, Some, None, Bool, true}
use Rattle.std.proofs.Common.{false, not, cond, eqb, ltb, refl, sym, ap, subst, arith, All}
use Rattle.std.specs.List.{filter_map, cons_option, find, position, prefix_len, slice_get}
use Rattle.std.specs.Option.{option_map}
use Rattle.std.specs.Str.{bytes_eq}
use Rattle.std.proofs.lemmas.Bool.{lt-ltb, ltb-true}
use Rattle.std.proofs.lemmas.List.{take_more, take-append-drop}
use Rattle.std.proofs.lemmas.List.Elements.{filter_map-append, All-head, All-tail}
use Rattle.std.proofs.lemmas.Option.{slice_get_within, get_or_from_slice_get}
use Rattle.std.proofs.lemmas.Slice.Eq.{bytes_eq-Decides}
use Rattle.hd_terms.specs.declared.Span.{Span}
use Rattle.hd_terms.specs.declared.Text.{Text}
use Rattle.hd_classes.specs.Known.{IsTextWithin}

pub map-twice : {X Y Z : Type 0} (f : X → Y) (g : Y → Z) (xs : List X) → map g (map f xs) ≡ map (λ (x : X). g (f x)) xs
map-twice f g [] = refl
map-twice {X} {Y} {Z} f g (x ∷ xs) = ap (λ (zs : List Z). g (f x) ∷ zs) (map-twice f g xs)

-- what is given first
module _ {X Y : Type 0} (f : X → Option Y) (xs : List X) (i : ℕ) (x : X) where
  given-next : i < length xs → filter_map f (take i xs) ≡ [] → filter_map f (take (i + 1) xs) ≡ cons_option (f (get_or xs i x)) []
  given-next lt none =
      ap (filter_map f) (take_more xs i x lt) ∙ filter_map-append f (take i xs) (get_or xs i x ∷ [])
      ∙ ap (λ (ys : List Y). ys ++ cons_option (f (get_or xs i x)) []) none

  pub first-given : (y : Y) → i < length xs → filter_map f (take i xs) ≡ [] → f (get_or xs i x) ≡ Some y → slice_get (filter_map f xs) 0 ≡ Some y
  first-given y lt none is =
      ap (λ (zs : List X). slice_get (filter_map f zs) 0) (sym (take-append-drop (i + 1) xs))
      ∙ ap (λ (ys : List Y). slice_get ys 0) (filter_map-append f (take (i + 1) xs) (drop (i + 1) xs))
      ∙ ap (λ (ys : List Y). slice_get (ys ++ filter_map f (drop (i + 1) xs)) 0) (given-next lt none)
      ∙ ap (λ (o : Option Y). slice_get (cons_option o [] ++ filter_map f (drop (i + 1) xs)) 0) is

  pub none-given : i < length xs → filter_map f (take i xs) ≡ [] → f (get_or xs i x) ≡ None → filter_map f (take (i + 1) xs) ≡ []
  none-given lt none is = given-next lt none ∙ ap (λ (o : Option Y). cons_option o []) is

module _ {X Y : Type 0} (f : X → Option Y) (xs : List X) (i : ℕ) (x : X) (at : slice_get xs i ≡ Some x) where
  same-at : get_or xs i x ≡ x
  same-at = get_or_from_slice_get xs i x x at

  pub first-at : (y : Y) → filter_map f (take i xs) ≡ [] → f x ≡ Some y → slice_get (filter_map f xs) 0 ≡ Some y
  first-at y none is = first-given f xs i x y (slice_get_within xs i x at) none (ap f same-at ∙ is)

  pub none-at : filter_map f (take i xs) ≡ [] → f x ≡ None → filter_map f (take (i + 1) xs) ≡ []
  none-at none is = none-given f xs i x (slice_get_within xs i x at) none (ap f same-at ∙ is)

-- the place of the first that passes
module _ {X : Type 0} (p : X → Bool) where
  prefix-is : (xs : List X) (i : ℕ) (x : X) → slice_get xs i ≡ Some x → p x ≡ true → ((k : ℕ) (y : X) → k < i → slice_get xs k ≡ Some y → p y ≡ false)
      → prefix_len (λ (y : X). not (p y)) xs ≡ i
  prefix-is [] i x at passes before = cc
  prefix-is (z ∷ xs) zero x at passes before =
      let same : z ≡ x = cc in
      ap (λ (b : Bool). cond (not b) (1 + prefix_len (λ (y : X). not (p y)) xs) 0) (ap p same ∙ passes)
  prefix-is (z ∷ xs) (suc i) x at passes before =
      let rest = prefix-is xs i x at passes (λ (k : ℕ) (y : X) lt is. before (suc k) y (omega arith) is) in
      ap (λ (b : Bool). cond (not b) (1 + prefix_len (λ (y : X). not (p y)) xs) 0) (before zero z (omega arith) refl)
      ∙ ap (λ (n : ℕ). 1 + n) rest ∙ omega arith

  pub position-is : (xs : List X) (i : ℕ) (x : X) → slice_get xs i ≡ Some x → p x ≡ true → ((k : ℕ) (y : X) → k < i → slice_get xs k ≡ Some y → p y ≡ false)
      → position p xs ≡ Some i
  position-is xs i x at passes before =
      ap (λ (n : ℕ). cond (ltb n (length xs)) (Some n) None) (prefix-is xs i x at passes before)
      ∙ ap (λ (b : Bool). cond b (Some i) None) (lt-ltb i (length xs) (slice_get_within xs i x at))

  prefix-all : (xs : List X) → ((k : ℕ) (y : X) → k < length xs → slice_get xs k ≡ Some y → p y ≡ false) → prefix_len (λ (y : X). not (p y)) xs ≡ length xs
  prefix-all [] none = refl
  prefix-all (z ∷ xs) none =
      ap (λ (b : Bool). cond (not b) (1 + prefix_len (λ (y : X). not (p y)) xs) 0) (none zero z (omega arith) refl)
      ∙ ap (λ (n : ℕ). 1 + n) (prefix-all xs (λ (k : ℕ) (y : X) lt is. none (suc k) y (omega arith) is)) ∙ omega arith

  pub position-none : (xs : List X) → ((k : ℕ) (y : X) → k < length xs → slice_get xs k ≡ Some y → p y ≡ false) → position p xs ≡ None
  position-none xs none =
      ap (λ (n : ℕ). cond (ltb n (length xs)) (Some n) None) (prefix-all xs none)
      ∙ ap (λ (b : Bool). cond b (Some (length xs)) None) (not-less (length xs))
    where
      by : (n : ℕ) (b : Bool) → ltb n n ≡ b → ltb n n ≡ false
      by n true e = absurd (omega (arith, ltb-true n n e))
      by n false e = e

      not-less : (n : ℕ) → ltb n n ≡ false
      not-less n = by n (ltb n n) refl

module _ {X Y : Type 0} (f : X → Y) (p : Y → Bool) where
  prefix-map : (q : Y → Bool) (xs : List X) → prefix_len q (map f xs) ≡ prefix_len (λ (x : X). q (f x)) xs
  prefix-map q [] = refl
  prefix-map q (x ∷ xs) = ap (λ (n : ℕ). cond (q (f x)) (1 + n) 0) (prefix-map q xs)

  length-mapped : (xs : List X) → length (map f xs) ≡ length xs
  length-mapped [] = refl
  length-mapped (x ∷ xs) = ap suc (length-mapped xs)

  pub position-map : (xs : List X) → position p (map f xs) ≡ position (λ (x : X). p (f x)) xs
  position-map xs =
      ap (λ (n : ℕ). cond (ltb n (length (map f xs))) (Some n) None) (prefix-map (λ (y : Y). not (p y)) xs)
      ∙ ap (λ (m : ℕ). cond (ltb (prefix_len (λ (x : X). not (p (f x))) xs) m) (Some (prefix_len (λ (x : X). not (p (f x))) xs)) None) (length-mapped xs)

-- bytes that are alike one by one
module _ (f : ℕ → ℕ) where
  all-alike : (xs ys : List ℕ) → length xs ≡ length ys → ((k : ℕ) → k < length xs → f (get_or xs k 0) ≡ get_or ys k 0) → map f xs ≡ ys
  all-alike [] [] e same = refl
  all-alike [] (y ∷ ys) e same = absurd (omega arith)
  all-alike (x ∷ xs) [] e same = absurd (omega arith)
  all-alike (x ∷ xs) (y ∷ ys) e same =
      ap (λ (z : ℕ). z ∷ map f xs) (same zero (omega arith))
      ∙ ap (λ (zs : List ℕ). y ∷ zs) (all-alike xs ys (omega arith) (λ (k : ℕ) lt. same (suc k) (omega arith)))

  alike-at : (xs : List ℕ) (i : ℕ) → i < length xs → f (get_or xs i 0) ≡ get_or (map f xs) i 0
  alike-at [] i lt = absurd (omega arith)
  alike-at (x ∷ xs) zero lt = refl
  alike-at (x ∷ xs) (suc i) lt = alike-at xs i (omega arith)

  pub bytes-alike : (xs ys : List ℕ) → length xs ≡ length ys → ((k : ℕ) → k < length xs → f (get_or xs k 0) ≡ get_or ys k 0) → true ≡ bytes_eq (map f xs) ys
  bytes-alike xs ys e same = sym ((bytes_eq-Decides (map f xs) ys).1 (all-alike xs ys e same))

  pub bytes-differ : (xs ys : List ℕ) (i : ℕ) → i < length xs → (f (get_or xs i 0) ≡ get_or ys i 0 → ⊥) → false ≡ bytes_eq (map f xs) ys
  bytes-differ xs ys i lt other = by (bytes_eq (map f xs) ys) refl
    where
      by : (b : Bool) → bytes_eq (map f xs) ys ≡ b → false ≡ b
      by true e = absurd (other (alike-at xs i lt ∙ ap (λ (zs : List ℕ). get_or zs i 0) ((bytes_eq-Decides (map f xs) ys).0 e)))
      by false e = refl

-- what holds of all holds of one that is found
found-by : {X : Type 0} (P : X → Type 0) (b : Bool) (z x : X) (o : Option X) → P z → (o ≡ Some x → P x) → cond b (Some z) o ≡ Some x → P x
found-by P true z x o here there is = let same : z ≡ x = cc in subst P same here
found-by P false z x o here there is = there is

pub all-found : {X : Type 0} (P : X → Type 0) (p : X → Bool) (xs : List X) (x : X) → All P xs → find p xs ≡ Some x → P x
all-found P p [] x all is = cc
all-found P p (z ∷ xs) x all is = found-by P (p z) z x (find p xs) (All-head P z xs all) (all-found P p xs x (All-tail P z xs all)) is

text-by : (n : ℕ) (o : Option Text) (span : Span) → ((x : Text) → o ≡ Some x → IsTextWithin n x) → Some span ≡ option_map (λ (x : Text). x.text) o
    → span.start + span.len ≤ n
text-by n None span all is = absurd (none-some (sym is))
  where
    none-some : ◌≡◌ {A = Option Span} None (Some span) → ⊥
    none-some e = cc
text-by n (Some x) span all is = let same : x.text ≡ span = cc in let P : Span → Type 0 = λ (s : Span). s.start + s.len ≤ n in subst P same (all x refl)

-- a text that is found lies within the file
pub text-within : (n : ℕ) (texts : List Text) (id : ℕ) (span : Span) → All (IsTextWithin n) texts
    → Some span ≡ option_map (λ (x : Text). x.text) (find (λ (x : Text). eqb id x.id) texts) → span.start + span.len ≤ n
text-within n texts id span all is =
    text-by n (find (λ (x : Text). eqb id x.id) texts) span (λ (x : Text) e. all-found (IsTextWithin n) (λ (y : Text). eqb id y.id) texts x all e) is
