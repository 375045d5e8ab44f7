-- Lemmas on what the first of each key says.
use Rattle.std.proofs.Common.{◌≡◌, ◌≢◌, ◌∙◌, ◌⊎◌, inl, inr, ℕ, ◌+◌, ◌<◌, ◌≤◌, List, [], ◌∷◌, ◌++◌, length, get_or, take, Option, Some, None, Bool, true, false}
use Rattle.std.proofs.Common.{◌||◌, cond, eqb, refl, sym, ap, arith, subst, ne_eqb, eq-eqb}
use Rattle.std.specs.List.{find, list_any, slice_get}
use Rattle.std.specs.Option.{option_map, option_or, is_some}
use Rattle.std.specs.Map.{lookup}
use Rattle.std.proofs.lemmas.Bool.{false≢true}
use Rattle.std.proofs.lemmas.Bool.Decides.{eqb_tells}
use Rattle.std.proofs.lemmas.List.{take_more, length-take}
use Rattle.std.proofs.lemmas.List.Folds.{find-append}
use Rattle.std.proofs.lemmas.Option.{slice_get_within, get_or_from_slice_get}
use Rattle.hd_terms.specs.FirstRecords.{repeats}
use Rattle.hd_classes.specs.Sources.{KeepsFirst}
use Rattle.hd_classes.proofs.RepeatLemmas.{repeats-push, repeats-le}

-- the elements up to a place and the one there
pub take-next : {X : Type 0} (xs : List X) (i : ℕ) (x : X) → slice_get xs i ≡ Some x → take (i + 1) xs ≡ take i xs ++ x ∷ []
take-next {X} xs i x is = take_more xs i x (slice_get_within xs i x is) ∙ ap (λ (y : X). take i xs ++ y ∷ []) (get_or_from_slice_get xs i x x is)

pub none-from_map : {X Y : Type 0} (f : X → Y) (o : Option X) → option_map f o ≡ None → o ≡ None
none-from_map f None e = refl
none-from_map f (Some x) e = cc

pub option_or-none : {X : Type 0} (o : Option X) → option_or o None ≡ o
option_or-none None = refl
option_or-none (Some x) = refl

pub none-from_is_some : {X : Type 0} (o : Option X) → is_some o ≡ false → o ≡ None
none-from_is_some None e = refl
none-from_is_some (Some x) e = absurd (false≢true (sym e))

-- a value is kept by an ID by which none was, and one that was kept is put back
module _ {V : Type 0} (id : ℕ) (value : V) (before : List (ℕ × V)) where
  abbrev kept_by : List (ℕ × V) → ℕ → Option V
  kept_by entries k = lookup (λ (y : ℕ). eqb k y) entries

  -- another value is kept by the ID
  abbrev pub IsUpdated : List (ℕ × V) → V → List (ℕ × V) → Type 0
  IsUpdated entries v entries' = (k : ℕ) → kept_by entries' k ≡ cond (eqb id k) (Some v) (kept_by entries k)

  case-new : (k : ℕ) → kept_by before id ≡ None → ((eqb id k ≡ true) × (id ≡ k)) ⊎ ((eqb id k ≡ false) × (id ≢ k))
      → cond (eqb id k) (Some value) (kept_by before k) ≡ option_or (kept_by before k) (cond (eqb k id) (Some value) None)
  case-new k none (inl (t, e)) =
      ap (λ (b : Bool). cond b (Some value) (kept_by before k)) t
      ∙ ap (λ (b : Bool). cond b (Some value) None) (sym (eq-eqb k id (sym e)))
      ∙ ap (λ (o : Option V). option_or o (cond (eqb k id) (Some value) None)) (sym (ap (kept_by before) (sym e) ∙ none))
  case-new k none (inr (f, ne)) =
      ap (λ (b : Bool). cond b (Some value) (kept_by before k)) f
      ∙ sym (option_or-none (kept_by before k))
      ∙ ap (λ (b : Bool). option_or (kept_by before k) (cond b (Some value) None)) (sym (ne_eqb k id (λ (e : k ≡ id). ne (sym e))))

  pub first-new : (after : List (ℕ × V)) → kept_by before id ≡ None → IsUpdated before value after → KeepsFirst id value before after
  first-new after none more = λ (k : ℕ). more k ∙ case-new k none (eqb_tells id k)

  case-known : (k : ℕ) (first : V) → kept_by before id ≡ Some first → ((eqb id k ≡ true) × (id ≡ k)) ⊎ ((eqb id k ≡ false) × (id ≢ k))
      → cond (eqb id k) (Some first) (cond (eqb id k) (Some value) (kept_by before k)) ≡ option_or (kept_by before k) (cond (eqb k id) (Some value) None)
  case-known k first there (inl (t, e)) =
      ap (λ (b : Bool). cond b (Some first) (cond (eqb id k) (Some value) (kept_by before k))) t
      ∙ ap (λ (o : Option V). option_or o (cond (eqb k id) (Some value) None)) (sym (ap (kept_by before) (sym e) ∙ there))
  case-known k first there (inr (f, ne)) =
      ap (λ (b : Bool). cond b (Some first) (cond b (Some value) (kept_by before k))) f
      ∙ sym (option_or-none (kept_by before k))
      ∙ ap (λ (b : Bool). option_or (kept_by before k) (cond b (Some value) None)) (sym (ne_eqb k id (λ (e : k ≡ id). ne (sym e))))

  pub first-known : (first : V) (between after : List (ℕ × V)) → kept_by before id ≡ Some first → IsUpdated before value between → IsUpdated between first after
      → KeepsFirst id value before after
  first-known first between after there more back = λ (k : ℕ).
      back k ∙ ap (λ (o : Option V). cond (eqb id k) (Some first) o) (more k) ∙ case-known k first there (eqb_tells id k)

module _ {X V : Type 0} (key : X → ℕ) (val : X → V) where
  -- what the first element of each key says is kept by the key
  abbrev pub HasFirst : List X → List (ℕ × V) → Type 0
  HasFirst xs entries = (id : ℕ) → lookup (λ (y : ℕ). eqb id y) entries ≡ option_map val (find (λ (x : X). eqb id (key x)) xs)

  case-or : (o : Option X) (b : Bool) (x : X) → option_or (option_map val o) (cond b (Some (val x)) None) ≡ option_map val (option_or o (cond b (Some x) None))
  case-or (Some y) b x = refl
  case-or None true x = refl
  case-or None false x = refl

  -- one more
  pub first-next : (xs : List X) (x : X) (entries entries' : List (ℕ × V)) → KeepsFirst (key x) (val x) entries entries' → HasFirst xs entries
      → HasFirst (xs ++ x ∷ []) entries'
  first-next xs x entries entries' more h = λ (id : ℕ).
      let test : X → Bool = λ (z : X). eqb id (key z) in
      more id ∙ ap (λ (o : Option V). option_or o (cond (test x) (Some (val x)) None)) (h id) ∙ case-or (find test xs) (test x) x
      ∙ ap (option_map val) (sym (find-append test xs (x ∷ [])))

  -- the element at a place, after those before it
  pub next-first : (xs : List X) (i : ℕ) (d : X) (entries entries' : List (ℕ × V)) → i < length xs
      → KeepsFirst (key (get_or xs i d)) (val (get_or xs i d)) entries entries'
      → HasFirst (take i xs) entries → HasFirst (take (i + 1) xs) entries'
  next-first xs i d entries entries' lt more h =
      let P : List X → Type 0 = λ (ys : List X). HasFirst ys entries' in
      subst P (sym (take_more xs i d lt)) (first-next (take i xs) (get_or xs i d) entries entries' more h)

  some-map : (o : Option X) → is_some (option_map val o) ≡ is_some o
  some-map None = refl
  some-map (Some x) = refl

  case-find : (b c : Bool) (x : X) (o : Option X) → is_some o ≡ c → is_some (cond b (Some x) o) ≡ (b || c)
  case-find true c x o e = refl
  case-find false c x o e = e

  some-find : (p : X → Bool) (xs : List X) → is_some (find p xs) ≡ list_any p xs
  some-find p [] = refl
  some-find p (x ∷ xs) = case-find (p x) (list_any p xs) x (find p xs) (some-find p xs)

  -- how many are repeated, with one more
  pub more-repeated : (xs : List X) (x : X) (entries : List (ℕ × V)) (known : Bool) (repeated : ℕ) → known ≡ is_some (lookup (λ (y : ℕ). eqb (key x) y) entries)
      → HasFirst xs entries → repeated ≡ repeats key xs → repeated + cond known 1 0 ≡ repeats key (xs ++ x ∷ [])
  more-repeated xs x entries known repeated is h count =
      let test : X → Bool = λ (z : X). eqb (key x) (key z) in
      let was_known : known ≡ list_any test xs = is ∙ ap is_some (h (key x)) ∙ some-map (find test xs) ∙ some-find test xs in
      ap (λ (n : ℕ). n + cond known 1 0) count
      ∙ ap (λ (b : Bool). repeats key xs + cond b 1 0) was_known
      ∙ sym (repeats-push key xs x)

  -- how many are repeated, with the element at a place
  pub next-repeated : (xs : List X) (i : ℕ) (d : X) (entries : List (ℕ × V)) (known : Bool) (repeated : ℕ) → i < length xs
      → known ≡ is_some (lookup (λ (y : ℕ). eqb (key (get_or xs i d)) y) entries)
      → HasFirst (take i xs) entries → repeated ≡ repeats key (take i xs) → repeated + cond known 1 0 ≡ repeats key (take (i + 1) xs)
  next-repeated xs i d entries known repeated lt is h count =
      more-repeated (take i xs) (get_or xs i d) entries known repeated is h count ∙ ap (repeats key) (sym (take_more xs i d lt))

  -- no more are repeated than there are
  pub repeated-le : (xs : List X) (i : ℕ) (repeated : ℕ) → repeated ≡ repeats key (take i xs) → repeated ≤ i
  repeated-le xs i repeated count = omega (arith, count, repeats-le key (take i xs), length-take i xs)
