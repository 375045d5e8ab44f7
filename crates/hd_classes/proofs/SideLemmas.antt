-- Lemmas on the texts of two sides: what is found by the texts of both, and how many of them are repeated.
use Rattle.std.proofs.Common.{◌≡◌, ◌∙◌, ℕ, ◌+◌, ◌<◌, ◌≤◌, ◌/◌, ◌%◌, List, [], ◌∷◌, ◌++◌, length, get_or, take, Option, Some, None, Bool, true, false, cond, eqb}
use Rattle.std.proofs.Common.{eqb-true, refl, sym, ap, arith, subst}
use Rattle.std.specs.Prelude.{not, is_some}
use Rattle.std.specs.List.{find, filter}
use Rattle.std.specs.Option.{option_map, option_or}
use Rattle.std.specs.Map.{lookup}
use Rattle.std.proofs.lemmas.Bool.{false≢true}
use Rattle.std.proofs.lemmas.List.{append-nil, length-take}
use Rattle.std.proofs.lemmas.List.Elements.{filter-append, filter_more}
use Rattle.std.proofs.lemmas.List.Sums.{length-filter, count_by-le-length}
use Rattle.std.proofs.lemmas.Map.Views.{any-filter_same}
use Rattle.hd_terms.specs.declared.Span.{Span}
use Rattle.hd_terms.specs.declared.Text.{Text}
use Rattle.hd_terms.specs.FirstRecords.{repeats}
use Rattle.hd_classes.specs.Sources.{HasFirstTexts, KeepsFirst, is_on_side, texts_of_side, AreFirstOfSide}
use Rattle.hd_classes.proofs.FirstLemmas.{is_known}
use Rattle.hd_classes.proofs.RepeatLemmas.{repeats_from, repeats-are, repeats-le}
use Rattle.hd_classes.proofs.NameLemmas.{option_or-none, first-next, more-repeated}

-- what is found in one list after another
module _ {K X : Type 0} (test : K → Bool) where
  case-entry : (b : Bool) (v : X) (here rest : Option X) → cond b (Some v) (option_or here rest) ≡ option_or (cond b (Some v) here) rest
  case-entry true v here rest = refl
  case-entry false v here rest = refl

  pub lookup-append : (es fs : List (K × X)) → lookup test (es ++ fs) ≡ option_or (lookup test es) (lookup test fs)
  lookup-append [] fs = refl
  lookup-append (e ∷ es) fs = ap (cond (test e.0) (Some e.1)) (lookup-append es fs) ∙ case-entry (test e.0) e.1 (lookup test es) (lookup test fs)

  -- what is found in the first list, or else in the second
  pub in-first : (es fs : List (K × X)) (v : X) → Some v ≡ lookup test es → Some v ≡ lookup test (es ++ fs)
  in-first es fs v is = ap (λ (o : Option X). option_or o (lookup test fs)) is ∙ sym (lookup-append es fs)

  pub in-second : (es fs : List (K × X)) (found : Option X) → None ≡ lookup test es → found ≡ lookup test fs → found ≡ lookup test (es ++ fs)
  in-second es fs found none is = is ∙ ap (λ (o : Option X). option_or o (lookup test fs)) none ∙ sym (lookup-append es fs)

-- what is found in a part of a list, where all that the test may find is on one side
module _ {X : Type 0} (test p : X → Bool) (b : Bool) (same : (x : X) → test x ≡ true → p x ≡ b) where
  case-same : (o : Option X) (c : Bool) → o ≡ cond c o o
  case-same o true = refl
  case-same o false = refl

  case-find : (x : X) (xs : List X) (found : Option X) (t q c : Bool) → test x ≡ t → (t ≡ true → q ≡ c) → find test xs ≡ cond c found None
      → find test (cond q (x ∷ xs) xs) ≡ cond c (cond t (Some x) found) None
  case-find x xs found false true c e h is = ap (λ (t : Bool). cond t (Some x) (find test xs)) e ∙ is
  case-find x xs found false false c e h is = is
  case-find x xs found true true true e h is = ap (λ (t : Bool). cond t (Some x) (find test xs)) e
  case-find x xs found true true false e h is = absurd (false≢true (sym (h refl)))
  case-find x xs found true false true e h is = absurd (false≢true (h refl))
  case-find x xs found true false false e h is = is

  pub find-filter : (xs : List X) → find test (filter p xs) ≡ cond b (find test xs) None
  find-filter [] = case-same None b
  find-filter (x ∷ xs) = case-find x (filter p xs) (find test xs) (test x) (p x) b refl (same x) (find-filter xs)

-- how many of a part have the key of an earlier one, where the key tells the part
module _ {X : Type 0} (key : X → ℕ) (p : ℕ → Bool) where
  abbrev part : List X → List X
  part xs = filter (λ (x : X). p (key x)) xs

  -- those of the part that are known are all of that key
  part-known : (before : List X) (x : X) → p (key x) ≡ true → is_known key (part before) x ≡ is_known key before x
  part-known before x on = any-filter_same (λ (y : X). eqb (key x) (key y)) (λ (y : X). p (key y)) true (λ (y : X) e. ap p (sym (eqb-true (key x) (key y) e))
      ∙ on) before

  case-zero : (n : ℕ) → n ≡ 0 + n
  case-zero n = omega arith

  case-step : (before : List X) (x : X) (xs : List X) (b : Bool) → p (key x) ≡ b
      → repeats_from key (part before) (cond b (x ∷ part xs) (part xs)) ≡ cond b (cond (is_known key before x) 1 0) 0 + repeats_from key
      (part before ++ cond b (x ∷ []) []) (part xs)
  case-step before x xs true on = ap (λ (k : Bool). cond k 1 0 + repeats_from key (part before ++ x ∷ []) (part xs)) (part-known before x on)
  case-step before x xs false off = ap (λ (ys : List X). repeats_from key ys (part xs)) (sym (append-nil (part before)))
      ∙ case-zero (repeats_from key (part before ++ []) (part xs))

  part-step : (before : List X) (x : X) (xs : List X) → repeats_from key (part before) (part (x ∷ xs)) ≡ cond (p (key x))
      (cond (is_known key before x) 1 0) 0 + repeats_from key (part (before ++ x ∷ [])) (part xs)
  part-step before x xs =
      case-step before x xs (p (key x)) refl
      ∙ ap (λ (ys : List X). cond (p (key x)) (cond (is_known key before x) 1 0) 0 + repeats_from key ys (part xs))
      (sym (filter-append (λ (y : X). p (key y)) before (x ∷ [])))

module _ {X : Type 0} (key : X → ℕ) (p : ℕ → Bool) where
  abbrev others : ℕ → Bool
  others k = not (p k)

  case-sum : (b : Bool) (n m k : ℕ) → n + (m + k) ≡ (cond (not b) n 0 + m) + (cond b n 0 + k)
  case-sum true n m k = omega arith
  case-sum false n m k = omega arith

  repeats_from-parts : (before xs : List X) → repeats_from key before xs ≡ repeats_from key (part key others before) (part key others xs) + repeats_from key
      (part key p before) (part key p xs)
  repeats_from-parts before [] = refl
  repeats_from-parts before (x ∷ xs) =
      let n : ℕ = cond (is_known key before x) 1 0 in
      let m : ℕ = repeats_from key (part key others (before ++ x ∷ [])) (part key others xs) in
      let k : ℕ = repeats_from key (part key p (before ++ x ∷ [])) (part key p xs) in
      ap (λ (r : ℕ). n + r) (repeats_from-parts (before ++ x ∷ []) xs)
      ∙ case-sum (p (key x)) n m k
      ∙ ap (λ (r : ℕ). r + (cond (p (key x)) n 0 + k)) (sym (part-step key others before x xs))
      ∙ ap (λ (r : ℕ). repeats_from key (part key others before) (part key others (x ∷ xs)) + r) (sym (part-step key p before x xs))

  -- those of all are those of both parts
  pub repeats-parts : (xs : List X) → repeats key xs ≡ repeats key (part key others xs) + repeats key (part key p xs)
  repeats-parts xs =
      repeats-are key xs
      ∙ repeats_from-parts [] xs
      ∙ ap (λ (n : ℕ). n + repeats_from key [] (part key p xs)) (sym (repeats-are key (part key others xs)))
      ∙ ap (λ (n : ℕ). repeats key (part key others xs) + n) (sym (repeats-are key (part key p xs)))

abbrev id_of : Text → ℕ
id_of x = x.id

abbrev span_of : Text → Span
span_of x = x.text

-- one text after another, of a side
module _ (odd : Bool) (xs : List Text) (i : ℕ) (d : Text) (entries : List (ℕ × Span)) (repeated : ℕ) (within : i < length xs)
    (before : AreFirstOfSide odd (take i xs) entries repeated) where
  abbrev text : Text
  text = get_or xs i d

  abbrev IsFirst : List Text → List (ℕ × Span) → ℕ → Type 0
  IsFirst ys es n = HasFirstTexts ys es × (n ≡ repeats id_of ys)

  -- the texts of the side up to this one
  of_side : (b : Bool) → is_on_side odd text.id ≡ b → texts_of_side odd (take (i + 1) xs) ≡ texts_of_side odd (take i xs) ++ cond b (text ∷ []) []
  of_side b is = filter_more (λ (x : Text). is_on_side odd x.id) xs i d within ∙ ap (λ (c : Bool). texts_of_side odd (take i xs) ++ cond c (text ∷ []) []) is

  -- a text of the other side changes nothing
  pub side-other : is_on_side odd text.id ≡ false → AreFirstOfSide odd (take (i + 1) xs) entries repeated
  side-other off =
      let p = subst (λ (ys : List Text). IsFirst ys entries repeated) (sym (of_side false off ∙ append-nil (texts_of_side odd (take i xs))))
      (before.texts, before.count) in
      record { texts = p.0; count = p.1 }

  -- a text of the side is kept unless its ID is known, and counted if it is
  side-next : is_on_side odd text.id ≡ true → (entries' : List (ℕ × Span)) (known : Bool) → known ≡ is_some (lookup (λ (y : ℕ). eqb text.id y) entries)
      → KeepsFirst text.id text.text entries entries'
      → AreFirstOfSide odd (take (i + 1) xs) entries' (repeated + cond known 1 0)
  side-next on entries' known is more =
      let ys = texts_of_side odd (take i xs) in
      let p = subst (λ (zs : List Text). IsFirst zs entries' (repeated + cond known 1 0)) (sym (of_side true on)) (
        first-next id_of span_of ys text entries entries' more before.texts,
        more-repeated id_of span_of ys text entries known repeated is before.texts
            before.count,
      ) in
      record { texts = p.0; count = p.1 }

  pub side-known : is_on_side odd text.id ≡ true → (entries' : List (ℕ × Span)) → true ≡ is_some (lookup (λ (y : ℕ). eqb text.id y) entries)
      → KeepsFirst text.id text.text entries entries'
      → AreFirstOfSide odd (take (i + 1) xs) entries' (repeated + 1)
  side-known on entries' is more = side-next on entries' true is more

  pub side-new : is_on_side odd text.id ≡ true → (entries' : List (ℕ × Span)) → false ≡ is_some (lookup (λ (y : ℕ). eqb text.id y) entries)
      → KeepsFirst text.id text.text entries entries'
      → AreFirstOfSide odd (take (i + 1) xs) entries' repeated
  side-new on entries' is more =
      let same : repeated + 0 ≡ repeated = omega arith in
      subst (λ (n : ℕ). AreFirstOfSide odd (take (i + 1) xs) entries' n) same (side-next on entries' false is more)

-- no more are repeated than there are
pub side-le : (odd : Bool) (xs : List Text) (i : ℕ) (entries : List (ℕ × Span)) (repeated : ℕ) → AreFirstOfSide odd (take i xs) entries repeated → repeated ≤ i
side-le odd xs i entries repeated before =
    let p = λ (x : Text). is_on_side odd x.id in
    omega (
      arith,
      before.count,
      repeats-le id_of (texts_of_side odd (take i xs)),
      length-filter p (take i xs),
      count_by-le-length p
          (take i xs),
      length-take i xs,
    )

-- the texts of both sides are all texts
module _ (strings : List Text) where
  side-same : (odd : Bool) (id : ℕ) (x : Text) → eqb id x.id ≡ true → is_on_side odd x.id ≡ is_on_side odd id
  side-same odd id x e = ap (is_on_side odd) (sym (eqb-true id x.id e))

  case-sides : (b : Bool) (o : Option Text) → option_or (option_map span_of (cond (not b) o None)) (option_map span_of (cond b o None)) ≡ option_map span_of o
  case-sides true o = refl
  case-sides false o = option_or-none (option_map span_of o)

  found-in : (odd : Bool) (id : ℕ) → find (λ (x : Text). eqb id x.id) (texts_of_side odd strings) ≡ cond (is_on_side odd id)
      (find (λ (x : Text). eqb id x.id) strings) None
  found-in odd id = find-filter (λ (x : Text). eqb id x.id) (λ (x : Text). is_on_side odd x.id) (is_on_side odd id) (side-same odd id) strings

  pub both-texts : (even odd : List (ℕ × Span)) → HasFirstTexts (texts_of_side false strings) even → HasFirstTexts (texts_of_side true strings) odd
      → HasFirstTexts strings (even ++ odd)
  both-texts even odd h k = λ (id : ℕ).
      let test : ℕ → Bool = λ (x : ℕ). eqb id x in
      let found = find (λ (x : Text). eqb id x.id) strings in
      lookup-append test even odd
      ∙ ap (λ (o : Option Span). option_or o (lookup test odd)) (h id ∙ ap (option_map span_of) (found-in false id))
      ∙ ap (λ (o : Option Span). option_or (option_map span_of (cond (is_on_side false id) found None)) o) (k id ∙ ap (option_map span_of) (found-in true id))
      ∙ case-sides (eqb (id / 8 % 2) 1) found

  pub both-counts : (n m : ℕ) → n ≡ repeats id_of (texts_of_side false strings) → m ≡ repeats id_of (texts_of_side true strings) → n + m ≡ repeats id_of strings
  both-counts n m is also = ap (λ (k : ℕ). k + m) is ∙ ap (λ (k : ℕ). repeats id_of (texts_of_side false strings) + k) also
      ∙ sym (repeats-parts id_of (λ (id : ℕ). eqb (id / 8 % 2) 1) strings)

  -- so they are no more than there are texts
  pub both-le : (n m : ℕ) → n ≡ repeats id_of (texts_of_side false strings) → m ≡ repeats id_of (texts_of_side true strings) → n + m ≤ length strings
  both-le n m is also = omega (arith, both-counts n m is also, repeats-le id_of strings)
