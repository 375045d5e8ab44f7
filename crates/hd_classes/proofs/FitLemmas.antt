-- The classes of a dump by their IDs and by their numbers, and the bytes of their layouts.
use Rattle.std.proofs.Common.{◌≡◌, ◌≢◌, ◌∙◌, ◌⊎◌, ℕ, zero, suc, ◌+◌, ◌-◌, ◌<◌, ◌≤◌, ◌^◌, inl, inr, List, [], ◌∷◌, length, get_or, set, length-set, Option, Some}
use Rattle.std.proofs.Common.{None, Bool, true, false, cond, eqb, refl, sym, ap, arith, All}
use Rattle.std.specs.Option.{option_map, option_map_or}
use Rattle.std.specs.List.{position_or_len, find, slice_get, slice_index_or}
use Rattle.std.specs.Map.{lookup}
use Rattle.std.proofs.lemmas.Bool.{cases_lt, lt-ltb}
use Rattle.std.proofs.lemmas.Option.{slice_get-get_or}
use Rattle.std.proofs.lemmas.List.Folds.{find_at}
use Rattle.std.proofs.lemmas.List.Sums.{position_or_len_is}
use Rattle.std.proofs.lemmas.List.Quantifiers.{position-Some}
use Rattle.std.proofs.lemmas.List.Elements.{All-head, All-tail}
use Rattle.hd_terms.specs.declared.EdgeKind.TheVariants as kinds
use Rattle.hd_terms.specs.declared.IdSize.{IdSize}
use Rattle.hd_terms.specs.Classes.{ResolvedClass, layout_len}
use Rattle.hd_classes.specs.Known.{Known, known_at, number_of, known_by_number}
use Rattle.hd_classes.specs.Fits.{length_by_number, IsMisfit, FitsClass}
use Rattle.hd_classes.specs.FitsInside.{AreSums}

-- the class of an ID is the first entry of that ID
abbrev has_id : ℕ → ℕ × ResolvedClass → Bool
has_id id p = eqb id p.0

abbrev second : ℕ × ResolvedClass → ResolvedClass
second p = p.1

lookup-find : (id : ℕ) (es : List (ℕ × ResolvedClass)) → lookup (λ (x : ℕ). eqb id x) es ≡ option_map second (find (has_id id) es)
lookup-find id [] = refl
lookup-find id (e ∷ es) = by_id (eqb id e.0) (lookup-find id es)
  where
    by_id : (b : Bool) → lookup (λ (x : ℕ). eqb id x) es ≡ option_map second (find (has_id id) es)
        → cond b (Some e.1) (lookup (λ (x : ℕ). eqb id x) es) ≡ option_map second (cond b (Some e) (find (has_id id) es))
    by_id true is = refl
    by_id false is = is

get-past : {X : Type 0} (xs : List X) (n : ℕ) → length xs ≤ n → slice_get xs n ≡ None
get-past [] n le = refl
get-past (x ∷ xs) zero le = absurd (omega arith)
get-past (x ∷ xs) (suc n) le = get-past xs n (omega arith)

-- a class that has a number is known, and one that has none isn't
pub numbered : (k : Known) (id i : ℕ) → number_of k id ≡ Some i → known_by_number k i ≡ known_at k id
numbered k id i is =
    let d : ℕ × ResolvedClass = (0, record { chain = []; layout = []; referent = None; kind = kinds.Strong }) in
    let at = position-Some (has_id id) k.classes i d is in
    let first : position_or_len (has_id id) k.classes ≡ i = position_or_len_is (has_id id) k.classes i d (omega (arith, at.0)) at.2 (λ lt. at.1) in
    ap (λ (n : ℕ). option_map second (slice_get k.classes n)) (sym first) ∙ ap (option_map second) (sym (find_at (has_id id) k.classes))
    ∙ sym (lookup-find id k.classes)

pub number-within : (k : Known) (id i : ℕ) → number_of k id ≡ Some i → i < length k.classes
number-within k id i is =
    let d : ℕ × ResolvedClass = (0, record { chain = []; layout = []; referent = None; kind = kinds.Strong }) in
    (position-Some (has_id id) k.classes i d is).0

pub unnumbered : (k : Known) (id : ℕ) → number_of k id ≡ None → known_at k id ≡ None
unnumbered k id is =
    let n = position_or_len (has_id id) k.classes in
    let past : length k.classes ≤ n = elim (cases_lt n (length k.classes)) [
      | inl less ↦ absurd (some_or_none n (sym (ap (λ (b : Bool). let o : Option ℕ = cond b (Some n) None in o) (lt-ltb n (length k.classes) less)) ∙ is))
      | inr le ↦ le
    ] in
    lookup-find id k.classes ∙ ap (option_map second) (find_at (has_id id) k.classes ∙ get-past k.classes n past)
  where
    some_or_none : (n : ℕ) → Some n ≡ None → ⊥
    some_or_none n e = cc

-- the class of a number
abbrev pub any_class : ℕ × ResolvedClass
any_class = (0, record { chain = []; layout = []; referent = None; kind = kinds.Strong })

abbrev pub class_at : Known → ℕ → ResolvedClass
class_at k i = (get_or k.classes i any_class).1

pub at-number : (k : Known) (i : ℕ) → i < length k.classes → known_by_number k i ≡ Some (class_at k i)
at-number k i lt = ap (option_map second) (slice_get-get_or k.classes i any_class lt)

-- the fields of a class of a number are few
pub few-fields : (es : List (ℕ × ResolvedClass)) (i : ℕ) (x : ResolvedClass) → All (λ (p : ℕ × ResolvedClass). length p.1.layout < 2 ^ 29) es
    → option_map second (slice_get es i) ≡ Some x → length x.layout < 2 ^ 29
few-fields [] i x all is = absurd cc
few-fields (e ∷ es) zero x all is = let same : e.1 ≡ x = cc in rw (← same) (All-head (λ (p : ℕ × ResolvedClass). length p.1.layout < 2 ^ 29) e es all)
few-fields (e ∷ es) (suc i) x all is = few-fields es i x (All-tail (λ (p : ℕ × ResolvedClass). length p.1.layout < 2 ^ 29) e es all) is

-- bytes that are kept of a class
pub kept-bytes : (size : IdSize) (k : Known) (sums : List ℕ) (i n : ℕ) → AreSums size k sums → 0 < slice_index_or sums i 0 → n ≡ slice_index_or sums i 0 - 1
    → n ≡ length_by_number size k i
kept-bytes size k sums i n h some less = by_number (slice_index_or sums i 0) refl some less
  where
    by_number : (m : ℕ) → slice_index_or sums i 0 ≡ m → 0 < m → n ≡ m - 1 → n ≡ length_by_number size k i
    by_number zero is some less = absurd (omega (arith, some))
    by_number (suc m) is some less = let same : n ≡ m = omega (arith, less) in same ∙ h.are i m is

-- one more
set-sum : (sums : List ℕ) (i j v m : ℕ) → slice_index_or (set sums i v) j 0 ≡ suc m → ((v ≡ suc m) × (j ≡ i)) ⊎ (slice_index_or sums j 0 ≡ suc m)
set-sum [] i j v m is = inr is
set-sum (x ∷ xs) zero zero v m is = inl (is, refl)
set-sum (x ∷ xs) zero (suc j) v m is = inr is
set-sum (x ∷ xs) (suc i) zero v m is = inr is
set-sum (x ∷ xs) (suc i) (suc j) v m is = elim (set-sum xs i j v m is) [
  | inl w ↦ inl (w.0, ap suc w.1)
  | inr old ↦ inr old
]

pub keep-bytes : (size : IdSize) (k : Known) (sums : List ℕ) (i n : ℕ) → AreSums size k sums → n ≡ length_by_number size k i
    → AreSums size k (set sums i (n + 1))
keep-bytes size k sums i n h is = record {
  count = length-set sums i (n + 1) ∙ h.count;
  short = h.short;
  are = λ j m at. elim (set-sum sums i j (n + 1) m at) [
    | inl w ↦ let same : m ≡ n = omega (arith, w.0) in same ∙ is ∙ ap (length_by_number size k) (sym w.1)
    | inr old ↦ h.are j m old
  ];
}

-- what is known of the class of an ID by its number
pub class-by-number : (size : IdSize) (k : Known) (i : ℕ) (x : ResolvedClass) → known_by_number k i ≡ Some x
    → layout_len size x.layout ≡ length_by_number size k i
class-by-number size k i x is = ap (λ (o : Option ResolvedClass). option_map_or (λ (y : ResolvedClass). layout_len size y.layout) o 0) (sym is)

-- values of `n` bytes, where the class of an ID has a number
pub fits-class : (size : IdSize) (k : Known) (id i len n : ℕ) → number_of k id ≡ Some i → n ≡ length_by_number size k i → n ≡ len
    → FitsClass size len (known_at k id) (known_by_number k i)
fits-class size k id i len n number bytes same =
    let is = at-number k i (number-within k id i number) in
    record {
      k = class_at k i;
      is = sym (numbered k id i number) ∙ is;
      numbered = is;
      same = sym same ∙ bytes ∙ sym (class-by-number size k i (class_at k i) is);
    }

pub is-misfit : (size : IdSize) (k : Known) (id i len : ℕ) → number_of k id ≡ Some i → len ≢ length_by_number size k i → IsMisfit size len (known_at k id)
is-misfit size k id i len number other =
    let is = at-number k i (number-within k id i number) in
    record {
      k = class_at k i;
      is = sym (numbered k id i number) ∙ is;
      other = λ same. other (same ∙ class-by-number size k i (class_at k i) is);
    }
