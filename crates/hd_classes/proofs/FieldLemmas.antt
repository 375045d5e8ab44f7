-- The fields of one class and of a layout, and the bytes of their values.
use Rattle.std.proofs.Common.{◌≡◌, ◌∙◌, ℕ, ◌+◌, ◌<◌, ◌≤◌, List, [], ◌∷◌, ◌++◌, length, get_or, take, drop, map, ap, arith, add-zero}
use Rattle.std.proofs.lemmas.List.{take_more, take_all, length-take, length-map, take-append-drop, map-append}
use Rattle.std.proofs.lemmas.List.Sums.{sum_by-append, sum_by-cons}
use Rattle.hd_terms.specs.declared.IdSize.{IdSize}
use Rattle.hd_terms.specs.Types.{value_len}
use Rattle.hd_terms.specs.Classes as classes_of
use Rattle.hd_terms.specs.Classes.{layout_len}
use Rattle.hd_classes.specs.declared.known.LayoutField.{LayoutField}
use Rattle.hd_classes.specs.Fields.{field_view}

-- the bytes of one field before others
pub layout_len-cons : (size : IdSize) (f : classes_of.LayoutField) (fs : List classes_of.LayoutField)
    → layout_len size (f ∷ fs) ≡ value_len size f.code + layout_len size fs
layout_len-cons size f fs = sum_by-cons (λ (x : classes_of.LayoutField). value_len size x.code) f fs

-- the first fields, as the definitions say them
abbrev pub first_fields : List LayoutField → ℕ → List classes_of.LayoutField
first_fields xs i = map field_view (take i xs)

-- one more field
pub one-more : (xs : List LayoutField) (i : ℕ) (d : LayoutField) → i < length xs → first_fields xs (i + 1) ≡ first_fields xs i
    ++ field_view (get_or xs i d) ∷ []
one-more xs i d lt = ap (map field_view) (take_more xs i d lt) ∙ map-append field_view (take i xs) (get_or xs i d ∷ [])

-- all of them
pub all-fields : (xs : List LayoutField) (i : ℕ) → length xs ≤ i → first_fields xs i ≡ map field_view xs
all-fields xs i past = ap (map field_view) (take_all i xs past)

pub length-first : (xs : List LayoutField) (i : ℕ) → i < length xs → length (first_fields xs i) ≡ i
length-first xs i lt = omega (arith, length-map (take i xs) field_view, length-take i xs)

-- the bytes of fields and of those behind them
pub len-append : (size : IdSize) (xs ys : List classes_of.LayoutField) → layout_len size (xs ++ ys) ≡ layout_len size xs + layout_len size ys
len-append size xs ys = sum_by-append (λ (f : classes_of.LayoutField). value_len size f.code) xs ys

pub len-one : (size : IdSize) (f : classes_of.LayoutField) → layout_len size (f ∷ []) ≡ value_len size f.code
len-one size f = layout_len-cons size f [] ∙ add-zero (value_len size f.code)

-- one more field's
pub bytes-more : (size : IdSize) (xs : List LayoutField) (i : ℕ) (d : LayoutField) → i < length xs → layout_len size (first_fields xs (i + 1)) ≡ layout_len size
    (first_fields xs i) + value_len size (get_or xs i d).code
bytes-more size xs i d lt =
    ap (layout_len size) (one-more xs i d lt)
    ∙ len-append size (first_fields xs i) (field_view (get_or xs i d) ∷ [])
    ∙ ap (λ (n : ℕ). layout_len size (first_fields xs i) + n) (len-one size (field_view (get_or xs i d)))

-- no more than those of all
pub bytes-within : (size : IdSize) (xs : List LayoutField) (i : ℕ) → layout_len size (first_fields xs i) ≤ layout_len size (map field_view xs)
bytes-within size xs i =
    omega (
      arith,
      ap (λ (ys : List LayoutField). layout_len size (map field_view ys)) (take-append-drop i xs),
      ap (layout_len size) (map-append field_view (take i xs) (drop i xs)),
      len-append size (map field_view (take i xs)) (map field_view (drop i xs)),
    )
