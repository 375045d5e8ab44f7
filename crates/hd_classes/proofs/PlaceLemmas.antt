-- Where the references among the values of fields lie.
use Rattle.std.proofs.Common.{◌≡◌, ◌∙◌, ℕ, suc, ◌+◌, ◌*◌, ◌<◌, ◌≤◌, List, [], ◌∷◌, ◌++◌, length, get_or, Bool, true, false, cond, eqb, refl, sym, ap, arith}
use Rattle.std.proofs.Common.{add-zero}
use Rattle.hd_terms.specs.declared.IdSize.{IdSize}
use Rattle.hd_terms.specs.declared.IdSize.TheVariants as sizes
use Rattle.hd_terms.specs.Records.{id_len}
use Rattle.hd_terms.specs.Types.{is_id_type, element_len, value_len}
use Rattle.hd_terms.specs.Classes as classes_of
use Rattle.hd_terms.specs.Classes.{layout_len}
use Rattle.hd_classes.specs.declared.known.LayoutField.{LayoutField}
use Rattle.hd_classes.specs.Fields.{field_view}
use Rattle.hd_classes.specs.Places.{reference_places}
use Rattle.hd_classes.proofs.FieldLemmas.{first_fields, one-more, layout_len-cons}

-- those of fields and of those behind them
pub places-append : (size : IdSize) (at : ℕ) (xs ys : List classes_of.LayoutField) → reference_places size at (xs ++ ys) ≡ reference_places size at xs
    ++ reference_places size (at + layout_len size xs) ys
places-append size at [] ys = ap (λ (n : ℕ). reference_places size n ys) (sym (add-zero at))
places-append size at (x ∷ xs) ys =
    let next = at + value_len size x.code in
    let offset : next + layout_len size xs ≡ at + layout_len size (x ∷ xs) = omega (arith, layout_len-cons size x xs) in
    by_type (is_id_type x.code) (places-append size next xs ys ∙ ap (λ (n : ℕ). reference_places size next xs ++ reference_places size n ys) offset)
  where
    by_type : (b : Bool) → reference_places size (at + value_len size x.code) (xs ++ ys) ≡ reference_places size (at + value_len size x.code) xs
        ++ reference_places size (at + layout_len size (x ∷ xs)) ys
        → cond b (at ∷ reference_places size (at + value_len size x.code) (xs ++ ys)) (reference_places size (at + value_len size x.code) (xs ++ ys))
        ≡ cond b (at ∷ reference_places size (at + value_len size x.code) xs) (reference_places size (at + value_len size x.code) xs)
        ++ reference_places size (at + layout_len size (x ∷ xs)) ys
    by_type true e = ap (λ (ps : List ℕ). at ∷ ps) e
    by_type false e = e

-- one more place, or none
pub places-more : (size : IdSize) (start : ℕ) (xs : List LayoutField) (i : ℕ) (d : LayoutField) → i < length xs → (b : Bool)
    → is_id_type (get_or xs i d).code ≡ b
    → reference_places size start (first_fields xs (i + 1)) ≡ reference_places size start (first_fields xs i)
    ++ cond b ((start + layout_len size (first_fields xs i)) ∷ []) []
places-more size start xs i d lt b is =
    ap (reference_places size start) (one-more xs i d lt)
    ∙ places-append size start (first_fields xs i) (field_view (get_or xs i d) ∷ [])
    ∙ ap (λ (c : Bool). reference_places size start (first_fields xs i) ++ cond c ((start + layout_len size (first_fields xs i)) ∷ []) []) is

-- a value has eight bytes at most
value-few : (size : IdSize) (code : ℕ) → value_len size code ≤ 8
value-few size code = either (is_id_type code) (id_len size) (element_len code) (id-few size) (element-few code)
  where
    either : (b : Bool) (x y : ℕ) → x ≤ 8 → y ≤ 8 → cond b x y ≤ 8
    either true x y small few = small
    either false x y small few = few

    id-few : (n : IdSize) → id_len n ≤ 8
    id-few sizes.Four = omega arith
    id-few sizes.Eight = omega arith

    element-few : (t : ℕ) → element_len t ≤ 8
    element-few t =
        either (eqb t 4) 1 _ (omega arith) (either (eqb t 5) 2 _ (omega arith) (either (eqb t 6) 4 _ (omega arith) (either (eqb t 7) 8 _ (omega arith)
        (either (eqb t 8) 1 _ (omega arith) (either (eqb t 9) 2 _ (omega arith) (either (eqb t 10) 4 8 (omega arith) (omega arith)))))))

-- so the values of a layout have eight for each field at most
pub layout-few : (size : IdSize) (fs : List classes_of.LayoutField) → layout_len size fs ≤ 8 * length fs
layout-few size [] = omega arith
layout-few size (f ∷ fs) = omega (arith, layout_len-cons size f fs, value-few size f.code, layout-few size fs)
