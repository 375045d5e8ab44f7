-- Lemmas on the rows of classes, and on the layouts that they make.
use Rattle.std.proofs.Common.{◌≡◌, ◌∙◌, ℕ, zero, suc, ◌+◌, ◌-◌, ◌<◌, ◌≤◌, List, [], ◌∷◌, ◌++◌, length, get_or, drop, Option, Some, None, refl, sym, ap, subst}
use Rattle.std.proofs.Common.{arith, add-zero, drop-drop}
use Rattle.std.specs.List.{slice_get, zip}
use Rattle.std.specs.Option.{option_map_or}
use Rattle.std.proofs.lemmas.List.{length_push, length-map}
use Rattle.std.proofs.lemmas.Option.{slice_get_past, some_pair_parts, slice_get-get_or}
use Rattle.std.proofs.Math.Seq.{drop-append_seam}
use Rattle.hd_terms.specs.Dump.{NamedField}
use Rattle.hd_names.specs.declared.field_table.FieldTable.{FieldTable}
use Rattle.hd_names.specs.Tables.{Row, rows_of, own_fields, numbered, layouts_from, layout_in, own_fields_in, IsBelow, AreEarlier}

-- a list with one element more
get-front : {X : Type 0} (xs : List X) (x : X) (j : ℕ) → j < length xs → slice_get (xs ++ x ∷ []) j ≡ slice_get xs j
get-front [] x j lt = absurd (omega arith)
get-front (y ∷ xs) x zero lt = refl
get-front (y ∷ xs) x (suc j) lt = get-front xs x j (omega arith)

get-last : {X : Type 0} (xs : List X) (x : X) → slice_get (xs ++ x ∷ []) (length xs) ≡ Some x
get-last [] x = refl
get-last (y ∷ xs) x = get-last xs x

-- what stands at a place of two lists side by side
same-some : {X : Type 0} (x y : X) → Some x ≡ Some y → x ≡ y
same-some x y e = cc

pub zip-first : {A B : Type 0} (xs : List A) (ys : List B) (i : ℕ) (a : A) (b : B) → slice_get (zip xs ys) i ≡ Some (a, b) → slice_get xs i ≡ Some a
zip-first [] ys i a b at = cc
zip-first (x ∷ xs) [] i a b at = cc
zip-first (x ∷ xs) (y ∷ ys) zero a b at = ap (λ (z : _). Some z) (some_pair_parts x a y b at).0
zip-first (x ∷ xs) (y ∷ ys) (suc i) a b at = zip-first xs ys i a b at

pub zip-some : {A B : Type 0} (xs : List A) (ys : List B) (i : ℕ) (a : A) (b : B) → slice_get xs i ≡ Some a → slice_get ys i ≡ Some b
    → slice_get (zip xs ys) i ≡ Some (a, b)
zip-some [] ys i a b p q = cc
zip-some (x ∷ xs) [] i a b p q = cc
zip-some (x ∷ xs) (y ∷ ys) zero a b p q = ap (λ (z : _). Some (z, y)) (same-some x a p) ∙ ap (λ (z : _). Some (a, z)) (same-some y b q)
zip-some (x ∷ xs) (y ∷ ys) (suc i) a b p q = zip-some xs ys i a b p q

pub zip-none_first : {A B : Type 0} (xs : List A) (ys : List B) (i : ℕ) → slice_get xs i ≡ None → slice_get (zip xs ys) i ≡ None
zip-none_first [] ys i p = refl
zip-none_first (x ∷ xs) [] i p = refl
zip-none_first (x ∷ xs) (y ∷ ys) zero p = cc
zip-none_first (x ∷ xs) (y ∷ ys) (suc i) p = zip-none_first xs ys i p

pub zip-none_second : {A B : Type 0} (xs : List A) (ys : List B) (i : ℕ) → slice_get ys i ≡ None → slice_get (zip xs ys) i ≡ None
zip-none_second [] ys i p = refl
zip-none_second (x ∷ xs) [] i p = refl
zip-none_second (x ∷ xs) (y ∷ ys) zero p = cc
zip-none_second (x ∷ xs) (y ∷ ys) (suc i) p = zip-none_second xs ys i p

none-past : {X : Type 0} (xs : List X) (i : ℕ) → slice_get xs i ≡ None → length xs ≤ i
none-past [] i e = omega arith
none-past (x ∷ xs) zero e = cc
none-past (x ∷ xs) (suc i) e = let rest = none-past xs i e in omega arith

-- layouts
abbrev Fields : Type 0
Fields = List NamedField

module _ (texts : List (List ℕ)) where
  abbrev next : List Fields → Row → Fields
  next before row = own_fields texts row ++ numbered before row.0.above

  -- the first layouts stay
  layouts-front : (rows : List Row) (before : List Fields) (j : ℕ) → j < length before → slice_get (layouts_from texts before rows) j ≡ slice_get before j
  layouts-front [] before j lt = refl
  layouts-front (row ∷ rows) before j lt =
      let fs = next before row in
      layouts-front rows (before ++ fs ∷ []) j (omega (arith, length_push before fs)) ∙ get-front before fs j lt

  numbered-front : (rows : List Row) (before : List Fields) (number : Option ℕ) → IsBelow (length before) number
      → numbered (layouts_from texts before rows) number ≡ numbered before number
  numbered-front rows before None below = refl
  numbered-front rows before (Some i) below = ap (λ (o : Option Fields). option_map_or (λ (fs : Fields). fs) o []) (layouts-front rows before i below)

  layouts-length : (rows : List Row) (before : List Fields) → length (layouts_from texts before rows) ≡ length before + length rows
  layouts-length [] before = sym (add-zero (length before))
  layouts-length (row ∷ rows) before = let fs = next before row in omega (arith, layouts-length rows (before ++ fs ∷ []), length_push before fs)

  -- the layout at a place is made from all layouts, where the row above stands before it
  layout-at : (rows : List Row) (before : List Fields) (i : ℕ) (row : Row) → slice_get rows i ≡ Some row → IsBelow (length before + i) row.0.above
      → slice_get (layouts_from texts before rows) (length before + i) ≡ Some (next (layouts_from texts before rows) row)
  layout-at [] before i row at below = cc
  layout-at (r ∷ rows) before zero row at below =
      let fs = next before r in
      let all = layouts_from texts before (r ∷ rows) in
      let same : r ≡ row = cc in
      let here : IsBelow (length before) row.0.above = subst (λ (n : ℕ). IsBelow n row.0.above) (add-zero (length before)) below in
      ap (slice_get all) (add-zero (length before))
      ∙ layouts-front rows (before ++ fs ∷ []) (length before) (omega (arith, length_push before fs))
      ∙ get-last before fs
      ∙ ap (λ (x : Row). Some (next before x)) same
      ∙ ap (λ (above : Fields). Some (own_fields texts row ++ above)) (sym (numbered-front (r ∷ rows) before row.0.above here))
  layout-at (r ∷ rows) before (suc i) row at below =
      let fs = next before r in
      let all = layouts_from texts before (r ∷ rows) in
      let e : length (before ++ fs ∷ []) + i ≡ length before + suc i = omega (arith, length_push before fs) in
      let rest = layout-at rows (before ++ fs ∷ []) i row at (subst (λ (n : ℕ). IsBelow n row.0.above) (sym e) below) in
      subst (λ (n : ℕ). slice_get all n ≡ Some (next all row)) e rest

-- a row's own fields stand before the layout above it
pub layout-here : (t : FieldTable) → AreEarlier t.rows.items → (i : ℕ) (row : Row) → slice_get (rows_of t) i ≡ Some row
    → layout_in t (Some i) ≡ own_fields t.texts row ++ layout_in t row.0.above
layout-here t earlier i row at =
    let all = layouts_from t.texts [] (rows_of t) in
    let e : length {A = Fields} [] + i ≡ i = omega arith in
    let below : IsBelow i row.0.above = earlier i row.0 (zip-first t.rows.items t.fields i row.0 row.1 at) in
    let whole : slice_get all i ≡ Some (next t.texts all row) =
    subst (λ (n : ℕ). slice_get all n ≡ Some (next t.texts all row)) e
    (layout-at t.texts (rows_of t) [] i row at (subst (λ (n : ℕ). IsBelow n row.0.above) (sym e) below)) in
    ap (λ (o : Option Fields). option_map_or (λ (fs : Fields). fs) o []) whole

-- where there is no row, there is no field
pub layout-none : (t : FieldTable) (i : ℕ) → slice_get (rows_of t) i ≡ None → layout_in t (Some i) ≡ []
layout-none t i none =
    let all = layouts_from t.texts [] (rows_of t) in
    ap (λ (o : Option Fields). option_map_or (λ (fs : Fields). fs) o [])
    (slice_get_past all i (omega (arith, layouts-length t.texts (rows_of t) [], none-past (rows_of t) i none)))

own-length : (texts : List (List ℕ)) (row : Row) → length (own_fields texts row) ≡ length row.1
own-length texts row = length-map row.1 (λ (n : ℕ). let f : NamedField = record { owner = row.0.class; name = slice_get texts n } in f)

-- the rows up to here are passed, and so is this one
pub pass-row : (t : FieldTable) → AreEarlier t.rows.items → (i : ℕ) (row : Row) → slice_get (rows_of t) i ≡ Some row → (field rest : ℕ) (whole : Fields)
    → rest ≤ field → length row.1 ≤ rest
    → drop (field - rest) whole ≡ layout_in t (Some i) → drop (field - (rest - length row.1)) whole ≡ layout_in t row.0.above
pass-row t earlier i row at field rest whole le long here =
    let own = own_fields t.texts row in
    let more : field - (rest - length row.1) ≡ (field - rest) + length own = omega (arith, own-length t.texts row) in
    ap (λ (n : ℕ). drop n whole) more
    ∙ sym (drop-drop (length own) (field - rest) whole)
    ∙ ap (drop (length own)) (here ∙ layout-here t earlier i row at)
    ∙ drop-append_seam own (layout_in t row.0.above)

-- an element behind those that are passed
pub get-passed : {X : Type 0} (xs : List X) (n i : ℕ) → slice_get (drop n xs) i ≡ slice_get xs (n + i)
get-passed xs zero i = ap (slice_get xs) (omega arith)
get-passed [] (suc n) i = refl
get-passed (x ∷ xs) (suc n) i = let e : suc n + i ≡ suc (n + i) = omega arith in get-passed xs n i ∙ ap (slice_get (x ∷ xs)) (sym e)

pub get-before : {X : Type 0} (xs ys : List X) (i : ℕ) → i < length xs → slice_get (xs ++ ys) i ≡ slice_get xs i
get-before [] ys i lt = absurd (omega arith)
get-before (x ∷ xs) ys zero lt = refl
get-before (x ∷ xs) ys (suc i) lt = get-before xs ys i (omega arith)

-- a field that the class of a row declares, as it stands in the layout that begins there
pub own-first : (t : FieldTable) → AreEarlier t.rows.items → (i : ℕ) (row : Row) → slice_get (rows_of t) i ≡ Some row → (rest : ℕ) → rest < length row.1
    → slice_get (own_fields_in t (Some i)) rest ≡ slice_get (layout_in t (Some i)) rest
own-first t earlier i row at rest lt =
    let own = own_fields t.texts row in
    let here : own_fields_in t (Some i) ≡ own = ap (λ (o : Option Row). option_map_or (own_fields t.texts) o []) at in
    ap (λ (fs : Fields). slice_get fs rest) here
    ∙ sym (get-before own (layout_in t row.0.above) rest (omega (arith, own-length t.texts row)))
    ∙ ap (λ (fs : Fields). slice_get fs rest) (sym (layout-here t earlier i row at))

-- a number above is lower
pub above-lower : (i : ℕ) (above : Option ℕ) → IsBelow i above → option_map_or (λ (n : ℕ). n + 1) above 0 < i + 1
above-lower i None below = omega arith
above-lower i (Some n) below = omega arith

-- an element that a slice has
pub slice-some : {X : Type 0} (xs : List X) (i : ℕ) (x : X) → i < length xs → ((d : X) → x ≡ get_or xs i d) → slice_get xs i ≡ Some x
slice-some xs i x lt is = slice_get-get_or xs i x lt ∙ ap (λ (y : _). Some y) (sym (is x))
