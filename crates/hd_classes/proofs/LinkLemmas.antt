-- Lemmas on linked classes.
use Rattle.std.proofs.Common.{◌≡◌, ◌∙◌, ◌⊎◌, inl, inr, ℕ, zero, suc, ◌+◌, ◌<◌, ◌≤◌, List, [], ◌∷◌, ◌++◌, length, map, Option, Some, None, Bool, true, false}
use Rattle.std.proofs.Common.{not, cond, eqb, ltb, refl, sym, ap, subst, arith, add-zero, append_assoc}
use Rattle.std.specs.List.{slice_get, position, prefix_len}
use Rattle.std.specs.Option.{option_map, option_map_or}
use Rattle.std.specs.Map.{lookup, keys_of, values_of}
use Rattle.std.proofs.lemmas.Bool.Decides.{eqb_tells}
use Rattle.std.proofs.lemmas.List.{length_push}
use Rattle.std.proofs.lemmas.Option.{slice_get_past}
use Rattle.std.proofs.lemmas.Map.Made.{lookup-map_values}
use Rattle.hd_terms.specs.declared.EdgeKind.{EdgeKind}
use Rattle.hd_terms.specs.Classes.{LayoutField, ResolvedClass}
use Rattle.hd_classes.specs.declared.known.LayoutField as declared_field
use Rattle.hd_classes.specs.declared.linked.LinkedClass.{LinkedClass}
use Rattle.hd_classes.specs.Fields.{field_view}
use Rattle.hd_classes.specs.Links.{Row, View, nothing, numbered, class_under, view_of, views_from, views, IsBelow, fields_at, Declares, IsLinked}
use Rattle.hd_classes.specs.Links.{first_declaring}

-- elements of a list with one more at its end
pub get-front : {X : Type 0} (xs : List X) (x : X) (j : ℕ) → j < length xs → slice_get (xs ++ x ∷ []) j ≡ slice_get xs j
get-front [] x j lt = absurd (omega arith)
get-front (y ∷ xs) x zero lt = refl
get-front (y ∷ xs) x (suc j) lt = get-front xs x j (omega arith)

pub get-last : {X : Type 0} (xs : List X) (x : X) → slice_get (xs ++ x ∷ []) (length xs) ≡ Some x
get-last [] x = refl
get-last (y ∷ xs) x = get-last xs x

-- the first views stay
pub views-front : (rows : List Row) (known : List View) (j : ℕ) → j < length known → slice_get (views_from known rows) j ≡ slice_get known j
views-front [] known j lt = refl
views-front (row ∷ rows) known j lt =
    let v = view_of known row in
    views-front rows (known ++ v ∷ []) j (omega (arith, length_push known v)) ∙ get-front known v j lt

pub numbered-front : (rows : List Row) (known : List View) (number : Option ℕ) → IsBelow (length known) number
    → numbered (views_from known rows) number ≡ numbered known number
numbered-front rows known None below = refl
numbered-front rows known (Some i) below = ap (λ (o : Option View). option_map_or (λ (p : View). p.1) o nothing) (views-front rows known i below)

-- one row more makes one view more
pub views-push : (rows : List Row) (known : List View) (row : Row) → views_from known (rows ++ row ∷ []) ≡ views_from known rows
    ++ view_of (views_from known rows) row ∷ []
views-push [] known row = refl
views-push (r ∷ rows) known row = views-push rows (known ++ view_of known r ∷ []) row

-- there are as many views as rows, and they have the rows' IDs
pub views-length : (rows : List Row) (known : List View) → length (views_from known rows) ≡ length known + length rows
views-length [] known = sym (add-zero (length known))
views-length (row ∷ rows) known = let v = view_of known row in omega (arith, views-length rows (known ++ v ∷ []), length_push known v)

keys-push : (known : List View) (v : View) → keys_of (known ++ v ∷ []) ≡ keys_of known ++ v.0 ∷ []
keys-push [] v = refl
keys-push (k ∷ known) v = ap (λ (ks : List ℕ). k.0 ∷ ks) (keys-push known v)

pub views-keys : (rows : List Row) (known : List View) → keys_of (views_from known rows) ≡ keys_of known ++ keys_of rows
views-keys [] known = sym (append-none (keys_of known))
  where
    append-none : (ks : List ℕ) → ks ++ [] ≡ ks
    append-none [] = refl
    append-none (k ∷ ks) = ap (λ (xs : List ℕ). k ∷ xs) (append-none ks)
views-keys (row ∷ rows) known =
    let v = view_of known row in
    views-keys rows (known ++ v ∷ []) ∙ ap (λ (ks : List ℕ). ks ++ keys_of rows) (keys-push known v) ∙ append_assoc (keys_of known) (row.0 ∷ []) (keys_of rows)

-- the view of the row at a place is made from all views, where its super class stands before it
view-same : (row : Row) (known known' : List View) → numbered known row.1.super_number ≡ numbered known' row.1.super_number
    → view_of known row ≡ view_of known' row
view-same row known known' e = ap (λ (above : ResolvedClass). let v : View = (row.0, class_under row above) in v) e

pub view-at : (rows : List Row) (known : List View) (i : ℕ) (row : Row) → slice_get rows i ≡ Some row → IsBelow (length known + i) row.1.super_number
    → slice_get (views_from known rows) (length known + i) ≡ Some (view_of (views_from known rows) row)
view-at [] known i row at below = cc
view-at (r ∷ rows) known zero row at below =
    let v = view_of known r in
    let all = views_from known (r ∷ rows) in
    let same : r ≡ row = cc in
    let here : IsBelow (length known) row.1.super_number = subst (λ (n : ℕ). IsBelow n row.1.super_number) (add-zero (length known)) below in
    ap (slice_get all) (add-zero (length known))
    ∙ views-front rows (known ++ v ∷ []) (length known) (omega (arith, length_push known v))
    ∙ get-last known v
    ∙ ap (λ (x : Row). Some (view_of known x)) same
    ∙ ap (λ (x : View). Some x) (view-same row known all (sym (numbered-front (r ∷ rows) known row.1.super_number here)))
view-at (r ∷ rows) known (suc i) row at below =
    let v = view_of known r in
    let all = views_from known (r ∷ rows) in
    let e : length (known ++ v ∷ []) + i ≡ length known + suc i = omega (arith, length_push known v) in
    let rest = view-at rows (known ++ v ∷ []) i row at (subst (λ (n : ℕ). IsBelow n row.1.super_number) (sym e) below) in
    subst (λ (n : ℕ). slice_get all n ≡ Some (view_of all row)) e rest

pub layout-length : (fs : List declared_field.LayoutField) (rest : List LayoutField) → length (map field_view fs ++ rest) ≡ length fs + length rest
layout-length [] rest = omega arith
layout-length (f ∷ fs) rest = omega (arith, layout-length fs rest)

-- linked rows
module _ (rows : List Row) (linked : IsLinked rows) (i : ℕ) (row : Row) (at : slice_get rows i ≡ Some row) where
  pub view-here : slice_get (views rows) i ≡ Some (view_of (views rows) row)
  view-here =
      let e : length {A = View} [] + i ≡ i = omega arith in
      subst (λ (n : ℕ). slice_get (views rows) n ≡ Some (view_of (views rows) row)) e
      (view-at rows [] i row at (subst (λ (n : ℕ). IsBelow n row.1.super_number) (sym e) (linked i row at).earlier))

  pub class-here : numbered (views rows) (Some i) ≡ class_under row (numbered (views rows) row.1.super_number)
  class-here = ap (λ (o : Option View). option_map_or (λ (p : View). p.1) o nothing) view-here

  pub chain-here : (numbered (views rows) (Some i)).chain ≡ row.0 ∷ (numbered (views rows) row.1.super_number).chain
  chain-here = ap (λ (k : ResolvedClass). k.chain) class-here

  pub layout-here : (numbered (views rows) (Some i)).layout ≡ map field_view row.1.fields.items ++ (numbered (views rows) row.1.fields_above).layout
  layout-here =
      ap (λ (k : ResolvedClass). k.layout) class-here ∙ ap (λ (fs : List LayoutField). map field_view row.1.fields.items ++ fs) (sym (linked i row at).skips)

  pub fields-here : fields_at rows i ≡ row.1.fields.items
  fields-here = ap (λ (o : Option Row). option_map_or (λ (r : Row). r.1.fields.items) o []) at

  -- from its first class that declares fields its layout is the same
  case-first : (b : Bool) → ((b ≡ true) × (length row.1.fields.items ≡ 0)) ⊎ ((b ≡ false) × (length row.1.fields.items ≡ 0 → ⊥))
      → ((numbered (views rows) (cond b row.1.fields_above (Some i))).layout ≡ (numbered (views rows) (Some i)).layout)
      × Declares rows (cond b row.1.fields_above (Some i))
  case-first true (inl (e, nil)) = (sym (layout-here ∙ none row.1.fields.items nil), (linked i row at).declares)
    where
      none : (fs : List declared_field.LayoutField) → length fs ≡ 0 → map field_view fs ++ (numbered (views rows) row.1.fields_above).layout ≡
          (numbered (views rows) row.1.fields_above).layout
      none [] z = refl
      none (f ∷ fs) z = absurd (omega arith)
  case-first true (inr (e, some)) = cc
  case-first false (inl (e, nil)) = cc
  case-first false (inr (e, some)) = (refl, omega (arith, some, ap (λ (fs : List declared_field.LayoutField). length fs) fields-here))

  pub first-layout : (numbered (views rows) (first_declaring i row.1)).layout ≡ (numbered (views rows) (Some i)).layout
  first-layout = (case-first (eqb (length row.1.fields.items) 0) (eqb_tells (length row.1.fields.items) 0)).0

  pub first-declares : Declares rows (first_declaring i row.1)
  first-declares = (case-first (eqb (length row.1.fields.items) 0) (eqb_tells (length row.1.fields.items) 0)).1

  pub layout-counted : length (numbered (views rows) (Some i)).layout ≡ row.1.layout_len
  layout-counted =
      ap (λ (k : ResolvedClass). length k.layout) class-here ∙ layout-length row.1.fields.items (numbered (views rows) row.1.super_number).layout
      ∙ (linked i row at).counted

-- behind the last row there is nothing
pub numbered-past : (rows : List Row) (i : ℕ) → length rows ≤ i → numbered (views rows) (Some i) ≡ nothing
numbered-past rows i past = ap (λ (o : Option View). option_map_or (λ (p : View). p.1) o nothing)
    (slice_get_past (views rows) i (omega (arith, views-length rows [], past)))

-- where none is found, there is none
pub none-past : (rows : List Row) (i : ℕ) → None ≡ slice_get rows i → numbered (views rows) (Some i) ≡ nothing
none-past rows i none = numbered-past rows i (past rows i (sym none))
  where
    past : (rows : List Row) (i : ℕ) → slice_get rows i ≡ None → length rows ≤ i
    past [] i e = omega arith
    past (row ∷ rows) zero e = cc
    past (row ∷ rows) (suc i) e = let rest = past rows i e in omega arith

-- what is found by an ID is at the ID's place
lookup-prefix : {X : Type 0} (test : ℕ → Bool) (es : List (ℕ × X)) → lookup test es ≡ option_map (λ (e : ℕ × X). e.1)
    (slice_get es (prefix_len (λ (x : ℕ). not (test x)) (keys_of es)))
lookup-prefix test [] = refl
lookup-prefix {X} test (e ∷ es) = by (test e.0) (lookup-prefix test es)
  where
    by : (b : Bool) → lookup test es ≡ option_map (λ (e : ℕ × X). e.1) (slice_get es (prefix_len (λ (x : ℕ). not (test x)) (keys_of es)))
        → cond b (Some e.1) (lookup test es) ≡ option_map (λ (e : ℕ × X). e.1)
        (slice_get (e ∷ es) (cond (not b) (1 + prefix_len (λ (x : ℕ). not (test x)) (keys_of es)) 0))
    by true h = refl
    by false h =
        let n = prefix_len (λ (x : ℕ). not (test x)) (keys_of es) in
        let same : suc n ≡ 1 + n = omega arith in
        h ∙ ap (λ (k : ℕ). option_map (λ (y : ℕ × X). y.1) (slice_get (e ∷ es) k)) same

case-place : (b : Bool) (n i : ℕ) → Some i ≡ cond b (Some n) None → i ≡ n
case-place true n i e = cc
case-place false n i e = cc

pub lookup-place : {X : Type 0} (test : ℕ → Bool) (es : List (ℕ × X)) (i : ℕ) → Some i ≡ position test (keys_of es)
    → lookup test es ≡ option_map (λ (e : ℕ × X). e.1) (slice_get es i)
lookup-place {X} test es i is =
    let n = prefix_len (λ (x : ℕ). not (test x)) (keys_of es) in
    lookup-prefix test es ∙ ap (λ (k : ℕ). option_map (λ (e : ℕ × X). e.1) (slice_get es k)) (sym (case-place (ltb n (length (keys_of es))) n i is))

-- the row at the place of a value
pub row-at : (rows : List Row) (i : ℕ) (class : LinkedClass) → slice_get (values_of rows) i ≡ Some class → (id : ℕ) × (slice_get rows i ≡ Some (id, class))
row-at [] i class at = cc
row-at (row ∷ rows) zero class at = let same : row.1 ≡ class = cc in (row.0, ap (λ (x : LinkedClass). Some (row.0, x)) same)
row-at (row ∷ rows) (suc i) class at = row-at rows i class at

-- the referent and the kind of a view are the row's
abbrev pub Facts : Type 0
Facts = Option ℕ × EdgeKind

abbrev pub view_facts : ResolvedClass → Facts
view_facts k = (k.referent, k.kind)

abbrev pub row_facts : LinkedClass → Facts
row_facts l = (l.referent, l.kind)

abbrev facts-of : List View → List (ℕ × Facts)
facts-of known = map (λ (p : View). (p.0, view_facts p.1)) known

facts-push : (known : List View) (v : View) → facts-of (known ++ v ∷ []) ≡ facts-of known ++ (v.0, view_facts v.1) ∷ []
facts-push [] v = refl
facts-push (k ∷ known) v = ap (λ (fs : List (ℕ × Facts)). (k.0, view_facts k.1) ∷ fs) (facts-push known v)

views-facts : (rows : List Row) (known : List View) → facts-of (views_from known rows) ≡ facts-of known ++ map (λ (r : Row). (r.0, row_facts r.1)) rows
views-facts [] known = sym (append-none (facts-of known))
  where
    append-none : (fs : List (ℕ × Facts)) → fs ++ [] ≡ fs
    append-none [] = refl
    append-none (f ∷ fs) = ap (λ (xs : List (ℕ × Facts)). f ∷ xs) (append-none fs)
views-facts (row ∷ rows) known =
    let v = view_of known row in
    views-facts rows (known ++ v ∷ []) ∙ ap (λ (fs : List (ℕ × Facts)). fs ++ map (λ (r : Row). (r.0, row_facts r.1)) rows) (facts-push known v)
    ∙ append_assoc (facts-of known) ((row.0, row_facts row.1) ∷ []) (map (λ (r : Row). (r.0, row_facts r.1)) rows)

pub lookup-facts : (test : ℕ → Bool) (rows : List Row) → option_map view_facts (lookup test (views rows)) ≡ option_map row_facts (lookup test rows)
lookup-facts test rows =
    sym (lookup-map_values view_facts test (views rows)) ∙ ap (lookup test) (views-facts rows []) ∙ lookup-map_values row_facts test rows

-- what is left of a layout is shorter than it
pub rest-shorter : (fs : List declared_field.LayoutField) (rest whole : List LayoutField) → whole ≡ map field_view fs ++ rest → 0 < length fs
    → length rest < length whole
rest-shorter fs rest whole is some = omega (arith, ap (λ (xs : List LayoutField). length xs) is, longer fs, some)
  where
    longer : (gs : List declared_field.LayoutField) → length (map field_view gs ++ rest) ≡ length gs + length rest
    longer [] = omega arith
    longer (g ∷ gs) = omega (arith, longer gs)

pub nil-from_length : {X : Type 0} (xs : List X) → length xs ≡ 0 → xs ≡ []
nil-from_length [] e = refl
nil-from_length (x ∷ xs) e = absurd (omega arith)
