-- Lemmas on the names that are kept of the classes of a file: they are those of the definition.
use Rattle.std.proofs.Common.{◌≡◌, ◌∙◌, ℕ, zero, suc, ◌+◌, ◌<◌, ◌≤◌, List, [], ◌∷◌, ◌++◌, length, map, Option, Some, None, Bool, true, false, not, cond, eqb}
use Rattle.std.proofs.Common.{ltb, refl, sym, ap, subst, arith, All}
use Rattle.std.specs.List.{slice_get, position, prefix_len}
use Rattle.std.specs.Option.{option_map, option_map_or, option_and_then}
use Rattle.std.specs.Map.{lookup, keys_of}
use Rattle.std.proofs.lemmas.List.{map-append, length-map}
use Rattle.std.proofs.lemmas.List.Elements.{All-nil, All-cons, All-head, All-tail}
use Rattle.std.proofs.lemmas.Option.{slice_get-map}
use Rattle.hd_terms.specs.Dump.{NamedField, NamedClass}
use Rattle.hd_terms.specs.SubRecords.{ClassItem, StaticItem}
use Rattle.hd_terms.specs.Classes.{ClassTable, LayoutField, ResolvedClass, resolved_class}
use Rattle.hd_terms.specs.Objects.{text_in, layout_at, named_by, class_by_names}
use Rattle.hd_subs.specs.Views as subs
use Rattle.hd_subs.specs.declared.class.Static.{Static}
use Rattle.hd_names.specs.declared.field_table.FieldRow.{FieldRow}
use Rattle.hd_names.specs.declared.field_table.FieldTable.{FieldTable}
use Rattle.hd_names.specs.Tables as tables
use Rattle.hd_names.specs.Tables.{AreEarlier, layout_in, own_fields, rows_of, class_of, named_of}
use Rattle.hd_names.proofs.TableLemmas as kept
use Rattle.hd_names.proofs.TableLemmas.{zip-some}
use Rattle.hd_classes.specs.declared.known.LayoutField as declared_field
use Rattle.hd_classes.specs.declared.linked.LinkedClass.{LinkedClass}
use Rattle.hd_classes.specs.declared.first_class.FirstClass.{FirstClass}
use Rattle.hd_classes.specs.Fields.{field_view}
use Rattle.hd_classes.specs.Links.{Row, numbered, views, IsBelow, OwnsFields, IsLinked, first_declaring}
use Rattle.hd_classes.specs.declared.source.Source.{Source}
use Rattle.hd_classes.specs.Sources.{IsSource, table_of}
use Rattle.hd_classes.specs.Building.{HasAllKnown}
use Rattle.hd_classes.specs.FirstClass.{PlacedClass, placed_classes, entry_of, first_class_view}
use Rattle.hd_classes.proofs.FirstClassLemmas.{first_classes-places}
use Rattle.hd_classes.specs.Naming.{field_row, field_names, first_of, static_names}
use Rattle.hd_classes.proofs.LinkLemmas.{layout-here, first-layout, first-declares}
use Rattle.hd_classes.proofs.LookLemmas.{known-number, none-known}
use Rattle.hd_classes.proofs.SearchLemmas.{map-twice}
use Rattle.hd_classes.proofs.KeptLemmas.{declares-below}

-- the element of a list all of which have something
all-at : {X : Type 0} (P : X → Type 0) (xs : List X) (i : ℕ) (x : X) → All P xs → slice_get xs i ≡ Some x → P x
all-at P [] i x all at = cc
all-at P (y ∷ xs) zero x all at = let same : y ≡ x = cc in subst P same (All-head P y xs all)
all-at P (y ∷ xs) (suc i) x all at = all-at P xs i x (All-tail P y xs all) at

some-same : {X : Type 0} (x y : X) → Some x ≡ Some y → x ≡ y
some-same x y e = cc

below-same : (n : ℕ) (o : Option ℕ) → IsBelow n o → tables.IsBelow n o
below-same n None h = h
below-same n (Some i) h = h

pub cons-parts : {X : Type 0} (x y : X) (xs ys : List X) → x ∷ xs ≡ y ∷ ys → (x ≡ y) × (xs ≡ ys)
cons-parts x y xs ys e = let here : x ≡ y = cc in let rest : xs ≡ ys = cc in (here, rest)

-- the class of an entry, and whether it is kept by its own ID
abbrev pub item_of : ℕ × FirstClass → ClassItem
item_of e = subs.class_view e.1.class.now

abbrev pub HasOwnId : ℕ × FirstClass → Type 0
HasOwnId e = e.0 ≡ (item_of e).id

own-ids : (es : List (ℕ × FirstClass)) (xs : List PlacedClass) → map (λ (e : ℕ × FirstClass). (e.0, first_class_view e.1)) es ≡ map entry_of xs
    → All HasOwnId es × (map item_of es ≡ map (λ (x : PlacedClass). x.class) xs)
own-ids [] [] is = (All-nil HasOwnId, refl)
own-ids [] (x ∷ xs) is = cc
own-ids (e ∷ es) [] is = cc
own-ids (e ∷ es) (x ∷ xs) is =
    let parts = cons-parts {X = ℕ × PlacedClass} (e.0, first_class_view e.1) (entry_of x) (map (λ (y : ℕ × FirstClass). (y.0, first_class_view y.1)) es)
    (map entry_of xs) is in
    let rest = own-ids es xs parts.1 in
    let class : item_of e ≡ x.class = ap (λ (p : ℕ × PlacedClass). p.1.class) parts.0 in
    let own : HasOwnId e = ap (λ (p : ℕ × PlacedClass). p.0) parts.0 ∙ ap (λ (c : ClassItem). c.id) (sym class) in
    (All-cons HasOwnId e es own rest.0, ap (λ (c : ClassItem). c ∷ map item_of es) class ∙ ap (λ (cs : List ClassItem). x.class ∷ cs) rest.1)

-- a number below one is below a greater one
pub below-more : (n m : ℕ) (o : Option ℕ) → n ≤ m → IsBelow n o → IsBelow m o
below-more n m None le below = tt
below-more n m (Some i) le below = omega (arith, le, below)

-- where an ID has no place, nothing is found by it
case-position : (b : Bool) (n m : ℕ) → ltb n m ≡ b → cond b (Some n) None ≡ None → m ≤ n
case-position true n m e none = cc
case-position false n m e none = grind (arith, e)

module _ (t : ClassTable) (rows : List Row) (linked : IsLinked rows) (owned : All OwnsFields rows) (table : FieldTable)
    (are_rows : table.rows.items ≡ map field_row rows)
    (are_fields : map (map (slice_get table.texts)) table.fields ≡ map (map (text_in t)) (map field_names rows)) where
  abbrev texts : List (List ℕ)
  texts = table.texts

  row-kept : (i : ℕ) (row : Row) → slice_get rows i ≡ Some row → slice_get table.rows.items i ≡ Some (field_row row)
  row-kept i row at = ap (λ (rs : List FieldRow). slice_get rs i) are_rows ∙ slice_get-map field_row rows i ∙ ap (option_map field_row) at

  pub rows-earlier : AreEarlier table.rows.items
  rows-earlier i r at = by (slice_get rows i) refl (sym (slice_get-map field_row rows i) ∙ ap (λ (rs : List FieldRow). slice_get rs i) (sym are_rows) ∙ at)
    where
      by : (o : Option Row) → slice_get rows i ≡ o → option_map field_row o ≡ Some r → tables.IsBelow i r.above
      by None e h = cc
      by (Some row) e h = subst (λ (x : FieldRow). tables.IsBelow i x.above) (some-same (field_row row) r h)
          (below-same i row.1.fields_above (linked i row e).nearer)

  -- the numbers of the names of a row's fields
  pub record Numbered (i : ℕ) (row : Row) : Type 0 where
    pub numbers : List ℕ
    pub at : slice_get table.fields i ≡ Some numbers
    pub are : map (slice_get table.texts) numbers ≡ map (text_in t) (field_names row)

  numbers-at : (i : ℕ) (row : Row) → slice_get rows i ≡ Some row → Numbered i row
  numbers-at i row at = by (slice_get table.fields i) refl whole
    where
      whole : option_map (map (slice_get texts)) (slice_get table.fields i) ≡ Some (map (text_in t) (field_names row))
      whole =
          sym (slice_get-map (map (slice_get texts)) table.fields i)
          ∙ ap (λ (xs : List (List (Option (List ℕ)))). slice_get xs i) are_fields
          ∙ slice_get-map (map (text_in t)) (map field_names rows) i
          ∙ ap (option_map (map (text_in t))) (slice_get-map field_names rows i ∙ ap (option_map field_names) at)

      by : (o : Option (List ℕ)) → slice_get table.fields i ≡ o → option_map (map (slice_get texts)) o ≡ Some (map (text_in t) (field_names row))
          → Numbered i row
      by None e h = cc
      by (Some ns) e h = record { numbers = ns; at = e; are = some-same (map (slice_get texts) ns) (map (text_in t) (field_names row)) h }

  -- a row's own fields by their names
  abbrev owner_named : ℕ → Option (List ℕ) → NamedField
  owner_named id name = record { owner = id; name = name }

  own-named : (id : ℕ) (fs : List declared_field.LayoutField) → All (λ (f : declared_field.LayoutField). f.owner ≡ id) fs
      → map (owner_named id) (map (text_in t) (map (λ (f : declared_field.LayoutField). f.name) fs)) ≡ map (named_by t) (map field_view fs)
  own-named id [] all = refl
  own-named id (f ∷ fs) all =
      let P : declared_field.LayoutField → Type 0 = λ (g : declared_field.LayoutField). g.owner ≡ id in
      ap (λ (n : ℕ). owner_named n (text_in t f.name) ∷ map (owner_named id) (map (text_in t) (map (λ (g : declared_field.LayoutField). g.name) fs)))
      (sym (All-head P f fs all))
      ∙ ap (λ (xs : List NamedField). named_by t (field_view f) ∷ xs) (own-named id fs (All-tail P f fs all))

  own-fields : (i : ℕ) (row : Row) (at : slice_get rows i ≡ Some row)
      → own_fields texts (field_row row, (numbers-at i row at).numbers) ≡ map (named_by t) (map field_view row.1.fields.items)
  own-fields i row at =
      let h = numbers-at i row at in
      sym (map-twice (slice_get texts) (owner_named row.0) h.numbers)
      ∙ ap (map (owner_named row.0)) h.are
      ∙ own-named row.0 row.1.fields.items (all-at OwnsFields rows i row owned at)

  -- the layouts of the rows by their names
  abbrev LayoutNamed : Option ℕ → Type 0
  LayoutNamed number = layout_in table number ≡ map (named_by t) (numbered (views rows) number).layout

  layout-step : (i : ℕ) (row : Row) → slice_get rows i ≡ Some row → LayoutNamed row.1.fields_above → LayoutNamed (Some i)
  layout-step i row at above =
      let h = numbers-at i row at in
      kept.layout-here table rows-earlier i (field_row row, h.numbers)
      (zip-some table.rows.items table.fields i (field_row row) h.numbers (row-kept i row at) h.at)
      ∙ ap (λ (fs : List NamedField). fs ++ layout_in table row.1.fields_above) (own-fields i row at)
      ∙ ap (λ (fs : List NamedField). map (named_by t) (map field_view row.1.fields.items) ++ fs) above
      ∙ sym (map-append (named_by t) (map field_view row.1.fields.items) (numbered (views rows) row.1.fields_above).layout)
      ∙ ap (map (named_by t)) (sym (layout-here rows linked i row at))

  case-row : (i : ℕ) → i < length rows → (A : Type 0) → ((row : Row) → slice_get rows i ≡ Some row → A) → A
  case-row i lt A k = by (slice_get rows i) refl
    where
      past : (xs : List Row) (j : ℕ) → slice_get xs j ≡ None → length xs ≤ j
      past [] j e = omega arith
      past (x ∷ xs) zero e = cc
      past (x ∷ xs) (suc j) e = let rest = past xs j e in omega arith

      by : (o : Option Row) → slice_get rows i ≡ o → A
      by None e = absurd (omega (arith, past rows i e))
      by (Some row) e = k row e

  layout-above : (n : ℕ) → ((j : ℕ) → j < n → j < length rows → LayoutNamed (Some j)) → (i : ℕ) → i < suc n → i < length rows → (o : Option ℕ) → IsBelow i o
      → LayoutNamed o
  layout-above n lower i less within None below = refl
  layout-above n lower i less within (Some j) below = lower j (omega (arith, below)) (omega (arith, below))

  layouts-below : (n i : ℕ) → i < n → i < length rows → LayoutNamed (Some i)
  layouts-below zero i less within = absurd (omega arith)
  layouts-below (suc n) i less within =
      let lower : (j : ℕ) → j < n → j < length rows → LayoutNamed (Some j) = λ (j : ℕ) (p : j < n) (q : j < length rows). layouts-below n j p q in
      case-row i within (LayoutNamed (Some i))
      (λ (row : Row) (at : slice_get rows i ≡ Some row). layout-step i row at (layout-above n lower i less within row.1.fields_above (linked i row at).nearer))

  layout-named : (number : Option ℕ) → IsBelow (length rows) number → LayoutNamed number
  layout-named None below = refl
  layout-named (Some i) below = layouts-below (length rows) i below below

  -- the layout of the class of an ID
  length-keys : (rs : List Row) → length (keys_of rs) ≡ length rs
  length-keys [] = refl
  length-keys (r ∷ rs) = omega (arith, length-keys rs)

  abbrev past_of : ℕ → List Row → ℕ
  past_of id rs = prefix_len (λ (x : ℕ). not (eqb id x)) (keys_of rs)

  case-prefix : (b : Bool) (l : LinkedClass) (o : Option LinkedClass) (m n : ℕ) → (m ≤ n → o ≡ None) → suc m ≤ cond (not b) (1 + n) 0 → cond b (Some l) o ≡ None
  case-prefix true l o m n none le = absurd (omega (arith, le))
  case-prefix false l o m n none le = none (omega (arith, le))

  prefix-none : (id : ℕ) (rs : List Row) → length (keys_of rs) ≤ past_of id rs → lookup (λ (x : ℕ). eqb id x) rs ≡ None
  prefix-none id [] le = refl
  prefix-none id (r ∷ rs) le = case-prefix (eqb id r.0) r.1 (lookup (λ (x : ℕ). eqb id x) rs) (length (keys_of rs)) (past_of id rs) (prefix-none id rs) le

  first-some : (id i : ℕ) → Some i ≡ position (λ (x : ℕ). eqb id x) (keys_of rows) → (row : Row) → slice_get rows i ≡ Some row
      → first_of rows id ≡ first_declaring i row.1
  first-some id i is row at =
      ap (λ (o : Option ℕ). option_and_then (λ (j : ℕ). option_and_then (λ (r : Row). first_declaring j r.1) (slice_get rows j)) o) (sym is)
      ∙ ap (λ (o : Option Row). option_and_then (λ (r : Row). first_declaring i r.1) o) at

  abbrev layout_found : Option ResolvedClass → List LayoutField
  layout_found o = option_map_or (λ (k : ResolvedClass). k.layout) o []

  case-within : (b : Bool) (n m i : ℕ) → ltb n m ≡ b → cond b (Some n) None ≡ Some i → i < m
  case-within true n m i e is = let same : n ≡ i = some-same n i is in grind (arith, e)
  case-within false n m i e is = cc

  pub first-named : (id : ℕ)
      → layout_in table (first_of rows id) ≡ map (named_by t) (option_map_or (λ (k : ResolvedClass). k.layout) (lookup (λ (x : ℕ). eqb id x) (views rows)) [])
  first-named id = by (position (λ (x : ℕ). eqb id x) (keys_of rows)) refl
    where
      by : (o : Option ℕ) → position (λ (x : ℕ). eqb id x) (keys_of rows) ≡ o
          → layout_in table (first_of rows id) ≡ map (named_by t) (layout_found (lookup (λ (x : ℕ). eqb id x) (views rows)))
      by None e =
          let le = case-position (ltb (prefix_len (λ (x : ℕ). not (eqb id x)) (keys_of rows)) (length (keys_of rows)))
          (prefix_len (λ (x : ℕ). not (eqb id x)) (keys_of rows)) (length (keys_of rows)) refl e in
          ap (λ (o : Option ℕ). layout_in table (option_and_then (λ (j : ℕ). option_and_then (λ (r : Row). first_declaring j r.1) (slice_get rows j)) o)) e
          ∙ ap (λ (o : Option ResolvedClass). map (named_by t) (layout_found o)) (sym (none-known rows id (sym (prefix-none id rows le))))
      by (Some i) e =
          let within = case-within (ltb (prefix_len (λ (x : ℕ). not (eqb id x)) (keys_of rows)) (length (keys_of rows)))
          (prefix_len (λ (x : ℕ). not (eqb id x)) (keys_of rows)) (length (keys_of rows)) i refl e in
          let lt : i < length rows = omega (arith, within, length-keys rows) in
          case-row i lt (layout_in table (first_of rows id) ≡ map (named_by t) (layout_found (lookup (λ (x : ℕ). eqb id x) (views rows))))
          (λ (row : Row) (at : slice_get rows i ≡ Some row).
          ap (layout_in table) (first-some id i (sym e) row at)
          ∙ layout-named (first_declaring i row.1) (declares-below rows row (first_declaring i row.1) (first-declares rows linked i row at))
          ∙ ap (map (named_by t)) (first-layout rows linked i row at)
          ∙ ap (λ (o : Option ResolvedClass). map (named_by t) (layout_found o)) (sym (known-number rows id i (sym e) lt)))

  -- the class objects by their names
  module _ (known : (id : ℕ) → lookup (λ (x : ℕ). eqb id x) (views rows) ≡ resolved_class t id) where
    layouts-are : (id : ℕ) → layout_in table (first_of rows id) ≡ map (named_by t) (layout_at t id)
    layouts-are id = first-named id ∙ ap (λ (o : Option ResolvedClass). map (named_by t) (option_map_or (λ (k : ResolvedClass). k.layout) o [])) (known id)

    statics-named : (ss : List Static)
        → map (text_in t) (map (λ (s : Static). s.name) ss) ≡ map (λ (s : StaticItem). text_in t s.name) (map subs.static_view ss)
    statics-named [] = refl
    statics-named (s ∷ ss) = ap (λ (xs : List (Option (List ℕ))). text_in t s.name ∷ xs) (statics-named ss)

    class-named : (e : ℕ × FirstClass) (ns : List ℕ) → HasOwnId e → map (slice_get texts) ns ≡ map (text_in t) (static_names e)
        → class_of table ((e.0, first_of rows e.0), ns) ≡ class_by_names t (item_of e)
    class-named e ns own is =
        let statics : List (Option (List ℕ)) = map (λ (s : StaticItem). text_in t s.name) (item_of e).statics in
        ap (λ (xs : List (Option (List ℕ))). let c : NamedClass = record { class = e.0; fields = layout_in table (first_of rows e.0); statics = xs } in c)
        (is ∙ statics-named e.1.class.now.statics.items)
        ∙ ap (λ (fs : List NamedField). let c : NamedClass = record { class = e.0; fields = fs; statics = statics } in c) (layouts-are e.0)
        ∙ ap (λ (id : ℕ). let c : NamedClass = record { class = id; fields = map (named_by t) (layout_at t id); statics = statics } in c) own

    pub classes-named : (es : List (ℕ × FirstClass)) (nss : List (List ℕ)) → All HasOwnId es
        → map (map (slice_get texts)) nss ≡ map (map (text_in t)) (map static_names es)
        → named_of (map (λ (e : ℕ × FirstClass). (e.0, first_of rows e.0)) es) nss table ≡ map (class_by_names t) (map item_of es)
    classes-named [] nss all is = refl
    classes-named (e ∷ es) [] all is = cc
    classes-named (e ∷ es) (ns ∷ nss) all is =
        let parts = cons-parts (map (slice_get texts) ns) (map (text_in t) (static_names e)) (map (map (slice_get texts)) nss)
        (map (map (text_in t)) (map static_names es)) is in
        ap (λ (c : NamedClass). c ∷ named_of (map (λ (x : ℕ × FirstClass). (x.0, first_of rows x.0)) es) nss table)
        (class-named e ns (All-head HasOwnId e es all) parts.0)
        ∙ ap (λ (cs : List NamedClass). class_by_names t (item_of e) ∷ cs) (classes-named es nss (All-tail HasOwnId e es all) parts.1)

-- all that is kept of the classes of a source
pub named-all : (s : Source) → IsSource s → (rows : List Row) → HasAllKnown s rows → (table : FieldTable) → table.rows.items ≡ map field_row rows
    → map (map (slice_get table.texts)) table.fields ≡ map (map (text_in (table_of s))) (map field_names rows) → (nss : List (List ℕ))
    → map (map (slice_get table.texts)) nss ≡ map (map (text_in (table_of s))) (map static_names s.classes.entries) → (firsts : List (ℕ × Option ℕ))
    → firsts ≡ map (λ (e : ℕ × FirstClass). (e.0, first_of rows e.0)) s.classes.entries
    → named_of firsts nss table ≡ map (class_by_names (table_of s)) (table_of s).classes
named-all s source rows h table are_rows are_fields nss are_statics firsts are_firsts =
    let t = table_of s in
    let own = own-ids s.classes.entries (placed_classes s.list.now) source.classes in
    ap (λ (fs : List (ℕ × Option ℕ)). named_of fs nss table) are_firsts
    ∙ classes-named t rows h.kept.linked h.kept.owned table are_rows are_fields h.known s.classes.entries nss own.0 are_statics
    ∙ ap (map (class_by_names t)) (own.1 ∙ sym (first_classes-places s.list.now))

-- as many lists as there are of what they are made of
pub as-many : (f : List ℕ → List (Option (List ℕ))) (g : List ℕ → List (Option (List ℕ))) (nss idss : List (List ℕ)) → map f nss ≡ map g idss
    → length nss ≡ length idss
as-many f g nss idss is = sym (length-map nss f) ∙ ap (λ (xs : List (List (Option (List ℕ)))). length xs) is ∙ length-map idss g
