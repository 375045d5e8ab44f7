-- How the fields of classes are kept, and what the rows of them say: the layout of each is made from those of the rows before it.
use Rattle.std.specs.Prelude.{◌≡◌, ℕ, ◌<◌, List, [], ◌∷◌, ◌++◌, map, slice_get, Option, Some, None}
use Rattle.std.specs.Option.{option_map_or, option_and_then}
use Rattle.std.specs.List.{zip}
use Rattle.hd_terms.specs.Dump.{NamedField, NamedClass}
use Rattle.hd_names.specs.declared.field_table.FieldRow.{FieldRow}
use Rattle.hd_names.specs.declared.field_table.FieldTable.{FieldTable}

-- a row, and the numbers of the names of the fields that its class declares
abbrev pub Row : Type 0
Row = FieldRow × List ℕ

abbrev pub rows_of : FieldTable → List Row
rows_of t = zip t.rows.items t.fields

-- the fields that the class of a row declares. A number behind the last text names nothing
abbrev pub own_fields : List (List ℕ) → Row → List NamedField
own_fields texts row = map (λ (n : ℕ). record { owner = row.0.class; name = slice_get texts n }) row.1

-- the layout of a number, and no fields where there is no number
abbrev pub numbered : List (List NamedField) → Option ℕ → List NamedField
numbered layouts number = option_map_or (λ (fs : List NamedField). fs) (option_and_then (λ (i : ℕ). slice_get layouts i) number) []

-- a class's own fields stand before the layout above it
abbrev pub layouts_from : List (List ℕ) → List (List NamedField) → List Row → List (List NamedField)
layouts_from texts before [] = before
layouts_from texts before (row ∷ rows) = layouts_from texts (before ++ (own_fields texts row ++ numbered before row.0.above) ∷ []) rows

-- the layout that begins with a row
abbrev pub layout_in : FieldTable → Option ℕ → List NamedField
layout_in t first = numbered (layouts_from t.texts [] (rows_of t)) first

-- the fields that the class of the row of a number declares, and none where there is no number
abbrev pub own_fields_in : FieldTable → Option ℕ → List NamedField
own_fields_in t number = option_map_or (own_fields t.texts) (option_and_then (λ (i : ℕ). slice_get (rows_of t) i) number) []

-- a number is below another, or there is none
abbrev pub IsBelow : ℕ → Option ℕ → Type 0
IsBelow n None = Unit {0}
IsBelow n (Some i) = i < n

-- the rows above a row stand before it
abbrev pub AreEarlier : List FieldRow → Type 0
AreEarlier rows = (i : ℕ) (row : FieldRow) → slice_get rows i ≡ Some row → IsBelow i row.above

-- a class object, by its ID, the first row of its layout, and the numbers of the names of its statics
abbrev pub class_of : FieldTable → (ℕ × Option ℕ) × List ℕ → NamedClass
class_of t c = record { class = c.0.0; fields = layout_in t c.0.1; statics = map (slice_get t.texts) c.1 }

abbrev pub named_of : List (ℕ × Option ℕ) → List (List ℕ) → FieldTable → List NamedClass
named_of firsts statics t = map (class_of t) (zip firsts statics)
