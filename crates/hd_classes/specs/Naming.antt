-- Naming the fields and statics of classes: texts by their numbers, and what is kept by these.
use Rattle.std.specs.Prelude.{◌≡◌, ℕ, ◌==◌, ◌<◌, ◌^◌, List, ◌++◌, length, map, position, slice_get, Option, Some}
use Rattle.std.specs.Option.{option_and_then}
use Rattle.std.specs.Map.{lookup, keys_of}
use Rattle.hd_terms.specs.Dump.{NamedClass}
use Rattle.hd_terms.specs.Classes.{ClassTable}
use Rattle.hd_terms.specs.Objects.{text_in, class_by_names}
use Rattle.hd_names.specs.declared.field_table.FieldRow.{FieldRow}
use Rattle.hd_subs.specs.declared.class.Static.{Static}
use Rattle.hd_classes.specs.declared.known.LayoutField.{LayoutField}
use Rattle.hd_classes.specs.declared.first_class.FirstClass.{FirstClass}
use Rattle.hd_classes.specs.declared.name_numbers.NameNumbers.{NameNumbers}
use Rattle.hd_classes.specs.Links.{Row, first_declaring}

-- texts with more behind them, so few that numbers of four bytes but the greatest count them
pub record GoesOn (texts texts' : List (List ℕ)) : Type 0 where
  pub more : List (List ℕ)
  pub is : texts' ≡ texts ++ more
  pub few : length texts' < 2 ^ 32

-- a number has the text of an ID, and none if the ID has none, whatever texts come behind
abbrev pub IsNumber : ClassTable → List (List ℕ) → ℕ → ℕ → Type 0
IsNumber t texts id n = (texts' : List (List ℕ)) → GoesOn texts texts' → slice_get texts' n ≡ text_in t id

-- numbers have those of IDs, in their order
abbrev pub AreNumbers : ClassTable → List (List ℕ) → List ℕ → List ℕ → Type 0
AreNumbers t texts ids ns = (texts' : List (List ℕ)) → GoesOn texts texts' → map (slice_get texts') ns ≡ map (text_in t) ids

-- so do lists of numbers
abbrev pub AreLists : ClassTable → List (List ℕ) → List (List ℕ) → List (List ℕ) → Type 0
AreLists t texts idss nss = (texts' : List (List ℕ)) → GoesOn texts texts' → map (map (slice_get texts')) nss ≡ map (map (text_in t)) idss

-- the numbers that are noted by IDs have their texts
pub record AreNoted (t : ClassTable) (names : NameNumbers) : Type 0 where
  pub few : length names.texts < 2 ^ 32
  pub numbers : (id n : ℕ) → lookup (λ (x : ℕ). id == x) names.numbers.entries ≡ Some n → IsNumber t names.texts id n

-- more of them are noted
pub record NotesMore (t : ClassTable) (old new : NameNumbers) : Type 0 where
  pub noted : AreNoted t new
  pub more : GoesOn old.texts new.texts

-- the row of a class, and the IDs of the names of its fields
abbrev pub field_row : Row → FieldRow
field_row row = record { class = row.0; above = row.1.fields_above }

abbrev pub field_names : Row → List ℕ
field_names row = map (λ (f : LayoutField). f.name) row.1.fields.items

-- the number of the first row of the layout of the class of an ID, if its chain is whole and declares fields
abbrev pub first_of : List Row → ℕ → Option ℕ
first_of rows id =
    option_and_then (λ (i : ℕ). option_and_then (λ (row : Row). first_declaring i row.1) (slice_get rows i)) (position (λ (x : ℕ). id == x) (keys_of rows))

-- the IDs of the names of a class's statics
abbrev pub static_names : ℕ × FirstClass → List ℕ
static_names e = map (λ (s : Static). s.name) e.1.class.now.statics.items

-- the class objects of a table by their names
abbrev pub named_classes_of : ClassTable → List NamedClass
named_classes_of t = map (class_by_names t) t.classes
