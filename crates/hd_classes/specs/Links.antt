-- Classes that are linked by their numbers, and what the rows of them say: the view of each is made from those of the rows
-- before it.
use Rattle.std.specs.Prelude.{◌≡◌, ℕ, ◌==◌, ◌+◌, ◌<◌, Bool, true, if◌then◌else◌, List, [], ◌∷◌, ◌++◌, length, map, slice_get, is_some, Option, Some, None, All}
use Rattle.std.specs.Option.{option_map_or, option_and_then}
use Rattle.std.specs.Map.{lookup}
use Rattle.hd_terms.specs.declared.EdgeKind.TheVariants as kinds
use Rattle.hd_terms.specs.Classes.{ResolvedClass}
use Rattle.hd_classes.specs.declared.known.LayoutField.{LayoutField}
use Rattle.hd_classes.specs.declared.linked.LinkedClass.{LinkedClass}
use Rattle.hd_classes.specs.Fields.{field_view}

-- a class by its ID
abbrev pub Row : Type 0
Row = ℕ × LinkedClass

abbrev pub View : Type 0
View = ℕ × ResolvedClass

-- what a class without a super class takes from above
abbrev pub nothing : ResolvedClass
nothing = record { chain = []; layout = []; referent = None; kind = kinds.Strong }

-- what is known of the class of a number, and nothing where there is no number
abbrev pub numbered : List View → Option ℕ → ResolvedClass
numbered known number = option_map_or (λ (p : View). p.1) (option_and_then (λ (i : ℕ). slice_get known i) number) nothing

-- what a row says: the class's own ID before the chain of its super class, and its own fields before that one's layout
abbrev pub class_under : Row → ResolvedClass → ResolvedClass
class_under row above = record {
  chain = row.0 ∷ above.chain;
  layout = map field_view row.1.fields.items ++ above.layout;
  referent = row.1.referent;
  kind = row.1.kind;
}

abbrev pub view_of : List View → Row → View
view_of known row = (row.0, class_under row (numbered known row.1.super_number))

abbrev pub views_from : List View → List Row → List View
views_from known [] = known
views_from known (row ∷ rows) = views_from (known ++ view_of known row ∷ []) rows

abbrev pub views : List Row → List View
views rows = views_from [] rows

-- a number is below another, or there is none
abbrev pub IsBelow : ℕ → Option ℕ → Type 0
IsBelow n None = Unit {0}
IsBelow n (Some i) = i < n

-- the fields that the class of a number declares
abbrev pub fields_at : List Row → ℕ → List LayoutField
fields_at rows i = option_map_or (λ (row : Row). row.1.fields.items) (slice_get rows i) []

-- the class of a number declares fields, or there is no number
abbrev pub Declares : List Row → Option ℕ → Type 0
Declares rows None = Unit {0}
Declares rows (Some i) = 0 < length (fields_at rows i)

-- a row's links lead to rows before it, and the one to the next class that declares fields passes over none that does
pub record IsLinkedRow (rows : List Row) (i : ℕ) (class : LinkedClass) : Type 0 where
  pub earlier : IsBelow i class.super_number
  pub nearer : IsBelow i class.fields_above
  pub declares : Declares rows class.fields_above
  pub skips : (numbered (views rows) class.fields_above).layout ≡ (numbered (views rows) class.super_number).layout
  pub counted : length class.fields.items + length (numbered (views rows) class.super_number).layout ≡ class.layout_len

-- the fields that are kept of a class are its own
abbrev pub OwnsFields : Row → Type 0
OwnsFields row = All (λ (f : LayoutField). f.owner ≡ row.0) row.1.fields.items

abbrev pub IsLinked : List Row → Type 0
IsLinked rows = (i : ℕ) (row : Row) → slice_get rows i ≡ Some row → IsLinkedRow rows i row.1

-- the number of the first class that declares fields in the chain of the class of a number
abbrev pub first_declaring : ℕ → LinkedClass → Option ℕ
first_declaring i class = if length class.fields.items == 0 then class.fields_above else Some i

-- the class of an ID is kept
abbrev pub is_kept : List Row → ℕ → Bool
is_kept rows id = is_some (lookup (λ (x : ℕ). id == x) rows)

-- all classes that were kept still are
abbrev pub Keeps : List Row → List Row → Type 0
Keeps rows rows' = (id : ℕ) → is_kept rows id ≡ true → is_kept rows' id ≡ true
