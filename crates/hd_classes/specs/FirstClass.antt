-- The first class object of each ID, one sub-record after another.
use Rattle.std.specs.Prelude.{◌≡◌, ℕ, ◌==◌, List, ◌∷◌, [], ◌++◌, map, Option}
use Rattle.std.specs.Option.{option_map}
use Rattle.std.specs.List.{filter_map, list_any}
use Rattle.hd_terms.specs.SubRecords.{ClassItem, Sub}
use Rattle.hd_terms.specs.FirstRecords.{object_sub, first_subs}
use Rattle.hd_terms.specs.Classes.{class_of_item}
use Rattle.hd_subs.specs.Views.{class_view}
use Rattle.hd_classes.specs.declared.first_class.FirstClass as declared_first

-- a class and the file offset of its tag
pub record PlacedClass : Type 0 where
  pub class : ClassItem
  pub offset : ℕ

-- that of a sub-record, if it is a class's
abbrev pub placed_class : Sub → Option PlacedClass
placed_class s = option_map (λ (c : ClassItem). record { class = c; offset = s.offset }) (class_of_item s.item)

-- the class objects of a dump, each the first sub-record of its ID
abbrev pub placed_classes : List Sub → List PlacedClass
placed_classes list = filter_map (λ (p : ℕ × Sub). placed_class p.1) (first_subs list)

-- a class by its ID
abbrev pub entry_of : PlacedClass → ℕ × PlacedClass
entry_of x = (x.class.id, x)

abbrev pub first_class_view : declared_first.FirstClass → PlacedClass
first_class_view s = record { class = class_view s.class.now; offset = s.offset }

-- the class objects are kept by their IDs, in file order
abbrev pub HasFirstClasses : List Sub → List (ℕ × declared_first.FirstClass) → Type 0
HasFirstClasses list entries = map (λ (e : ℕ × declared_first.FirstClass). (e.0, first_class_view e.1)) entries ≡ map entry_of (placed_classes list)

-- so it is of these sub-records, and the IDs of their objects are noted
pub record AreFirstClasses (list : List Sub) (ids : List ℕ) (entries : List (ℕ × declared_first.FirstClass)) : Type 0 where
  pub noted : (id : ℕ) → list_any (λ (k : ℕ). id == k) ids ≡ list_any (λ (p : ℕ × Sub). id == p.0) (filter_map object_sub list)
  pub kept : HasFirstClasses list entries

-- one sub-record more
abbrev pub NotesOneMore : Sub → List ℕ → List (ℕ × declared_first.FirstClass) → List ℕ → List (ℕ × declared_first.FirstClass) → Type 0
NotesOneMore s ids entries ids' entries' = (front : List Sub) → AreFirstClasses front ids entries → AreFirstClasses (front ++ s ∷ []) ids' entries'
