-- The classes among sub-records.
use Rattle.std.specs.Prelude.{◌≡◌, ℕ, true, is_some, List, slice_get, Option, Some}
use Rattle.hd_terms.specs.SubRecords.{ClassItem, Sub}
use Rattle.hd_terms.specs.Classes.{class_of_item}

-- the class of a sub-record, if it is a class's
abbrev pub class_of_sub : Sub → Option ClassItem
class_of_sub s = class_of_item s.item

-- a sub-record, if there is one at the index, is a class
abbrev pub IsClassAt : List Sub → ℕ → Type 0
IsClassAt list i = (s : Sub) → slice_get list i ≡ Some s → is_some (class_of_sub s) ≡ true
