-- What a row of the list says.
use Rattle.std.specs.Prelude.{ℕ, ◌*◌, ◌<◌, List, [], map}
use Rattle.std.specs.List.{slice_index_or}
use Rattle.hd_terms.specs.declared.IdSize.{IdSize}
use Rattle.hd_terms.specs.declared.IdSize.TheVariants as sizes
use Rattle.hd_terms.specs.SubRecords.{Item, Sub, ClassItem}
use Rattle.hd_terms.specs.SubRecords as subs
use Rattle.hd_subs.specs.declared.row.Kind.{Kind}
use Rattle.hd_subs.specs.declared.row.Kind.TheVariants as kinds
use Rattle.hd_subs.specs.declared.row.Row.{Row}
use Rattle.hd_subs.specs.declared.class.ClassDump.{ClassDump}
use Rattle.hd_subs.specs.Layout.{elements_offset}
use Rattle.hd_subs.specs.Views.{class_view}

-- what stands past the last class
abbrev pub no_class : ClassItem
no_class = record { id = 0; super = 0; loader = 0; signers = 0; domain = 0; constants = []; statics = []; fields = [] }

-- the class at an index
abbrev pub class_at : List ClassDump → ℕ → ClassItem
class_at classes index = slice_index_or (map class_view classes) index no_class

-- what a row of a kind holds, over the classes of the list
abbrev pub item_of : List ClassDump → Kind → ℕ → ℕ → ℕ → ℕ → Item
item_of classes (kinds.Root kind) offset id class count = subs.Root kind id
item_of classes kinds.Class offset id class count = subs.Class (class_at classes class)
item_of classes kinds.InstanceOfFour offset id class count = subs.Instance id class (record { start = elements_offset sizes.Four offset; len = count })
item_of classes kinds.InstanceOfEight offset id class count = subs.Instance id class (record { start = elements_offset sizes.Eight offset; len = count })
item_of classes kinds.ArrayOfFour offset id class count = subs.ObjArray id class (record { start = elements_offset sizes.Four offset; len = 4 * count })
item_of classes kinds.ArrayOfEight offset id class count = subs.ObjArray id class (record { start = elements_offset sizes.Eight offset; len = 8 * count })
item_of classes (kinds.PrimArray element) offset id class count = subs.PrimArray id element count

-- the sub-record of a row, over the classes of the list
abbrev pub row_view : List ClassDump → Row → Sub
row_view classes r = record { offset = r.offset; item = item_of classes r.kind r.offset r.id r.class r.count }

-- the kind of an array whose IDs have a size
abbrev pub array_kind : IdSize → Kind
array_kind sizes.Four = kinds.ArrayOfFour
array_kind sizes.Eight = kinds.ArrayOfEight

-- the kind of an instance where IDs have a size
abbrev pub instance_kind : IdSize → Kind
instance_kind sizes.Four = kinds.InstanceOfFour
instance_kind sizes.Eight = kinds.InstanceOfEight

-- a row of a class has its index among `n` classes
abbrev pub HasClass : ℕ → Kind → ℕ → Type 0
HasClass n (kinds.Root kind) class = Unit {0}
HasClass n kinds.Class class = class < n
HasClass n kinds.InstanceOfFour class = Unit {0}
HasClass n kinds.InstanceOfEight class = Unit {0}
HasClass n kinds.ArrayOfFour class = Unit {0}
HasClass n kinds.ArrayOfEight class = Unit {0}
HasClass n (kinds.PrimArray element) class = Unit {0}

abbrev pub IsRowOver : ℕ → Row → Type 0
IsRowOver n r = HasClass n r.kind r.class
