-- The dump: what a file says of the heap, and all that the heap half of the definitions knows of it.
-- Source: this project. It is where the two halves meet: nothing above it names a byte of a file, nothing below it a strength.
use Rattle.std.specs.Prelude.{ℕ, ◌==◌, List, [], slice_get, Option, None}
use Rattle.std.specs.Option.{option_and_then}
use Rattle.std.specs.List.{find, slice_index_or}
use Rattle.std.specs.Map.{lookup}
use Rattle.hd_terms.specs.declared.Slot.{Slot}
use Rattle.hd_terms.specs.declared.EdgeKind.{EdgeKind}
use Rattle.hd_terms.specs.declared.Group.{Group}
use Rattle.hd_terms.specs.declared.Group.TheVariants as groups
use Rattle.hd_terms.specs.declared.RootKind.{RootKind}
use Rattle.hd_terms.specs.declared.Mode.{Mode}

-- a slot of an object: its name, what a reference in it goes through, and the ID in it, 0 for null
pub record SlotEntry : Type 0 where
  pub slot : Slot
  pub kind : EdgeKind
  pub id : ℕ

-- an object: its ID, its group, its recorded bytes, its slots in order, and the slot that is its referent, if it has one
pub record Object : Type 0 where
  pub id : ℕ
  pub group : Group
  pub bytes : ℕ
  pub slots : List SlotEntry
  pub referent : Option Slot

-- a root of the dump: its kind, and the ID of the object that it holds
pub record Root : Type 0 where
  pub kind : RootKind
  pub id : ℕ

-- how many object sub-records, UTF8 records and LOAD CLASS records have the ID of an earlier one
pub record Repeated : Type 0 where
  pub objects : ℕ
  pub strings : ℕ
  pub loads : ℕ

-- an instance field by its name: the ID of the class that declares it, and the bytes of its name as the file has them, if it
-- has one
pub record NamedField : Type 0 where
  pub owner : ℕ
  pub name : Option (List ℕ)

-- a class object by the names that go with it: its ID; the fields of its layout, of which there are none where its chain isn't
-- whole; and its statics, the name of each, if it has one
pub record NamedClass : Type 0 where
  pub class : ℕ
  pub fields : List NamedField
  pub statics : List (Option (List ℕ))

-- how phantom references are followed; objects in file order, the first of each ID, and roots in file order; what was
-- repeated, and how many instances have a class chain that isn't whole; the names of loaded classes by the IDs of the
-- classes, each class once: their bytes as the file has them; and the class objects in file order, by the names that go with
-- them
pub record Dump : Type 0 where
  pub mode : Mode
  pub objects : List Object
  pub roots : List Root
  pub repeated : Repeated
  pub opaque : ℕ
  pub names : List (ℕ × List ℕ)
  pub classes : List NamedClass

-- what stands past the last object
abbrev pub no_object : Object
no_object = record { id = 0; group = groups.Classes; bytes = 0; slots = []; referent = None }

-- the object of a number
abbrev pub object_at : Dump → ℕ → Object
object_at dump o = slice_index_or dump.objects o no_object

-- the name of the class of an ID, if it has one
abbrev pub name_in : Dump → ℕ → Option (List ℕ)
name_in dump id = lookup (λ (class : ℕ). id == class) dump.names

-- the names that go with the class object of an ID, if there is one
abbrev pub named_class : Dump → ℕ → Option NamedClass
named_class dump id = find (λ (c : NamedClass). id == c.class) dump.classes

-- the field of a number in the layout of the class of an ID, if it has it
abbrev pub named_field : Dump → (class : ℕ) → ℕ → Option NamedField
named_field dump class i = option_and_then (λ (c : NamedClass). slice_get c.fields i) (named_class dump class)

-- the name of the static of a number of the class of an ID, if it has the static and that has a name
abbrev pub static_name : Dump → (class : ℕ) → ℕ → Option (List ℕ)
static_name dump class i = option_and_then (λ (c : NamedClass). slice_index_or c.statics i None) (named_class dump class)

-- the same dump without the names that go with its class objects. Only lines show them
abbrev pub without_classes : Dump → Dump
without_classes dump = record dump { classes = [] }
