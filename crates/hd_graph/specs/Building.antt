-- What filling the rows and shapes of objects, sub-record by sub-record, comes to.
use Rattle.std.specs.Prelude.{◌≡◌, ◌⊎◌, ◌<◌, ◌≤◌, ◌+◌, ◌^◌, ◌≢◌, ℕ, List, length, slice_get, take, drop, [], ◌∷◌, ◌++◌, map, Option, Some, None, All}
use Rattle.std.specs.List.{filter_map}
use Rattle.hd_terms.specs.declared.IdSize.{IdSize}
use Rattle.hd_terms.specs.declared.errors.Cause.TheVariants as causes
use Rattle.hd_terms.specs.declared.errors.ReadFault.{ReadFault}
use Rattle.hd_terms.specs.SubRecords.{Sub, Item}
use Rattle.hd_terms.specs.Classes.{ResolvedClass, KnownClasses}
use Rattle.hd_terms.specs.ReadFaults.{fault, IsReadFault}
use Rattle.hd_classes.specs.Known.{Known}
use Rattle.hd_shapes.specs.Shapes.{ObjectShape}
use Rattle.hd_shapes.specs.PackedShapes.{shape_at, made_layout}
use Rattle.hd_slots.specs.Table.{Table}
use Rattle.hd_graph.specs.ArrayRows.{ObjectEntry, object_ids, entry_of, entry_of_item, shape_of_item, entries_of, item_weight, weight, layout_shape}

-- out of memory, or the fault of the file
abbrev pub IsReadFaultOrMemory : List ℕ → ReadFault → Type 0
IsReadFaultOrMemory bytes f = (f ≡ fault causes.OutOfMemory 0) ⊎ IsReadFault bytes f

-- rows, and the shapes of the objects that have one
pub record Columns : Type 0 where
  pub table : Table
  pub shapes : List ObjectShape

abbrev pub columns : Table → List ObjectShape → Columns
columns table shapes = record { table = table; shapes = shapes }

-- no row and no shape yet
pub record HasNoRows (c : Columns) : Type 0 where
  pub rows : c.table.rows ≡ []
  pub filling : c.table.filling ≡ []
  pub count : c.table.count ≡ 0
  pub shapes : c.shapes ≡ []

-- the row that is being filled gets some IDs
abbrev pub GrowsBy : List ℕ → Table → Table → Type 0
GrowsBy ids old new = new ≡ record old { filling = old.filling ++ ids; count = old.count + length ids }

-- a row is added, with no more IDs than this
pub record AddsRow (row : List ℕ) (weight : ℕ) (old new : Table) : Type 0 where
  pub table : new ≡ record old { rows = old.rows ++ row ∷ []; count = new.count }
  pub count : new.count ≤ old.count + weight

-- the row of an object is added, if there is one
abbrev pub AddsRowOf : Option ObjectEntry → ℕ → Table → Table → Type 0
AddsRowOf None weight old new = new ≡ old
AddsRowOf (Some a) weight old new = AddsRow a.1 weight old new

-- so is the row of the object of a sub-record, if it is one
abbrev pub AddsItemRow : KnownClasses → List ℕ → IdSize → Item → Table → Table → Type 0
AddsItemRow known bytes size item old new = AddsRowOf (entry_of_item known bytes size item) (item_weight item) old new

-- an object's row and shape are added
pub record Adds (a : ObjectEntry) (weight : ℕ) (old new : Columns) : Type 0 where
  pub row : AddsRow a.1 weight old.table new.table
  pub shapes : new.shapes ≡ old.shapes ++ a.2 ∷ []

-- an object is added where it comes next, and else nothing
pub record AddsNext (a : ObjectEntry) (weight : ℕ) (old new : Columns) : Type 0 where
  pub next : slice_get old.table.ids (length old.table.rows) ≡ Some a.0 → Adds a weight old new
  pub other : slice_get old.table.ids (length old.table.rows) ≢ Some a.0 → new ≡ old

-- an object is added where it comes next, if there is one
abbrev pub FillsEntry : Option ObjectEntry → ℕ → Columns → Columns → Type 0
FillsEntry None weight old new = new ≡ old
FillsEntry (Some a) weight old new = AddsNext a weight old new

-- so is the object of a sub-record, if it is one
abbrev pub FillsItem : KnownClasses → List ℕ → IdSize → Item → Columns → Columns → Type 0
FillsItem known bytes size item old new = FillsEntry (entry_of_item known bytes size item) (item_weight item) old new

-- the rows are those of the objects of all sub-records, over no IDs, and have no more IDs than the sub-records weigh
pub record HasAllRows (known : KnownClasses) (bytes : List ℕ) (size : IdSize) (list : List Sub) (t : Table) : Type 0 where
  pub bytes_are : t.bytes ≡ bytes
  pub size_is : t.size ≡ size
  pub ids_are : t.ids ≡ []
  pub rows_are : t.rows ≡ map (λ (a : ObjectEntry). a.1) (filter_map (entry_of known bytes size) list)
  pub filled : t.filling ≡ []
  pub few : t.count ≤ weight list

-- `count` items of a list, from the index `first` on
abbrev pub stretch : {X : Type 0} → ℕ → ℕ → List X → List X
stretch first count list = take count (drop first list)

-- the shapes are those of the objects of all sub-records
abbrev pub HasAllShapes : KnownClasses → IdSize → List Sub → List ObjectShape → Type 0
HasAllShapes known size list shapes = shapes ≡ filter_map (λ (s : Sub). shape_of_item known size s.item) list

-- the rows and shapes are those of the objects of sub-records, the first of each ID
pub record HasRowsOf (known : KnownClasses) (bytes : List ℕ) (size : IdSize) (list : List Sub) (c : Columns) : Type 0 where
  pub bytes_are : c.table.bytes ≡ bytes
  pub size_is : c.table.size ≡ size
  pub ids_are : c.table.ids ≡ object_ids list
  pub rows_are : c.table.rows ≡ map (λ (a : ObjectEntry). a.1) (entries_of known bytes size list)
  pub shapes_are : c.shapes ≡ map (λ (a : ObjectEntry). a.2) (entries_of known bytes size list)
  pub filled : c.table.filling ≡ []

-- numbers of four bytes count the classes that are known, and the bytes of their layouts
pub record AreFewAndShort (classes : Known) : Type 0 where
  pub few : length classes.classes < 2 ^ 32
  pub short : All (λ (p : ℕ × ResolvedClass). length p.1.layout < 2 ^ 29) classes.classes

-- the shape of the instances of the class of a number
abbrev pub shape_by_number : IdSize → Known → ℕ → ObjectShape
shape_by_number size classes i = shape_at (map (λ (p : ℕ × ResolvedClass). layout_shape size p.1) classes.classes) i

-- of each class that is known the shape of its instances, if it was made
pub record AreLayouts (size : IdSize) (classes : Known) (layouts : List (Option ObjectShape)) : Type 0 where
  pub bounds : AreFewAndShort classes
  pub count : length layouts ≡ length classes.classes
  pub made : (i : ℕ) (shape : ObjectShape) → made_layout layouts i ≡ Some shape → shape ≡ shape_by_number size classes i
