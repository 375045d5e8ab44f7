-- Groups and recorded bytes of objects, each from its sub-record alone.
-- Source: HPROF binary format, INSTANCE DUMP, OBJECT ARRAY DUMP, PRIMITIVE ARRAY DUMP and CLASS DUMP; what counts as the size
-- of an object is this project's choice.
use Rattle.std.specs.Prelude.{ℕ, ◌*◌, List, length, sum_by}
use Rattle.byteorder.specs.Endian.{big_number}
use Rattle.hd_terms.specs.declared.IdSize.{IdSize}
use Rattle.hd_terms.specs.declared.Group.{Group}
use Rattle.hd_terms.specs.declared.Group.TheVariants as groups
use Rattle.hd_terms.specs.Records.{id_len}
use Rattle.hd_terms.specs.Types.{element_len}
use Rattle.hd_terms.specs.SubRecords.{ClassValue}

-- an instance is counted under its class
abbrev pub instance_group : IdSize → List ℕ → Group
instance_group size class = groups.Class (big_number (id_len size) class)

-- an instance's recorded bytes: those of its values, as its record counts them
abbrev pub instance_bytes : List ℕ → ℕ
instance_bytes count = big_number 4 count

-- an object array is counted under its array class
abbrev pub array_group : IdSize → List ℕ → Group
array_group size class = groups.Class (big_number (id_len size) class)

-- an object array's recorded bytes: its count times the size of an ID
abbrev pub array_bytes : IdSize → List ℕ → ℕ
array_bytes size count = big_number 4 count * id_len size

-- a primitive array is counted under the type of its elements
abbrev pub primitive_group : ℕ → Group
primitive_group element = groups.Prim element

-- a primitive array's recorded bytes: its count times the size of its elements
abbrev pub primitive_bytes : ℕ → List ℕ → ℕ
primitive_bytes element count = big_number 4 count * element_len element

-- a class is counted among the classes
abbrev pub class_group : Group
class_group = groups.Classes

-- a class's recorded bytes: those of the values of its statics
abbrev pub class_bytes : List ClassValue → ℕ
class_bytes statics = sum_by (λ (v : ClassValue). length v.value) statics
