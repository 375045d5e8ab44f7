-- Where the fields of a sub-record lie behind its tag.
-- Source: HPROF binary format, CLASS DUMP, INSTANCE DUMP, OBJECT ARRAY DUMP and PRIMITIVE ARRAY DUMP: u1 tag, ID of the object, u4 stack trace serial;
-- then of a class the ID of its super class, of an instance the ID of its class and u4 bytes of values, of an array u4 count of
-- elements and the ID of its class.
use Rattle.std.specs.Prelude.{ℕ, ◌+◌, ◌*◌, List, drop, slice_index}
use Rattle.byteorder.specs.Endian.{big_number}
use Rattle.hd_terms.specs.declared.IdSize.{IdSize}
use Rattle.hd_terms.specs.declared.IdSize.TheVariants as sizes
use Rattle.hd_terms.specs.Records.{id_len}
use Rattle.hd_terms.specs.Types.{element_len}

-- the offset of the ID of an instance's class, or of a class's super class
abbrev pub class_offset : IdSize → ℕ → ℕ
class_offset size tag = tag + 5 + id_len size

-- the offset of the ID of an object array's class
abbrev pub array_class_offset : IdSize → ℕ → ℕ
array_class_offset size tag = tag + 9 + id_len size

-- the offset of the values of an instance, or of the elements of an object array
abbrev pub elements_offset : IdSize → ℕ → ℕ
elements_offset sizes.Four tag = tag + 17
elements_offset sizes.Eight tag = tag + 25

-- how many bytes an instance has behind its tag, of which `fields` has the first
abbrev pub instance_len : IdSize → List ℕ → ℕ
instance_len size fields = 2 * id_len size + 8 + big_number 4 (drop (2 * id_len size + 4) fields)

-- an object array
abbrev pub array_len : IdSize → List ℕ → ℕ
array_len size fields = 2 * id_len size + 8 + id_len size * big_number 4 (drop (id_len size + 4) fields)

-- a primitive array
abbrev pub primitive_array_len : IdSize → List ℕ → ℕ
primitive_array_len size fields = id_len size + 9 + element_len (slice_index fields (id_len size + 8)) * big_number 4 (drop (id_len size + 4) fields)
