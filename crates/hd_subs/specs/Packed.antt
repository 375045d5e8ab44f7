-- Sub-records that are kept by their offsets alone, and what is read there.
-- Source: HPROF binary format, INSTANCE DUMP, OBJECT ARRAY DUMP and PRIMITIVE ARRAY DUMP: u1 tag, ID of the object, u4 stack trace
-- serial; then of an instance the ID of its class and u4 bytes of values, of an array u4 count of elements, and the ID of its
-- class or the type of its elements.
use Rattle.std.specs.Prelude.{ℕ, ◌==◌, ◌+◌, ◌-◌, ◌*◌, ◌≤◌, ◌<◌, ◌⊎◌, nat_lt, if◌then◌else◌, List, drop, slice_index}
use Rattle.std.specs.List.{slice_index_or}
use Rattle.byteorder.specs.Endian.{big_number}
use Rattle.hd_terms.specs.declared.IdSize.{IdSize}
use Rattle.hd_terms.specs.Records.{id_len}
use Rattle.hd_terms.specs.SubRecords.{Item, Instance, ObjArray, PrimArray, Sub}
use Rattle.hd_subs.specs.Layout.{class_offset, array_class_offset, elements_offset}

-- the ID at an offset
abbrev pub id_at : IdSize → List ℕ → ℕ → ℕ
id_at size bytes at = big_number (id_len size) (drop at bytes)

-- the number of four bytes at an offset
abbrev pub count_at : List ℕ → ℕ → ℕ
count_at bytes at = big_number 4 (drop at bytes)

-- the instance whose tag lies at an offset
abbrev pub packed_instance : IdSize → List ℕ → ℕ → Item
packed_instance size bytes at =
    Instance (id_at size bytes (at + 1)) (id_at size bytes (class_offset size at))
    (record { start = elements_offset size at; len = count_at bytes (class_offset size at + id_len size) })

-- the object array whose tag lies at an offset
abbrev pub packed_array : IdSize → List ℕ → ℕ → Item
packed_array size bytes at =
    ObjArray (id_at size bytes (at + 1)) (id_at size bytes (array_class_offset size at))
    (record { start = elements_offset size at; len = id_len size * count_at bytes (class_offset size at) })

-- the primitive array whose tag lies at an offset
abbrev pub packed_primitive_array : IdSize → List ℕ → ℕ → Item
packed_primitive_array size bytes at =
    PrimArray (id_at size bytes (at + 1)) (slice_index bytes (array_class_offset size at)) (count_at bytes (class_offset size at))

-- what is read at an offset: by its tag an instance or an object array, and else a primitive array
abbrev pub packed_item : IdSize → List ℕ → ℕ → Item
packed_item size bytes at =
    if slice_index bytes at == 0x21 then packed_instance size bytes at
    else if slice_index bytes at == 0x22 then packed_array size bytes at
    else packed_primitive_array size bytes at

-- the sub-record that is read at an offset
abbrev pub packed_sub : IdSize → List ℕ → ℕ → Sub
packed_sub size bytes at = record { offset = at; item = packed_item size bytes at }

-- the numbers from this one on are those of rows; the lesser ones are offsets
abbrev pub first_row : ℕ
first_row = 0x8000_0000

-- what stands past the last row
abbrev pub no_sub : Sub
no_sub = record { offset = 0; item = PrimArray 0 0 0 }

-- the sub-record of a number: read at that offset, or the row
abbrev pub sub_of_entry : IdSize → List ℕ → List Sub → ℕ → Sub
sub_of_entry size bytes rows entry =
    if nat_lt entry first_row then packed_sub size bytes entry else slice_index_or rows (entry - first_row) no_sub

-- a number is that of a row, or an offset with bytes enough behind it
abbrev pub IsEntry : ℕ → ℕ → ℕ → Type 0
IsEntry bytes rows entry = ((entry < first_row) × (entry + 25 ≤ bytes)) ⊎ ((first_row ≤ entry) × (entry < first_row + rows))
