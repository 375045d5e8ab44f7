-- Names, of groups, objects and slots, as they are printed.
-- Source: this project's protocol (docs/PROTOCOL.md). The names of arrays are those that the Java language spells.
use Rattle.std.specs.Prelude.{ℕ, ◌+◌, ◌/◌, ◌%◌, ◌==◌, Bool, false, nat_lt, nat_le, ◌&&◌, not, if◌then◌else◌, List, [], ◌∷◌, ◌++◌, codes, decimal, Option, Some}
use Rattle.std.specs.Prelude.{None}
use Rattle.std.specs.Fmt.{digits}
use Rattle.std.specs.Option.{option_map_or}
use Rattle.std.specs.List.{flat_map}
use Rattle.std.specs.Str.Iter.{HasSubslice}
use Rattle.hd_terms.specs.declared.Group.{Group}
use Rattle.hd_terms.specs.declared.Group.TheVariants as groups
use Rattle.hd_terms.specs.declared.Slot.{Slot}
use Rattle.hd_terms.specs.declared.Slot.TheVariants as slots
use Rattle.hd_terms.specs.Dump.{NamedField, Dump, object_at, name_in, named_field, static_name}
use Rattle.hd_terms.specs.Edges.{index_of}

-- an ID as it is printed: 0x and hexadecimal digits in lower case, without leading zeros
abbrev pub id_text : ℕ → List ℕ
id_text id = codes "0x" ++ digits 16 false id

-- a hexadecimal digit in lower case
abbrev pub hex_digit_text : ℕ → ℕ
hex_digit_text n = if nat_lt n 10 then 48 + n else 87 + n

-- a byte as \x and two hexadecimal digits
abbrev pub escaped : ℕ → List ℕ
escaped b = 0x5c ∷ 0x78 ∷ hex_digit_text (b / 16) ∷ hex_digit_text (b % 16) ∷ []

-- a byte of a name as it is printed: itself from 0x21 to 0x7e, but for the backslash; any other byte escaped
abbrev pub name_byte : ℕ → List ℕ
name_byte b = if (nat_le 0x21 b && nat_le b 0x7e) && not (b == 0x5c) then b ∷ [] else escaped b

-- the name of a class or a field; a question mark where it has none, or an empty one
abbrev pub name_text : Option (List ℕ) → List ℕ
name_text None = codes "?"
name_text (Some []) = codes "?"
name_text (Some (b ∷ bs)) = flat_map name_byte (b ∷ bs)

-- the name of the arrays of a basic type
abbrev pub array_name : ℕ → List ℕ
array_name element =
    if element == 4 then codes "boolean[]"
    else if element == 5 then codes "char[]"
    else if element == 6 then codes "float[]"
    else if element == 7 then codes "double[]"
    else if element == 8 then codes "byte[]"
    else if element == 9 then codes "short[]"
    else if element == 10 then codes "int[]"
    else if element == 11 then codes "long[]"
    else codes "?"

-- a group as lines spell it
abbrev pub group_text : Group → List ℕ
group_text (groups.Class id) = id_text id
group_text (groups.Prim element) = codes "t" ++ decimal element
group_text groups.Classes = codes "c"

-- the name of a group, by the names of classes
abbrev pub group_name : Dump → Group → List ℕ
group_name dump (groups.Class id) = name_text (name_in dump id)
group_name dump (groups.Prim element) = array_name element
group_name dump groups.Classes = codes "classes"

-- the name of a group contains a text
abbrev pub IsNamedWith : Dump → (text : List ℕ) → Group → Type 0
IsNamedWith dump text group = HasSubslice (group_name dump group) text

-- the name of an object by its ID and its group: that of its class, of its array type, or of the class that it is
abbrev pub object_name : Dump → ℕ → Group → List ℕ
object_name dump id (groups.Class class) = name_text (name_in dump class)
object_name dump id (groups.Prim element) = array_name element
object_name dump id groups.Classes = name_text (name_in dump id) ++ codes ".class"

-- the name of the object of a number
abbrev pub name_at : Dump → ℕ → List ℕ
name_at dump o = object_name dump (object_at dump o).id (object_at dump o).group

-- the same, if there is such a number
abbrev pub name_of_number : Dump → Option ℕ → List ℕ
name_of_number dump None = codes "-"
name_of_number dump (Some o) = name_at dump o

-- the name of the object of an ID
abbrev pub name_of_id : Dump → ℕ → List ℕ
name_of_id dump id = name_of_number dump (index_of dump.objects id)

-- `CLASS.FIELD`
abbrev pub place_text : Dump → (class : ℕ) → (name : Option (List ℕ)) → List ℕ
place_text dump class name = name_text (name_in dump class) ++ 46 ∷ name_text name

-- the place of a field: the class that declares it and its name
abbrev pub field_place : Dump → Option NamedField → List ℕ
field_place dump None = codes "-"
field_place dump (Some f) = place_text dump f.owner f.name

-- the place of the field of a number of an object of a group
abbrev pub place_of_field : Dump → Group → ℕ → List ℕ
place_of_field dump (groups.Class class) i = field_place dump (named_field dump class i)
place_of_field dump (groups.Prim element) i = codes "-"
place_of_field dump groups.Classes i = codes "-"

-- the place of a slot of an object, by the object's ID and group: that of a field, or of a static of the class that the object is
abbrev pub place_in : Dump → ℕ → Group → Slot → List ℕ
place_in dump id group (slots.Field i) = place_of_field dump group i
place_in dump id group (slots.Static i) = place_text dump id (static_name dump id i)
place_in dump id group (slots.Element i) = codes "-"
place_in dump id group (slots.Const i) = codes "-"
place_in dump id group slots.OfClass = codes "-"
place_in dump id group slots.Super = codes "-"
place_in dump id group slots.Loader = codes "-"
place_in dump id group slots.Signers = codes "-"
place_in dump id group slots.Domain = codes "-"

-- the place of a slot of the object of a number
abbrev pub slot_place : Dump → ℕ → Slot → List ℕ
slot_place dump o slot = place_in dump (object_at dump o).id (object_at dump o).group slot

-- the place of a slot of the object of an ID
abbrev pub place_of_slot : Dump → ℕ → Slot → List ℕ
place_of_slot dump id slot = option_map_or (λ (o : ℕ). slot_place dump o slot) (index_of dump.objects id) (codes "-")

-- a line with more columns, each behind a space, where replies show names
abbrev pub with_columns : Bool → List ℕ → List (List ℕ) → List ℕ
with_columns names line columns = if names then line ++ flat_map (λ (column : List ℕ). 32 ∷ column) columns else line
