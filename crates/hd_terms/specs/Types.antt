-- Basic types, by the numbers that HPROF gives them, and the bytes of a value.
-- Source: HPROF binary format, basic types: 2 object, 4 boolean, 5 char, 6 float, 7 double, 8 byte, 9 short, 10 int, 11 long.
-- That 1 is read as 2 is this project's choice.
use Rattle.std.specs.Prelude.{ℕ, ◌==◌, ◌&&◌, ◌||◌, nat_le, Bool, if◌then◌else◌}
use Rattle.hd_terms.specs.declared.IdSize.{IdSize}
use Rattle.hd_terms.specs.Records.{id_len}

-- a type that the elements of a primitive array can have
abbrev pub is_element_type : ℕ → Bool
is_element_type t = nat_le 4 t && nat_le t 11

-- the bytes of a value of such a type
abbrev pub element_len : ℕ → ℕ
element_len t =
    if t == 4 then 1 else if t == 5 then 2 else if t == 6 then 4 else if t == 7 then 8
    else if t == 8 then 1 else if t == 9 then 2 else if t == 10 then 4 else 8

-- a type whose values are IDs
abbrev pub is_id_type : ℕ → Bool
is_id_type t = (t == 1) || (t == 2)

-- a type that a constant, a static or a field can have
abbrev pub is_type : ℕ → Bool
is_type t = is_id_type t || is_element_type t

-- the bytes of a value of such a type
abbrev pub value_len : IdSize → ℕ → ℕ
value_len size t = if is_id_type t then id_len size else element_len t
