-- Fields of a request head, by their names.
-- Source: RFC 9110, section 5.1: the case of letters in a name doesn't count.
use Rattle.std.specs.Prelude.{ℕ, ◌==◌, if◌then◌else◌, List, count_by, Option, None}
use Rattle.websocket.specs.Headers.{Fields, eq_ignore_case, header_value}

-- how many fields have the name
abbrev pub count_named : Fields → List ℕ → ℕ
count_named fields name = count_by (λ (f : List ℕ × List ℕ). eq_ignore_case f.0 name) fields

-- the value of the only field with the name: none where no field has it, and none where more than one has it
abbrev pub only_value : Fields → List ℕ → Option (List ℕ)
only_value fields name = if count_named fields name == 1 then header_value fields name else None
