-- Looking up class objects by the names that go with them, as `Dump.antt` says it of a dump.
use Rattle.std.specs.Prelude.{ℕ, ◌==◌, List, Option, None}
use Rattle.std.specs.Option.{option_and_then}
use Rattle.std.specs.List.{find, slice_index_or}
use Rattle.hd_terms.specs.Dump.{NamedClass}

-- the class object of an ID, if there is one
abbrev pub class_in : List NamedClass → ℕ → Option NamedClass
class_in classes id = find (λ (c : NamedClass). id == c.class) classes

-- the name of the static of a number of the class of an ID, if it has the static and that has a name
abbrev pub static_in : List NamedClass → ℕ → ℕ → Option (List ℕ)
static_in classes id i = option_and_then (λ (c : NamedClass). slice_index_or c.statics i None) (class_in classes id)
