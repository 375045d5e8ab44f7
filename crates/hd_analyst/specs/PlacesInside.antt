-- How the fields of the class that was asked for last are kept.
use Rattle.std.specs.Prelude.{◌≡◌, ℕ, List, Option, None, Some}
use Rattle.std.specs.Option.{option_map}
use Rattle.hd_terms.specs.Dump.{Dump, NamedClass, NamedField, named_class}

-- they are those of its layout
abbrev pub AreOfLast : Dump → Option (ℕ × List NamedField) → Type 0
AreOfLast dump None = Unit {0}
AreOfLast dump (Some last) = option_map (λ (c : NamedClass). c.fields) (named_class dump last.0) ≡ Some last.1
