-- Where references lie among the values of the instances of a class.
-- Source: HPROF binary format, INSTANCE DUMP: the values of the class's instance fields, followed by those of its super class's.
use Rattle.std.specs.Prelude.{ℕ, ◌+◌, if◌then◌else◌, List, [], ◌∷◌}
use Rattle.std.specs.Option.{option_map_or}
use Rattle.hd_terms.specs.declared.IdSize.{IdSize}
use Rattle.hd_terms.specs.Types.{is_id_type, value_len}
use Rattle.hd_terms.specs.Classes.{LayoutField, ResolvedClass}
use Rattle.hd_classes.specs.Known.{Known, known_by_number}

-- where the references among the values of fields lie, if the first value lies at a place
abbrev pub reference_places : IdSize → ℕ → List LayoutField → List ℕ
reference_places size at [] = []
reference_places size at (f ∷ fs) = if is_id_type f.code then at ∷ reference_places size (at + value_len size f.code) fs else reference_places size
    (at + value_len size f.code) fs

-- so of the class of a number, from the first value of an instance on
abbrev pub places_by_number : IdSize → Known → ℕ → List ℕ
places_by_number size classes i = option_map_or (λ (k : ResolvedClass). reference_places size 0 k.layout) (known_by_number classes i) []
