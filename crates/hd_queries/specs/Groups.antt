-- The groups of a dump that can be looked for by their names.
-- Source: this project.
use Rattle.std.specs.Prelude.{◌≡◌, ◌⊎◌, ◌↔◌, ◌+◌, ◌<◌, ◌≤◌, ℕ, List, length, Contains}
use Rattle.hd_terms.specs.declared.Group.{Group}
use Rattle.hd_terms.specs.declared.Group.TheVariants as groups
use Rattle.hd_terms.specs.Ranks.{rank}
use Rattle.hd_terms.specs.Dump.{NamedClass, Dump, object_at}
use Rattle.hd_terms.specs.Settled.{Reached, reached_at}

-- the group of the instances of a class object
abbrev pub class_group : NamedClass → Group
class_group c = groups.Class c.class

-- a group is that of a class object's instances, or has an object whose strength is one of the `k` greatest, by what is kept
abbrev pub IsGroupAbove : Dump → List Reached → (k : ℕ) → Group → Type 0
IsGroupAbove dump ks k group =
    ((c : NamedClass) × Contains dump.classes c × (group ≡ class_group c))
    ⊎ ((o : ℕ) × (o < length dump.objects) × ((object_at dump o).group ≡ group) × (6 ≤ rank (reached_at ks o).strength + k))

-- the groups of which this holds, in any order
abbrev pub AreGroupsAbove : Dump → List Reached → (k : ℕ) → List Group → Type 0
AreGroupsAbove dump ks k gs = (group : Group) → Contains gs group ↔ IsGroupAbove dump ks k group
