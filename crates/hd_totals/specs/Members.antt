-- The objects of a group that have a strength, by what is kept of them.
-- Source: this project.
use Rattle.std.specs.Prelude.{ℕ, ◌<◌, ◌==◌, Bool, ◌&&◌, if◌then◌else◌, List, length, count_by}
use Rattle.std.specs.List.{range_with_len}
use Rattle.hd_terms.specs.declared.Group.{Group}
use Rattle.hd_terms.specs.declared.Group.TheVariants as groups
use Rattle.hd_terms.specs.declared.Strength.{Strength}
use Rattle.hd_terms.specs.Ranks.{rank}
use Rattle.hd_terms.specs.Dump.{Dump, object_at}
use Rattle.hd_terms.specs.Settled.{Reached, reached_at}

-- the object of a number has a strength, by what is kept of it
abbrev pub has_kept : List Reached → Strength → ℕ → Bool
has_kept ks s o = rank (reached_at ks o).strength == rank s

-- a group as a number of its kind and its own number
abbrev pub group_code : Group → ℕ × ℕ
group_code (groups.Class id) = (0, id)
group_code (groups.Prim element) = (1, element)
group_code groups.Classes = (2, 0)

-- one group
abbrev pub same_group : Group → Group → Bool
same_group a b = ((group_code a).0 == (group_code b).0) && ((group_code a).1 == (group_code b).1)

-- the object of a number is of a group and has a strength, by what is kept of it
abbrev pub is_member : Dump → List Reached → Group → Strength → ℕ → Bool
is_member dump ks group s o = has_kept ks s o && same_group (object_at dump o).group group

-- the recorded bytes of the object of a number, if it passes a test
abbrev pub bytes_if : Dump → (ℕ → Bool) → ℕ → ℕ
bytes_if dump test o = if test o then (object_at dump o).bytes else 0

-- how many objects of a group have a strength, by what is kept of them
abbrev pub member_count : Dump → List Reached → Group → Strength → ℕ
member_count dump ks group s = count_by (is_member dump ks group s) (range_with_len 0 (length dump.objects))

-- the ID of a class has 64 bits, and the type of elements 8
abbrev pub InRange : Group → Type 0
InRange (groups.Class id) = id < 18446744073709551616
InRange (groups.Prim element) = element < 256
InRange groups.Classes = Unit {0}
