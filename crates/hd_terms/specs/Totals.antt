-- Totals: how many objects of a strength there are under a log, and their recorded bytes; of all objects, or of a group.
-- Source: this project.
use Rattle.std.specs.Prelude.{◌≡◌, ℕ, ◌<◌, ◌↔◌, Bool, true, if◌then◌else◌, List, length, count_by, sum_by}
use Rattle.std.specs.List.{range_with_len}
use Rattle.hd_terms.specs.declared.Group.{Group}
use Rattle.hd_terms.specs.declared.Strength.{Strength}
use Rattle.hd_terms.specs.declared.Event.{Event}
use Rattle.hd_terms.specs.Strengths.{HasStrength}
use Rattle.hd_terms.specs.Dump.{Dump, object_at}
use Rattle.hd_terms.specs.EditedDump.{standing}

-- a test decides which objects are meant
abbrev pub Decides : Dump → (IsMeant : ℕ → Type 0) → (ℕ → Bool) → Type 0
Decides dump IsMeant has = (o : ℕ) → o < length dump.objects → (has o ≡ true) ↔ IsMeant o

-- the number of the objects that are meant, and the sum of their recorded bytes; `has` is a test that decides which
-- objects are meant
pub record IsTotalOf (dump : Dump) (IsMeant : ℕ → Type 0) (count bytes : ℕ) : Type 0 where
  pub has : ℕ → Bool
  pub decides : Decides dump IsMeant has
  pub count_is : count ≡ count_by has (range_with_len 0 (length dump.objects))
  pub bytes_is : bytes ≡ sum_by (λ o. if has o then (object_at dump o).bytes else 0) (range_with_len 0 (length dump.objects))

-- the objects of a strength under a log
abbrev pub IsTotal : Dump → List Event → Strength → (count bytes : ℕ) → Type 0
IsTotal dump log s count bytes = IsTotalOf dump (λ o. HasStrength (standing dump log) o s) count bytes

-- an object is of a group and has a strength under a log
abbrev pub IsMember : Dump → List Event → Group → Strength → ℕ → Type 0
IsMember dump log group s o = ((object_at dump o).group ≡ group) × HasStrength (standing dump log) o s

-- the objects of a group and a strength under a log
abbrev pub IsGroupTotal : Dump → List Event → Group → Strength → (count bytes : ℕ) → Type 0
IsGroupTotal dump log group s count bytes = IsTotalOf dump (IsMember dump log group s) count bytes

-- how many objects of each group have each strength under a log
abbrev pub AreGroupCounts : Dump → List Event → (count : Group → Strength → ℕ) → Type 0
AreGroupCounts dump log count = (group : Group) (s : Strength) → (bytes : ℕ) × IsGroupTotal dump log group s (count group s) bytes
