-- Objects and groups as they are listed under a log.
-- Source: this project. A list is told by what is in it and by its order, and not by how it is made.
use Rattle.std.specs.Prelude.{◌≡◌, ◌≢◌, ℕ, ◌+◌, ◌*◌, ◌-◌, ◌^◌, ◌<◌, ◌⊎◌, ◌↔◌, List, length, map, take, Contains, slice_get, Option, None, Some}
use Rattle.std.specs.List.{AllByRecursion}
use Rattle.std.specs.List.Sorted.{IsStrictlyIncreasing}
use Rattle.hd_terms.specs.declared.Group.{Group}
use Rattle.hd_terms.specs.declared.Group.TheVariants as groups
use Rattle.hd_terms.specs.declared.ClassRow.{ClassRow}
use Rattle.hd_terms.specs.declared.MovedRow.{MovedRow}
use Rattle.hd_terms.specs.declared.Strength.{Strength}
use Rattle.hd_terms.specs.declared.Event.{Event}
use Rattle.hd_terms.specs.Ranks.{rank}
use Rattle.hd_terms.specs.Strengths.{HasStrength}
use Rattle.hd_terms.specs.Dump.{NamedClass, Dump, object_at}
use Rattle.hd_terms.specs.EditedDump.{standing}
use Rattle.hd_terms.specs.Fell.{Falls}
use Rattle.hd_terms.specs.Totals.{IsMember, IsTotalOf, IsGroupTotal}

-- the first `n` items of a list, or all
abbrev pub first_items : {X : Type 0} → Option ℕ → List X → List X
first_items None xs = xs
first_items (Some n) xs = take n xs

-- some object that is meant has this ID
abbrev pub IsIdOf : Dump → (IsMeant : ℕ → Type 0) → ℕ → Type 0
IsIdOf dump IsMeant id = (o : ℕ) × (o < length dump.objects) × IsMeant o × ((object_at dump o).id ≡ id)

-- the IDs of the objects that are meant, ascending
pub record AreIdsOf (dump : Dump) (IsMeant : ℕ → Type 0) (ids : List ℕ) : Type 0 where
  pub ascending : IsStrictlyIncreasing ids
  pub meant : (id : ℕ) → Contains ids id ↔ IsIdOf dump IsMeant id

-- the objects of a group that have a strength under a log
abbrev pub AreMembers : Dump → List Event → Group → Strength → List ℕ → Type 0
AreMembers dump log group s ids = AreIdsOf dump (IsMember dump log group s) ids

-- the objects that become unreachable from one log to another
abbrev pub AreFallen : Dump → (before after : List Event) → List ℕ → Type 0
AreFallen dump before after ids = AreIdsOf dump (Falls dump before after) ids

-- where a group stands among the groups: first those of classes by their IDs, which are below 2 ^ 64, then those of
-- primitive arrays by the types of their elements, which are below 2 ^ 8, then the classes
abbrev pub group_key : Group → ℕ
group_key (groups.Class id) = id
group_key (groups.Prim element) = 2 ^ 64 + element
group_key groups.Classes = 2 ^ 64 + 2 ^ 8

-- a group has an object of a strength under a log
abbrev pub HasMember : Dump → List Event → Strength → Group → Type 0
HasMember dump log s group = (o : ℕ) × (o < length dump.objects) × IsMember dump log group s o

-- the groups that have objects of a strength under a log, in order, with their totals
pub record AreClassRows (dump : Dump) (log : List Event) (s : Strength) (rows : List ClassRow) : Type 0 where
  pub in_order : IsStrictlyIncreasing (map (λ (row : ClassRow). group_key row.group) rows)
  pub totals : AllByRecursion (λ (row : ClassRow). IsGroupTotal dump log row.group s row.count row.bytes) rows
  pub groups : (group : Group) → Contains (map (λ (row : ClassRow). row.group) rows) group ↔ HasMember dump log s group

-- of the objects that are meant those of a group
abbrev pub IsMeantIn : Dump → (IsMeant : ℕ → Type 0) → Group → ℕ → Type 0
IsMeantIn dump IsMeant group o = ((object_at dump o).group ≡ group) × IsMeant o

-- a group has an object that is meant
abbrev pub HasMeant : Dump → (IsMeant : ℕ → Type 0) → Group → Type 0
HasMeant dump IsMeant group = (o : ℕ) × (o < length dump.objects) × IsMeantIn dump IsMeant group o

-- a group stands above another one: it has more bytes; or the same bytes and more objects; or the same of both, and comes earlier
-- among the groups
abbrev pub IsAbove : ClassRow → ClassRow → Type 0
IsAbove a b = (b.bytes < a.bytes) ⊎ ((a.bytes ≡ b.bytes) × ((b.count < a.count) ⊎ ((a.count ≡ b.count) × (group_key a.group < group_key b.group))))

-- each row stands above the next one
abbrev pub AreRanked : List ClassRow → Type 0
AreRanked rows = (i : ℕ) (a b : ClassRow) → slice_get rows i ≡ Some a → slice_get rows (i + 1) ≡ Some b → IsAbove a b

-- the groups that have objects that are meant, with how many these are and their recorded bytes; those with the most bytes first
pub record AreTopRows (dump : Dump) (IsMeant : ℕ → Type 0) (rows : List ClassRow) : Type 0 where
  pub ranked : AreRanked rows
  pub totals : AllByRecursion (λ (row : ClassRow). IsTotalOf dump (IsMeantIn dump IsMeant row.group) row.count row.bytes) rows
  pub groups : (group : Group) → Contains (map (λ (row : ClassRow). row.group) rows) group ↔ HasMeant dump IsMeant group

-- the groups that are looked through by their names: those of the dump's objects, and for each class object that of its instances
abbrev pub IsNamedGroup : Dump → Group → Type 0
IsNamedGroup dump group = HasMeant dump (λ (o : ℕ). Unit {0}) group ⊎ ((c : NamedClass) × Contains dump.classes c × (group ≡ groups.Class c.class))

-- those of these groups that are meant, in order
pub record AreNamedGroups (dump : Dump) (IsMeant : Group → Type 0) (found : List Group) : Type 0 where
  pub in_order : IsStrictlyIncreasing (map group_key found)
  pub are : (group : Group) → Contains found group ↔ (IsNamedGroup dump group × IsMeant group)

-- an object has a strength under the earlier log and another one under the later
pub record IsMoved (dump : Dump) (before after : List Event) (was is : Strength) (o : ℕ) : Type 0 where
  pub before_it : HasStrength (standing dump before) o was
  pub after_it : HasStrength (standing dump after) o is
  pub other : was ≢ is

-- where a pair of strengths stands among the pairs: those from the greatest strength first, and of these those to the greatest
abbrev pub move_key : MovedRow → ℕ
move_key row = 6 * (5 - rank row.before) + (5 - rank row.after)

-- a pair of strengths has an object that moved from one to the other
abbrev pub HasMoved : Dump → (before after : List Event) → Strength → Strength → Type 0
HasMoved dump before after was is = (o : ℕ) × (o < length dump.objects) × IsMoved dump before after was is o

-- the pairs of strengths that have objects which moved from one log to another, in order, with how many these are and their
-- recorded bytes
pub record AreMovedRows (dump : Dump) (before after : List Event) (rows : List MovedRow) : Type 0 where
  pub in_order : IsStrictlyIncreasing (map move_key rows)
  pub totals : AllByRecursion (λ (row : MovedRow). IsTotalOf dump (IsMoved dump before after row.before row.after) row.count row.bytes) rows
  pub pairs : (was is : Strength) → Contains {X = Strength × Strength} (map (λ (row : MovedRow). (row.before, row.after)) rows) (was, is)
      ↔ HasMoved dump before after was is
