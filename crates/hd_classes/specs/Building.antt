-- Resolving one class after another.
use Rattle.std.specs.Prelude.{◌≡◌, ◌≢◌, ◌⊎◌, ℕ, ◌==◌, true, false, Bool, if◌then◌else◌, List, [], slice_get, Option, Some, None}
use Rattle.std.specs.List.{filter_map, list_any}
use Rattle.std.specs.Map.{lookup}
use Rattle.hd_terms.specs.declared.errors.Cause.TheVariants as causes
use Rattle.hd_terms.specs.declared.errors.ReadFault.{ReadFault}
use Rattle.hd_terms.specs.Classes.{ClassTable, ResolvedClass, chain_of, resolved_class, never_ends}
use Rattle.hd_terms.specs.ReadFaults.{fault}
use Rattle.hd_classes.specs.declared.path.Path.{Path}
use Rattle.hd_classes.specs.declared.source.Source.{Source}
use Rattle.hd_classes.specs.Links.{Row, views, is_kept, Keeps}
use Rattle.hd_classes.specs.Linking.{AreKept}
use Rattle.hd_classes.specs.Paths.{Leads}
use Rattle.hd_classes.specs.Sources.{table_of}
use Rattle.hd_classes.specs.FirstClass.{PlacedClass, placed_classes}

-- the chain of an ID ends, but is not whole
pub record IsBroken (t : ClassTable) (id : ℕ) : Type 0 where
  pub some : id ≢ 0
  pub none : chain_of t.classes id ≡ None
  pub ends : never_ends t.classes id ≡ false

abbrev pub AreBroken : ClassTable → List ℕ → Type 0
AreBroken t ids = (id : ℕ) → list_any (λ (x : ℕ). id == x) ids ≡ true → IsBroken t id

-- the classes of a path are noted: where it ends at a broken chain, each of them has one
pub record ArePathBroken (t : ClassTable) (start : ℕ) (ids : List ℕ) : Type 0 where
  pub broken : IsBroken t start
  pub all : AreBroken t ids

abbrev pub NotesPath : Path → List ℕ → List ℕ → Type 0
NotesPath p ids ids' = (t : ClassTable) → Leads t p → IsBroken t p.end → AreBroken t ids → ArePathBroken t p.start ids'

-- a class is kept if its chain is whole
abbrev pub IsSettled : ClassTable → List Row → ℕ → Type 0
IsSettled t rows id = (k : ResolvedClass) → resolved_class t id ≡ Some k → is_kept rows id ≡ true

-- one class more, whose chain ends
pub record AddsClass (t : ClassTable) (x : PlacedClass) (rows rows' : List Row) (ids : List ℕ) : Type 0 where
  pub kept : AreKept t rows'
  pub more : Keeps rows rows'
  pub broken : AreBroken t ids
  pub ends : never_ends t.classes x.class.id ≡ false
  pub settled : IsSettled t rows' x.class.id

-- one of these classes has the ID
abbrev pub is_among : List PlacedClass → ℕ → Bool
is_among classes id = list_any (λ (x : PlacedClass). id == x.class.id) classes

-- the fault of a class whose chain never ends
abbrev pub cycle_at : ClassTable → PlacedClass → Option ReadFault
cycle_at t x = if never_ends t.classes x.class.id then Some (fault causes.ClassCycle x.offset) else None

-- these classes are resolved, and their chains end
pub record AreResolved (t : ClassTable) (classes : List PlacedClass) (rows : List Row) (ids : List ℕ) : Type 0 where
  pub kept : AreKept t rows
  pub broken : AreBroken t ids
  pub settled : (id : ℕ) → is_among classes id ≡ true → IsSettled t rows id
  pub no_cycle : filter_map (cycle_at t) classes ≡ []

-- all classes of a source are resolved, and their chains end
pub record HasAllKnown (s : Source) (rows : List Row) : Type 0 where
  pub kept : AreKept (table_of s) rows
  pub known : (id : ℕ) → lookup (λ (x : ℕ). id == x) (views rows) ≡ resolved_class (table_of s) id
  pub no_cycle : filter_map (cycle_at (table_of s)) (placed_classes s.list.now) ≡ []

-- out of memory, or this class's fault
abbrev pub IsCycleOrMemory : ClassTable → PlacedClass → ReadFault → Type 0
IsCycleOrMemory t x f = (f ≡ fault causes.OutOfMemory 0) ⊎ (cycle_at t x ≡ Some f)

-- out of memory, or the first class's fault
abbrev pub IsFirstCycleOrMemory : Source → ReadFault → Type 0
IsFirstCycleOrMemory s f = (f ≡ fault causes.OutOfMemory 0) ⊎ (slice_get (filter_map (cycle_at (table_of s)) (placed_classes s.list.now)) 0 ≡ Some f)
