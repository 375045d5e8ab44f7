-- What the live edits of a log take away: references, by the indexes of their slots, all of a kind, or those in a field of a
-- class, and roots of the dump and added ones, by their numbers.
-- Source: this project.
use Rattle.std.specs.Prelude.{◌≡◌, ℕ, ◌+◌, ◌*◌, ◌<◌, ◌==◌, Bool, true, false, ◌&&◌, ◌||◌, not, if◌then◌else◌, nat_eq, nat_lt, List, length, count_by, Option}
use Rattle.std.specs.Prelude.{None, Some, slice_get}
use Rattle.std.specs.Option.{option_map_or}
use Rattle.std.specs.List.{list_any}
use Rattle.hd_terms.specs.declared.Slot.{Slot}
use Rattle.hd_terms.specs.declared.Slot.TheVariants as slots
use Rattle.hd_terms.specs.declared.Group.{Group}
use Rattle.hd_terms.specs.declared.Group.TheVariants as groups
use Rattle.hd_terms.specs.declared.EdgeKind.{EdgeKind}
use Rattle.hd_terms.specs.declared.Edit.{Edit}
use Rattle.hd_terms.specs.declared.Edit.TheVariants as edits
use Rattle.hd_terms.specs.declared.Event.{Event}
use Rattle.hd_terms.specs.Dump.{SlotEntry, Object, Dump, object_at}
use Rattle.hd_terms.specs.EditedDump.{is_untouched, same_slot, is_slot, drops, is_dropped}
use Rattle.hd_terms.specs.Log.{live_edits}
use Rattle.hd_strength.specs.declared.cleared.Cleared.{Cleared}
use Rattle.hd_strength.specs.Cleared.{clears, clear_count, is_cleared}
use Rattle.hd_strength.specs.Multiset.{is_number, multiplicity}

-- the key of two numbers: an object and the index of its slot, or the ID of a class and the number of its field
abbrev pub pair_key : ℕ → ℕ → ℕ
pair_key o i = o * 4294967296 + i

-- the keys have that of two numbers, of which the second has 32 bits
unfoldable pub has_pair : List ℕ → ℕ → ℕ → Bool
has_pair keys o i = nat_lt i 4294967296 && list_any (nat_eq (pair_key o i)) keys

-- how often the keys have that of two numbers, of which the second has 32 bits
abbrev pub pair_count : List ℕ → ℕ → ℕ → ℕ
pair_count keys o i = if nat_lt i 4294967296 then multiplicity (pair_key o i) keys else 0

-- the numbers have that of a root
unfoldable pub has_root : List ℕ → ℕ → Bool
has_root numbers r = list_any (nat_eq r) numbers

-- the ID of the class and the number of the field, where the slot of an object of a group is a field of its class
abbrev pub field_of : Group → Slot → Option (ℕ × ℕ)
field_of (groups.Class class) (slots.Field i) = Some (class, i)
field_of (groups.Class class) (slots.Element i) = None
field_of (groups.Class class) (slots.Static i) = None
field_of (groups.Class class) (slots.Const i) = None
field_of (groups.Class class) slots.OfClass = None
field_of (groups.Class class) slots.Super = None
field_of (groups.Class class) slots.Loader = None
field_of (groups.Class class) slots.Signers = None
field_of (groups.Class class) slots.Domain = None
field_of (groups.Prim element) slot = None
field_of groups.Classes slot = None

-- the keys have that of a slot as a field of the class of an object of a group
abbrev pub has_field : List ℕ → Group → Slot → Bool
has_field keys group slot = option_map_or (λ (p : ℕ × ℕ). has_pair keys p.0 p.1) (field_of group slot) false

-- what is taken away: keys of slots, kinds of references, keys of fields of classes, and numbers of roots
pub record Removals : Type 0 where
  pub slots : List ℕ
  pub cleared : Cleared
  pub fields : List ℕ
  pub roots : List ℕ

-- the reference in a slot of an object, by the number of the object and the index of the slot, is taken away: by its slot, by its
-- kind, or by its field
abbrev pub is_removed : Removals → Object → SlotEntry → (o i : ℕ) → Bool
is_removed t x s o i = has_pair t.slots o i || (is_cleared t.cleared s.kind || has_field t.fields x.group s.slot)

-- the root of a number is taken away
abbrev pub is_root_removed : Removals → ℕ → Bool
is_root_removed t r = has_root t.roots r

-- an edit takes away the reference in one slot of an object: it cuts the slot, or clears the object whose referent the
-- slot is
abbrev pub takes_slot : Object → SlotEntry → Edit → Bool
takes_slot x s (edits.Cut id cut) = (x.id == id) && same_slot s.slot cut
takes_slot x s (edits.Clear id) = (x.id == id) && is_slot s.slot x.referent
takes_slot x s (edits.Drop r) = false
takes_slot x s (edits.Add id) = false
takes_slot x s (edits.ClearAll references) = false
takes_slot x s (edits.CutAll id i) = false

-- an edit cuts the field of a number in all objects of the class of an ID
abbrev pub cuts_field : (class i : ℕ) → Edit → Bool
cuts_field class i (edits.Cut id slot) = false
cuts_field class i (edits.Clear id) = false
cuts_field class i (edits.Drop r) = false
cuts_field class i (edits.Add id) = false
cuts_field class i (edits.ClearAll references) = false
cuts_field class i (edits.CutAll id j) = (class == id) && (i == j)

-- an edit takes away the reference in a slot of an object of a group by cutting the slot's field in all objects of the class
abbrev pub takes_field : Group → Slot → Edit → Bool
takes_field group slot edit = option_map_or (λ (p : ℕ × ℕ). cuts_field p.0 p.1 edit) (field_of group slot) false

-- each slot has its key as often as some edits take its reference one by one
abbrev pub AreSlots : Dump → List Edit → List ℕ → Type 0
AreSlots dump es keys = (o i : ℕ) (s : SlotEntry) → o < length dump.objects → slice_get (object_at dump o).slots i ≡ Some s
    → pair_count keys o i ≡ count_by (takes_slot (object_at dump o) s) es

-- each kind of references is counted as often as some edits clear it
abbrev pub AreKinds : List Edit → Cleared → Type 0
AreKinds es cleared = (kind : EdgeKind) → clear_count cleared kind ≡ count_by (clears kind) es

-- each field of a class has its key as often as some edits cut it in all objects of the class
abbrev pub AreFields : List Edit → List ℕ → Type 0
AreFields es keys = (class i : ℕ) → pair_count keys class i ≡ count_by (cuts_field class i) es

-- each root has its number as often as some edits drop it
abbrev pub AreRoots : List Edit → List ℕ → Type 0
AreRoots es numbers = (r : ℕ) → multiplicity r numbers ≡ count_by (drops r) es

-- what is taken away is what the live edits of a log take away, each as often as they do
pub record IsRemovedBy (dump : Dump) (log : List Event) (t : Removals) : Type 0 where
  pub slots : (o i : ℕ) (s : SlotEntry) → o < length dump.objects → slice_get (object_at dump o).slots i ≡ Some s
      → is_removed t (object_at dump o) s o i ≡ not (is_untouched log (object_at dump o) s)
  pub roots : (r : ℕ) → is_root_removed t r ≡ is_dropped log r
  pub slot_counts : AreSlots dump (live_edits log) t.slots
  pub kind_counts : AreKinds (live_edits log) t.cleared
  pub field_counts : AreFields (live_edits log) t.fields
  pub root_counts : AreRoots (live_edits log) t.roots

-- the one slot of a dump that passes a test with its object, if there is one: the object, and the index of the slot
pub record IsOnlySlot (dump : Dump) (test : Object → SlotEntry → Bool) (p : Option (ℕ × ℕ)) : Type 0 where
  pub passes : (o i : ℕ) (s : SlotEntry) → p ≡ Some (o, i) → slice_get (object_at dump o).slots i ≡ Some s → test (object_at dump o) s ≡ true
  pub only : (o i : ℕ) (s : SlotEntry) → o < length dump.objects → slice_get (object_at dump o).slots i ≡ Some s → test (object_at dump o) s ≡ true
      → p ≡ Some (o, i)

-- the key of the one slot from which an edit takes the reference, if there is one
abbrev pub IsEditedKey : Dump → Edit → Option ℕ → Type 0
IsEditedKey dump edit key = (o i : ℕ) (s : SlotEntry) → o < length dump.objects → slice_get (object_at dump o).slots i ≡ Some s
    → takes_slot (object_at dump o) s edit ≡ (nat_lt i 4294967296 && is_number key (pair_key o i))

-- the key of the field that an edit cuts in all objects of a class, if it cuts one so
abbrev pub IsFieldKey : Edit → Option ℕ → Type 0
IsFieldKey edit key = (class i : ℕ) → cuts_field class i edit ≡ (nat_lt i 4294967296 && is_number key (pair_key class i))

-- the one slot of an object that has a name, if there is one: the object, and the index of the slot
pub record IsNamedSlot (slots : List SlotEntry) (name : Option Slot) (o : ℕ) (p : Option (ℕ × ℕ)) : Type 0 where
  pub object : (x i : ℕ) → p ≡ Some (x, i) → x ≡ o
  pub named : (x i : ℕ) (s : SlotEntry) → p ≡ Some (x, i) → slice_get slots i ≡ Some s → is_slot s.slot name ≡ true
  pub only : (i : ℕ) (s : SlotEntry) → slice_get slots i ≡ Some s → is_slot s.slot name ≡ true → p ≡ Some (o, i)
