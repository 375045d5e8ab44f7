-- Items that are found one after another: edges and roots that stand under one log of a dump and not under another.
-- Source: this project.
use Rattle.std.specs.Prelude.{◌≡◌, ℕ, ◌<◌, ◌⊎◌, true, List, length, Contains, Some, slice_get}
use Rattle.hd_terms.specs.declared.Edit.{Edit}
use Rattle.hd_terms.specs.declared.Event.{Event}
use Rattle.hd_terms.specs.declared.Slot.{Slot}
use Rattle.hd_terms.specs.declared.Slot.TheVariants as slots
use Rattle.hd_terms.specs.declared.RefKind.{RefKind}
use Rattle.hd_terms.specs.Dump.{SlotEntry, Dump, object_at}
use Rattle.hd_terms.specs.EditedDump.{is_of_class, standing}
use Rattle.hd_terms.specs.Paths.{Edge, RootEntry}
use Rattle.hd_terms.specs.Ranks.{kind_of_references}
use Rattle.hd_terms.specs.Regions.{Holding, edge_holding, root_holding}
use Rattle.hd_strength.specs.Removed.{takes_slot}
use Rattle.hd_strength.specs.Rows.{edge_at, root_at}
use Rattle.hd_terms.specs.Lost.{IsLostEdge, IsLostRoot}

-- items are added, and each is an edge or a root that is lost
pub record AddsLost (dump : Dump) (more less : List Event) (old new : List Holding) : Type 0 where
  pub kept : (h : Holding) → Contains old h → Contains new h
  pub only : (h : Holding) → Contains new h → Contains old h ⊎ (IsLostEdge dump more less h ⊎ IsLostRoot dump more less h)

-- an edge isn't lost, or is among the items
abbrev pub HasEdge : Dump → List Event → List Holding → Edge → Type 0
HasEdge dump less items e = Contains (standing dump less).edges e ⊎ Contains items (edge_holding e)

-- a root isn't lost, or is among the items
abbrev pub HasRoot : Dump → List Event → List Holding → RootEntry → Type 0
HasRoot dump less items x = Contains (standing dump less).roots x ⊎ Contains items (root_holding x)

-- the items have the lost edge of an object's slot, by the slot's name
abbrev pub HasNamed : Dump → (more less : List Event) → ℕ → Slot → List Holding → Type 0
HasNamed dump more less o slot items = (e : Edge) → Contains (standing dump more).edges e → e.source ≡ o → e.slot ≡ slot → HasEdge dump less items e

-- the items have the lost edge of an object's slot, by the slot's index
abbrev pub HasIndexed : Dump → (more less : List Event) → ℕ → ℕ → List Holding → Type 0
HasIndexed dump more less o i items = (e : Edge) → edge_at dump more o i ≡ Some e → HasEdge dump less items e

-- the items have the lost edge of the one slot from which an edit takes the reference
abbrev pub HasEdited : Dump → (more less : List Event) → Edit → List Holding → Type 0
HasEdited dump more less edit items = (o i : ℕ) (s : SlotEntry) → o < length dump.objects → slice_get (object_at dump o).slots i ≡ Some s
    → takes_slot (object_at dump o) s edit ≡ true → HasIndexed dump more less o i items

-- the items have the lost edges of a kind
abbrev pub HasKind : Dump → (more less : List Event) → RefKind → List Holding → Type 0
HasKind dump more less kind items = (e : Edge) → Contains (standing dump more).edges e → e.kind ≡ kind_of_references kind → HasEdge dump less items e

-- the items have the lost edges of a field of the objects that are counted under a class
abbrev pub HasField : Dump → (more less : List Event) → (class i : ℕ) → List Holding → Type 0
HasField dump more less class i items = (e : Edge) → Contains (standing dump more).edges e → is_of_class (object_at dump e.source).group class ≡ true
    → e.slot ≡ slots.Field i → HasEdge dump less items e

-- the same of the first objects
abbrev pub HasFirstFields : Dump → (more less : List Event) → (class i n : ℕ) → List Holding → Type 0
HasFirstFields dump more less class i n items = (e : Edge) → e.source < n → Contains (standing dump more).edges e
    → is_of_class (object_at dump e.source).group class ≡ true → e.slot ≡ slots.Field i → HasEdge dump less items e

-- the items have the root of a number, if it is lost
abbrev pub HasNumber : Dump → (more less : List Event) → ℕ → List Holding → Type 0
HasNumber dump more less r items = (x : RootEntry) → root_at dump more r ≡ Some x → HasRoot dump less items x

-- the items have all that is lost
pub record HasAllLost (dump : Dump) (more less : List Event) (items : List Holding) : Type 0 where
  pub edges : (e : Edge) → Contains (standing dump more).edges e → HasEdge dump less items e
  pub roots : (x : RootEntry) → Contains (standing dump more).roots x → HasRoot dump less items x
