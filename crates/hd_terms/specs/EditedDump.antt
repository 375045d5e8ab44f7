-- The edited dump: which edges and roots stand under a log.
-- Source: this project. Edits are what-if: they are never written to the dump, and one that names nothing has no effect.
use Rattle.std.specs.Prelude.{ℕ, ◌+◌, ◌-◌, ◌==◌, nat_lt, Bool, true, false, ◌&&◌, ◌||◌, not, List, ◌++◌, length, map, Option, Some, None, is_some, slice_get}
use Rattle.std.specs.Option.{option_map, option_map_or, option_and_then}
use Rattle.std.specs.List.{filter, filter_map, flat_map, list_any, enumerate_from}
use Rattle.hd_terms.specs.declared.Slot.{Slot}
use Rattle.hd_terms.specs.declared.Slot.TheVariants as slots
use Rattle.hd_terms.specs.declared.RootKind.{RootKind}
use Rattle.hd_terms.specs.declared.Group.{Group}
use Rattle.hd_terms.specs.declared.Group.TheVariants as groups
use Rattle.hd_terms.specs.declared.Edit.{Edit}
use Rattle.hd_terms.specs.declared.Edit.TheVariants as edits
use Rattle.hd_terms.specs.declared.Event.{Event}
use Rattle.hd_terms.specs.declared.What.{What}
use Rattle.hd_terms.specs.declared.What.TheVariants as whats
use Rattle.hd_terms.specs.Ranks.{kind_of_references, same_kind}
use Rattle.hd_terms.specs.Paths.{Edge, RootEntry, Standing}
use Rattle.hd_terms.specs.Dump.{SlotEntry, Object, Root, Dump, object_at}
use Rattle.hd_terms.specs.Edges.{index_of, edge_of}
use Rattle.hd_terms.specs.Log.{live_edit, live_edits}

-- a slot as a number of its kind and its own number
abbrev pub slot_code : Slot → ℕ × ℕ
slot_code (slots.Field i) = (0, i)
slot_code (slots.Element i) = (1, i)
slot_code (slots.Static i) = (2, i)
slot_code (slots.Const i) = (3, i)
slot_code slots.OfClass = (4, 0)
slot_code slots.Super = (5, 0)
slot_code slots.Loader = (6, 0)
slot_code slots.Signers = (7, 0)
slot_code slots.Domain = (8, 0)

-- one slot
abbrev pub same_slot : Slot → Slot → Bool
same_slot a b = ((slot_code a).0 == (slot_code b).0) && ((slot_code a).1 == (slot_code b).1)

-- the slot is the one named
abbrev pub is_slot : Slot → Option Slot → Bool
is_slot slot None = false
is_slot slot (Some named) = same_slot slot named

-- a group is that of the class of an ID
abbrev pub is_of_class : Group → ℕ → Bool
is_of_class (groups.Class class) id = class == id
is_of_class (groups.Prim element) id = false
is_of_class groups.Classes id = false

-- an edit takes away the reference in a slot of an object: it cuts the slot, or clears the object whose referent the slot is,
-- or clears all references of the slot's kind, or cuts the field that the slot is in all objects of the object's class
abbrev pub takes_away : Object → SlotEntry → Edit → Bool
takes_away x s (edits.Cut id cut) = (x.id == id) && same_slot s.slot cut
takes_away x s (edits.Clear id) = (x.id == id) && is_slot s.slot x.referent
takes_away x s (edits.Drop r) = false
takes_away x s (edits.Add id) = false
takes_away x s (edits.ClearAll kind) = same_kind s.kind (kind_of_references kind)
takes_away x s (edits.CutAll id i) = is_of_class x.group id && same_slot s.slot (slots.Field i)

-- no live edit takes away what is in a slot of an object
abbrev pub is_untouched : List Event → Object → SlotEntry → Bool
is_untouched log x s = not (list_any (takes_away x s) (live_edits log))

-- a slot of an object is an edge that stands: its ID is an object's, and no live edit takes it away
abbrev pub is_standing_edge : Dump → List Event → Object → SlotEntry → Bool
is_standing_edge dump log x s = is_some (index_of dump.objects s.id) && is_untouched log x s

-- the slot at a place of the object of a number is an edge that stands; no slot is none
abbrev pub edge_stands : Dump → List Event → (o i : ℕ) → Bool
edge_stands dump log o i = option_map_or (is_standing_edge dump log (object_at dump o)) (slice_get (object_at dump o).slots i) false

-- the edges of one object's slots that stand, in their order
abbrev pub standing_from : Dump → List Event → ℕ × Object → List Edge
standing_from dump log (o, x) = filter_map (edge_of dump.objects o) (filter (is_untouched log x) x.slots)

-- the edges that stand: those of each object, joined
abbrev pub standing_edges : Dump → List Event → List Edge
standing_edges dump log = flat_map (standing_from dump log) (enumerate_from 0 dump.objects)

-- an edit drops the root of a number
abbrev pub drops : ℕ → Edit → Bool
drops r (edits.Cut id slot) = false
drops r (edits.Clear id) = false
drops r (edits.Drop s) = s == r
drops r (edits.Add id) = false
drops r (edits.ClearAll kind) = false
drops r (edits.CutAll id i) = false

-- the root of a number is dropped: a live edit drops it
abbrev pub is_dropped : List Event → ℕ → Bool
is_dropped log r = list_any (drops r) (live_edits log)

-- an edit, where there is one, adds a root
abbrev pub adds_root : Option Edit → Bool
adds_root None = false
adds_root (Some (edits.Cut id slot)) = false
adds_root (Some (edits.Clear id)) = false
adds_root (Some (edits.Drop r)) = false
adds_root (Some (edits.Add id)) = true
adds_root (Some (edits.ClearAll kind)) = false
adds_root (Some (edits.CutAll id i)) = false

-- the edit of event k of a log, where there is such an event and it is live
abbrev pub live_edit_at : List Event → ℕ → Option Edit
live_edit_at log k = option_and_then (λ (e : Event). live_edit log (k, e)) (slice_get log k)

-- a root has this number: one of the dump's `roots` roots, or that of a live event that adds a root
abbrev pub is_root : (roots : ℕ) → List Event → ℕ → Bool
is_root roots log r = nat_lt r roots || adds_root (live_edit_at log (r - roots))

-- a root stands: there is a root of its number, and no live edit drops it
abbrev pub root_stands : (roots : ℕ) → List Event → ℕ → Bool
root_stands roots log r = is_root roots log r && not (is_dropped log r)

-- a root by its number, its kind, none where an event added it, and the ID that it is on
pub record RootOn : Type 0 where
  pub number : ℕ
  pub kind : Option RootKind
  pub id : ℕ

-- a root of the dump, by its place among them
abbrev pub dump_root : ℕ × Root → RootOn
dump_root (r, root) = record { number = r; kind = Some root.kind; id = root.id }

-- the root of a number that an event adds, if it adds one
abbrev pub root_added : ℕ → What → Option RootOn
root_added r (whats.Do (edits.Cut id slot)) = None
root_added r (whats.Do (edits.Clear id)) = None
root_added r (whats.Do (edits.Drop s)) = None
root_added r (whats.Do (edits.Add id)) = Some (record { number = r; kind = None; id = id })
root_added r (whats.Do (edits.ClearAll kind)) = None
root_added r (whats.Do (edits.CutAll id i)) = None
root_added r (whats.Undo k) = None

-- event k adds root n + k to a dump of n roots
abbrev pub added_root : (roots : ℕ) → ℕ × Event → Option RootOn
added_root roots (k, event) = root_added (roots + k) event.what

-- the entries of roots: those of the dump, and then those that events add, live or not
abbrev pub root_entries : Dump → List Event → List RootOn
root_entries dump log = map dump_root (enumerate_from 0 dump.roots) ++ filter_map (added_root (length dump.roots)) (enumerate_from 0 log)

-- what a root holds: the object of its ID, if there is one
abbrev pub held_by : Dump → RootOn → Option RootEntry
held_by dump root = option_map (λ (target : ℕ). record { number = root.number; target = target }) (index_of dump.objects root.id)

-- the roots that stand and hold an object
abbrev pub standing_roots : Dump → List Event → List RootEntry
standing_roots dump log = filter_map (held_by dump) (filter (λ (root : RootOn). root_stands (length dump.roots) log root.number) (root_entries dump log))

-- the edited dump: its roots and its edges, so far as they stand
abbrev pub standing : Dump → List Event → Standing
standing dump log = record { mode = dump.mode; roots = standing_roots dump log; edges = standing_edges dump log }
