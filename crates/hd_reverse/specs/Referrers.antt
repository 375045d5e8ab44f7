-- Where objects are referred to: the slots whose ID is an object's, and the roots on it.
-- Source: this project.
use Rattle.std.specs.Prelude.{ℕ, ◌==◌, Bool, false, List, map}
use Rattle.std.specs.Option.{option_map_or}
use Rattle.std.specs.List.{filter, flat_map, enumerate_from}
use Rattle.hd_terms.specs.Dump.{SlotEntry, Object, Root, Dump}
use Rattle.hd_terms.specs.Edges.{index_of}
use Rattle.hd_terms.specs.IntoRows.{refers_to}
use Rattle.hd_reverse.specs.declared.referrer.Referrer.{Referrer}

-- a slot of a dump: the number of its object, its index among that object's slots, and what is in it
pub record PlacedSlot : Type 0 where
  pub source : ℕ
  pub index : ℕ
  pub entry : SlotEntry

-- a slot of the object of a number, by its index
abbrev pub placed_slot : ℕ → ℕ × SlotEntry → PlacedSlot
placed_slot source (index, entry) = record { source = source; index = index; entry = entry }

-- the slots of one object, in the order of their indexes
abbrev pub slots_of : ℕ × Object → List PlacedSlot
slots_of (source, x) = map (placed_slot source) (enumerate_from 0 x.slots)

-- all slots of a dump, in the order of their objects: those of each object, joined
abbrev pub all_slots : Dump → List PlacedSlot
all_slots dump = flat_map slots_of (enumerate_from 0 dump.objects)

-- where a slot is
abbrev pub place_of : PlacedSlot → Referrer
place_of p = record { source = p.source; index = p.index }

-- the places of those of some slots whose ID is that of the object of a number, in their order
abbrev pub referrers_among : Dump → List PlacedSlot → ℕ → List Referrer
referrers_among dump slots o = map place_of (filter (λ (p : PlacedSlot). refers_to dump o p.entry) slots)

-- the places of all slots of a dump whose ID is that of the object of a number
abbrev pub referrers_to : Dump → ℕ → List Referrer
referrers_to dump o = referrers_among dump (all_slots dump) o

-- a root of the dump, with its number, is on the object of a number
abbrev pub is_root_on : Dump → ℕ → ℕ × Root → Bool
is_root_on dump o (r, root) = option_map_or (λ (target : ℕ). target == o) (index_of dump.objects root.id) false

-- the numbers of the dump's roots on the object of a number, in their order
abbrev pub roots_on : Dump → ℕ → List ℕ
roots_on dump o = map (λ (n : ℕ × Root). n.0) (filter (is_root_on dump o) (enumerate_from 0 dump.roots))
