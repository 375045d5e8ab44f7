-- The slots of an object array from its row of IDs: its elements, and then its class.
use Rattle.std.specs.Prelude.{ℕ, ◌+◌, ◌-◌, nat_lt, if◌then◌else◌, List, [], ◌∷◌, Option, Some, None}
use Rattle.hd_terms.specs.declared.Slot.{Slot}
use Rattle.hd_terms.specs.declared.Slot.TheVariants as slots
use Rattle.hd_terms.specs.Dump.{SlotEntry}
use Rattle.hd_terms.specs.Slots.{strong_slot}

-- the slots of a row: the last ID is the class's, those before it the elements', numbered from a number on
abbrev pub row_slots : ℕ → List ℕ → List SlotEntry
row_slots i [] = []
row_slots i (id ∷ []) = strong_slot slots.OfClass id ∷ []
row_slots i (id ∷ next ∷ rest) = strong_slot (slots.Element i) id ∷ row_slots (i + 1) (next ∷ rest)

-- the index of a slot in a row of `n` IDs: an element's is its number, the class stands last, and no row has another
abbrev pub row_index : ℕ → Slot → Option ℕ
row_index n (slots.Field i) = None
row_index n (slots.Element i) = if nat_lt i (n - 1) then Some i else None
row_index n (slots.Static i) = None
row_index n (slots.Const i) = None
row_index n slots.OfClass = if nat_lt 0 n then Some (n - 1) else None
row_index n slots.Super = None
row_index n slots.Loader = None
row_index n slots.Signers = None
row_index n slots.Domain = None
