-- The kinds of slots: a slot as its kind and its number.
-- Source: this project.
use Rattle.std.specs.Prelude.{ℕ}
use Rattle.hd_terms.specs.declared.Slot.{Slot}
use Rattle.hd_terms.specs.declared.Slot.TheVariants as slots
use Rattle.hd_terms.specs.declared.slots.SlotKind.{SlotKind}
use Rattle.hd_terms.specs.declared.slots.SlotKind.TheVariants as slot_kinds

-- the slot of a kind and a number. Of a kind that an object has once, the number says nothing
abbrev pub slot_of : SlotKind → ℕ → Slot
slot_of slot_kinds.Field i = slots.Field i
slot_of slot_kinds.Element i = slots.Element i
slot_of slot_kinds.Static i = slots.Static i
slot_of slot_kinds.Const i = slots.Const i
slot_of slot_kinds.OfClass i = slots.OfClass
slot_of slot_kinds.Super i = slots.Super
slot_of slot_kinds.Loader i = slots.Loader
slot_of slot_kinds.Signers i = slots.Signers
slot_of slot_kinds.Domain i = slots.Domain

-- a slot's kind and its number, 0 where it has none
abbrev pub slot_parts : Slot → SlotKind × ℕ
slot_parts (slots.Field i) = (slot_kinds.Field, i)
slot_parts (slots.Element i) = (slot_kinds.Element, i)
slot_parts (slots.Static i) = (slot_kinds.Static, i)
slot_parts (slots.Const i) = (slot_kinds.Const, i)
slot_parts slots.OfClass = (slot_kinds.OfClass, 0)
slot_parts slots.Super = (slot_kinds.Super, 0)
slot_parts slots.Loader = (slot_kinds.Loader, 0)
slot_parts slots.Signers = (slot_kinds.Signers, 0)
slot_parts slots.Domain = (slot_kinds.Domain, 0)
