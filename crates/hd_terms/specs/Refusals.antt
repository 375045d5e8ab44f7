-- Why the dump refuses an edit, before the log is asked.
-- Source: this project.
use Rattle.std.specs.Prelude.{ℕ, ◌==◌, Bool, true, false, ◌&&◌, ◌||◌, if◌then◌else◌, Option, Some, None, is_none}
use Rattle.std.specs.Option.{option_and_then}
use Rattle.std.specs.List.{find, list_any}
use Rattle.hd_terms.specs.declared.Slot.{Slot}
use Rattle.hd_terms.specs.declared.Slot.TheVariants as slots
use Rattle.hd_terms.specs.declared.Edit.{Edit}
use Rattle.hd_terms.specs.declared.Edit.TheVariants as edits
use Rattle.hd_terms.specs.declared.errors.Refusal.{Refusal}
use Rattle.hd_terms.specs.declared.errors.Refusal.TheVariants as refusals
use Rattle.hd_terms.specs.Dump.{SlotEntry, Object, Dump, object_at}
use Rattle.hd_terms.specs.Edges.{index_of}
use Rattle.hd_terms.specs.EditedDump.{is_of_class, same_slot}

-- fields, elements and statics may be cut; what makes an object what it is may not
abbrev pub is_cuttable : Slot → Bool
is_cuttable (slots.Field i) = true
is_cuttable (slots.Element i) = true
is_cuttable (slots.Static i) = true
is_cuttable (slots.Const i) = false
is_cuttable slots.OfClass = false
is_cuttable slots.Super = false
is_cuttable slots.Loader = false
is_cuttable slots.Signers = false
is_cuttable slots.Domain = false

-- a slot with this ID in it refers to nothing
abbrev pub is_empty_slot : Dump → ℕ → Bool
is_empty_slot dump id = (id == 0) || is_none (index_of dump.objects id)

-- why the reference in a slot can't be taken away: there is none
abbrev pub empty_refusal : Dump → SlotEntry → Option Refusal
empty_refusal dump s = if is_empty_slot dump s.id then Some refusals.EmptySlot else None

-- why a slot may not be cut, by what the object has there
abbrev pub slot_refusal : Dump → Slot → Option SlotEntry → Option Refusal
slot_refusal dump slot None = Some refusals.NoSuchSlot
slot_refusal dump slot (Some s) = if is_cuttable slot then empty_refusal dump s else Some refusals.NotCuttable

-- the slot of an object that has this name
abbrev pub named_slot : Object → Slot → Option SlotEntry
named_slot x slot = find (λ (s : SlotEntry). same_slot s.slot slot) x.slots

-- why a slot of the object of a number may not be cut, if there is such an object
abbrev pub cut_refusal : Dump → Slot → Option ℕ → Option Refusal
cut_refusal dump slot None = Some refusals.NoSuchObject
cut_refusal dump slot (Some o) = slot_refusal dump slot (named_slot (object_at dump o) slot)

-- the slot that is an object's referent, if it has one
abbrev pub referent_entry : Object → Option SlotEntry
referent_entry x = option_and_then (named_slot x) x.referent

-- why a referent may not be cleared, by the slot that it is in
abbrev pub referent_refusal : Dump → Option SlotEntry → Option Refusal
referent_refusal dump None = Some refusals.NotReference
referent_refusal dump (Some s) = empty_refusal dump s

-- why the object of a number may not be cleared, if there is such an object
abbrev pub clear_refusal : Dump → Option ℕ → Option Refusal
clear_refusal dump None = Some refusals.NoSuchObject
clear_refusal dump (Some o) = referent_refusal dump (referent_entry (object_at dump o))

-- why no root may be added on the object of a number: there is no such object
abbrev pub add_refusal : Option ℕ → Option Refusal
add_refusal None = Some refusals.NoSuchObject
add_refusal (Some o) = None

-- an object is counted under the class of an ID: an instance under its class, an object array under its array class
abbrev pub is_counted_under : ℕ → Object → Bool
is_counted_under id x = is_of_class x.group id

-- and it has the field of a number, null or not. A field of a primitive type is no slot
abbrev pub has_field : (id i : ℕ) → Object → Bool
has_field id i x = is_counted_under id x && list_any (λ (s : SlotEntry). same_slot s.slot (slots.Field i)) x.slots

-- why a field of a class may not be cut in all its objects: there are none, or none has the field
abbrev pub cut_all_refusal : Dump → (id i : ℕ) → Option Refusal
cut_all_refusal dump id i =
    if list_any (has_field id i) dump.objects then None
    else if list_any (is_counted_under id) dump.objects then Some refusals.NoSuchSlot
    else Some refusals.NoSuchClass

-- why an edit is refused before the log is asked, if it is
abbrev pub edit_refusal : Dump → Edit → Option Refusal
edit_refusal dump (edits.Cut id slot) = cut_refusal dump slot (index_of dump.objects id)
edit_refusal dump (edits.Clear id) = clear_refusal dump (index_of dump.objects id)
edit_refusal dump (edits.Drop r) = None
edit_refusal dump (edits.Add id) = add_refusal (index_of dump.objects id)
edit_refusal dump (edits.ClearAll kind) = None
edit_refusal dump (edits.CutAll id i) = cut_all_refusal dump id i
