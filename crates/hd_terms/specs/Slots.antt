-- Slots of objects: of an array or a class from its sub-record alone, of an instance from its class's layout too.
-- Source: HPROF binary format, INSTANCE DUMP, OBJECT ARRAY DUMP and CLASS DUMP, for the references of an instance, of an
-- array and of a class. That the class of an instance or an array counts as one, and the order of the slots, are this
-- project's choice.
use Rattle.std.specs.Prelude.{ℕ, ◌+◌, ◌==◌, if◌then◌else◌, List, [], ◌∷◌, ◌++◌, drop, Option, Some, None}
use Rattle.byteorder.specs.Endian.{big_number}
use Rattle.hd_terms.specs.declared.IdSize.{IdSize}
use Rattle.hd_terms.specs.declared.Slot.{Slot}
use Rattle.hd_terms.specs.declared.Slot.TheVariants as slots
use Rattle.hd_terms.specs.declared.EdgeKind.{EdgeKind}
use Rattle.hd_terms.specs.declared.EdgeKind.TheVariants as kinds
use Rattle.hd_terms.specs.Records.{id_len}
use Rattle.hd_terms.specs.Types.{is_id_type, value_len}
use Rattle.hd_terms.specs.SubRecords.{ClassHead, ClassValue}
use Rattle.hd_terms.specs.Classes.{LayoutField, ResolvedClass}
use Rattle.hd_terms.specs.Dump.{SlotEntry}

-- a plain reference in a slot
abbrev pub strong_slot : Slot → ℕ → SlotEntry
strong_slot slot id = record { slot = slot; kind = kinds.Strong; id = id }

-- the elements of an object array, numbered from a number on
abbrev pub element_slots : IdSize → ℕ → List (List ℕ) → List SlotEntry
element_slots size i [] = []
element_slots size i (element ∷ elements) = strong_slot (slots.Element i) (big_number (id_len size) element) ∷ element_slots size (i + 1) elements

-- the slots of an object array: its elements, then its class
abbrev pub array_slots : IdSize → List ℕ → List (List ℕ) → List SlotEntry
array_slots size class elements = element_slots size 0 elements ++ strong_slot slots.OfClass (big_number (id_len size) class) ∷ []

-- the slots of constants or statics, numbered from a number on: those whose type is that of an ID. The others take a number
-- too
abbrev pub value_slots : IdSize → (ℕ → Slot) → ℕ → List ClassValue → List SlotEntry
value_slots size slot i [] = []
value_slots size slot i (v ∷ vs) =
    if is_id_type v.code then strong_slot (slot i) (big_number (id_len size) v.value) ∷ value_slots size slot (i + 1) vs else value_slots size slot (i + 1) vs

-- the slots of a class: its statics, its constants, its super class, its loader, its signers and its protection domain
abbrev pub class_slots : IdSize → ClassHead → List ClassValue → List ClassValue → List SlotEntry
class_slots size head constants statics =
    value_slots size (λ i. slots.Static i) 0 statics
    ++ value_slots size (λ i. slots.Const i) 0 constants
    ++ strong_slot slots.Super (big_number (id_len size) head.super)
    ∷ strong_slot slots.Loader (big_number (id_len size) head.loader)
    ∷ strong_slot slots.Signers (big_number (id_len size) head.signers)
    ∷ strong_slot slots.Domain (big_number (id_len size) head.domain)
    ∷ []

-- the kind of the reference in the field of a number: that of the class in the referent field, and else strong
abbrev pub field_kind : Option ℕ → EdgeKind → ℕ → EdgeKind
field_kind None kind i = kinds.Strong
field_kind (Some r) kind i = if i == r then kind else kinds.Strong

-- the slots of the fields of a layout, numbered from a number on, whose values stand one after another: those whose type is
-- that of an ID. The others take a number and their bytes too
abbrev pub field_slots : IdSize → Option ℕ → EdgeKind → ℕ → List LayoutField → List ℕ → List SlotEntry
field_slots size referent kind i [] values = []
field_slots size referent kind i (f ∷ fs) values =
    if is_id_type f.code
    then (record { slot = slots.Field i; kind = field_kind referent kind i; id = big_number (id_len size) values }) ∷ field_slots size referent kind (i + 1) fs
    (drop (value_len size f.code) values)
    else field_slots size referent kind (i + 1) fs (drop (value_len size f.code) values)

-- the slots of an instance: its fields, then its class. Of one whose class isn't known, the class alone
abbrev pub instance_slots : IdSize → Option ResolvedClass → List ℕ → List ℕ → List SlotEntry
instance_slots size None class values = strong_slot slots.OfClass (big_number (id_len size) class) ∷ []
instance_slots size (Some k) class values = field_slots size k.referent k.kind 0 k.layout values
    ++ strong_slot slots.OfClass (big_number (id_len size) class) ∷ []
