-- Lemmas on why an edit may not be made.
use Rattle.std.proofs.Common.{◌≡◌, ◌≢◌, ◌∙◌, ℕ, ◌+◌, ◌<◌, ◌≤◌, inl, inr, Bool, true, false, ◌||◌, ◌&&◌, List, length, take, Option, None, Some, is_none}
use Rattle.std.proofs.Common.{get_or, slice_get, refl, sym, ap, eq-eqb, ne_eqb, take_all}
use Rattle.std.specs.Prelude.{cond, if◌then◌else◌, is_some}
use Rattle.std.specs.Option.{option_and_then}
use Rattle.std.specs.List.{find, list_any, position, position_or_len}
use Rattle.std.proofs.lemmas.Bool.{cases_lt, lt-ltb, le-ltb}
use Rattle.std.proofs.lemmas.List.Folds.{find_at, list_any_at, list_any_more, list_any_none}
use Rattle.std.proofs.lemmas.List.Quantifiers.{position-Some}
use Rattle.std.proofs.lemmas.Option.{slice_get_past, slice_get-get_or}
use Rattle.hd_terms.specs.declared.EdgeKind.TheVariants as kinds
use Rattle.hd_terms.specs.declared.Slot.{Slot}
use Rattle.hd_terms.specs.declared.Slot.TheVariants as slots
use Rattle.hd_terms.specs.declared.errors.Refusal.{Refusal}
use Rattle.hd_terms.specs.declared.errors.Refusal.TheVariants as refusals
use Rattle.hd_terms.specs.Dump.{SlotEntry, Object, Dump, no_object, object_at}
use Rattle.hd_terms.specs.Edges.{index_of}
use Rattle.hd_terms.specs.EditedDump.{is_of_class, same_slot}
use Rattle.hd_terms.specs.Refusals.{is_cuttable, is_empty_slot, empty_refusal, slot_refusal, named_slot, cut_refusal, referent_refusal, clear_refusal}
use Rattle.hd_terms.specs.Refusals.{is_counted_under, has_field, cut_all_refusal}

or_false : (a : Bool) → (a || false) ≡ a
or_false true = refl
or_false false = refl

or_true : (a : Bool) → (a || true) ≡ true
or_true true = refl
or_true false = refl

is-none : (index : Option ℕ) → is_some index ≡ false → index ≡ None
is-none None h = refl
is-none (Some j) h = absurd cc

is-found : (index : Option ℕ) → is_some index ≡ true → (j : ℕ) × (index ≡ Some j)
is-found None h = absurd cc
is-found (Some j) h = (j, refl)

-- stands past the last slot
abbrev no_entry : SlotEntry
no_entry = record { slot = slots.OfClass; kind = kinds.Strong; id = 0 }

-- why a field that no object of a class has may not be cut
abbrev refused_without : Dump → ℕ → Option Refusal
refused_without dump class = if list_any (is_counted_under class) dump.objects then Some refusals.NoSuchSlot else Some refusals.NoSuchClass

-- what is found stands at the position
module _ {X : Type 0} (p : X → Bool) (xs : List X) where
  found_none : position p xs ≡ None → find p xs ≡ None
  found_none none = elim (cases_lt (position_or_len p xs) (length xs)) [
    | inl lt ↦
        let some : position p xs ≡ Some (position_or_len p xs) = ap (λ (b : Bool). cond b (Some (position_or_len p xs)) None)
        (lt-ltb (position_or_len p xs) (length xs) lt) in
        let both : Some (position_or_len p xs) ≡ None = sym some ∙ none in
        absurd (cc)
    | inr le ↦ find_at p xs ∙ slice_get_past xs (position_or_len p xs) le
  ]

  found_some : (i : ℕ) → position p xs ≡ Some i → find p xs ≡ slice_get xs i
  found_some i is = elim (cases_lt (position_or_len p xs) (length xs)) [
    | inl lt ↦
        let some : position p xs ≡ Some (position_or_len p xs) = ap (λ (b : Bool). cond b (Some (position_or_len p xs)) None)
        (lt-ltb (position_or_len p xs) (length xs) lt) in
        let both : Some (position_or_len p xs) ≡ Some i = sym some ∙ is in
        let same : position_or_len p xs ≡ i = cc in
        find_at p xs ∙ ap (slice_get xs) same
    | inr le ↦
        let none : position p xs ≡ None = ap (λ (b : Bool). cond b (Some (position_or_len p xs)) None) (le-ltb (position_or_len p xs) (length xs) le) in
        let both : None ≡ Some i = sym none ∙ is in
        absurd (cc)
  ]

-- what an object has under a name
abbrev pub at_slot : Slot → SlotEntry → Bool
at_slot slot s = same_slot s.slot slot

module _ (x : Object) (slot : Slot) where
  pub named_none : position (at_slot slot) x.slots ≡ None → named_slot x slot ≡ None
  named_none none = found_none (at_slot slot) x.slots none

  pub named_some : (i : ℕ) (s : SlotEntry) → position (at_slot slot) x.slots ≡ Some i → slice_get x.slots i ≡ Some s → named_slot x slot ≡ Some s
  named_some i s is entry = found_some (at_slot slot) x.slots i is ∙ entry

-- a slot of the object of a number
module _ (dump : Dump) (slot : Slot) (id o : ℕ) (found : index_of dump.objects id ≡ Some o) where
  -- the object doesn't have it
  pub not_there : position (at_slot slot) (object_at dump o).slots ≡ None → cut_refusal dump slot (index_of dump.objects id) ≡ Some refusals.NoSuchSlot
  not_there none = ap (cut_refusal dump slot) found ∙ ap (slot_refusal dump slot) (named_none (object_at dump o) slot none)

  -- it is at an index
  module _ (i : ℕ) (s : SlotEntry) (index : position (at_slot slot) (object_at dump o).slots ≡ Some i)
      (entry : slice_get (object_at dump o).slots i ≡ Some s) where
    there : (cuttable : Bool) → is_cuttable slot ≡ cuttable → cut_refusal dump slot (index_of dump.objects id) ≡
        (if cuttable then empty_refusal dump s else Some refusals.NotCuttable)
    there cuttable c =
        ap (cut_refusal dump slot) found
        ∙ ap (slot_refusal dump slot) (named_some (object_at dump o) slot i s index entry)
        ∙ ap (λ (b : Bool). if b then empty_refusal dump s else Some refusals.NotCuttable) c

    pub not_cuttable : is_cuttable slot ≡ false → cut_refusal dump slot (index_of dump.objects id) ≡ Some refusals.NotCuttable
    not_cuttable c = there false c

    pub cuttable : is_cuttable slot ≡ true → cut_refusal dump slot (index_of dump.objects id) ≡ empty_refusal dump s
    cuttable c = there true c

-- the referent of the object of a number
module _ (dump : Dump) (id o : ℕ) (found : index_of dump.objects id ≡ Some o) where
  refused_by : (slot : Option Slot) → (object_at dump o).referent ≡ slot → clear_refusal dump (index_of dump.objects id) ≡ referent_refusal dump
      (option_and_then (named_slot (object_at dump o)) slot)
  refused_by slot is = ap (clear_refusal dump) found ∙ ap (λ (r : Option Slot). referent_refusal dump (option_and_then (named_slot (object_at dump o)) r)) is

  -- the object has none
  pub no_referent : (object_at dump o).referent ≡ None → clear_refusal dump (index_of dump.objects id) ≡ Some refusals.NotReference
  no_referent none = refused_by None none

  -- it is a slot that the object doesn't have
  pub referent_lost : (slot : Slot) → (object_at dump o).referent ≡ Some slot → position (at_slot slot) (object_at dump o).slots ≡ None
      → clear_refusal dump (index_of dump.objects id) ≡ Some refusals.NotReference
  referent_lost slot is none = refused_by (Some slot) is ∙ ap (referent_refusal dump) (named_none (object_at dump o) slot none)

  -- it is at an index
  pub referent_there : (slot : Slot) (i : ℕ) (s : SlotEntry) → (object_at dump o).referent ≡ Some slot
      → position (at_slot slot) (object_at dump o).slots ≡ Some i
      → slice_get (object_at dump o).slots i ≡ Some s → clear_refusal dump (index_of dump.objects id) ≡ empty_refusal dump s
  referent_there slot i s is index entry = refused_by (Some slot) is ∙ ap (referent_refusal dump) (named_some (object_at dump o) slot i s index entry)

-- whether a slot refers to something
module _ (dump : Dump) (s : SlotEntry) where
  decides : (empty : Bool) → is_empty_slot dump s.id ≡ empty → empty_refusal dump s ≡ (if empty then Some refusals.EmptySlot else None)
  decides empty e = ap (λ (b : Bool). if b then Some refusals.EmptySlot else None) e

  pub null : s.id ≡ 0 → empty_refusal dump s ≡ Some refusals.EmptySlot
  null zero = decides true (ap (λ (b : Bool). b || is_none (index_of dump.objects s.id)) (eq-eqb s.id 0 zero))

  module _ (some : s.id ≢ 0) where
    pub absent : is_none (index_of dump.objects s.id) ≡ true → empty_refusal dump s ≡ Some refusals.EmptySlot
    absent none = decides true (ap (λ (b : Bool). b || is_none (index_of dump.objects s.id)) (ne_eqb s.id 0 some) ∙ none)

    pub refers : is_none (index_of dump.objects s.id) ≡ false → empty_refusal dump s ≡ None
    refers target = decides false (ap (λ (b : Bool). b || is_none (index_of dump.objects s.id)) (ne_eqb s.id 0 some) ∙ target)

-- whether an object has a field, by the index of its slot
module _ (x : Object) (i : ℕ) (index : Option ℕ) where
  field-there : (j : ℕ) → index ≡ position (at_slot (slots.Field i)) x.slots → index ≡ Some j → list_any (at_slot (slots.Field i)) x.slots ≡ true
  field-there j first is =
      let found = position-Some (at_slot (slots.Field i)) x.slots j no_entry (sym first ∙ is) in
      list_any_at (at_slot (slots.Field i)) x.slots j no_entry found.0 found.1

  field-not-there : ((j : ℕ) (s : SlotEntry) → slice_get x.slots j ≡ Some s → same_slot s.slot (slots.Field i) ≡ true → index ≡ Some j) → index ≡ None
      → list_any (at_slot (slots.Field i)) x.slots ≡ false
  field-not-there only none = list_any_none (at_slot (slots.Field i)) x.slots
      (λ j d lt. by-test j d lt (at_slot (slots.Field i) (get_or x.slots j d)) refl) where
        by-test : (j : ℕ) (d : SlotEntry) → j < length x.slots → (b : Bool) → at_slot (slots.Field i) (get_or x.slots j d) ≡ b
            → at_slot (slots.Field i) (get_or x.slots j d) ≡ false
        by-test j d lt true is =
            let clash : None ≡ Some j = sym none ∙ only j (get_or x.slots j d) (slice_get-get_or x.slots j d lt) is in
            absurd cc
        by-test j d lt false is = is

-- the next object of a dump
module _ (dump : Dump) (class i o : ℕ) (lt : o < length dump.objects) where
  -- it isn't counted under the class
  module _ (other : is_of_class (object_at dump o).group class ≡ false) where
    pub others_class : (has : Bool) → has ≡ list_any (is_counted_under class) (take o dump.objects)
        → has ≡ list_any (is_counted_under class) (take (o + 1) dump.objects)
    others_class has so_far =
        so_far ∙ sym (list_any_more (is_counted_under class) dump.objects o no_object lt
        ∙ ap (λ (b : Bool). list_any (is_counted_under class) (take o dump.objects) || b) other
        ∙ or_false (list_any (is_counted_under class) (take o dump.objects)))

    pub others_field : list_any (has_field class i) (take o dump.objects) ≡ false → list_any (has_field class i) (take (o + 1) dump.objects) ≡ false
    others_field none =
        list_any_more (has_field class i) dump.objects o no_object lt
        ∙ ap (λ (b : Bool). b || has_field class i (object_at dump o)) none
        ∙ ap (λ (b : Bool). b && list_any (at_slot (slots.Field i)) (object_at dump o).slots) other

  -- it is
  module _ (counted : is_of_class (object_at dump o).group class ≡ true) where
    pub one_of_class : true ≡ list_any (is_counted_under class) (take (o + 1) dump.objects)
    one_of_class =
        sym (list_any_more (is_counted_under class) dump.objects o no_object lt
        ∙ ap (λ (b : Bool). list_any (is_counted_under class) (take o dump.objects) || b) counted
        ∙ or_true (list_any (is_counted_under class) (take o dump.objects)))

    field-is : has_field class i (object_at dump o) ≡ list_any (at_slot (slots.Field i)) (object_at dump o).slots
    field-is = ap (λ (b : Bool). b && list_any (at_slot (slots.Field i)) (object_at dump o).slots) counted

    module _ (index : Option ℕ) (first : index ≡ position (at_slot (slots.Field i)) (object_at dump o).slots)
        (only : (j : ℕ) (s : SlotEntry) → slice_get (object_at dump o).slots j ≡ Some s → same_slot s.slot (slots.Field i) ≡ true → index ≡ Some j) where
      -- and has no such field
      pub one_without : is_some index ≡ false → list_any (has_field class i) (take o dump.objects) ≡ false
          → list_any (has_field class i) (take (o + 1) dump.objects) ≡ false
      one_without absent none =
          list_any_more (has_field class i) dump.objects o no_object lt
          ∙ ap (λ (b : Bool). b || has_field class i (object_at dump o)) none
          ∙ field-is
          ∙ field-not-there (object_at dump o) i index only (is-none index absent)

      -- it has the field, so the edit isn't refused
      pub one_with : is_some index ≡ true → None ≡ cut_all_refusal dump class i
      one_with present =
          let (j, is) = is-found index present in
          sym (ap (λ (b : Bool). if b then None else refused_without dump class)
          (list_any_at (has_field class i) dump.objects o no_object lt (field-is ∙ field-there (object_at dump o) i index j first is)))

-- all objects were gone through, and none has the field
module _ (dump : Dump) (class i o : ℕ) (past : length dump.objects ≤ o) (has : Bool) (class_is : has ≡ list_any (is_counted_under class) (take o dump.objects))
    (none : list_any (has_field class i) (take o dump.objects) ≡ false) where
  pub refused_by_class : cut_all_refusal dump class i ≡ (if has then Some refusals.NoSuchSlot else Some refusals.NoSuchClass)
  refused_by_class =
      ap (λ (b : Bool). if b then None else refused_without dump class) (ap (list_any (has_field class i)) (sym (take_all o dump.objects past)) ∙ none)
      ∙ ap (λ (b : Bool). if b then Some refusals.NoSuchSlot else Some refusals.NoSuchClass)
      (ap (list_any (is_counted_under class)) (sym (take_all o dump.objects past)) ∙ sym class_is)
