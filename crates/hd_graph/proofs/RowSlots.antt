-- Lemmas on rows of object arrays: their slots, and the indexes of these.
use Rattle.std.proofs.Common.{◌≡◌, ◌∙◌, ℕ, zero, suc, ◌+◌, ◌-◌, ◌<◌, inl, inr, List, [], ◌∷◌, length, get_or, Option, Some, None, Bool, true, true≢false, refl}
use Rattle.std.proofs.Common.{sym, ap, arith, eqb-true, eq-eqb}
use Rattle.std.specs.List.{position, prefix_len, slice_get}
use Rattle.std.specs.Prelude.{not}
use Rattle.std.proofs.lemmas.Bool.{cases_lt, lt-ltb, le-ltb}
use Rattle.std.proofs.lemmas.List.Quantifiers.{position-Some}
use Rattle.std.proofs.lemmas.List.Sums.{prefix_len_passes}
use Rattle.std.proofs.lemmas.Option.{get_or_from_slice_get, slice_get_within, slice_get-get_or, same_Some}
use Rattle.hd_terms.specs.declared.Slot.{Slot}
use Rattle.hd_terms.specs.declared.Slot.TheVariants as slots
use Rattle.hd_terms.specs.Dump.{SlotEntry}
use Rattle.hd_terms.specs.EditedDump.{same_slot}
use Rattle.hd_terms.specs.Slots.{strong_slot}
use Rattle.hd_graph.specs.Arrays.{row_slots, row_index}

pub length-row_slots : (i : ℕ) (row : List ℕ) → length (row_slots i row) ≡ length row
length-row_slots i [] = refl
length-row_slots i (id ∷ []) = refl
length-row_slots i (id ∷ next ∷ rest) = ap suc (length-row_slots (i + 1) (next ∷ rest))

-- the last slot is the class
pub row_slots-class : (i : ℕ) (row : List ℕ) (k : ℕ) → suc k ≡ length row → slice_get (row_slots i row) k ≡ Some (strong_slot slots.OfClass (get_or row k 0))
row_slots-class i [] k last = absurd (omega arith)
row_slots-class i (id ∷ []) zero last = refl
row_slots-class i (id ∷ []) (suc k) last = absurd (omega arith)
row_slots-class i (id ∷ next ∷ rest) zero last = absurd (omega arith)
row_slots-class i (id ∷ next ∷ rest) (suc k) last = row_slots-class (i + 1) (next ∷ rest) k (omega arith)

-- those before it are elements
pub row_slots-element : (i : ℕ) (row : List ℕ) (k : ℕ) → suc k < length row
    → slice_get (row_slots i row) k ≡ Some (strong_slot (slots.Element (i + k)) (get_or row k 0))
row_slots-element i [] k before = absurd (omega arith)
row_slots-element i (id ∷ []) k before = absurd (omega arith)
row_slots-element i (id ∷ next ∷ rest) zero before = ap (λ (n : ℕ). Some (strong_slot (slots.Element n) id)) (omega arith)
row_slots-element i (id ∷ next ∷ rest) (suc k) before =
    row_slots-element (i + 1) (next ∷ rest) k (omega arith) ∙ ap (λ (n : ℕ). Some (strong_slot (slots.Element n) (get_or (next ∷ rest) k 0))) (omega arith)

-- a slot of a row stands at its index
pub index-of-slot : (row : List ℕ) (slot : Slot) (i : ℕ) (s : SlotEntry) → slice_get (row_slots 0 row) i ≡ Some s → same_slot s.slot slot ≡ true
    → row_index (length row) slot ≡ Some i
index-of-slot row slot i s at same = elim (cases_lt (suc i) (length row)) [
  | inl before ↦
      let is : strong_slot (slots.Element (0 + i)) (get_or row i 0) ≡ s = same_Some _ _ (sym (row_slots-element 0 row i before) ∙ at) in
      of_element slot before (ap (λ (e : SlotEntry). same_slot e.slot slot) is ∙ same)
  | inr past ↦
      let within : i < length row = omega (arith, slice_get_within (row_slots 0 row) i s at, length-row_slots 0 row) in
      let is : strong_slot slots.OfClass (get_or row i 0) ≡ s = same_Some _ _ (sym (row_slots-class 0 row i (omega arith)) ∙ at) in
      of_class slot (omega arith) (ap (λ (e : SlotEntry). same_slot e.slot slot) is ∙ same)
]
  where
    of_element : (x : Slot) → suc i < length row → same_slot (slots.Element (0 + i)) x ≡ true → row_index (length row) x ≡ Some i
    of_element (slots.Field k) before e = absurd cc
    of_element (slots.Element k) before e =
        let is : 0 + i ≡ k = eqb-true (0 + i) k e in
        rw (lt-ltb k (length row - 1) (omega arith)) (ap Some (omega arith))
    of_element (slots.Static k) before e = absurd cc
    of_element (slots.Const k) before e = absurd cc
    of_element slots.OfClass before e = absurd cc
    of_element slots.Super before e = absurd cc
    of_element slots.Loader before e = absurd cc
    of_element slots.Signers before e = absurd cc
    of_element slots.Domain before e = absurd cc

    of_class : (x : Slot) → suc i ≡ length row → same_slot slots.OfClass x ≡ true → row_index (length row) x ≡ Some i
    of_class (slots.Field k) last e = absurd cc
    of_class (slots.Element k) last e = absurd cc
    of_class (slots.Static k) last e = absurd cc
    of_class (slots.Const k) last e = absurd cc
    of_class slots.OfClass last e = rw (lt-ltb 0 (length row) (omega arith)) (ap Some (omega arith))
    of_class slots.Super last e = absurd cc
    of_class slots.Loader last e = absurd cc
    of_class slots.Signers last e = absurd cc
    of_class slots.Domain last e = absurd cc

-- the index of a slot has that slot
pub record HasSlotAt (row : List ℕ) (slot : Slot) (i : ℕ) : Type 0 where
  pub entry : SlotEntry
  pub here : slice_get (row_slots 0 row) i ≡ Some entry
  pub same : same_slot entry.slot slot ≡ true

pub slot-at-index : (row : List ℕ) (slot : Slot) (i : ℕ) → row_index (length row) slot ≡ Some i → HasSlotAt row slot i
slot-at-index row (slots.Field k) i h = absurd cc
slot-at-index row (slots.Element k) i h = elim (cases_lt k (length row - 1)) [
  | inl lt ↦
      let found : Some k ≡ Some i = rw (lt-ltb k (length row - 1) lt) at h in
      let is : k ≡ i = same_Some _ _ found in
      record {
        entry = strong_slot (slots.Element (0 + i)) (get_or row i 0);
        here = row_slots-element 0 row i (omega arith);
        same =
            eq-eqb (0 + i) k (omega arith);
      }
  | inr le ↦ let none : None ≡ Some i = rw (le-ltb k (length row - 1) le) at h in absurd cc
]
slot-at-index row (slots.Static k) i h = absurd cc
slot-at-index row (slots.Const k) i h = absurd cc
slot-at-index row slots.OfClass i h = elim (cases_lt 0 (length row)) [
  | inl lt ↦
      let found : Some (length row - 1) ≡ Some i = rw (lt-ltb 0 (length row) lt) at h in
      let is : length row - 1 ≡ i = same_Some _ _ found in
      record { entry = strong_slot slots.OfClass (get_or row i 0); here = row_slots-class 0 row i (omega arith); same = refl }
  | inr le ↦ let none : None ≡ Some i = rw (le-ltb 0 (length row) le) at h in absurd cc
]
slot-at-index row slots.Super i h = absurd cc
slot-at-index row slots.Loader i h = absurd cc
slot-at-index row slots.Signers i h = absurd cc
slot-at-index row slots.Domain i h = absurd cc

-- what passes a test nowhere passes it at no index
none-at : {X : Type 0} (p : X → Bool) (xs : List X) → position p xs ≡ None → (k : ℕ) (x : X) → slice_get xs k ≡ Some x → p x ≡ true → ⊥
none-at p xs none k x here passes =
    let n = prefix_len (λ y. not (p y)) xs in
    let within : k < length xs = slice_get_within xs k x here in
    elim (cases_lt n (length xs)) [
      | inl lt ↦ let found : Some n ≡ None = rw (lt-ltb n (length xs) lt) at none in absurd cc
      | inr le ↦
          let fails : not (p (get_or xs k x)) ≡ true = prefix_len_passes (λ y. not (p y)) xs k x (omega arith) in
          let is : get_or xs k x ≡ x = get_or_from_slice_get xs k x x here in
          absurd (true≢false (sym fails ∙ ap (λ y. not (p y)) is ∙ ap not passes))
    ]

-- the index of a slot in a row is the first that has it
module _ (row : List ℕ) (slot : Slot) where
  abbrev is_it : SlotEntry → Bool
  is_it s = same_slot s.slot slot

  by_index : (a b : Option ℕ) → row_index (length row) slot ≡ a → position is_it (row_slots 0 row) ≡ b → a ≡ b
  by_index a (Some i) index at =
      let e = get_or (row_slots 0 row) i (strong_slot slot 0) in
      let f = position-Some is_it (row_slots 0 row) i (strong_slot slot 0) at in
      sym index ∙ index-of-slot row slot i e (slice_get-get_or (row_slots 0 row) i (strong_slot slot 0) f.0) f.1
  by_index None None index at = refl
  by_index (Some i) None index at =
      let f = slot-at-index row slot i index in
      absurd (none-at is_it (row_slots 0 row) at i f.entry f.here f.same)

  pub first-index : row_index (length row) slot ≡ position is_it (row_slots 0 row)
  first-index = by_index (row_index (length row) slot) (position is_it (row_slots 0 row)) refl refl
