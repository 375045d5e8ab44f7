-- What edits take away, edit by edit.
use Rattle.std.proofs.Common.{◌≡◌, ◌∙◌, ℕ, ◌+◌, ◌*◌, ◌<◌, ◌==◌, Bool, true, false, ◌||◌, ◌&&◌, not, cond, nat_eq, nat_lt, List, [], ◌∷◌, ◌++◌, length, take}
use Rattle.std.proofs.Common.{get_or, Option, Some, None, slice_get, sym, ap, subst, refl, arith, append-nil}
use Rattle.std.specs.Prelude.{◌-◌, is_some, position, count_by}
use Rattle.std.specs.List.{list_any, filter_map, cons_option, enumerate_from}
use Rattle.std.specs.Option.{option_map_or}
use Rattle.std.proofs.lemmas.Bool.{eqb-true, eq-eqb, ltb-true, lt-ltb, and_parts}
use Rattle.std.proofs.lemmas.List.{take_all, get_or-map, length-map}
use Rattle.std.proofs.lemmas.List.Elements.{filter_map-append}
use Rattle.std.proofs.lemmas.List.FromFn.{length-enumerate_from, get_or-enumerate_from}
use Rattle.std.proofs.lemmas.List.Sums.{sum_by_push}
use Rattle.std.proofs.lemmas.List.Quantifiers.{position-Some}
use Rattle.std.proofs.lemmas.Option.{get_or_from_slice_get, slice_get_within}
use Rattle.hd_terms.specs.declared.Slot.{Slot}
use Rattle.hd_terms.specs.declared.Slot.TheVariants as slots
use Rattle.hd_terms.specs.declared.Group.{Group}
use Rattle.hd_terms.specs.declared.Group.TheVariants as groups
use Rattle.hd_terms.specs.declared.EdgeKind.{EdgeKind}
use Rattle.hd_terms.specs.declared.Edit.{Edit}
use Rattle.hd_terms.specs.declared.Edit.TheVariants as edits
use Rattle.hd_terms.specs.declared.Event.{Event}
use Rattle.hd_terms.specs.declared.What.{What}
use Rattle.hd_terms.specs.declared.What.TheVariants as whats
use Rattle.hd_terms.specs.Dump.{SlotEntry, Object, Dump, no_object, object_at}
use Rattle.hd_terms.specs.Edges.{index_of}
use Rattle.hd_terms.specs.Ranks.{kind_of_references, same_kind}
use Rattle.hd_terms.specs.EditedDump.{is_of_class, takes_away, is_slot, same_slot, drops}
use Rattle.hd_log.proofs.LastLemmas.{numbered_more, by_event}
use Rattle.hd_terms.specs.Log.{stays, edit_of, live_edit, live_edits, is_live, live_flags}
use Rattle.hd_strength.specs.declared.cleared.Cleared.{Cleared}
use Rattle.hd_strength.specs.Cleared.{clears, clear_count, is_cleared}
use Rattle.hd_strength.specs.Multiset.{multiplicity, is_number}
use Rattle.hd_strength.specs.OneMore.{AreOneMore}
use Rattle.hd_strength.proofs.MultisetLemmas.{any_counted}
use Rattle.hd_strength.specs.Removed.{Removals, pair_key, has_pair, pair_count, has_root, takes_slot, AreSlots, AreKinds, AreRoots, IsRemovedBy, IsEditedKey}
use Rattle.hd_strength.specs.Removed.{IsOnlySlot, IsNamedSlot, field_of, has_field, cuts_field, takes_field, is_removed, AreFields, IsFieldKey}

-- tests
or-true_right : (a : Bool) → (a || true) ≡ true
or-true_right true = refl
or-true_right false = refl

or-false_right : (a : Bool) → (a || false) ≡ a
or-false_right true = refl
or-false_right false = refl

not-not : (a : Bool) → not (not a) ≡ a
not-not true = refl
not-not false = refl

-- two tests that hold together are one
same_test : (a b : Bool) → (a ≡ true → b ≡ true) → (b ≡ true → a ≡ true) → a ≡ b
same_test true true f g = refl
same_test true false f g = sym (f refl)
same_test false true f g = g refl
same_test false false f g = refl

and-false : (a : Bool) → (a && false) ≡ false
and-false true = refl
and-false false = refl

both-true : (a b : Bool) → a ≡ true → b ≡ true → (a && b) ≡ true
both-true true b h g = g
both-true false b h g = absurd cc

-- the object that has an ID
pub id-found : (dump : Dump) (id o : ℕ) → index_of dump.objects id ≡ Some o → (object_at dump o).id ≡ id
id-found dump id o h = sym (eqb-true id (object_at dump o).id (position-Some (λ (x : Object). id == x.id) dump.objects o no_object h).1)

-- one pair
some-pair : (x y : ℕ × ℕ) → Some x ≡ Some y → x ≡ y
some-pair x y h = cc

abbrev some_of : ℕ → ℕ → Option (ℕ × ℕ)
some_of a b = Some (a, b)

first-of : (a b c d : ℕ) → some_of a b ≡ some_of c d → a ≡ c
first-of a b c d h = ap (λ (p : ℕ × ℕ). p.0) (some-pair (a, b) (c, d) h)

second-of : (a b c d : ℕ) → some_of a b ≡ some_of c d → b ≡ d
second-of a b c d h = ap (λ (p : ℕ × ℕ). p.1) (some-pair (a, b) (c, d) h)

-- a count of none
none-counted : (b : Bool) → (cond {A = ℕ} b 0 0) ≡ 0
none-counted true = refl
none-counted false = refl

-- slots by their keys
key-cases : (b : Bool) (o i x j : ℕ) → nat_lt i 4294967296 ≡ b → j < 4294967296 → (b && nat_eq (pair_key o i) (pair_key x j)) ≡ true → (o ≡ x) × (i ≡ j)
key-cases false o i x j lt small h = absurd cc
key-cases true o i x j lt small h =
    let within : i < 4294967296 = ltb-true i 4294967296 lt in
    let same : o * 4294967296 + i ≡ x * 4294967296 + j = eqb-true (pair_key o i) (pair_key x j) h in
    (omega arith, omega arith)

key-same : (i j : ℕ) (k l : ℕ) → k ≡ l → i ≡ j → j < 4294967296 → (nat_lt i 4294967296 && nat_eq k l) ≡ true
key-same i j k l keys same small = rw (lt-ltb i 4294967296 (omega arith), eq-eqb k l keys) refl

none-by : (b : Bool) → (b ≡ true → ⊥) → b ≡ false
none-by true h = absurd (h refl)
none-by false h = refl

-- the key of the slot that an edit takes the reference from
module _ (dump : Dump) (edit : Edit) (p : Option (ℕ × ℕ)) (only : IsOnlySlot dump (λ x s. takes_slot x s edit) p) where
  key-of : (x j : ℕ) → p ≡ Some (x, j) → j < 4294967296 → IsEditedKey dump edit (Some (pair_key x j))
  key-of x j is small o i s lt at =
      same_test (takes_slot (object_at dump o) s edit) (nat_lt i 4294967296 && nat_eq (pair_key o i) (pair_key x j))
      (λ h. let same : some_of x j ≡ some_of o i = sym is ∙ only.only o i s lt at h in
      let object : x ≡ o = first-of x j o i same in
      let index : j ≡ i = second-of x j o i same in
      key-same i j (pair_key o i) (pair_key x j) (ap (λ (n : ℕ). pair_key n i) (sym object) ∙ ap (pair_key x) (sym index)) (sym index) small)
      (λ h. let both = key-cases (nat_lt i 4294967296) o i x j refl small h in
      only.passes o i s (is ∙ ap (λ (n : ℕ). Some (n, j)) (sym both.0) ∙ ap (λ (n : ℕ). Some (o, n)) (sym both.1)) at)

  pub edited_key : (x j key : ℕ) → p ≡ Some (x, j) → j < 4294967296 → key ≡ pair_key x j → IsEditedKey dump edit (Some key)
  edited_key x j key is small same = subst (λ (k : ℕ). IsEditedKey dump edit (Some k)) (sym same) (key-of x j is small)

  pub no_key : p ≡ None → IsEditedKey dump edit None
  no_key none o i s lt at =
      none-by (takes_slot (object_at dump o) s edit) (λ h. let clash : None ≡ some_of o i = sym none ∙ only.only o i s lt at h in absurd cc)
      ∙ sym (and-false (nat_lt i 4294967296))

-- the key of the field that an edit cuts in all objects of a class
pub cut_field_key : (edit : Edit) (id j key : ℕ) → edit ≡ edits.CutAll id j → j < 4294967296 → key ≡ pair_key id j → IsFieldKey edit (Some key)
cut_field_key edit id j key is small same class i =
    rw (is, same) (same_test ((class == id) && (i == j)) (nat_lt i 4294967296 && nat_eq (pair_key class i) (pair_key id j))
    (λ h. let both = and_parts (class == id) (i == j) h in
    let one : class ≡ id = eqb-true class id both.0 in
    let number : i ≡ j = eqb-true i j both.1 in
    key-same i j (pair_key class i) (pair_key id j) (ap (λ (n : ℕ). pair_key n i) one ∙ ap (pair_key id) number) number small)
    (λ h. let both = key-cases (nat_lt i 4294967296) class i id j refl small h in
    both-true (class == id) (i == j) (eq-eqb class id both.0) (eq-eqb i j both.1)))

pub no_field_key : (edit : Edit) → ((class i : ℕ) → cuts_field class i edit ≡ false) → IsFieldKey edit None
no_field_key edit none class i = none class i ∙ sym (and-false (nat_lt i 4294967296))

-- the number of the root that an edit drops
pub same_number : (root r : ℕ) → (r == root) ≡ (root == r)
same_number root r = same_test (r == root) (root == r) (λ e. eq-eqb root r (sym (eqb-true r root e))) (λ e. eq-eqb r root (sym (eqb-true root r e)))

-- an edit of a slot of the object with an ID, by the object
module _ (dump : Dump) (edit : Edit) (id : ℕ) (name : Object → Option Slot) (m : Option ℕ)
    (form : (x : Object) (s : SlotEntry) → takes_slot x s edit ≡ ((x.id == id) && is_slot s.slot (name x)))
    (distinct : (o : ℕ) → o < length dump.objects → (object_at dump o).id ≡ id → m ≡ Some o) where
  parts : (x : Object) (s : SlotEntry) → takes_slot x s edit ≡ true → (x.id ≡ id) × (is_slot s.slot (name x) ≡ true)
  parts x s t = let both = and_parts (x.id == id) (is_slot s.slot (name x)) (sym (form x s) ∙ t) in (eqb-true x.id id both.0, both.1)

  pub object_slot : (o : ℕ) (p : Option (ℕ × ℕ)) → m ≡ Some o → m ≡ index_of dump.objects id
      → IsNamedSlot (object_at dump o).slots (name (object_at dump o)) o p → IsOnlySlot dump (λ x s. takes_slot x s edit) p
  object_slot o p is first named = record {
    passes = λ x i s at there.
        let object : x ≡ o = named.object x i at in
        let same : object_at dump x ≡ object_at dump o = ap (object_at dump) object in
        let has_id : (object_at dump o).id ≡ id = id-found dump id o (sym first ∙ is) in
        let slot : is_slot s.slot (name (object_at dump o)) ≡ true = named.named x i s at (ap (λ (y : Object). slice_get y.slots i) (sym same) ∙ there) in
        ap (λ (y : Object). takes_slot y s edit) same ∙ form (object_at dump o) s
        ∙ both-true ((object_at dump o).id == id) (is_slot s.slot (name (object_at dump o))) (eq-eqb (object_at dump o).id id has_id) slot;
    only = λ x i s lt at t.
        let here = parts (object_at dump x) s t in
        let found : Some x ≡ Some o = sym (distinct x lt here.0) ∙ is in
        let object : x ≡ o = cc in
        let same : object_at dump x ≡ object_at dump o = ap (object_at dump) object in
        named.only i s (ap (λ (y : Object). slice_get y.slots i) (sym same) ∙ at) (ap (λ (y : Object). is_slot s.slot (name y)) (sym same) ∙ here.1)
        ∙ ap (λ (n : ℕ). Some (n, i)) (sym object);
  }

-- a named slot of an object
module _ (slots : List SlotEntry) (slot : Slot) (o : ℕ) (q : Option ℕ)
    (first : q ≡ position (λ (s : SlotEntry). same_slot s.slot slot) slots)
    (only : (i : ℕ) (s : SlotEntry) → slice_get slots i ≡ Some s → same_slot s.slot slot ≡ true → q ≡ Some i) where
  pub some_named_slot : (j : ℕ) → q ≡ Some j → IsNamedSlot slots (Some slot) o (Some (o, j))
  some_named_slot j is = record {
    object = λ x i both. sym (first-of o j x i both);
    named = λ x i s both at.
        let index : j ≡ i = second-of o j x i both in
        let there : get_or slots j s ≡ s = get_or_from_slice_get slots j s s (ap (slice_get slots) index ∙ at) in
        ap (λ (y : SlotEntry). same_slot y.slot slot) (sym there) ∙ (position-Some (λ (s : SlotEntry). same_slot s.slot slot) slots j s (sym first ∙ is)).1;
    only = λ i s at t. let same : Some j ≡ Some i = sym is ∙ only i s at t in let index : j ≡ i = cc in ap (λ (n : ℕ). Some (o, n)) index;
  }

-- the live edits of the first k events
abbrev pub edits_before : List Event → ℕ → List Edit
edits_before log k = filter_map (live_edit log) (enumerate_from 0 (take k log))

edits-more : (log : List Event) (k : ℕ) (e : Event) → slice_get log k ≡ Some e → edits_before log (k + 1) ≡ edits_before log k
    ++ cons_option (live_edit log (k, e)) []
edits-more log k e at = ap (filter_map (live_edit log)) (numbered_more log k e at) ∙ filter_map-append (live_edit log) (enumerate_from 0 (take k log))
    ((k, e) ∷ [])

-- one more event, by whether it is a live edit
module _ (log : List Event) (k : ℕ) (r : Option Edit) (lt : k < length log) (is : (e : Event) → slice_get log k ≡ Some e → r ≡ live_edit log (k, e)) where
  edits_by : edits_before log (k + 1) ≡ edits_before log k ++ cons_option r []
  edits_by = by_event log k lt (λ e at. edits-more log k e at ∙ ap (λ (o : Option Edit). edits_before log k ++ cons_option o []) (sym (is e at)))

  pub no_edit : r ≡ None → edits_before log (k + 1) ≡ edits_before log k
  no_edit none = edits_by ∙ ap (λ (o : Option Edit). edits_before log k ++ cons_option o []) none ∙ append-nil (edits_before log k)

  pub one_more : (edit : Edit) → r ≡ Some edit → AreOneMore (edits_before log k) (edits_before log (k + 1)) edit
  one_more edit some test =
      ap (count_by test) (edits_by ∙ ap (λ (o : Option Edit). edits_before log k ++ cons_option o []) some)
      ∙ sum_by_push (λ (x : Edit). cond (test x) 1 0) (edits_before log k) edit

-- a slot's count, once its key is added or taken out
slot-more : (small is takes : Bool) (m n c d : ℕ) → takes ≡ (small && is) → n ≡ m + (cond is 1 0) → d ≡ c + (cond takes 1 0) → (cond small m 0) ≡ c
    → (cond small n 0) ≡ d
slot-more true is takes m n c d same keys edits so_far = omega (arith, keys, edits, so_far, ap {B = ℕ} (λ (b : Bool). cond b 1 0) same)
slot-more false is takes m n c d same keys edits so_far = omega (arith, edits, so_far, ap {B = ℕ} (λ (b : Bool). cond b 1 0) same)

slot-fewer : (small is takes : Bool) (m n c d : ℕ) → takes ≡ (small && is) → n ≡ m - (cond is 1 0) → c ≡ d + (cond takes 1 0) → (cond small m 0) ≡ c
    → (cond small n 0) ≡ d
slot-fewer true is takes m n c d same keys edits so_far = omega (arith, keys, edits, so_far, ap {B = ℕ} (λ (b : Bool). cond b 1 0) same)
slot-fewer false is takes m n c d same keys edits so_far = omega (arith, edits, so_far, ap {B = ℕ} (λ (b : Bool). cond b 1 0) same)

-- the same of a number
number-more : (is takes : Bool) (m n c d : ℕ) → is ≡ takes → n ≡ m + (cond is 1 0) → d ≡ c + (cond takes 1 0) → m ≡ c → n ≡ d
number-more is takes m n c d same keys edits so_far = omega (arith, keys, edits, so_far, ap {B = ℕ} (λ (b : Bool). cond b 1 0) same)

number-fewer : (is takes : Bool) (m n c d : ℕ) → is ≡ takes → n ≡ m - (cond is 1 0) → c ≡ d + (cond takes 1 0) → m ≡ c → n ≡ d
number-fewer is takes m n c d same keys edits so_far = omega (arith, keys, edits, so_far, ap {B = ℕ} (λ (b : Bool). cond b 1 0) same)

-- what one edit more takes away
module _ (es fs : List Edit) (edit : Edit) (one : AreOneMore es fs edit) where
  pub slots_more : (dump : Dump) (key : Option ℕ) (keys keys' : List ℕ) → IsEditedKey dump edit key
      → ((n : ℕ) → multiplicity n keys' ≡ multiplicity n keys + (cond (is_number key n) 1 0)) → AreSlots dump es keys → AreSlots dump fs keys'
  slots_more dump key keys keys' is new are o i s lt at =
      let test : Edit → Bool = takes_slot (object_at dump o) s in
      let k : ℕ = pair_key o i in
      slot-more (nat_lt i 4294967296) (is_number key k) (test edit) (multiplicity k keys) (multiplicity k keys') (count_by test es) (count_by test fs)
      (is o i s lt at) (new k) (one test) (are o i s lt at)

  pub kinds_more : (old new : Cleared) → ((kind : EdgeKind) → clear_count new kind ≡ clear_count old kind + (cond (clears kind edit) 1 0)) → AreKinds es old
      → AreKinds fs new
  kinds_more old new counts are kind =
      number-more (clears kind edit) (clears kind edit) (clear_count old kind) (clear_count new kind) (count_by (clears kind) es)
      (count_by (clears kind) fs) refl (counts kind) (one (clears kind)) (are kind)

  pub fields_more : (key : Option ℕ) (keys keys' : List ℕ) → IsFieldKey edit key
      → ((n : ℕ) → multiplicity n keys' ≡ multiplicity n keys + (cond (is_number key n) 1 0)) → AreFields es keys → AreFields fs keys'
  fields_more key keys keys' is new are class i =
      let test : Edit → Bool = cuts_field class i in
      let k : ℕ = pair_key class i in
      slot-more (nat_lt i 4294967296) (is_number key k) (test edit) (multiplicity k keys) (multiplicity k keys') (count_by test es) (count_by test fs)
      (is class i) (new k) (one test) (are class i)

  pub roots_more : (root : Option ℕ) (numbers numbers' : List ℕ) → ((r : ℕ) → is_number root r ≡ drops r edit)
      → ((n : ℕ) → multiplicity n numbers' ≡ multiplicity n numbers + (cond (is_number root n) 1 0)) → AreRoots es numbers → AreRoots fs numbers'
  roots_more root numbers numbers' is new are r =
      number-more (is_number root r) (drops r edit) (multiplicity r numbers) (multiplicity r numbers') (count_by (drops r) es) (count_by (drops r) fs) (is r)
      (new r) (one (drops r)) (are r)

-- and one fewer
module _ (es fs : List Edit) (edit : Edit) (one : AreOneMore fs es edit) where
  pub slots_fewer : (dump : Dump) (key : Option ℕ) (keys keys' : List ℕ) → IsEditedKey dump edit key
      → ((n : ℕ) → multiplicity n keys' ≡ multiplicity n keys - (cond (is_number key n) 1 0)) → AreSlots dump es keys → AreSlots dump fs keys'
  slots_fewer dump key keys keys' is new are o i s lt at =
      let test : Edit → Bool = takes_slot (object_at dump o) s in
      let k : ℕ = pair_key o i in
      slot-fewer (nat_lt i 4294967296) (is_number key k) (test edit) (multiplicity k keys) (multiplicity k keys') (count_by test es) (count_by test fs)
      (is o i s lt at) (new k) (one test) (are o i s lt at)

  pub kinds_fewer : (old new : Cleared) → ((kind : EdgeKind) → clear_count new kind ≡ clear_count old kind - (cond (clears kind edit) 1 0)) → AreKinds es old
      → AreKinds fs new
  kinds_fewer old new counts are kind =
      number-fewer (clears kind edit) (clears kind edit) (clear_count old kind) (clear_count new kind) (count_by (clears kind) es)
      (count_by (clears kind) fs) refl (counts kind) (one (clears kind)) (are kind)

  pub fields_fewer : (key : Option ℕ) (keys keys' : List ℕ) → IsFieldKey edit key
      → ((n : ℕ) → multiplicity n keys' ≡ multiplicity n keys - (cond (is_number key n) 1 0)) → AreFields es keys → AreFields fs keys'
  fields_fewer key keys keys' is new are class i =
      let test : Edit → Bool = cuts_field class i in
      let k : ℕ = pair_key class i in
      slot-fewer (nat_lt i 4294967296) (is_number key k) (test edit) (multiplicity k keys) (multiplicity k keys') (count_by test es) (count_by test fs)
      (is class i) (new k) (one test) (are class i)

  pub roots_fewer : (root : Option ℕ) (numbers numbers' : List ℕ) → ((r : ℕ) → is_number root r ≡ drops r edit)
      → ((n : ℕ) → multiplicity n numbers' ≡ multiplicity n numbers - (cond (is_number root n) 1 0)) → AreRoots es numbers → AreRoots fs numbers'
  roots_fewer root numbers numbers' is new are r =
      number-fewer (is_number root r) (drops r edit) (multiplicity r numbers) (multiplicity r numbers') (count_by (drops r) es) (count_by (drops r) fs) (is r)
      (new r) (one (drops r)) (are r)

-- before any event
pub no_slots : (dump : Dump) (keys : List ℕ) → keys ≡ [] → AreSlots dump [] keys
no_slots dump keys none o i s lt at = ap (λ (ks : List ℕ). pair_count ks o i) none ∙ none-counted (nat_lt i 4294967296)

pub no_fields : (keys : List ℕ) → keys ≡ [] → AreFields [] keys
no_fields keys none class i = ap (λ (ks : List ℕ). pair_count ks class i) none ∙ none-counted (nat_lt i 4294967296)

pub no_roots : (numbers : List ℕ) → numbers ≡ [] → AreRoots [] numbers
no_roots numbers none r = ap (multiplicity r) none

-- once numbers are sorted
pub slots_sorted : (dump : Dump) (es : List Edit) (keys sorted : List ℕ) → ((n : ℕ) → multiplicity n sorted ≡ multiplicity n keys) → AreSlots dump es keys
    → AreSlots dump es sorted
slots_sorted dump es keys sorted same are o i s lt at = ap (λ (n : ℕ). cond (nat_lt i 4294967296) n 0) (same (pair_key o i)) ∙ are o i s lt at

pub fields_sorted : (es : List Edit) (keys sorted : List ℕ) → ((n : ℕ) → multiplicity n sorted ≡ multiplicity n keys) → AreFields es keys
    → AreFields es sorted
fields_sorted es keys sorted same are class i = ap (λ (n : ℕ). cond (nat_lt i 4294967296) n 0) (same (pair_key class i)) ∙ are class i

pub roots_sorted : (es : List Edit) (numbers sorted : List ℕ) → ((n : ℕ) → multiplicity n sorted ≡ multiplicity n numbers) → AreRoots es numbers
    → AreRoots es sorted
roots_sorted es numbers sorted same are r = same r ∙ are r

-- a slot that is a field of a class is cut by what cuts that field in all objects of the class
field-parts : (group : Group) (slot : Slot) (id i : ℕ) → (is_of_class group id && same_slot slot (slots.Field i)) ≡ takes_field group slot (edits.CutAll id i)
field-parts (groups.Class class) (slots.Field j) id i = refl
field-parts (groups.Class class) (slots.Element j) id i = and-false (class == id)
field-parts (groups.Class class) (slots.Static j) id i = and-false (class == id)
field-parts (groups.Class class) (slots.Const j) id i = and-false (class == id)
field-parts (groups.Class class) slots.OfClass id i = and-false (class == id)
field-parts (groups.Class class) slots.Super id i = and-false (class == id)
field-parts (groups.Class class) slots.Loader id i = and-false (class == id)
field-parts (groups.Class class) slots.Signers id i = and-false (class == id)
field-parts (groups.Class class) slots.Domain id i = and-false (class == id)
field-parts (groups.Prim element) slot id i = refl
field-parts groups.Classes slot id i = refl

-- and by nothing else
none-mapped : (m : Option (ℕ × ℕ)) (edit : Edit) → ((class i : ℕ) → cuts_field class i edit ≡ false)
    → option_map_or (λ (p : ℕ × ℕ). cuts_field p.0 p.1 edit) m false ≡ false
none-mapped None edit none = refl
none-mapped (Some p) edit none = none p.0 p.1

no-field : (x : Object) (s : SlotEntry) (edit : Edit) → ((class i : ℕ) → cuts_field class i edit ≡ false) → (a : Bool)
    → (a || takes_field x.group s.slot edit) ≡ a
no-field x s edit none a = ap (λ (b : Bool). a || b) (none-mapped (field_of x.group s.slot) edit none) ∙ or-false_right a

-- an edit takes away by the kind or by the field
abbrev takes-widely : Object → SlotEntry → Edit → Bool
takes-widely x s edit = clears s.kind edit || takes_field x.group s.slot edit

-- an edit takes away by the slot, or so
takes-parts : (x : Object) (s : SlotEntry) (edit : Edit) → takes_away x s edit ≡ (takes_slot x s edit || takes-widely x s edit)
takes-parts x s (edits.Cut id slot) = sym (ap (λ (b : Bool). takes_slot x s (edits.Cut id slot) || b) (no-field x s (edits.Cut id slot) (λ c i. refl) false)
    ∙ or-false_right (takes_slot x s (edits.Cut id slot)))
takes-parts x s (edits.Clear id) = sym (ap (λ (b : Bool). takes_slot x s (edits.Clear id) || b) (no-field x s (edits.Clear id) (λ c i. refl) false)
    ∙ or-false_right (takes_slot x s (edits.Clear id)))
takes-parts x s (edits.Drop r) = sym (no-field x s (edits.Drop r) (λ c i. refl) false)
takes-parts x s (edits.Add id) = sym (no-field x s (edits.Add id) (λ c i. refl) false)
takes-parts x s (edits.ClearAll references) =
    sym (no-field x s (edits.ClearAll references) (λ c i. refl) (same_kind s.kind (kind_of_references references)))
takes-parts x s (edits.CutAll id i) = field-parts x.group s.slot id i

or-mixed : (a b c d : Bool) → ((a || b) || (c || d)) ≡ ((a || c) || (b || d))
or-mixed true b c d = refl
or-mixed false true true d = refl
or-mixed false true false d = refl
or-mixed false false true d = refl
or-mixed false false false d = refl

any-parts : (p q r : Edit → Bool) → ((edit : Edit) → p edit ≡ (q edit || r edit)) → (es : List Edit) → list_any p es ≡ (list_any q es || list_any r es)
any-parts p q r parts [] = refl
any-parts p q r parts (e ∷ es) =
    ap (λ (b : Bool). b || list_any p es) (parts e) ∙ ap (λ (b : Bool). (q e || r e) || b) (any-parts p q r parts es)
    ∙ or-mixed (q e) (r e) (list_any q es) (list_any r es)

-- the keys have that of a slot where it is counted
small-counted : (small any : Bool) (n : ℕ) → any ≡ nat_lt 0 n → (small && any) ≡ nat_lt 0 (cond small n 0)
small-counted true any n is = is
small-counted false any n is = refl

slot-any : (dump : Dump) (es : List Edit) (keys : List ℕ) → AreSlots dump es keys → (o i : ℕ) (s : SlotEntry) → o < length dump.objects
    → slice_get (object_at dump o).slots i ≡ Some s → has_pair keys o i ≡ list_any (takes_slot (object_at dump o) s) es
unfolding has_pair
slot-any dump es keys are o i s lt at =
    small-counted (nat_lt i 4294967296) (list_any (nat_eq (pair_key o i)) keys) (multiplicity (pair_key o i) keys) (any_counted (nat_eq (pair_key o i)) keys)
    ∙ ap (nat_lt 0) (are o i s lt at)
    ∙ sym (any_counted (takes_slot (object_at dump o) s) es)

none-any : (es : List Edit) → list_any (λ (e : Edit). false) es ≡ false
none-any [] = refl
none-any (e ∷ es) = none-any es

field-any : (es : List Edit) (keys : List ℕ) → AreFields es keys → (m : Option (ℕ × ℕ))
    → option_map_or (λ (p : ℕ × ℕ). has_pair keys p.0 p.1) m false ≡ list_any (λ (e : Edit). option_map_or (λ (p : ℕ × ℕ). cuts_field p.0 p.1 e) m false) es
unfolding has_pair
field-any es keys are None = sym (none-any es)
field-any es keys are (Some p) =
    small-counted (nat_lt p.1 4294967296) (list_any (nat_eq (pair_key p.0 p.1)) keys) (multiplicity (pair_key p.0 p.1) keys)
    (any_counted (nat_eq (pair_key p.0 p.1)) keys)
    ∙ ap (nat_lt 0) (are p.0 p.1)
    ∙ sym (any_counted (cuts_field p.0 p.1) es)

root-any : (es : List Edit) (numbers : List ℕ) → AreRoots es numbers → (r : ℕ) → has_root numbers r ≡ list_any (drops r) es
unfolding has_root
root-any es numbers are r = any_counted (nat_eq r) numbers ∙ ap (nat_lt 0) (are r) ∙ sym (any_counted (drops r) es)

-- what the live edits of a log take away, by their counts
pub is_removed_by : (dump : Dump) (log : List Event) (t : Removals) → AreSlots dump (live_edits log) t.slots → AreKinds (live_edits log) t.cleared
    → AreFields (live_edits log) t.fields → AreRoots (live_edits log) t.roots → IsRemovedBy dump log t
is_removed_by dump log t by_slot by_kind by_field by_root =
    let es : List Edit = live_edits log in
    record {
      slots = λ o i s lt at.
          let x = object_at dump o in
          ap (λ (b : Bool). b || (is_cleared t.cleared s.kind || has_field t.fields x.group s.slot)) (slot-any dump es t.slots by_slot o i s lt at)
          ∙ ap (λ (b : Bool). list_any (takes_slot x s) es || (b || has_field t.fields x.group s.slot))
          (ap (nat_lt 0) (by_kind s.kind) ∙ sym (any_counted (clears s.kind) es))
          ∙ ap (λ (b : Bool). list_any (takes_slot x s) es || (list_any (clears s.kind) es || b)) (field-any es t.fields by_field (field_of x.group s.slot))
          ∙ ap (λ (b : Bool). list_any (takes_slot x s) es || b)
          (sym (any-parts (takes-widely x s) (clears s.kind) (takes_field x.group s.slot) (λ e. refl) es))
          ∙ sym (any-parts (takes_away x s) (takes_slot x s) (takes-widely x s) (takes-parts x s) es)
          ∙ sym (not-not (list_any (takes_away x s) es));
      roots = λ r. root-any es t.roots by_root r;
      slot_counts = by_slot;
      kind_counts = by_kind;
      field_counts = by_field;
      root_counts = by_root;
    }

-- all events are before the end
pub all_before : (log : List Event) (k : ℕ) → k ≡ length log → edits_before log k ≡ live_edits log
all_before log k end = ap (λ (es : List Event). filter_map (live_edit log) (enumerate_from 0 es)) (take_all k log (omega (arith, end)))

-- the flag of an event
flag-at : (log : List Event) (k : ℕ) (e : Event) (d : Bool) → slice_get log k ≡ Some e → get_or (live_flags log) k d ≡ is_live log (k, e)
flag-at log k e d at =
    let lt : k < length log = slice_get_within log k e at in
    let numbered : get_or (enumerate_from 0 log) k (k, e) ≡ (0 + k, get_or log k e) = get_or-enumerate_from 0 log k (k, e) lt in
    let number : 0 + k ≡ k = omega arith in
    get_or-map (is_live log) (enumerate_from 0 log) k (k, e) d (omega (arith, length-enumerate_from 0 log))
    ∙ ap (is_live log) (numbered ∙ ap (λ (n : ℕ). (n, get_or log k e)) number ∙ ap (λ (x : Event). (k, x)) (get_or_from_slice_get log k e e at))

live-by : (b : Bool) (what : What) (edit : Edit) → what ≡ whats.Do edit → is_some (cond b (edit_of what) None) ≡ true → Some edit ≡ cond b (edit_of what) None
live-by true what edit is some = ap edit_of (sym is)
live-by false what edit is some = absurd cc

is-none : (r : Option Edit) → is_some r ≡ false → None ≡ r
is-none None h = refl
is-none (Some edit) h = absurd cc

-- the live edit at an index, by its flag and what the event does
module _ (log : List Event) (k : ℕ) (x : Event) (live : List Bool) (d : Bool) (flags : live ≡ live_flags log) (read : slice_get log k ≡ Some x) (e : Event)
    (at : slice_get log k ≡ Some e) where
  flag : get_or live k d ≡ is_live log (k, e)
  flag = ap (λ (bs : List Bool). get_or bs k d) flags ∙ flag-at log k e d at

  one : x.what ≡ e.what
  one = let same : Some x ≡ Some e = sym read ∙ at in let event : x ≡ e = cc in ap (λ (y : Event). y.what) event

  pub not_live : get_or live k d ≡ false → None ≡ live_edit log (k, e)
  not_live no_flag = is-none (live_edit log (k, e)) (sym flag ∙ no_flag)

  pub live_do : (edit : Edit) → get_or live k d ≡ true → x.what ≡ whats.Do edit → Some edit ≡ live_edit log (k, e)
  live_do edit has_flag is = live-by (stays log k) e.what edit (sym one ∙ is) (sym flag ∙ has_flag)

-- a look-up of a slot
pub slot_found : (keys : List ℕ) (o i : ℕ) (found : Bool) → i < 4294967296 → found ≡ list_any (nat_eq (pair_key o i)) keys → found ≡ has_pair keys o i
unfolding has_pair
slot_found keys o i found small is = is ∙ sym (ap (λ (b : Bool). b && list_any (nat_eq (pair_key o i)) keys) (lt-ltb i 4294967296 small))

-- the same by a key that was made of two numbers
pub pair_found : (keys : List ℕ) (o i first key : ℕ) (found : Bool) → i < 4294967296 → key ≡ pair_key first i → first ≡ o
    → found ≡ list_any (nat_eq key) keys → found ≡ has_pair keys o i
pair_found keys o i first key found small made same is =
    slot_found keys o i found small (is ∙ ap (λ (k : ℕ). list_any (nat_eq k) keys) (made ∙ ap (λ (n : ℕ). pair_key n i) same))

-- a look-up by the kind, then by the slot, then by the field
module _ (t : Removals) (x : Object) (s : SlotEntry) (o i : ℕ) (kind : EdgeKind) (same : kind ≡ s.kind) where
  pub removed_by_kind : is_cleared t.cleared kind ≡ true → true ≡ is_removed t x s o i
  removed_by_kind cleared = sym (ap (λ (b : Bool). has_pair t.slots o i || (b || has_field t.fields x.group s.slot))
      (ap (is_cleared t.cleared) (sym same) ∙ cleared)
      ∙ or-true_right (has_pair t.slots o i))

  module _ (none : is_cleared t.cleared kind ≡ false) where
    pub removed_by_rest : is_removed t x s o i ≡ (has_pair t.slots o i || has_field t.fields x.group s.slot)
    removed_by_rest = ap (λ (b : Bool). has_pair t.slots o i || (b || has_field t.fields x.group s.slot)) (ap (is_cleared t.cleared) (sym same) ∙ none)

    pub removed_by_slot : has_pair t.slots o i ≡ true → true ≡ is_removed t x s o i
    removed_by_slot taken = sym (removed_by_rest ∙ ap (λ (b : Bool). b || has_field t.fields x.group s.slot) taken)

    pub removed_by_field : has_pair t.slots o i ≡ false → has_field t.fields x.group s.slot ≡ is_removed t x s o i
    removed_by_field left = sym (removed_by_rest ∙ ap (λ (b : Bool). b || has_field t.fields x.group s.slot) left)

-- no key is that of a field
no-pair : (m : Option (ℕ × ℕ)) → option_map_or (λ (p : ℕ × ℕ). has_pair [] p.0 p.1) m false ≡ false
unfolding has_pair
no-pair None = refl
no-pair (Some p) = and-false (nat_lt p.1 4294967296)

pub no_field_there : (keys : List ℕ) (group : Group) (slot : Slot) → keys ≡ [] → has_field keys group slot ≡ false
no_field_there keys group slot none = ap (λ (ks : List ℕ). has_field ks group slot) none ∙ no-pair (field_of group slot)

-- a look-up of a root
pub root_found : (numbers : List ℕ) (r : ℕ) (found : Bool) → found ≡ list_any (nat_eq r) numbers → found ≡ has_root numbers r
unfolding has_root
root_found numbers r found is = is

-- as many flags as events
pub length-live_flags : (log : List Event) → length (live_flags log) ≡ length log
length-live_flags log = simp (length-map, length-enumerate_from)
