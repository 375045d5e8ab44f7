use Rattle.std.proofs.Common.{rules, ◌≡◌, ◌∙◌, ℕ, ◌+◌, ◌<◌, ◌≤◌, inl, inr, ◌↔◌, Bool, true, false, IsTrue, List, Contains, length, get_or, leb, Option, None}
use Rattle.std.proofs.Common.{Some, slice_get, position, refl, sym, ap, subst, arith}
use Rattle.std.specs.Prelude.{◌==◌}
use Rattle.std.specs.Option.{option_map}
use Rattle.std.proofs.lemmas.Bool.{cases_eq, eqb-true, le-leb, leb-true}
use Rattle.std.proofs.lemmas.List.Quantifiers.{position-Some}
use Rattle.std.proofs.lemmas.Option.{get_or_from_slice_get}
use Rattle.hd_terms.specs.declared.Slot.{Slot}
use Rattle.hd_terms.specs.declared.Event.{Event}
use Rattle.hd_terms.specs.declared.Strength.TheVariants as strengths
use Rattle.hd_terms.specs.declared.Support.TheVariants as supports
use Rattle.hd_terms.specs.Ranks.{rank, given_by, weaker_of}
use Rattle.hd_terms.specs.Paths.{Edge, RootEntry}
use Rattle.hd_terms.specs.contracts.SlotPartialEq.TheImpl as slot_eq
use Rattle.hd_terms.specs.Dump.{SlotEntry, Dump, object_at}
use Rattle.hd_terms.specs.EditedDump.{standing, same_slot}
use Rattle.hd_terms.specs.Settled.{Reached, reached_at, PassesOn, IsSupported, SupportedBy}
use Rattle.hd_strength.specs.declared.edited.StandingRead.{StandingRead}
use Rattle.hd_strength.specs.Rows.{width, edge_at, root_count, root_at}
use Rattle.hd_strength.specs.Growing.{rank_at, offered_strength}
use Rattle.hd_settled.specs.Checking.{Explains, GivesNoMore, MakesStrong}
use Rattle.hd_strength.proofs.Reading.{read_of, read_at}
use Rattle.hd_strength.proofs.RowLemmas.{IsAt, is_at, at_source, edge_stands_at, edge_has_index, held_at, root_some, root_stands_at, root_has_number, is_entry}

-- slots that the test calls the same are one
same_slot-true : (a b : Slot) → slot_eq.ghosts.eq a b ≡ true → a ≡ b
same_slot-true a b h = search rules

eq-same_slot : (a b : Slot) → slot_eq.ghosts.eq a b ≡ same_slot a b
eq-same_slot a b = search rules

-- a slot is itself
same_slot-refl : (a : Slot) → same_slot a a ≡ true
same_slot-refl a = search rules

-- a test that fails
pub refuted : {P : Type 0} → (P → ⊥) → IsTrue false ↔ P
refuted fails = (λ h. absurd cc, λ p. absurd (fails p))

pub refuted_other : {P : Type 0} → (a b : ℕ) → (a ≡ b → ⊥) → (P → ⊥) → IsTrue (a == b) ↔ P
refuted_other a b other fails = (λ h. absurd (other (eqb-true a b h)), λ p. absurd (fails p))

-- a test of the same
pub decided_alike : {P Q : Type 0} → (b : Bool) → IsTrue b ↔ Q → P ↔ Q → IsTrue b ↔ P
decided_alike b test alike = (λ h. alike.1 (test.0 h), λ p. test.1 (alike.0 p))

-- the edge that was read
read-by : (edge : Option Edge) (read : StandingRead) → option_map read_of edge ≡ Some read → (e : Edge) × (edge ≡ Some e) × (read_of e ≡ read)
read-by None read is = absurd cc
read-by (Some e) read is = let same : read_of e ≡ read = cc in (e, refl, same)

pub read_edge : (dump : Dump) (log : List Event) (o i : ℕ) (read : StandingRead) → Some read ≡ read_at dump log o i → (e : Edge)
    × (edge_at dump log o i ≡ Some e) × (read_of e ≡ read)
read_edge dump log o i read is = read-by (edge_at dump log o i) read (sym is)

-- where nothing was read there is no edge
pub no_edge : (dump : Dump) (log : List Event) (o i : ℕ) → None ≡ read_at dump log o i → (e : Edge) → edge_at dump log o i ≡ Some e → ⊥
no_edge dump log o i none e is = let same : None ≡ Some (read_of e) = none ∙ ap (option_map read_of) is in absurd (cc)

-- what an edge gives its target, by what was read
pub given_is : (dump : Dump) (log : List Event) (ks : List Reached) (o i : ℕ) (e : Edge) (read : StandingRead) → edge_at dump log o i ≡ Some e
    → read_of e ≡ read → offered_strength ks e ≡ weaker_of (reached_at ks o).strength (given_by read.kind)
given_is dump log ks o i e read is same =
    ap (λ (p : ℕ). weaker_of (reached_at ks p).strength (given_by e.kind)) (at_source dump log o i e is)
    ∙ ap (λ (r : StandingRead). weaker_of (reached_at ks o).strength (given_by r.kind)) same

-- one edge stands at an index
one_edge : (dump : Dump) (log : List Event) (o i : ℕ) (e f : Edge) → edge_at dump log o i ≡ Some e → edge_at dump log o i ≡ Some f → e ≡ f
one_edge dump log o i e f is there = let same : Some e ≡ Some f = sym is ∙ there in cc

-- the root of a number stands on an object
pub holds : (dump : Dump) (log : List Event) (r o : ℕ) → Some o ≡ held_at dump log r → Contains (standing dump log).roots (record { number = r; target = o })
holds dump log r o some = root_stands_at dump log r (record { number = r; target = o }) (root_some dump log r o some)

-- what a root that stands is on
pub held : (dump : Dump) (log : List Event) (r o : ℕ) → Contains (standing dump log).roots (record { number = r; target = o }) → held_at dump log r ≡ Some o
held dump log r o c =
    let x : RootEntry = record { number = r; target = o } in
    let found = root_has_number dump log x c in
    let number : r ≡ found.0 = (is_entry dump log found.0 x found.2).number in
    ap (held_at dump log) number ∙ ap (option_map (λ (y : RootEntry). y.target)) found.2

-- past the last object nothing supports
pub without_source : (dump : Dump) (log : List Event) (ks : List Reached) (o source : ℕ) (slot : Slot) → length dump.objects ≤ source → (e : Edge)
    → SupportedBy (standing dump log) ks o source slot e → ⊥
without_source dump log ks o source slot past e s =
    let index = edge_has_index dump log e s.stands in
    omega (arith, (is_at dump log e.source index.0 e index.1).object, s.from_source)

-- a slot of an object by its name, as it is looked up
module _ (dump : Dump) (log : List Event) (source : ℕ) (slot : Slot) (at : Option ℕ)
    (first : at ≡ position (λ (s : SlotEntry). same_slot s.slot slot) (object_at dump source).slots)
    (only : (i : ℕ) (s : SlotEntry) → slice_get (object_at dump source).slots i ≡ Some s → same_slot s.slot slot ≡ true → at ≡ Some i) where
  -- an edge that stands in the slot is at its index
  pub at_name : (f : Edge) → Contains (standing dump log).edges f → f.source ≡ source → f.slot ≡ slot → (i : ℕ) × (at ≡ Some i)
      × (edge_at dump log source i ≡ Some f)
  at_name f c from name =
      let index = edge_has_index dump log f c in
      let there : edge_at dump log source index.0 ≡ Some f = subst (λ (o : ℕ). edge_at dump log o index.0 ≡ Some f) from index.1 in
      let row : IsAt dump log source index.0 f = is_at dump log source index.0 f there in
      let named : row.entry.slot ≡ slot = sym (ap (λ (e : Edge). e.slot) row.is) ∙ name in
      (index.0, only index.0 row.entry row.there (ap (λ (s : Slot). same_slot s slot) named ∙ same_slot-refl slot), there)

  -- an edge at the index is in the slot
  pub name_at : (i : ℕ) (e : Edge) → at ≡ Some i → edge_at dump log source i ≡ Some e → e.slot ≡ slot
  name_at i e some is =
      let row : IsAt dump log source i e = is_at dump log source i e is in
      let found = position-Some (λ (s : SlotEntry). same_slot s.slot slot) (object_at dump source).slots i row.entry (sym first ∙ some) in
      let entry : get_or (object_at dump source).slots i row.entry ≡ row.entry =
      get_or_from_slice_get (object_at dump source).slots i row.entry row.entry row.there in
      ap (λ (x : Edge). x.slot) row.is
      ∙ same_slot-true row.entry.slot slot (eq-same_slot row.entry.slot slot ∙ ap (λ (s : SlotEntry). same_slot s.slot slot) (sym entry) ∙ found.1)

  -- no other edge that stands is in the slot
  pub only_edge : (i : ℕ) (e f : Edge) → at ≡ Some i → edge_at dump log source i ≡ Some e → Contains (standing dump log).edges f → f.source ≡ source
      → f.slot ≡ slot → e ≡ f
  only_edge i e f some is c from name =
      let other = at_name f c from name in
      let both : Some i ≡ Some other.0 = sym some ∙ other.1 in
      let same : i ≡ other.0 = cc in
      one_edge dump log source other.0 e f (subst (λ (j : ℕ). edge_at dump log source j ≡ Some e) same is) other.2

  module _ (ks : List Reached) (o : ℕ) where
    pub without_slot : at ≡ None → (e : Edge) → SupportedBy (standing dump log) ks o source slot e → ⊥
    without_slot none e s = let other = at_name e s.stands s.from_source s.from_slot in let both : None ≡ Some other.0 = sym none ∙ other.1 in absurd (cc)

    pub without_edge : (i : ℕ) → at ≡ Some i → None ≡ read_at dump log source i → (e : Edge) → SupportedBy (standing dump log) ks o source slot e → ⊥
    without_edge i some none e s =
        let other = at_name e s.stands s.from_source s.from_slot in
        let both : Some i ≡ Some other.0 = sym some ∙ other.1 in
        let same : other.0 ≡ i = cc in
        no_edge dump log source i none e (subst (λ (j : ℕ). edge_at dump log source j ≡ Some e) same other.2)

    module _ (i : ℕ) (read : StandingRead) (some : at ≡ Some i) (is : Some read ≡ read_at dump log source i) where
      -- the edge that supports is the one that was read
      pub supports_by : (e : Edge) → SupportedBy (standing dump log) ks o source slot e → read_of e ≡ read
      supports_by e s =
          let found = read_edge dump log source i read is in
          let same : found.0 ≡ e = only_edge i found.0 e some found.1 s.stands s.from_source s.from_slot in
          sym (ap read_of same) ∙ found.2

      pub elsewhere : (read.target ≡ o → ⊥) → (e : Edge) → SupportedBy (standing dump log) ks o source slot e → ⊥
      elsewhere other e s = other (sym (ap (λ (r : StandingRead). r.target) (supports_by e s)) ∙ s.to_object)

      pub explained : read.target ≡ o → (IsSupported (standing dump log) ks o (supports.Edge source slot)) ↔ Explains dump.mode (reached_at ks source) read.kind
          (reached_at ks o)
      explained target =
          let g = standing dump log in
          let explains : (x : Edge) × SupportedBy g ks o source slot x → Explains dump.mode (reached_at ks source) read.kind (reached_at ks o) =
          λ (e, s). record {
            passes_on = s.passes_on;
            strength = s.strength ∙ ap (λ (r : StandingRead). weaker_of (reached_at ks source).strength (given_by r.kind)) (supports_by e s);
            earlier = s.earlier;
          } in
          let found = read_edge dump log source i read is in
          let e = found.0 in (
            explains,
            λ x. (
              e,
              record {
                stands = edge_stands_at dump log source i e found.1;
                from_source = at_source dump log source i e found.1;
                from_slot = name_at i e some found.1;
                to_object = ap (λ (r : StandingRead). r.target) found.2 ∙ target;
                passes_on = x.passes_on;
                strength = x.strength ∙ ap (λ (r : StandingRead). weaker_of (reached_at ks source).strength (given_by r.kind)) (sym found.2);
                earlier = x.earlier;
              },
            ),
          )

-- a root on an object, by what it holds
module _ (dump : Dump) (log : List Event) (r : ℕ) where
  pub not_held : (o : ℕ) → None ≡ held_at dump log r → Contains (standing dump log).roots (record { number = r; target = o }) → ⊥
  not_held o none c = let both : None ≡ Some o = none ∙ held dump log r o c in absurd (cc)

  pub held_by_another : (x o : ℕ) → Some x ≡ held_at dump log r → (x ≡ o → ⊥) → Contains (standing dump log).roots (record { number = r; target = o }) → ⊥
  held_by_another x o some other c = let both : Some x ≡ Some o = some ∙ held dump log r o c in other (cc)

pub held_strongly : (dump : Dump) (log : List Event) (ks : List Reached) (r x o : ℕ) (strong : Bool) → Some x ≡ held_at dump log r → x ≡ o → IsTrue strong
    ↔ ((reached_at ks o).strength ≡ strengths.Strong)
    → IsTrue strong ↔ IsSupported (standing dump log) ks o (supports.Root r)
held_strongly dump log ks r x o strong some same test =
    let there : Contains (standing dump log).roots (record { number = r; target = o }) =
    holds dump log r o (subst (λ (y : ℕ). Some y ≡ held_at dump log r) same some) in
    (λ h. (there, test.0 h), λ s. test.1 s.1)

-- the root of a number makes its object strong
module _ (dump : Dump) (log : List Event) (ks : List Reached) (r : ℕ) where
  pub none_to_make_strong : None ≡ held_at dump log r → (x : RootEntry) → root_at dump log r ≡ Some x → MakesStrong ks x
  none_to_make_strong none x is = let both : None ≡ Some x.target = none ∙ ap (option_map (λ (y : RootEntry). y.target)) is in absurd (cc)

  pub one_made_strong : (o : ℕ) (strong : Bool) → Some o ≡ held_at dump log r → IsTrue strong ↔ ((reached_at ks o).strength ≡ strengths.Strong) → IsTrue strong
      ↔ ((x : RootEntry) → root_at dump log r ≡ Some x → MakesStrong ks x)
  one_made_strong o strong some test =
      let entry : RootEntry = record { number = r; target = o } in
      let there : root_at dump log r ≡ Some entry = root_some dump log r o some in (
        λ h x is. let both : Some entry ≡ Some x = sym there ∙ is in let same : entry ≡ x = cc in subst (MakesStrong ks) same (test.0 h),
        λ all. test.1
            (all entry there),
      )

-- the roots of all numbers make their objects strong
pub roots_strong : (dump : Dump) (log : List Event) (ks : List Reached) (n : ℕ) → root_count dump log ≤ n
    → ((r : ℕ) → r < n → (x : RootEntry) → root_at dump log r ≡ Some x → MakesStrong ks x)
    → (x : RootEntry) → Contains (standing dump log).roots x → MakesStrong ks x
roots_strong dump log ks n all each x c = let found = root_has_number dump log x c in each found.0 (omega (arith, found.1)) x found.2

-- what the edge at an index gives
pub one_gives : (dump : Dump) (log : List Event) (ks : List Reached) (o i : ℕ) (read : StandingRead) (given had : ℕ) → Some read ≡ read_at dump log o i
    → given ≡ rank (weaker_of (reached_at ks o).strength (given_by read.kind)) → had ≡ rank_at ks read.target
    → IsTrue (leb given had) ↔ ((e : Edge) → edge_at dump log o i ≡ Some e → rank (offered_strength ks e) ≤ rank_at ks e.target)
one_gives dump log ks o i read given had is gives has =
    let found = read_edge dump log o i read is in
    let e = found.0 in
    let offers : (f : Edge) → edge_at dump log o i ≡ Some f → (rank (offered_strength ks f) ≡ given) × (rank_at ks f.target ≡ had) =
    λ f there.
    let same : read_of f ≡ read = sym (ap read_of (one_edge dump log o i e f found.1 there)) ∙ found.2 in
    (ap rank (given_is dump log ks o i f read there same) ∙ sym gives, ap (λ (x : StandingRead). rank_at ks x.target) same ∙ sym has) in (
      λ h f there. omega (arith, leb-true given had h, (offers f there).0, (offers f there).1),
      λ all. le-leb given had (omega (arith, all e found.1, (offers e found.1).0, (offers e found.1).1)),
    )

-- what the edges of an object give
module _ (dump : Dump) (log : List Event) (ks : List Reached) (o : ℕ) where
  same_source : (i : ℕ) (e : Edge) → edge_at dump log o i ≡ Some e → rank_at ks e.source ≡ rank_at ks o
  same_source i e is = ap (rank_at ks) (at_source dump log o i e is)

  pub nothing_passed_on : (PassesOn dump.mode (reached_at ks o) → ⊥) → (i : ℕ) (e : Edge) → edge_at dump log o i ≡ Some e → GivesNoMore dump.mode ks e
  nothing_passed_on stops i e is passes = absurd (stops (omega (arith, same_source i e is, passes)))

  pub each_gives : (n : ℕ) → width dump o ≤ n
      → ((i : ℕ) → i < n → (e : Edge) → edge_at dump log o i ≡ Some e → rank (offered_strength ks e) ≤ rank_at ks e.target)
      → (i : ℕ) (e : Edge) → edge_at dump log o i ≡ Some e → GivesNoMore dump.mode ks e
  each_gives n all each i e is passes = each i (omega (arith, (is_at dump log o i e is).within)) e is

  pub one_too_much : PassesOn dump.mode (reached_at ks o) → (i : ℕ)
      → (((e : Edge) → edge_at dump log o i ≡ Some e → rank (offered_strength ks e) ≤ rank_at ks e.target) → ⊥)
      → ((i : ℕ) (e : Edge) → edge_at dump log o i ≡ Some e → GivesNoMore dump.mode ks e) → ⊥
  one_too_much passes i more all = more (λ e is. all i e is (omega (arith, same_source i e is, passes)))

-- what the edges of all objects give
pub all_give : (dump : Dump) (log : List Event) (ks : List Reached) (n : ℕ) → length dump.objects ≤ n
    → ((o : ℕ) → o < n → (i : ℕ) (e : Edge) → edge_at dump log o i ≡ Some e → GivesNoMore dump.mode ks e)
    → (e : Edge) → Contains (standing dump log).edges e → GivesNoMore dump.mode ks e
all_give dump log ks n all each e c =
    let index = edge_has_index dump log e c in
    each e.source (omega (arith, (is_at dump log e.source index.0 e index.1).object)) index.0 e index.1

-- one more of those that hold for a number
pub one_more : (P : ℕ → Type 0) (n : ℕ) → ((k : ℕ) → k < n → P k) → P n → (k : ℕ) → k < n + 1 → P k
one_more P n before here k lt = elim (cases_eq k n) [
  | inl same ↦ subst P (sym same) here
  | inr other ↦ before k (omega arith)
]

-- a test that says no
pub says_no : {P : Type 0} → (b : Bool) → b ≡ false → IsTrue b ↔ P → P → ⊥
says_no b is test p = let yes_too : b ≡ true = test.1 p in absurd (cc)
