use Rattle.std.proofs.Common.{◌≡◌, ◌∙◌, ℕ, ◌+◌, ◌<◌, ◌⊎◌, inl, inr, List, [], ◌∷◌, ◌++◌, Contains, length, get_or, not, Bool, true, false, Option, None, Some}
use Rattle.std.proofs.Common.{slice_get, refl, sym, ap, subst, arith}
use Rattle.std.specs.Prelude.{◌≢◌, ◌-◌, ◌/◌, ◌%◌, ◌≤◌, ◌||◌, ◌==◌, position, All}
use Rattle.std.specs.Option.{option_map, option_map_or}
use Rattle.std.specs.List.{enumerate_from}
use Rattle.std.proofs.lemmas.Bool.{cases_lt, eqb-true, eq-eqb}
use Rattle.std.proofs.lemmas.List.Elements.{Contains-append_left, Contains-append_right, Contains-append_cases}
use Rattle.std.proofs.lemmas.List.Quantifiers.{position-Some}
use Rattle.std.proofs.lemmas.Option.{get_or_from_slice_get, slice_get-get_or, slice_get_within}
use Rattle.hd_terms.specs.declared.Event.{Event}
use Rattle.hd_terms.specs.declared.Slot.{Slot}
use Rattle.hd_terms.specs.declared.Slot.TheVariants as slots
use Rattle.hd_terms.specs.declared.Group.{Group}
use Rattle.hd_terms.specs.declared.Group.TheVariants as groups
use Rattle.hd_terms.specs.declared.RefKind.{RefKind}
use Rattle.hd_terms.specs.declared.EdgeKind.{EdgeKind}
use Rattle.hd_terms.specs.declared.Support.TheVariants as supports
use Rattle.hd_terms.specs.Dump.{SlotEntry, Object, Dump, no_object, object_at}
use Rattle.hd_terms.specs.Edges.{index_of, edge_of, edges_from, edges, kind_edges}
use Rattle.hd_terms.specs.EditedDump.{is_of_class, standing, is_untouched, same_slot, slot_code}
use Rattle.hd_terms.specs.Paths.{Edge, RootEntry}
use Rattle.hd_terms.specs.Ranks.{rank, given_by, kind_of_references, same_kind}
use Rattle.hd_terms.specs.Regions.{Holding, edge_holding, root_holding}
use Rattle.hd_strength.specs.Cleared.{is_cleared}
use Rattle.hd_strength.specs.Removed.{Removals, has_pair, has_field, is_removed, IsRemovedBy}
use Rattle.hd_strength.specs.Rows.{edge_at, root_at}
use Rattle.hd_strength.proofs.Lists.{Contains-nil, Contains-head, Contains-cons_cases, Contains-slice_get, flat_map_contains, flat_map_only}
use Rattle.hd_strength.proofs.Lists.{filter_map_contains, filter_map_only, filter_contains, filter_only, enumerate_contains, enumerate_only}
use Rattle.hd_strength.proofs.RowLemmas.{edge_to, entry_to, not-true, not-false, IsAt, is_at, at_some, at_cut, at_none, at_edge, at_source, edge_stands_at}
use Rattle.hd_strength.proofs.RowLemmas.{edge_has_index, held_at, root_some, root_stands_at, root_has_number, is_entry}
use Rattle.hd_terms.specs.Lost.{IsLostEdge, IsLostRoot, AreLost}
use Rattle.hd_totals.specs.GroupPages.{PageMarks, AreNoted, IsMarked}
use Rattle.hd_view.specs.Losing.{AddsLost, HasEdge, HasRoot, HasNamed, HasIndexed, HasKind, HasField, HasFirstFields, HasNumber, HasAllLost}

-- an edge or a root that is lost, by what it holds
abbrev pub Lost : Dump → List Event → List Event → Holding → Type 0
Lost dump more less h = IsLostEdge dump more less h ⊎ IsLostRoot dump more less h

-- items that are added
last-is : (x h : Holding) → Contains (x ∷ []) h → x ≡ h
last-is x h c = elim (Contains-cons_cases x [] h c) [ inl same ↦ same | inr later ↦ absurd (Contains-nil h later) ]

pub adds_one : (dump : Dump) (more less : List Event) (xs : List Holding) (x : Holding) → Lost dump more less x → AddsLost dump more less xs (xs ++ x ∷ [])
adds_one dump more less xs x lost = record {
  kept = λ h c. Contains-append_left xs (x ∷ []) h c;
  only = λ h c. elim (Contains-append_cases xs (x ∷ []) h c) [
    | inl old ↦ inl old
    | inr new ↦ inr (subst (Lost dump more less) (last-is x h new) lost)
  ];
}

pub adds_none : (dump : Dump) (more less : List Event) (xs : List Holding) → AddsLost dump more less xs xs
adds_none dump more less xs = record { kept = λ h c. c; only = λ h c. inl c }

pub adds_more : (dump : Dump) (more less : List Event) (xs ys zs : List Holding) → AddsLost dump more less xs ys → AddsLost dump more less ys zs
    → AddsLost dump more less xs zs
adds_more dump more less xs ys zs a b = record {
  kept = λ h c. b.kept h (a.kept h c);
  only = λ h c. elim (b.only h c) [
    | inl old ↦ a.only h old
    | inr lost ↦ inr lost
  ];
}

-- what the items have they keep
pub keeps_edge : (dump : Dump) (more less : List Event) (xs ys : List Holding) → AddsLost dump more less xs ys → (e : Edge) → HasEdge dump less xs e
    → HasEdge dump less ys e
keeps_edge dump more less xs ys a e has = elim has [
  | inl stays ↦ inl stays
  | inr there ↦ inr (a.kept (edge_holding e) there)
]

pub keeps_root : (dump : Dump) (more less : List Event) (xs ys : List Holding) → AddsLost dump more less xs ys → (x : RootEntry) → HasRoot dump less xs x
    → HasRoot dump less ys x
keeps_root dump more less xs ys a x has = elim has [
  | inl stays ↦ inl stays
  | inr there ↦ inr (a.kept (root_holding x) there)
]

-- the last of a list
has-last : (xs : List Holding) (x : Holding) → Contains (xs ++ x ∷ []) x
has-last xs x = Contains-append_right xs (x ∷ []) x (Contains-head x [])

-- one number
some-number : (a b : ℕ) → Some a ≡ Some b → a ≡ b
some-number a b h = cc

-- what is taken away doesn't stand
pub cut_by : (dump : Dump) (log : List Event) (t : Removals) (o i : ℕ) (s : SlotEntry) (r : Bool) → IsRemovedBy dump log t → o < length dump.objects
    → slice_get (object_at dump o).slots i ≡ Some s → r ≡ is_removed t (object_at dump o) s o i → r ≡ true → is_untouched log (object_at dump o) s ≡ false
cut_by dump log t o i s r by lt there is cut = not-true (is_untouched log (object_at dump o) s) (sym (by.slots o i s lt there) ∙ sym is ∙ cut)

pub uncut_by : (dump : Dump) (log : List Event) (t : Removals) (o i : ℕ) (s : SlotEntry) (r : Bool) → IsRemovedBy dump log t → o < length dump.objects
    → slice_get (object_at dump o).slots i ≡ Some s → r ≡ is_removed t (object_at dump o) s o i → r ≡ false → is_untouched log (object_at dump o) s ≡ true
uncut_by dump log t o i s r by lt there is stays = not-false (is_untouched log (object_at dump o) s) (sym (by.slots o i s lt there) ∙ sym is ∙ stays)

-- a slot has its own name
same-slot : (a b : Slot) → a ≡ b → same_slot a b ≡ true
same-slot a b is = rw (
  eq-eqb (slot_code a).0 (slot_code b).0 (ap (λ (x : Slot). (slot_code x).0) is),
  eq-eqb (slot_code a).1 (slot_code b).1
      (ap (λ (x : Slot). (slot_code x).1) is),
) refl

-- the slot that is found has the name
pub named_first : (slots : List SlotEntry) (slot : Slot) (i : ℕ) (s : SlotEntry) (r : Option ℕ) → r ≡ position (λ (x : SlotEntry). same_slot x.slot slot) slots
    → r ≡ Some i → slice_get slots i ≡ Some s → same_slot s.slot slot ≡ true
named_first slots slot i s r first found there =
    ap (λ (x : SlotEntry). same_slot x.slot slot) (sym (get_or_from_slice_get slots i s s there))
    ∙ (position-Some (λ (x : SlotEntry). same_slot x.slot slot) slots i s (sym first ∙ found)).1

-- the edges of a named slot of an object
module _ (dump : Dump) (o : ℕ) (slot : Slot) (r : Option ℕ) (only : (j : ℕ) (x : SlotEntry) → slice_get (object_at dump o).slots j ≡ Some x
    → same_slot x.slot slot ≡ true → r ≡ Some j) where
  edge-index : (log : List Event) (e : Edge) → Contains (standing dump log).edges e → e.source ≡ o → same_slot e.slot slot ≡ true → (j : ℕ)
      × (edge_at dump log o j ≡ Some e) × (r ≡ Some j)
  edge-index log e c source name =
      let (j, at) = edge_has_index dump log e c in
      let at_o : edge_at dump log o j ≡ Some e = subst (λ (n : ℕ). edge_at dump log n j ≡ Some e) source at in
      let known : IsAt dump log o j e = is_at dump log o j e at_o in
      let slot_of : e.slot ≡ known.entry.slot = ap (λ (x : Edge). x.slot) known.is in
      (j, at_o, only j known.entry known.there (ap (λ (n : Slot). same_slot n slot) (sym slot_of) ∙ name))

  pub no_index : r ≡ None → (more less : List Event) (items : List Holding) → HasNamed dump more less o slot items
  no_index none more less items e c source name =
      let (j, at, some) = edge-index more e c source (same-slot e.slot slot name) in
      let clash : None ≡ Some j = sym none ∙ some in absurd cc

  module _ (i : ℕ) (s : SlotEntry) (found : r ≡ Some i) (there : slice_get (object_at dump o).slots i ≡ Some s) where
    at-index : (log : List Event) (e : Edge) → Contains (standing dump log).edges e → e.source ≡ o → same_slot e.slot slot ≡ true
        → edge_at dump log o i ≡ Some e
    at-index log e c source name =
        let (j, at, some) = edge-index log e c source name in
        let same : i ≡ j = some-number i j (sym found ∙ some) in
        subst (λ (n : ℕ). edge_at dump log o n ≡ Some e) (sym same) at

    pub lost_edge : (more less : List Event) (t : ℕ) → same_slot s.slot slot ≡ true → index_of dump.objects s.id ≡ Some t
        → is_untouched more (object_at dump o) s ≡ true → is_untouched less (object_at dump o) s ≡ false
        → Lost dump more less (record { target = t; holder = supports.Edge o s.slot })
    lost_edge more less t named target stood cut =
        let e : Edge = edge_to o s t in
        let is : IsLostEdge dump more less (edge_holding e) = record {
          edge = e;
          holds = refl;
          stood = edge_stands_at dump more o i e (at_some dump more o i s there t target stood);
          gone = λ c. at_cut dump less o i s there cut e (at-index less e c refl named);
        } in
        inl is

    pub no_target : index_of dump.objects s.id ≡ None → (more less : List Event) (items : List Holding) → HasNamed dump more less o slot items
    no_target none more less items e c source name = absurd (at_none dump more o i s there none e (at-index more e c source (same-slot e.slot slot name)))

    pub never_stood : (more less : List Event) (items : List Holding) → is_untouched more (object_at dump o) s ≡ false → HasNamed dump more less o slot items
    never_stood more less items cut e c source name = absurd (at_cut dump more o i s there cut e (at-index more e c source (same-slot e.slot slot name)))

    pub still_stands : (more less : List Event) (items : List Holding) → is_untouched less (object_at dump o) s ≡ true → HasNamed dump more less o slot items
    still_stands more less items stands e c source name =
        let found_edge = at_edge dump more o i s there e (at-index more e c source (same-slot e.slot slot name)) in
        inl (edge_stands_at dump less o i e (at_some dump less o i s there e.target found_edge.0 stands ∙ ap (λ (x : Edge). Some x) (sym found_edge.1)))

    pub pushed_edge : (more less : List Event) (items : List Holding) (t : ℕ) → index_of dump.objects s.id ≡ Some t
        → HasNamed dump more less o slot (items ++ (record { target = t; holder = supports.Edge o s.slot }) ∷ [])
    pushed_edge more less items t target e c source name =
        let found_edge = at_edge dump more o i s there e (at-index more e c source (same-slot e.slot slot name)) in
        let same : t ≡ e.target = some-number t e.target (sym target ∙ found_edge.0) in
        let is : edge_to o s t ≡ e = ap (edge_to o s) same ∙ sym found_edge.1 in
        inr (subst (λ (x : Edge). Contains (items ++ (record { target = t; holder = supports.Edge o s.slot }) ∷ []) (edge_holding x)) is
        (has-last items (edge_holding (edge_to o s t))))

-- the slot at an index
pub no_object_there : (dump : Dump) (more less : List Event) (o i : ℕ) (items : List Holding) → length dump.objects ≤ o → HasIndexed dump more less o i items
no_object_there dump more less o i items past e at = let lt : o < length dump.objects = (is_at dump more o i e at).object in absurd (omega arith)

pub no_slot_there : (dump : Dump) (more less : List Event) (o i : ℕ) (items : List Holding) → length (object_at dump o).slots ≤ i
    → HasIndexed dump more less o i items
no_slot_there dump more less o i items past e at = let lt : i < length (object_at dump o).slots = (is_at dump more o i e at).within in absurd (omega arith)

pub by_name : (dump : Dump) (more less : List Event) (o i : ℕ) (s : SlotEntry) (items : List Holding) → slice_get (object_at dump o).slots i ≡ Some s
    → HasNamed dump more less o s.slot items → HasIndexed dump more less o i items
by_name dump more less o i s items there named e at =
    named e (edge_stands_at dump more o i e at) (at_source dump more o i e at) (ap (λ (x : Edge). x.slot) (at_edge dump more o i s there e at).1)

-- the edge of a slot starts at its object
some-edge : (o : ℕ) (s : SlotEntry) (t : Option ℕ) (e : Edge) → option_map (λ (target : ℕ). edge_to o s target) t ≡ Some e → e.source ≡ o
some-edge o s None e is = absurd cc
some-edge o s (Some t) e is = let same : edge_to o s t ≡ e = cc in sym (ap (λ (x : Edge). x.source) same)

-- the edges of a kind start at objects of the dump
pub kind_source : (dump : Dump) (kind : RefKind) (j : ℕ) (e : Edge) → slice_get (kind_edges dump kind) j ≡ Some e → e.source < length dump.objects
kind_source dump kind j e at =
    let c : Contains (kind_edges dump kind) e = Contains-slice_get (kind_edges dump kind) j e (slice_get_within (kind_edges dump kind) j e at) at in
    let among : Contains (edges dump) e = filter_only (λ (x : Edge). same_kind x.kind (kind_of_references kind)) (edges dump) e c in
    let (n, numbered, from) = flat_map_only (edges_from dump.objects) (enumerate_from 0 dump.objects) e among in
    let (s, there, gives) = filter_map_only (edge_of dump.objects n.0) n.1.slots e from in
    let lt : n.0 < length dump.objects = slice_get_within dump.objects n.0 n.1 (enumerate_only dump.objects n numbered) in
    let source : e.source ≡ n.0 = some-edge n.0 s (index_of dump.objects s.id) e gives in
    omega (arith, lt, source)

-- an edge that stands is one of the dump's
pub among_edges : (dump : Dump) (log : List Event) (e : Edge) → Contains (standing dump log).edges e → Contains (edges dump) e
among_edges dump log e c =
    let (i, at) = edge_has_index dump log e c in
    let known : IsAt dump log e.source i e = is_at dump log e.source i e at in
    let x : Object = object_at dump e.source in
    flat_map_contains (edges_from dump.objects) (enumerate_from 0 dump.objects) (e.source, x) e
    (enumerate_contains dump.objects e.source x (slice_get-get_or dump.objects e.source no_object known.object))
    (filter_map_contains (edge_of dump.objects e.source) x.slots known.entry e (Contains-slice_get x.slots i known.entry known.within known.there)
    (ap (option_map (λ (target : ℕ). edge_to e.source known.entry target)) known.index ∙ ap (λ (y : Edge). Some y) (sym known.is)))

-- one kind is itself
one-kind : (a b : EdgeKind) → a ≡ b → same_kind a b ≡ true
one-kind a b is = eq-eqb (rank (given_by a)) (rank (given_by b)) (ap (λ (k : EdgeKind). rank (given_by k)) is)

-- the items have the first edges of a kind
abbrev pub HasFirst : Dump → (more less : List Event) → RefKind → ℕ → List Holding → Type 0
HasFirst dump more less kind n items = (k : ℕ) (e : Edge) → k < n → slice_get (kind_edges dump kind) k ≡ Some e → Contains (standing dump more).edges e
    → HasEdge dump less items e

pub next_of_kind : (dump : Dump) (more less : List Event) (kind : RefKind) (n o : ℕ) (slot : Slot) (found : Edge) (xs ys : List Holding)
    → slice_get (kind_edges dump kind) n ≡ Some found → found.source ≡ o → found.slot ≡ slot → AddsLost dump more less xs ys
    → HasNamed dump more less o slot ys → HasFirst dump more less kind n xs → HasFirst dump more less kind (n + 1) ys
next_of_kind dump more less kind n o slot found xs ys at source name adds here before k e lt is stood = elim (cases_lt k n) [
  | inl earlier ↦ keeps_edge dump more less xs ys adds e (before k e earlier is stood)
  | inr le ↦
      let last : k ≡ n = omega arith in
      let one : Some found ≡ Some e = sym at ∙ sym (ap (slice_get (kind_edges dump kind)) last) ∙ is in
      let same : found ≡ e = cc in
      here e stood (sym (ap (λ (x : Edge). x.source) same) ∙ source) (sym (ap (λ (x : Edge). x.slot) same) ∙ name)
]

pub all_of_kind : (dump : Dump) (more less : List Event) (kind : RefKind) (n : ℕ) (items : List Holding) → length (kind_edges dump kind) ≤ n
    → HasFirst dump more less kind n items → HasKind dump more less kind items
all_of_kind dump more less kind n items le has e stood is =
    let (k, lt, at) = filter_contains (λ (x : Edge). same_kind x.kind (kind_of_references kind)) (edges dump) e (among_edges dump more e stood)
    (one-kind e.kind (kind_of_references kind) is) in
    has k e (omega arith) (slice_get-get_or (kind_edges dump kind) k e lt ∙ ap (λ (x : Edge). Some x) at) stood

-- the middle one of three tests
middle-fails : (a b c : Bool) → (a || (b || c)) ≡ false → b ≡ false
middle-fails true b c h = absurd cc
middle-fails false true c h = absurd cc
middle-fails false false c h = refl

-- an edge that stands is of no kind that is cleared
uncleared : (dump : Dump) (log : List Event) (t : Removals) (e : Edge) → IsRemovedBy dump log t → Contains (standing dump log).edges e
    → is_cleared t.cleared e.kind ≡ false
uncleared dump log t e by stood =
    let (i, at) = edge_has_index dump log e stood in
    let known : IsAt dump log e.source i e = is_at dump log e.source i e at in
    let x : Object = object_at dump e.source in
    let kept : is_removed t x known.entry e.source i ≡ false = by.slots e.source i known.entry known.object known.there ∙ ap not known.stands in
    ap (λ (y : Edge). is_cleared t.cleared y.kind) known.is
    ∙ middle-fails (has_pair t.slots e.source i) (is_cleared t.cleared known.entry.kind) (has_field t.fields x.group known.entry.slot) kept

-- a kind of which none stood
pub none_stood : (dump : Dump) (more less : List Event) (t : Removals) (kind : RefKind) (r : Bool) (items : List Holding) → IsRemovedBy dump more t
    → r ≡ is_cleared t.cleared (kind_of_references kind) → r ≡ true → HasKind dump more less kind items
none_stood dump more less t kind r items by is set e stood one =
    let clash : true ≡ false = sym set ∙ is ∙ ap (is_cleared t.cleared) (sym one) ∙ uncleared dump more t e by stood in absurd cc

-- the group of a class
class-is : (group : Group) (class : ℕ) → is_of_class group class ≡ true → group ≡ groups.Class class
class-is (groups.Class id) class is = ap (λ (n : ℕ). groups.Class n) (eqb-true id class is)
class-is (groups.Prim element) class is = absurd cc
class-is groups.Classes class is = absurd cc

-- the lost edges of a field of the first objects that are counted under a class
module _ (dump : Dump) (more less : List Event) (class i n : ℕ) where
  -- the next object is counted under the class
  pub next_of_class : (xs ys : List Holding) → AddsLost dump more less xs ys → HasNamed dump more less n (slots.Field i) ys
      → HasFirstFields dump more less class i n xs → HasFirstFields dump more less class i (n + 1) ys
  next_of_class xs ys adds here before e lt stood counted name = elim (cases_lt e.source n) [
    | inl earlier ↦ keeps_edge dump more less xs ys adds e (before e earlier stood counted name)
    | inr le ↦ let last : e.source ≡ n = omega arith in here e stood last name
  ]

  -- it isn't
  pub next_of_others : (items : List Holding) → is_of_class (object_at dump n).group class ≡ false → HasFirstFields dump more less class i n items
      → HasFirstFields dump more less class i (n + 1) items
  next_of_others items other before e lt stood counted name = elim (cases_lt e.source n) [
    | inl earlier ↦ before e earlier stood counted name
    | inr le ↦
        let last : e.source ≡ n = omega arith in
        let clash : true ≡ false = sym counted ∙ ap (λ (o : ℕ). is_of_class (object_at dump o).group class) last ∙ other in
        absurd cc
  ]

  -- pages that the class isn't noted at
  pub pages_passed : (pages : PageMarks) (end : ℕ) (items : List Holding) → AreNoted dump pages → end ≤ n + (1024 - n % 1024)
      → (IsMarked pages (n / 1024) (groups.Class class) → ⊥) → HasFirstFields dump more less class i n items → HasFirstFields dump more less class i end items
  pages_passed pages end items noted le unmarked before e lt stood counted name = elim (cases_lt e.source n) [
    | inl earlier ↦ before e earlier stood counted name
    | inr after ↦
        let (j, at) = edge_has_index dump more e stood in
        let within : e.source < length dump.objects = (is_at dump more e.source j e at).object in
        let page : e.source / 1024 ≡ n / 1024 = omega arith in
        let marked : IsMarked pages (e.source / 1024) (groups.Class class) =
        subst (λ (g : Group). IsMarked pages (e.source / 1024) g) (class-is (object_at dump e.source).group class counted) (noted e.source within).marked in
        absurd (unmarked (subst (λ (p : ℕ). IsMarked pages p (groups.Class class)) page marked))
  ]

  -- there is no object more
  pub all_of_class : (items : List Holding) → length dump.objects ≤ n → HasFirstFields dump more less class i n items
      → HasField dump more less class i items
  all_of_class items past has e stood =
      let (j, at) = edge_has_index dump more e stood in
      let lt : e.source < length dump.objects = (is_at dump more e.source j e at).object in
      has e (omega (arith, past, lt)) stood

-- a root by the test of its object
on-by : (t : ℕ) (at : Option RootEntry) → option_map_or (λ (x : RootEntry). x.target == t) at false ≡ true
    → Some t ≡ option_map (λ (x : RootEntry). x.target) at
on-by t None is = absurd cc
on-by t (Some x) is = ap (λ (n : ℕ). Some n) (sym (eqb-true x.target t is))

off-by : (t : ℕ) (at : Option RootEntry) → option_map_or (λ (x : RootEntry). x.target == t) at false ≡ false
    → option_map (λ (x : RootEntry). x.target) at ≡ Some t → ⊥
off-by t None is held = absurd cc
off-by t (Some x) is held = let same : x.target ≡ t = some-number x.target t held in let clash : true ≡ false = sym (eq-eqb x.target t same) ∙ is in absurd cc

-- whether a root holds an object
pub is_on : (dump other : Dump) (log : List Event) (r t : ℕ) (b : Bool) → other ≡ dump → b ≡ option_map_or (λ (x : RootEntry). x.target == t)
    (root_at other log r) false → b ≡ true → Some t ≡ held_at dump log r
is_on dump other log r t b same is on = subst (λ (d : Dump). Some t ≡ held_at d log r) same (on-by t (root_at other log r) (sym is ∙ on))

pub is_off : (dump other : Dump) (log : List Event) (r t : ℕ) (b : Bool) → other ≡ dump → b ≡ option_map_or (λ (x : RootEntry). x.target == t)
    (root_at other log r) false → b ≡ false → held_at dump log r ≡ Some t → ⊥
is_off dump other log r t b same is off = subst (λ (d : Dump). held_at d log r ≡ Some t → ⊥) same (off-by t (root_at other log r) (sym is ∙ off))

-- a root that is lost, one that stands, and one that is added
pub lost_root : (dump : Dump) (more less : List Event) (r t : ℕ) → Some t ≡ held_at dump more r → (held_at dump less r ≡ Some t → ⊥)
    → Lost dump more less (record { target = t; holder = supports.Root r })
lost_root dump more less r t some other =
    let x : RootEntry = entry_to r t in
    let is : IsLostRoot dump more less (root_holding x) = record {
      root = x;
      holds = refl;
      stood = root_stands_at dump more r x (root_some dump more r t some);
      gone = λ c.
          let (n, lt, at) = root_has_number dump less x c in
          let number : r ≡ n = (is_entry dump less n x at).number in
          other (ap (held_at dump less) number ∙ ap (option_map (λ (y : RootEntry). y.target)) at);
    } in
    inr is

pub same_root : (dump : Dump) (more less : List Event) (r t : ℕ) (items : List Holding) → Some t ≡ held_at dump more r → Some t ≡ held_at dump less r
    → HasNumber dump more less r items
same_root dump more less r t items some other x at =
    inl (root_stands_at dump less r x (root_some dump less r t other ∙ sym (root_some dump more r t some) ∙ at))

pub pushed_root : (dump : Dump) (more less : List Event) (r t : ℕ) (items : List Holding) → Some t ≡ held_at dump more r
    → HasNumber dump more less r (items ++ (record { target = t; holder = supports.Root r }) ∷ [])
pushed_root dump more less r t items some x at =
    let one : Some (entry_to r t) ≡ Some x = sym (root_some dump more r t some) ∙ at in
    let same : entry_to r t ≡ x = cc in
    inr (subst (λ (y : RootEntry). Contains (items ++ (record { target = t; holder = supports.Root r }) ∷ []) (root_holding y)) same
    (has-last items (root_holding (entry_to r t))))

-- what each of a list is
all-by : (P : Holding → Type 0) (xs : List Holding) → ((h : Holding) → Contains xs h → P h) → All P xs
all-by P xs h = λ k d lt. h (get_or xs k d) (Contains-slice_get xs k (get_or xs k d) lt (slice_get-get_or xs k d lt))

no-holder : (o : ℕ) (slot : Slot) → supports.Edge o slot ≢ supports.Nothing
no-holder o slot h = absurd cc

no-root-holder : (r : ℕ) → supports.Root r ≢ supports.Nothing
no-root-holder r h = absurd cc

lost-target : (dump : Dump) (more less : List Event) (h : Holding) → Lost dump more less h → h.target < length dump.objects
lost-target dump more less h lost = elim lost [
  | inl edge ↦
      let (i, at) = edge_has_index dump more edge.edge edge.stood in
      let lt : edge.edge.target < length dump.objects = (is_at dump more edge.edge.source i edge.edge at).target in
      let same : h.target ≡ edge.edge.target = ap (λ (x : Holding). x.target) edge.holds in
      omega (arith, lt, same)
  | inr root ↦
      let (r, among, at) = root_has_number dump more root.root root.stood in
      let lt : root.root.target < length dump.objects = (is_entry dump more r root.root at).object in
      let same : h.target ≡ root.root.target = ap (λ (x : Holding). x.target) root.holds in
      omega (arith, lt, same)
]

lost-holder : (dump : Dump) (more less : List Event) (h : Holding) → Lost dump more less h → h.holder ≢ supports.Nothing
lost-holder dump more less h lost nothing = elim lost [
  | inl edge ↦ no-holder edge.edge.source edge.edge.slot (sym (ap (λ (x : Holding). x.holder) edge.holds) ∙ nothing)
  | inr root ↦ no-root-holder root.root.number (sym (ap (λ (x : Holding). x.holder) root.holds) ∙ nothing)
]

-- all that is lost
pub all_lost : (dump : Dump) (more less : List Event) (none items : List Holding) → none ≡ [] → AddsLost dump more less none items
    → HasAllLost dump more less items → AreLost dump more less items
all_lost dump more less none items empty adds all =
    let added : AddsLost dump more less [] items = subst (λ (xs : List Holding). AddsLost dump more less xs items) empty adds in
    let only : (h : Holding) → Contains items h → Lost dump more less h = λ h c. elim (added.only h c) [
      | inl old ↦ absurd (Contains-nil h old)
      | inr lost ↦ lost
    ] in
    record {
      edges = all.edges;
      roots = all.roots;
      only = only;
      targets = all-by (λ h. h.target < length dump.objects) items (λ h c. lost-target dump more less h (only h c));
      holders = all-by (λ h. h.holder ≢ supports.Nothing) items (λ h c. lost-holder dump more less h (only h c));
    }
