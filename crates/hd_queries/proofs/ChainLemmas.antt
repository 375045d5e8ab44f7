-- The stored chain of an object, followed back from the object to the root.
use Rattle.std.proofs.Common.{◌≡◌, ◌∙◌, ℕ, zero, suc, ◌+◌, ◌-◌, ◌*◌, ◌<◌, ◌≤◌, Bool, true, false, ◌&&◌, ◌⊎◌, inl, inr, List, [], ◌∷◌, ◌++◌, length, map, get_or}
use Rattle.std.proofs.Common.{Contains, Option, Some, slice_get, reverse, refl, sym, ap, subst, arith, eq-eqb, append_assoc}
use Rattle.std.specs.Prelude.{All}
use Rattle.std.specs.List.{AllByRecursion}
use Rattle.std.proofs.Math.Nat.{mul-le-mul_right}
use Rattle.std.proofs.lemmas.List.{append-nil, get_or_past, length-map, reverse-reverse, reverse-append}
use Rattle.std.proofs.lemmas.List.Elements.{All-contains, All-from_recursion}
use Rattle.hd_terms.specs.declared.EdgeKind.{EdgeKind}
use Rattle.hd_terms.specs.declared.Slot.{Slot}
use Rattle.hd_terms.specs.declared.Strength.{Strength}
use Rattle.hd_terms.specs.declared.Strength.TheVariants as strengths
use Rattle.hd_terms.specs.declared.Support.{Support}
use Rattle.hd_terms.specs.declared.Support.TheVariants as supports
use Rattle.hd_terms.specs.declared.Event.{Event}
use Rattle.hd_terms.specs.Chains.{IsChain}
use Rattle.hd_terms.specs.Dump.{SlotEntry, Dump, object_at}
use Rattle.hd_terms.specs.EditedDump.{same_slot, slot_code, standing}
use Rattle.hd_terms.specs.Paths.{Edge, RootEntry, Standing, Lead, objects_on}
use Rattle.hd_terms.specs.Ranks.{rank}
use Rattle.hd_terms.specs.Settled.{Reached, Settled, IsBefore, IsStoredChain, IsSupported, reached_at, unreached}
use Rattle.hd_terms.specs.Strengths.{HasStrength}
use Rattle.hd_terms.proofs.RankLemmas.{rank-le}
use Rattle.hd_repair.proofs.LossLemmas.{length-different}
use Rattle.hd_strength.proofs.RowLemmas.{IsAt, edge_has_index, is_at}
use Rattle.hd_queries.specs.declared.chain.Link.{Link}
use Rattle.hd_queries.specs.declared.chain.Chain.{Chain}
use Rattle.hd_queries.specs.ChainFound.{IsEdgeOf, IsFoundChain, IsWithin, link_of, root_of}

pass : (a b : Bool) → a ≡ true → b ≡ true → (a && b) ≡ true
pass true true h k = refl
pass true false h k = absurd cc
pass false b h k = absurd cc

-- a slot is itself
one-slot : (a b : Slot) → a ≡ b → same_slot a b ≡ true
one-slot a b e =
    let code : slot_code a ≡ slot_code b = ap slot_code e in
    pass _ _ (eq-eqb (slot_code a).0 (slot_code b).0 (ap (λ (c : ℕ × ℕ). c.0) code)) (eq-eqb (slot_code a).1 (slot_code b).1 (ap (λ (c : ℕ × ℕ). c.1) code))

module _ (dump : Dump) (log : List Event) (e : Edge) (stands : Contains (standing dump log).edges e) where
  abbrev place : ℕ
  place = (edge_has_index dump log e stands).0

  at : IsAt dump log e.source place e
  at = is_at dump log e.source place e (edge_has_index dump log e stands).1

  -- the objects of an edge that stands are the dump's
  pub source-within : e.source < length dump.objects
  source-within = at.object

  pub target-within : e.target < length dump.objects
  target-within = at.target

  -- its slot is named once among those of its source, and has its kind
  module _ (source : ℕ) (slot : Slot) (target : ℕ) (is : IsEdgeOf e source slot target) (found : Option ℕ)
      (only : (i : ℕ) (s : SlotEntry) → slice_get (object_at dump source).slots i ≡ Some s → same_slot s.slot slot ≡ true → found ≡ Some i) where
    there : slice_get (object_at dump source).slots place ≡ Some at.entry
    there = subst (λ (o : ℕ). slice_get (object_at dump o).slots place ≡ Some at.entry) is.from_source at.there

    named : same_slot at.entry.slot slot ≡ true
    named = one-slot at.entry.slot slot (sym (ap (λ (x : Edge). x.slot) at.is) ∙ is.from_slot)

    pub found-there : found ≡ Some place
    found-there = only place at.entry there named

    pub is-link : (i : ℕ) (s : SlotEntry) → found ≡ Some i → slice_get (object_at dump source).slots i ≡ Some s
        → record { source = source; slot = slot; kind = s.kind; target = target } ≡ link_of e
    is-link i s here read =
        let both : Some i ≡ Some place = sym here ∙ found-there in
        let same : i ≡ place = cc in
        let entries : Some s ≡ Some at.entry = sym read ∙ ap (slice_get (object_at dump source).slots) same ∙ there in
        let one : s ≡ at.entry = cc in
        let kind : s.kind ≡ e.kind = ap (λ (x : SlotEntry). x.kind) one ∙ sym (ap (λ (x : Edge). x.kind) at.is) in
        let slots : slot ≡ e.slot = sym is.from_slot in
        let targets : target ≡ e.target = sym is.to_target in
        let sources : source ≡ e.source = sym is.from_source in
        ap (λ (k : EdgeKind). let l : Link = record { source = source; slot = slot; kind = k; target = target } in l) kind
        ∙ ap (λ (x : Slot). let l : Link = record { source = source; slot = x; kind = e.kind; target = target } in l) slots
        ∙ ap (λ (t : ℕ). let l : Link = record { source = source; slot = e.slot; kind = e.kind; target = t } in l) targets
        ∙ ap (λ (o : ℕ). let l : Link = record { source = o; slot = e.slot; kind = e.kind; target = e.target } in l) sources

first-le : (a b : ℕ) → a ≤ a + b
first-le a b = omega arith

later-le : (a b s : ℕ) → s ≤ b → s ≤ a + b
later-le a b s le = omega arith

-- the sum of all stamps
abbrev all_stamps : List Reached → ℕ
all_stamps [] = 0
all_stamps (k ∷ ks) = k.stamp + all_stamps ks

-- no stamp is greater
stamp-le : (ks : List Reached) (o : ℕ) → (get_or ks o unreached).stamp ≤ all_stamps ks
stamp-le [] o = omega arith
stamp-le (k ∷ ks) zero = first-le k.stamp (all_stamps ks)
stamp-le (k ∷ ks) (suc o) = later-le k.stamp (all_stamps ks) (get_or ks o unreached).stamp (stamp-le ks o)

-- how far an object may be from its root: supports lead to better strengths or lesser stamps
abbrev pub distance : List Reached → ℕ → ℕ
distance ks o = (5 - rank (reached_at ks o).strength) * suc (all_stamps ks) + (reached_at ks o).stamp

lesser : (x y n s t : ℕ) → x < y → s ≤ n → x * suc n + s < y * suc n + t
lesser x y n s t lt le =
    let more : suc x * suc n ≤ y * suc n = mul-le-mul_right (suc n) lt in
    let one : suc x * suc n ≡ x * suc n + suc n = grind arith in
    omega arith

pub nearer : (ks : List Reached) (a b : ℕ) → IsBefore (reached_at ks a) (reached_at ks b) → distance ks a < distance ks b
nearer ks a b (inl better) =
    lesser (5 - rank (reached_at ks a).strength) (5 - rank (reached_at ks b).strength) (all_stamps ks) (reached_at ks a).stamp (reached_at ks b).stamp
    (omega (arith, rank-le (reached_at ks a).strength, better)) (stamp-le ks a)
nearer ks a b (inr earlier) =
    let n = suc (all_stamps ks) in
    let same : (5 - rank (reached_at ks b).strength) * n ≡ (5 - rank (reached_at ks a).strength) * n = ap (λ (r : ℕ). (5 - r) * n) earlier.0 in
    let lt : (reached_at ks a).stamp < (reached_at ks b).stamp = earlier.1 in
    omega (arith, same, lt)

-- what an edge's support is
abbrev IsStored : List Reached → Edge → Type 0
IsStored ks e = (reached_at ks e.target).support ≡ supports.Edge e.source e.slot

-- the last of standing edges that lead to an object
record Last (g : Standing) (a b : ℕ) (es : List Edge) : Type 0 where
  init : List Edge
  last : Edge
  is : es ≡ init ++ last ∷ []
  lead : Lead g a init last.source
  stands : Contains g.edges last
  ends : last.target ≡ b

last-of : (g : Standing) (a b : ℕ) (e : Edge) (es : List Edge) → Lead g a (e ∷ es) b → Last g a b (e ∷ es)
last-of g a b e [] lead = record { init = []; last = e; is = refl; lead = sym lead.1; stands = lead.0; ends = lead.2 }
last-of g a b e (f ∷ fs) lead =
    let rest = last-of g e.target b f fs lead.2 in
    record {
      init = e ∷ rest.init;
      last = rest.last;
      is = ap (λ (xs : List Edge). e ∷ xs) rest.is;
      lead = (lead.0, lead.1, rest.lead);
      stands = rest.stands;
      ends = rest.ends;
    }

all-init : (P : Edge → Type 0) (xs ys : List Edge) → AllByRecursion P (xs ++ ys) → AllByRecursion P xs
all-init P [] ys h = tt
all-init P (x ∷ xs) ys h = (h.0, all-init P xs ys h.1)

all-rest : (P : Edge → Type 0) (xs ys : List Edge) → AllByRecursion P (xs ++ ys) → AllByRecursion P ys
all-rest P [] ys h = h
all-rest P (x ∷ xs) ys h = all-rest P xs ys h.1

-- a stored chain of an object is followed back to another: these edges are still to be followed, and those are noted
pub record IsFollowed (dump : Dump) (log : List Event) (ks : List Reached) (o at : ℕ) (links : List Link) : Type 0 where
  pub root : RootEntry
  pub ahead : List Edge
  pub behind : List Edge
  pub is_chain : IsChain (standing dump log) root (ahead ++ behind) o (reached_at ks o).strength
  pub from_root : (reached_at ks root.target).support ≡ supports.Root root.number
  pub stored : AllByRecursion (IsStored ks) (ahead ++ behind)
  pub leads : Lead (standing dump log) root.target ahead at
  pub noted : links ≡ reverse (map link_of behind)
  pub within : at < length dump.objects

-- the objects of links along standing edges are the dump's
links-within : (dump : Dump) (log : List Event) (a b : ℕ) (es : List Edge) → Lead (standing dump log) a es b → AllByRecursion (IsWithin (length dump.objects))
    (map link_of es)
links-within dump log a b [] lead = tt
links-within dump log a b (e ∷ es) lead =
    (record { from = source-within dump log e lead.0; to = target-within dump log e lead.0 }, links-within dump log e.target b es lead.2)

-- and so are those objects
objects-within : (dump : Dump) (log : List Event) (a b : ℕ) (es : List Edge) → Lead (standing dump log) a es b
    → AllByRecursion (λ (x : ℕ). x < length dump.objects) (map (λ (e : Edge). e.target) es)
objects-within dump log a b [] lead = tt
objects-within dump log a b (e ∷ es) lead = (target-within dump log e lead.0, objects-within dump log e.target b es lead.2)

-- a chain has fewer links than there are objects, for its objects differ
few-links : (dump : Dump) (log : List Event) (r : RootEntry) (es : List Edge) (o : ℕ) (s : Strength) → IsChain (standing dump log) r es o s
    → r.target < length dump.objects → length es < length dump.objects
few-links dump log r es o s chain within =
    let objects = objects_on r es in
    let small : (x : ℕ) → Contains objects x → x < length dump.objects = λ x c. All-contains (λ (x : ℕ). x < length dump.objects) objects x
    (All-from_recursion (λ (x : ℕ). x < length dump.objects) objects (within, objects-within dump log r.target o es chain.path.edges)) c in
    let most : length objects ≤ length dump.objects = length-different (length dump.objects) objects chain.simple small in
    omega (arith, most, length-map es (λ (e : Edge). e.target))

-- a reachable object's stored chain, before it is followed
pub begun : (dump : Dump) (log : List Event) (ks : List Reached) (o : ℕ) → o < length dump.objects
    → (r : RootEntry) × (es : List Edge) × IsChain (standing dump log) r es o (reached_at ks o).strength × IsStoredChain (standing dump log) ks r es o
    → IsFollowed dump log ks o o []
begun dump log ks o within (r, es, chain, stored) = record {
  root = r;
  ahead = es;
  behind = [];
  is_chain = subst (λ (xs : List Edge). IsChain (standing dump log) r xs o (reached_at ks o).strength) (sym (append-nil es)) chain;
  from_root = stored.root;
  stored = subst (λ (xs : List Edge). AllByRecursion (IsStored ks) xs) (sym (append-nil es)) stored.edges;
  leads = stored.leads;
  noted = refl;
  within = within;
}

module _ (dump : Dump) (log : List Event) (ks : List Reached) (o at : ℕ) (links : List Link) (h : IsFollowed dump log ks o at links) where
  -- the support of the object is no edge where nothing is ahead
  at-root : h.ahead ≡ [] → (reached_at ks at).support ≡ supports.Root h.root.number
  at-root none =
      let here : h.root.target ≡ at = subst (λ (es : List Edge). Lead (standing dump log) h.root.target es at) none h.leads in
      ap (λ (x : ℕ). (reached_at ks x).support) (sym here) ∙ h.from_root

  -- the edge that is next
  pub record Next : Type 0 where
    pub edge : Edge
    before : List Edge
    is : h.ahead ≡ before ++ edge ∷ []
    lead : Lead (standing dump log) h.root.target before edge.source
    stands : Contains (standing dump log).edges edge
    ends : edge.target ≡ at
    support : (reached_at ks at).support ≡ supports.Edge edge.source edge.slot

  next-of : (e : Edge) (es : List Edge) → h.ahead ≡ e ∷ es → Next
  next-of e es is =
      let l = last-of (standing dump log) h.root.target at e es (subst (λ (xs : List Edge). Lead (standing dump log) h.root.target xs at) is h.leads) in
      let stored = all-rest (IsStored ks) l.init (l.last ∷ [])
      (subst (λ (xs : List Edge). AllByRecursion (IsStored ks) xs) (is ∙ l.is) (all-init (IsStored ks) h.ahead h.behind h.stored)) in
      record {
        edge = l.last;
        before = l.init;
        is = is ∙ l.is;
        lead = l.lead;
        stands = l.stands;
        ends = l.ends;
        support = ap (λ (x : ℕ). (reached_at ks x).support) (sym l.ends) ∙ stored.0;
      }

  some-ahead : (es : List Edge) → h.ahead ≡ es → (h.ahead ≡ []) ⊎ Next
  some-ahead [] is = inl is
  some-ahead (e ∷ es) is = inr (next-of e es is)

  pub never-nothing : (reached_at ks at).support ≡ supports.Nothing → ⊥
  never-nothing is = elim (some-ahead h.ahead refl) [
    | inl none ↦ let both : supports.Root h.root.number ≡ supports.Nothing = sym (at-root none) ∙ is in cc
    | inr n ↦ let both : supports.Edge n.edge.source n.edge.slot ≡ supports.Nothing = sym n.support ∙ is in cc
  ]

  -- the next edge, where the support is one
  module _ (source : ℕ) (slot : Slot) (is : (reached_at ks at).support ≡ supports.Edge source slot) where
    pub next : Next
    next = elim (some-ahead h.ahead refl) [
      | inl none ↦ let both : supports.Root h.root.number ≡ supports.Edge source slot = sym (at-root none) ∙ is in absurd cc
      | inr n ↦ n
    ]

    same : supports.Edge next.edge.source next.edge.slot ≡ supports.Edge source slot
    same = sym next.support ∙ is

    pub is-next : IsEdgeOf next.edge source slot at
    is-next = let e = same in record { from_source = cc; from_slot = cc; to_target = next.ends }

    pub next-stands : Contains (standing dump log).edges next.edge
    next-stands = next.stands

    pub next-within : source < length dump.objects
    next-within = subst (λ (n : ℕ). n < length dump.objects) is-next.from_source (source-within dump log next.edge next.stands)

    joined : h.ahead ++ h.behind ≡ next.before ++ next.edge ∷ h.behind
    joined = ap (λ (xs : List Edge). xs ++ h.behind) next.is ∙ append_assoc next.before (next.edge ∷ []) h.behind

    pub followed : (links' : List Link) → links' ≡ links ++ link_of next.edge ∷ [] → IsFollowed dump log ks o source links'
    followed links' pushed = record {
      root = h.root;
      ahead = next.before;
      behind = next.edge ∷ h.behind;
      is_chain = subst (λ (xs : List Edge). IsChain (standing dump log) h.root xs o (reached_at ks o).strength) joined h.is_chain;
      from_root = h.from_root;
      stored = subst (λ (xs : List Edge). AllByRecursion (IsStored ks) xs) joined h.stored;
      leads = subst (λ (n : ℕ). Lead (standing dump log) h.root.target next.before n) is-next.from_source next.lead;
      noted = pushed ∙ ap (λ (ls : List Link). ls ++ link_of next.edge ∷ []) h.noted ∙ sym (reverse-append (link_of next.edge ∷ []) (map link_of h.behind));
      within = next-within;
    }

    pub next-nearer : Settled (standing dump log) ks → distance ks source < distance ks at
    next-nearer settled =
        let s = subst (λ (x : Support). IsSupported (standing dump log) ks at x) is (settled.supported at) in
        nearer ks source at s.1.earlier

  -- the whole chain, where the support is a root
  module _ (r : ℕ) (is : (reached_at ks at).support ≡ supports.Root r) where
    none-ahead : h.ahead ≡ []
    none-ahead = elim (some-ahead h.ahead refl) [
      | inl none ↦ none
      | inr n ↦ let both : supports.Edge n.edge.source n.edge.slot ≡ supports.Root r = sym n.support ∙ is in absurd cc
    ]

    start : h.root.target ≡ at
    start = subst (λ (es : List Edge). Lead (standing dump log) h.root.target es at) none-ahead h.leads

    number : h.root.number ≡ r
    number = let both : supports.Root h.root.number ≡ supports.Root r = sym (at-root none-ahead) ∙ is in cc

    pub whole-chain : ((g : Standing) (ks : List Reached) → Settled g ks → (o : ℕ) → HasStrength g o (reached_at ks o).strength)
        → Settled (standing dump log) ks
        → (c : Chain) → c.root ≡ r → c.start ≡ at → c.links.items ≡ reverse links → IsFoundChain dump log ks o c
    whole-chain gives settled c root_is start_is links_are =
        let chain : IsChain (standing dump log) h.root h.behind o (reached_at ks o).strength =
        subst (λ (es : List Edge). IsChain (standing dump log) h.root (es ++ h.behind) o (reached_at ks o).strength) none-ahead h.is_chain in
        let root : h.root ≡ root_of c =
        ap (λ (n : ℕ). let e : RootEntry = record { number = n; target = h.root.target } in e) (number ∙ sym root_is)
        ∙ ap (λ (t : ℕ). let e : RootEntry = record { number = c.root; target = t } in e) (start ∙ sym start_is) in
        let links_is : c.links.items ≡ map link_of h.behind = links_are ∙ ap reverse h.noted ∙ reverse-reverse (map link_of h.behind) in
        record {
          strength = (reached_at ks o).strength;
          edges = h.behind;
          has_strength = gives (standing dump log) ks settled o;
          is_chain = subst (λ (e : RootEntry). IsChain (standing dump log) e h.behind o (reached_at ks o).strength) root chain;
          stored = subst (λ (e : RootEntry). IsStoredChain (standing dump log) ks e h.behind o) root (record {
            root = h.from_root;
            edges = subst (λ (es : List Edge). AllByRecursion (IsStored ks) (es ++ h.behind)) none-ahead h.stored;
            leads = chain.path.edges;
          });
          few = omega (
            arith,
            few-links dump log h.root h.behind o (reached_at ks o).strength chain
                (subst (λ (n : ℕ). n < length dump.objects) (sym start) h.within),
            ap length links_is,
            length-map h.behind link_of,
          );
          links = links_is;
          start = subst (λ (n : ℕ). n < length dump.objects) (sym start_is) h.within;
          within = subst (λ (ls : List Link). All (IsWithin (length dump.objects)) ls) (sym links_is)
              (All-from_recursion (IsWithin (length dump.objects)) (map link_of h.behind) (links-within dump log h.root.target o h.behind chain.path.edges));
        }

-- past the last object nothing is reachable
pub past-unreachable : ((g : Standing) (ks : List Reached) → Settled g ks → (o : ℕ) → HasStrength g o (reached_at ks o).strength)
    → (g : Standing) (ks : List Reached) → Settled g ks
    → (o : ℕ) → length ks ≤ o → HasStrength g o strengths.Unreachable
past-unreachable gives g ks settled o past = subst (λ (k : Reached). HasStrength g o k.strength) (get_or_past ks o unreached past) (gives g ks settled o)
