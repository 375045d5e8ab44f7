-- What is lost where two logs differ by one live edit.
use Rattle.std.proofs.Common.{◌≡◌, ◌∙◌, inl, inr, ℕ, zero, suc, ◌+◌, ◌-◌, ◌<◌, Bool, true, false, cond, not, nat_lt, List, length, Contains, Option, Some, None}
use Rattle.std.proofs.Common.{slice_get, refl, sym, ap, subst, arith}
use Rattle.std.specs.Option.{option_map, option_and_then}
use Rattle.std.specs.List.{list_any, enumerate_from}
use Rattle.std.proofs.lemmas.Bool.{and_parts, cases_lt, cases_eq, eqb-true, lt-leb, lt-ltb}
use Rattle.std.proofs.lemmas.List.Folds.{Any-from_list_any, list_any-from_Any}
use Rattle.std.proofs.lemmas.Option.{option_and_then_some, slice_get_within}
use Rattle.hd_terms.specs.declared.Edit.{Edit}
use Rattle.hd_terms.specs.declared.Edit.TheVariants as edits
use Rattle.hd_terms.specs.declared.EdgeKind.{EdgeKind}
use Rattle.hd_terms.specs.declared.EdgeKind.TheVariants as kinds
use Rattle.hd_terms.specs.declared.Event.{Event}
use Rattle.hd_terms.specs.declared.RefKind.{RefKind}
use Rattle.hd_terms.specs.declared.Slot.{Slot}
use Rattle.hd_terms.specs.declared.Slot.TheVariants as slots
use Rattle.hd_terms.specs.Dump.{SlotEntry, Object, Root, Dump, object_at}
use Rattle.hd_terms.specs.Edges.{index_of}
use Rattle.hd_terms.specs.EditedDump.{standing, is_of_class, same_slot, takes_away, is_untouched, drops, is_dropped, live_edit_at}
use Rattle.hd_terms.specs.Log.{live_edit, live_edits}
use Rattle.hd_terms.specs.Paths.{Edge, RootEntry}
use Rattle.hd_terms.specs.Ranks.{rank, given_by, kind_of_references, same_kind}
use Rattle.hd_terms.specs.Regions.{Holding}
use Rattle.hd_strength.specs.Removed.{takes_slot, IsOnlySlot}
use Rattle.hd_strength.specs.Rows.{edge_at, root_at, root_by, root_by_event, added_by, standing_root}
use Rattle.hd_strength.proofs.Lists.{filter_map_contains, filter_map_only, enumerate_contains, enumerate_only}
use Rattle.hd_strength.proofs.RowLemmas.{entry_to, IsAt, is_at, at_some, edge_stands_at, edge_has_index, not-true, not-false, root_stands_at, root_has_number}
use Rattle.hd_view.specs.Losing.{HasEdge, HasRoot, HasIndexed, HasEdited, HasKind, HasField, HasNumber, HasAllLost}
use Rattle.hd_view.specs.OneEdit.{HasOneMore, LosesBy}

-- what stands under one log stands under another
pub record StandsWithin (dump : Dump) (less more : List Event) : Type 0 where
  pub edges : (e : Edge) → Contains (standing dump less).edges e → Contains (standing dump more).edges e
  pub roots : (r : RootEntry) → Contains (standing dump less).roots r → Contains (standing dump more).roots r

-- a live edit has a place
live-at : (log : List Event) (x : Edit) → Contains (live_edits log) x → (k : ℕ) × (live_edit_at log k ≡ Some x)
live-at log x c =
    let (n, numbered, live) = filter_map_only (live_edit log) (enumerate_from 0 log) x c in
    (n.0, ap (option_and_then (λ (e : Event). live_edit log (n.0, e))) (enumerate_only log n numbered) ∙ live)

-- what is at a place is a live edit
at-live : (log : List Event) (k : ℕ) (x : Edit) → live_edit_at log k ≡ Some x → Contains (live_edits log) x
at-live log k x live =
    option_and_then_some (λ (e : Event). live_edit log (k, e)) (slice_get log k) x live
    (λ e at is. filter_map_contains (live_edit log) (enumerate_from 0 log) (k, e) x (enumerate_contains log k e at) is)

-- the place is one of the log's
pub place-within : (log : List Event) (k : ℕ) (x : Edit) → live_edit_at log k ≡ Some x → k < length log
place-within log k x live = option_and_then_some (λ (e : Event). live_edit log (k, e)) (slice_get log k) x live (λ e at is. slice_get_within log k e at)

-- a test that a live edit passes
any-at : (p : Edit → Bool) (log : List Event) → list_any p (live_edits log) ≡ true → (k : ℕ) × (x : Edit) × (live_edit_at log k ≡ Some x) × (p x ≡ true)
any-at p log any =
    let (i, x, lt, at, passes) = Any-from_list_any p (live_edits log) any in
    let (k, live) = live-at log x (i, lt, at) in
    (k, x, live, passes)

at-any : (p : Edit → Bool) (log : List Event) (k : ℕ) (x : Edit) → live_edit_at log k ≡ Some x → p x ≡ true → list_any p (live_edits log) ≡ true
at-any p log k x live passes =
    let (i, lt, at) = at-live log k x live in
    list_any-from_Any p (live_edits log) (i, x, lt, at, passes)

-- what implies a test that fails
none-implied : (a b : Bool) → (a ≡ true → b ≡ true) → b ≡ false → a ≡ false
none-implied true b then none = sym (then refl) ∙ none
none-implied false b then none = refl

-- tests of live edits, where there is one more
module _ (less more : List Event) (k : ℕ) (edit : Edit) (one : HasOneMore less more k edit) where
  -- where no live edit passes a test, none of fewer does
  none-of-fewer : (p : Edit → Bool) → list_any p (live_edits more) ≡ false → list_any p (live_edits less) ≡ false
  none-of-fewer p =
      none-implied (list_any p (live_edits less)) (list_any p (live_edits more)) (λ any.
      let (j, x, live, passes) = any-at p less any in
      at-any p more j x (one.kept j x live) passes)

  -- nor does one of more, where the one that is added doesn't
  none-of-more : (p : Edit → Bool) → p edit ≡ false → list_any p (live_edits less) ≡ false → list_any p (live_edits more) ≡ false
  none-of-more p fails =
      none-implied (list_any p (live_edits more)) (list_any p (live_edits less)) (λ any.
      let (j, x, live, passes) = any-at p more any in
      elim (one.only j x live) [
        | inl before ↦ at-any p less j x before passes
        | inr (place, added) ↦ let clash : false ≡ true = sym fails ∙ ap p (sym added) ∙ passes in absurd cc
      ])

-- the root of an event, by its live edit
edit-event : (dump : Dump) (log : List Event) (k : ℕ) (at : Option Event) → root_by_event dump log k at ≡ added_by dump log k
    (option_and_then (λ (e : Event). live_edit log (k, e)) at)
edit-event dump log k None = refl
edit-event dump log k (Some event) = refl

-- what an option gives under a test
pub under-test : {X : Type 0} (b : Bool) (o : Option X) (x : X) → cond b o None ≡ Some x → (b ≡ true) × (o ≡ Some x)
under-test true o x is = (refl, is)
under-test false o x is = absurd cc

-- a root that isn't dropped
not-dropped : {X : Type 0} (b : Bool) (o : Option X) (x : X) → cond b None o ≡ Some x → (b ≡ false) × (o ≡ Some x)
not-dropped true o x is = absurd cc
not-dropped false o x is = (refl, is)

-- an edge stands still, where what it goes through is untouched
module _ (dump : Dump) (before after : List Event) where
  still-edge : (e : Edge) (i : ℕ) (known : IsAt dump before e.source i e) → is_untouched after (object_at dump e.source) known.entry ≡ true
      → Contains (standing dump after).edges e
  still-edge e i known stays =
      edge_stands_at dump after e.source i e (at_some dump after e.source i known.entry known.there e.target known.index stays
      ∙ ap (λ (x : Edge). Some x) (sym known.is))

  edge-within : ((x : Object) (s : SlotEntry) → is_untouched before x s ≡ true → is_untouched after x s ≡ true) → (e : Edge)
      → Contains (standing dump before).edges e → Contains (standing dump after).edges e
  edge-within untouched e c =
      let (i, at) = edge_has_index dump before e c in
      let known : IsAt dump before e.source i e = is_at dump before e.source i e at in
      still-edge e i known (untouched (object_at dump e.source) known.entry known.stands)

-- a root stands still, where it isn't dropped after, and what adds it before does after
module _ (dump : Dump) (before after : List Event) (r : ℕ) (undropped : is_dropped before r ≡ false → is_dropped after r ≡ false)
    (added : (k id : ℕ) → r ≡ length dump.roots + k → live_edit_at before k ≡ Some (edits.Add id) → live_edit_at after k ≡ Some (edits.Add id)) where
  still-held : (n id : ℕ) (x : RootEntry) → n ≡ r → standing_root dump before n id ≡ Some x → standing_root dump after n id ≡ Some x
  still-held n id x same holds =
      let entry : Option RootEntry = option_map (λ (target : ℕ). entry_to n target) (index_of dump.objects id) in
      let parts = not-dropped (is_dropped before n) entry x holds in
      let stays : is_dropped after n ≡ false = ap (is_dropped after) same ∙ undropped (sym (ap (is_dropped before) same) ∙ parts.0) in
      ap (λ (b : Bool). cond b None entry) stays ∙ parts.1

  dump-root : (x : RootEntry) (at : Option Root) → root_by dump before r at ≡ Some x → root_by dump after r at ≡ Some x
  dump-root x None holds = absurd cc
  dump-root x (Some root) holds = still-held r root.id x refl holds

  edit-root : (k : ℕ) (x : RootEntry) (edit : Option Edit) → r ≡ length dump.roots + k → live_edit_at before k ≡ edit → added_by dump before k edit ≡ Some x
      → added_by dump after k (live_edit_at after k) ≡ Some x
  edit-root k x None number live holds = absurd cc
  edit-root k x (Some (edits.Cut id slot)) number live holds = absurd cc
  edit-root k x (Some (edits.Clear id)) number live holds = absurd cc
  edit-root k x (Some (edits.Drop s)) number live holds = absurd cc
  edit-root k x (Some (edits.ClearAll references)) number live holds = absurd cc
  edit-root k x (Some (edits.CutAll class i)) number live holds = absurd cc
  edit-root k x (Some (edits.Add id)) number live holds = ap (added_by dump after k) (added k id number live)
      ∙ still-held (length dump.roots + k) id x (sym number) holds

  root-still : (x : RootEntry) → root_at dump before r ≡ Some x → root_at dump after r ≡ Some x
  unfolding root_at
  root-still x holds = elim (cases_lt r (length dump.roots)) [
    | inl lt ↦
        let of_dump : root_by dump before r (slice_get dump.roots r) ≡ Some x = rw (lt-ltb r (length dump.roots) lt) at holds in
        rw (lt-ltb r (length dump.roots) lt) (dump-root x (slice_get dump.roots r) of_dump)
    | inr le ↦
        let k : ℕ = r - length dump.roots in
        let not_below : nat_lt r (length dump.roots) ≡ false = lt-leb (suc r) (length dump.roots) (omega arith) in
        let of_event : root_by_event dump before k (slice_get before k) ≡ Some x = rw not_below at holds in
        rw not_below (edit-event dump after k (slice_get after k) ∙ edit-root k x (live_edit_at before k) (omega arith) refl
        (sym (edit-event dump before k (slice_get before k)) ∙ of_event))
  ]

-- a log with one more edit that adds no root, and the one without it
module _ (dump : Dump) (more less : List Event) (k : ℕ) (edit : Edit) (one : HasOneMore more less k edit) where
  -- what adds a root still does
  adds-kept : (r j id : ℕ) → r ≡ length dump.roots + j → live_edit_at more j ≡ Some (edits.Add id) → live_edit_at less j ≡ Some (edits.Add id)
  adds-kept r j id number live = one.kept j (edits.Add id) live

  -- a root that the edit doesn't drop stands still
  undropped-root : (r : ℕ) (x : RootEntry) → drops r edit ≡ false → root_at dump more r ≡ Some x → root_at dump less r ≡ Some x
  undropped-root r x other holds = root-still dump more less r (none-of-more more less k edit one (drops r) other) (adds-kept r) x holds

  root-by-edit : (items : List Holding) → ((r : ℕ) → drops r edit ≡ true → HasNumber dump more less r items) → (x : RootEntry)
      → Contains (standing dump more).roots x → HasRoot dump less items x
  root-by-edit items dropped x c = by-drop (root_has_number dump more x c).0 (root_has_number dump more x c).2
      (drops (root_has_number dump more x c).0 edit) refl where
        by-drop : (r : ℕ) → root_at dump more r ≡ Some x → (b : Bool) → drops r edit ≡ b → HasRoot dump less items x
        by-drop r holds true is = dropped r is x holds
        by-drop r holds false is = inl (root_stands_at dump less r x (undropped-root r x is holds))

  -- an edge that the edit doesn't take away stands still
  edge-by-edit : (items : List Holding) → ((e : Edge) (i : ℕ) → edge_at dump more e.source i ≡ Some e → Contains (standing dump more).edges e
      → (known : IsAt dump more e.source i e) → takes_away (object_at dump e.source) known.entry edit ≡ true → HasEdge dump less items e)
      → (e : Edge) → Contains (standing dump more).edges e → HasEdge dump less items e
  edge-by-edit items taken e c = by-cut (edge_has_index dump more e c).0 (edge_has_index dump more e c).1
      (is_at dump more e.source (edge_has_index dump more e c).0 e (edge_has_index dump more e c).1) where
        by-known : (i : ℕ) → edge_at dump more e.source i ≡ Some e → (known : IsAt dump more e.source i e) → (b : Bool)
            → is_untouched less (object_at dump e.source) known.entry ≡ b → HasEdge dump less items e
        by-known i at known true stays = inl (still-edge dump more less e i known stays)
        by-known i at known false cut =
            let test : Edit → Bool = takes_away (object_at dump e.source) known.entry in
            let (j, y, live, passes) = any-at test less (not-false (list_any test (live_edits less)) cut) in
            elim (one.only j y live) [
              | inl before ↦
                  let clash : true ≡ false = sym (at-any test more j y before passes) ∙ not-true (list_any test (live_edits more)) known.stands in
                  absurd cc
              | inr (place, same) ↦ taken e i at c known (ap test (sym same) ∙ passes)
            ]

        by-cut : (i : ℕ) → edge_at dump more e.source i ≡ Some e → IsAt dump more e.source i e → HasEdge dump less items e
        by-cut i at known = by-known i at known (is_untouched less (object_at dump e.source) known.entry) refl

-- kinds by their ranks
kind-at : ℕ → EdgeKind
kind-at zero = kinds.Strong
kind-at (suc zero) = kinds.Phantom
kind-at (suc (suc zero)) = kinds.Final
kind-at (suc (suc (suc zero))) = kinds.Weak
kind-at (suc (suc (suc (suc zero)))) = kinds.Soft
kind-at (suc (suc (suc (suc (suc n))))) = kinds.Strong

kind-of-rank : (kind : EdgeKind) → kind-at (rank (given_by kind)) ≡ kind
unfolding kind-at
kind-of-rank kinds.Strong = refl
kind-of-rank kinds.Soft = refl
kind-of-rank kinds.Weak = refl
kind-of-rank kinds.Final = refl
kind-of-rank kinds.Phantom = refl

one-kind : (a b : EdgeKind) → same_kind a b ≡ true → a ≡ b
one-kind a b is = sym (kind-of-rank a) ∙ ap kind-at (eqb-true (rank (given_by a)) (rank (given_by b)) is) ∙ kind-of-rank b

-- the one slot that is found is the one that an edit is of
pub edited_found : (dump : Dump) (more less : List Event) (edit : Edit) (items : List Holding) (p : Option (ℕ × ℕ)) (x j : ℕ)
    → IsOnlySlot dump (λ y s. takes_slot y s edit) p → p ≡ Some (x, j) → HasIndexed dump more less x j items → HasEdited dump more less edit items
edited_found dump more less edit items p x j only is has o i s lt at takes =
    let same : Some (x, j) ≡ Some (o, i) = sym is ∙ only.only o i s lt at takes in
    let pair : (x, j) ≡ (o, i) = cc in
    subst (λ (q : ℕ × ℕ). HasIndexed dump more less q.0 q.1 items) pair has

pub edited_none : (dump : Dump) (more less : List Event) (edit : Edit) (items : List Holding) (p : Option (ℕ × ℕ))
    → IsOnlySlot dump (λ y s. takes_slot y s edit) p → ((q : ℕ × ℕ) → p ≡ Some q → ⊥) → HasEdited dump more less edit items
edited_none dump more less edit items p only none o i s lt at takes = absurd (none (o, i) (only.only o i s lt at takes))

-- by an edit of one slot
slot-lost : (dump : Dump) (more less : List Event) (k : ℕ) (edit : Edit) (items : List Holding)
    → ((x : Object) (s : SlotEntry) → takes_away x s edit ≡ takes_slot x s edit) → ((r : ℕ) → drops r edit ≡ false)
    → HasOneMore more less k edit → HasEdited dump more less edit items → HasAllLost dump more less items
slot-lost dump more less k edit items form stays one has = record {
  edges = edge-by-edit dump more less k edit one items
      (λ e i at c known takes. has e.source i known.entry known.object known.there (sym (form (object_at dump e.source) known.entry) ∙ takes) e at);
  roots = root-by-edit dump more less k edit one items (λ r is. let clash : false ≡ true = sym (stays r) ∙ is in absurd cc);
}

pub cut_lost : (dump : Dump) (more less : List Event) (k id : ℕ) (slot : Slot) (edit : Edit) (items : List Holding) → edit ≡ edits.Cut id slot
    → LosesBy more less k edit → HasEdited dump more less edit items → HasAllLost dump more less items
cut_lost dump more less k id slot edit items is one has =
    slot-lost dump more less k (edits.Cut id slot) items (λ x s. refl) (λ r. refl) (subst (λ (y : Edit). LosesBy more less k y) is one)
    (subst (λ (y : Edit). HasEdited dump more less y items) is has)

pub clear_lost : (dump : Dump) (more less : List Event) (k id : ℕ) (edit : Edit) (items : List Holding) → edit ≡ edits.Clear id → LosesBy more less k edit
    → HasEdited dump more less edit items → HasAllLost dump more less items
clear_lost dump more less k id edit items is one has =
    slot-lost dump more less k (edits.Clear id) items (λ x s. refl) (λ r. refl) (subst (λ (y : Edit). LosesBy more less k y) is one)
    (subst (λ (y : Edit). HasEdited dump more less y items) is has)

-- by an edit of a kind
kind-lost : (dump : Dump) (more less : List Event) (k : ℕ) (kind : RefKind) (items : List Holding) → HasOneMore more less k (edits.ClearAll kind)
    → HasKind dump more less kind items → HasAllLost dump more less items
kind-lost dump more less k kind items one has = record {
  edges = edge-by-edit dump more less k (edits.ClearAll kind) one items
      (λ e i at c known takes. has e c (ap (λ (x : Edge). x.kind) known.is ∙ one-kind known.entry.kind (kind_of_references kind) takes));
  roots = root-by-edit dump more less k (edits.ClearAll kind) one items (λ r is. absurd cc);
}

pub kind_lost : (dump : Dump) (more less : List Event) (k : ℕ) (kind : RefKind) (edit : Edit) (items : List Holding) → edit ≡ edits.ClearAll kind
    → LosesBy more less k edit → HasKind dump more less kind items → HasAllLost dump more less items
kind_lost dump more less k kind edit items is one has = kind-lost dump more less k kind items (subst (λ (y : Edit). LosesBy more less k y) is one) has

-- a slot that has the name of a field
field-named : (slot : Slot) (i : ℕ) → same_slot slot (slots.Field i) ≡ true → slot ≡ slots.Field i
field-named (slots.Field j) i is = ap (λ (n : ℕ). slots.Field n) (eqb-true j i is)
field-named (slots.Element j) i is = absurd cc
field-named (slots.Static j) i is = absurd cc
field-named (slots.Const j) i is = absurd cc
field-named slots.OfClass i is = absurd cc
field-named slots.Super i is = absurd cc
field-named slots.Loader i is = absurd cc
field-named slots.Signers i is = absurd cc
field-named slots.Domain i is = absurd cc

-- by an edit of a field of a class
field-lost : (dump : Dump) (more less : List Event) (k class i : ℕ) (items : List Holding) → HasOneMore more less k (edits.CutAll class i)
    → HasField dump more less class i items → HasAllLost dump more less items
field-lost dump more less k class i items one has = record {
  edges = edge-by-edit dump more less k (edits.CutAll class i) one items
      (λ e j at c known takes.
      let both = and_parts (is_of_class (object_at dump e.source).group class) (same_slot known.entry.slot (slots.Field i)) takes in
      has e c both.0 (ap (λ (x : Edge). x.slot) known.is ∙ field-named known.entry.slot i both.1));
  roots = root-by-edit dump more less k (edits.CutAll class i) one items (λ r is. absurd cc);
}

pub field_lost : (dump : Dump) (more less : List Event) (k class i : ℕ) (edit : Edit) (items : List Holding) → edit ≡ edits.CutAll class i
    → LosesBy more less k edit → HasField dump more less class i items → HasAllLost dump more less items
field_lost dump more less k class i edit items is one has =
    field-lost dump more less k class i items (subst (λ (y : Edit). LosesBy more less k y) is one) has

-- by an edit that drops a root
drop-lost : (dump : Dump) (more less : List Event) (k s : ℕ) (items : List Holding) → HasOneMore more less k (edits.Drop s) → HasNumber dump more less s items
    → HasAllLost dump more less items
drop-lost dump more less k s items one has = record {
  edges = edge-by-edit dump more less k (edits.Drop s) one items (λ e i at c known takes. absurd cc);
  roots = root-by-edit dump more less k (edits.Drop s) one items (λ r is. subst (λ (n : ℕ). HasNumber dump more less n items) (eqb-true s r is) has);
}

pub drop_lost : (dump : Dump) (more less : List Event) (k s : ℕ) (edit : Edit) (items : List Holding) → edit ≡ edits.Drop s → LosesBy more less k edit
    → HasNumber dump more less s items → HasAllLost dump more less items
drop_lost dump more less k s edit items is one has = drop-lost dump more less k s items (subst (λ (y : Edit). LosesBy more less k y) is one) has

-- by an edit that adds a root
module _ (dump : Dump) (more less : List Event) (k id : ℕ) (one : HasOneMore less more k (edits.Add id)) where
  untouched-still : (x : Object) (s : SlotEntry) → is_untouched more x s ≡ true → is_untouched less x s ≡ true
  untouched-still x s stands =
      ap not (none-of-fewer less more k (edits.Add id) one (takes_away x s) (not-true (list_any (takes_away x s) (live_edits more)) stands))

  added-elsewhere : (r j i : ℕ) → (r ≡ length dump.roots + k → ⊥) → r ≡ length dump.roots + j → live_edit_at more j ≡ Some (edits.Add i)
      → live_edit_at less j ≡ Some (edits.Add i)
  added-elsewhere r j i other number live = elim (one.only j (edits.Add i) live) [
    | inl before ↦ before
    | inr (place, same) ↦ absurd (other (number ∙ ap (λ (n : ℕ). length dump.roots + n) place))
  ]

  other-root : (items : List Holding) → HasNumber dump more less (length dump.roots + k) items → (x : RootEntry) → Contains (standing dump more).roots x
      → HasRoot dump less items x
  other-root items has x c =
      let (r, lt, holds) = root_has_number dump more x c in
      elim (cases_eq r (length dump.roots + k)) [
        | inl same ↦ has x (sym (ap (root_at dump more) same) ∙ holds)
        | inr other ↦ inl (root_stands_at dump less r x
            (root-still dump more less r (none-of-fewer less more k (edits.Add id) one (drops r)) (λ j i. added-elsewhere r j i other) x holds))
      ]

  add-lost : (r : ℕ) (items : List Holding) → r ≡ length dump.roots + k → HasNumber dump more less r items → HasAllLost dump more less items
  add-lost r items number has = record {
    edges = λ e c. inl (edge-within dump more less untouched-still e c);
    roots = other-root items (subst (λ (n : ℕ). HasNumber dump more less n items) number has);
  }

pub add_lost : (dump : Dump) (more less : List Event) (k id : ℕ) (edit : Edit) (r : ℕ) (items : List Holding) → edit ≡ edits.Add id → LosesBy more less k edit
    → r ≡ length dump.roots + k → HasNumber dump more less r items → HasAllLost dump more less items
add_lost dump more less k id edit r items is one number has =
    add-lost dump more less k id (subst (λ (y : Edit). LosesBy more less k y) is one) r items number has

-- what stands where less does stands where more does: where a root is added, and where one edit more takes away
grown : (dump : Dump) (less more : List Event) (k id : ℕ) → HasOneMore less more k (edits.Add id) → StandsWithin dump less more
grown dump less more k id one = record {
  edges = edge-within dump less more
      (λ x s stands. ap not (none-of-more less more k (edits.Add id) one (takes_away x s) refl
      (not-true (list_any (takes_away x s) (live_edits less)) stands)));
  roots = λ x c.
      let (r, lt, holds) = root_has_number dump less x c in
      root_stands_at dump more r x
      (root-still dump less more r (none-of-more less more k (edits.Add id) one (drops r) refl) (λ j i number live. one.kept j (edits.Add i) live) x holds);
}

shrunk : (dump : Dump) (more less : List Event) (k : ℕ) (edit : Edit) → ((id : ℕ) → edits.Add id ≡ edit → ⊥) → HasOneMore more less k edit
    → StandsWithin dump less more
shrunk dump more less k edit other one = record {
  edges = edge-within dump less more
      (λ x s stands. ap not (none-of-fewer more less k edit one (takes_away x s) (not-true (list_any (takes_away x s) (live_edits less)) stands)));
  roots = λ x c.
      let (r, lt, holds) = root_has_number dump less x c in
      root_stands_at dump more r x (root-still dump less more r (none-of-fewer more less k edit one (drops r))
      (λ j id number live. elim (one.only j (edits.Add id) live) [ inl before ↦ before | inr (place, added) ↦ absurd (other id added) ]) x holds);
}

-- so the log under which something is lost has nothing that the other hasn't
pub loses_alone : (dump : Dump) (more less : List Event) (k : ℕ) (edit : Edit) → LosesBy more less k edit → StandsWithin dump less more
loses_alone dump more less k (edits.Add id) one = grown dump less more k id one
loses_alone dump more less k (edits.Cut id slot) one = shrunk dump more less k (edits.Cut id slot) (λ i same. absurd cc) one
loses_alone dump more less k (edits.Clear id) one = shrunk dump more less k (edits.Clear id) (λ i same. absurd cc) one
loses_alone dump more less k (edits.Drop r) one = shrunk dump more less k (edits.Drop r) (λ i same. absurd cc) one
loses_alone dump more less k (edits.ClearAll kind) one = shrunk dump more less k (edits.ClearAll kind) (λ i same. absurd cc) one
loses_alone dump more less k (edits.CutAll class i) one = shrunk dump more less k (edits.CutAll class i) (λ j same. absurd cc) one
