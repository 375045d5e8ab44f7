-- A reference is taken away by its kind, else by its slot, else by its field.
-- Each answer says it of the fields of `self`, and goes over to their view.
use Rattle.std.proofs.Common.{◌≡◌, ◌∙◌, [], not, eqb-true, length, ap, sym}
use Rattle.std.proofs.lemmas.List.{nil_from_length}
use Rattle.hd_terms.specs.Dump.{Object, object_at}
use Rattle.hd_strength.specs.Removed.{Removals, has_field, is_removed}
use Rattle.hd_strength.proofs.RemovedLemmas.{pair_found, removed_by_kind, removed_by_slot, removed_by_field, no_field_there}
use Rattle.hd_strength.proofs.removed.Removed.slot.Goals as goal

pub returns-then-has : goal.returns-then-has
returns-then-has c s at same =
    let inside = c.self.inside in
    let t : Removals = record { slots = inside.slots; cleared = inside.cleared; fields = inside.fields; roots = inside.roots } in
    let x : Object = object_at c.args.graph.now c.args.o in
    removed_by_kind t x s c.args.o c.args.index c.args.kind same (sym c.has.ensures ∙ c.if-has.true)
    ∙ ap (λ (r : Removals). is_removed r x s c.args.o c.args.index) c.self.view_is

pub returns-then-contains : goal.returns-then-contains
returns-then-contains c s at same =
    let inside = c.self.inside in
    let t : Removals = record { slots = inside.slots; cleared = inside.cleared; fields = inside.fields; roots = inside.roots } in
    let x : Object = object_at c.args.graph.now c.args.o in
    let found = pair_found t.slots c.args.o c.args.index c.from.result c.pair_key.result c.contains.result c.pair_key.ensures.small c.pair_key.ensures.key
    c.from.ensures c.contains.ensures in
    removed_by_slot t x s c.args.o c.args.index c.args.kind same (sym c.has.ensures ∙ c.if-has.false) (sym found ∙ c.if-contains.true)
    ∙ ap (λ (r : Removals). is_removed r x s c.args.o c.args.index) c.self.view_is

pub returns-then-not-is_empty : goal.returns-then-not-is_empty
returns-then-not-is_empty c s at same =
    let inside = c.self.inside in
    let t : Removals = record { slots = inside.slots; cleared = inside.cleared; fields = inside.fields; roots = inside.roots } in
    let x : Object = object_at c.args.graph.now c.args.o in
    let found = pair_found t.slots c.args.o c.args.index c.from.result c.pair_key.result c.contains.result c.pair_key.ensures.small c.pair_key.ensures.key
    c.from.ensures c.contains.ensures in
    c.has_field.ensures s at
    ∙ ap (λ (r : Removals). has_field r.fields x.group s.slot) (sym c.self.view_is)
    ∙ removed_by_field t x s c.args.o c.args.index c.args.kind same (sym c.has.ensures ∙ c.if-has.false) (sym found ∙ c.if-contains.false)
    ∙ ap (λ (r : Removals). is_removed r x s c.args.o c.args.index) c.self.view_is

pub returns-else-not-is_empty : goal.returns-else-not-is_empty
returns-else-not-is_empty c s at same =
    let inside = c.self.inside in
    let t : Removals = record { slots = inside.slots; cleared = inside.cleared; fields = inside.fields; roots = inside.roots } in
    let x : Object = object_at c.args.graph.now c.args.o in
    let found = pair_found t.slots c.args.o c.args.index c.from.result c.pair_key.result c.contains.result c.pair_key.ensures.small c.pair_key.ensures.key
    c.from.ensures c.contains.ensures in
    let none : t.fields ≡ [] = nil_from_length t.fields (eqb-true (length t.fields) 0 (sym c.is_empty.ensures ∙ c.if-not-is_empty.false)) in
    ap not c.if-not-is_empty.false
    ∙ sym (no_field_there t.fields x.group s.slot none)
    ∙ removed_by_field t x s c.args.o c.args.index c.args.kind same (sym c.has.ensures ∙ c.if-has.false) (sym found ∙ c.if-contains.false)
    ∙ ap (λ (r : Removals). is_removed r x s c.args.o c.args.index) c.self.view_is
