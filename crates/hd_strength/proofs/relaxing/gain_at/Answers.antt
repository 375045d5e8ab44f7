-- A slot gives nothing where it has no target (`at_none`), where it is cut (`at_cut`), or where its target is known already.
-- Else the edge that stands there (`at_some`) is the gain.
use Rattle.std.proofs.Common.{◌≡◌, true, false, Some, None, ap, sym, ◌∙◌, refl}
use Rattle.hd_terms.specs.Ranks.{weaker_of, given_by}
use Rattle.hd_terms.specs.Paths.{Edge}
use Rattle.hd_terms.specs.Dump.{SlotEntry, object_at}
use Rattle.hd_terms.specs.EditedDump.{is_untouched}
use Rattle.hd_terms.specs.Edges.{index_of}
use Rattle.hd_strength.specs.Removed.{is_removed}
use Rattle.hd_strength.proofs.RowLemmas.{slot_at, at_none, at_cut, at_target, at_some, not-true, not-false, edge_to}
use Rattle.hd_strength.proofs.relaxing.gain_at.Goals as goal

pub returns-in_err-target-clause-none : goal.returns-in_err-target-clause-none
returns-in_err-target-clause-none c =
    let at = slot_at c.args.edited.graph.now c.args.o c.args.index c.requires.index in
    let none : index_of c.args.edited.graph.now.objects at.0.id ≡ None = sym (c.requires.target at.0 at.1) ∙ c.in_err-target.was in
    rw c.from_residual.ensures (λ e is. absurd (at_none c.args.edited.graph.now c.args.edited.front.now c.args.o c.args.index at.0 at.1 none e is))

pub returns-then-knows-clause-none : goal.returns-then-knows-clause-none
returns-then-knows-clause-none c = λ e is.
    let t = c.in_ok-target.target in
    let at = slot_at c.args.edited.graph.now c.args.o c.args.index c.requires.index in
    let some : index_of c.args.edited.graph.now.objects at.0.id ≡ Some t = sym (c.requires.target at.0 at.1) ∙ c.in_ok-target.was in
    let edge : edge_to c.args.o at.0 t ≡ e = at_target c.args.edited.graph.now c.args.edited.front.now c.args.o c.args.index at.0 at.1 t e some is in
    let target : e.target ≡ t = sym (ap (λ (x : Edge). x.target) edge) in
    rw target (c.knows.ensures.yes c.if-knows.true)

pub returns-then-slot-clause-none : goal.returns-then-slot-clause-none
returns-then-slot-clause-none c = λ e is.
    let dump = c.args.edited.graph.now in
    let log = c.args.edited.front.now in
    let at = slot_at dump c.args.o c.args.index c.requires.index in
    let s : SlotEntry = at.0 in
    let kind : c.slot_kind-kind.result ≡ s.kind = c.slot_kind-kind.ensures s at.1 in
    let taken : is_removed c.args.edited.removed.now (object_at dump c.args.o) s c.args.o c.args.index ≡ true =
    sym (c.slot.ensures s at.1 kind) ∙ c.if-slot.true in
    let cut : is_untouched log (object_at dump c.args.o) s ≡ false =
    not-true (is_untouched log (object_at dump c.args.o) s) (sym (c.requires.removed.slots c.args.o c.args.index s c.requires.object at.1) ∙ taken) in
    absurd (at_cut dump log c.args.o c.args.index s at.1 cut e is)

pub returns-clause-some : goal.returns-clause-some
returns-clause-some c =
    let at = slot_at c.args.edited.graph.now c.args.o c.args.index c.requires.index in
    let s : SlotEntry = at.0 in
    let t = c.in_ok-target.target in
    let some : index_of c.args.edited.graph.now.objects s.id ≡ Some t = sym (c.requires.target s at.1) ∙ c.in_ok-target.was in
    let kind : c.slot_kind-kind.result ≡ s.kind = c.slot_kind-kind.ensures s at.1 in
    let left : is_removed c.args.edited.removed.now (object_at c.args.edited.graph.now c.args.o) s c.args.o c.args.index ≡ false =
    sym (c.slot.ensures s at.1 kind) ∙ c.if-slot.false in
    let stands : is_untouched c.args.edited.front.now (object_at c.args.edited.graph.now c.args.o) s ≡ true =
    not-false (is_untouched c.args.edited.front.now (object_at c.args.edited.graph.now c.args.o) s)
    (sym (c.requires.removed.slots c.args.o c.args.index s c.requires.object at.1) ∙ left) in
    record {
      edge = edge_to c.args.o s t;
      is = at_some c.args.edited.graph.now c.args.edited.front.now c.args.o c.args.index s at.1 t some stands;
      target = refl;
      strength = c.weaker.ensures ∙ ap (weaker_of c.args.strength) (c.strength.ensures ∙ ap given_by kind);
      unknown = c.knows.ensures.no c.if-knows.false;
    }
