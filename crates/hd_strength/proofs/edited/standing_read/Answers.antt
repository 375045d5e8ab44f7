use Rattle.std.proofs.Common.{◌≡◌, ◌∙◌, true, false, Some, None, refl, sym}
use Rattle.hd_terms.specs.Dump.{SlotEntry, object_at}
use Rattle.hd_terms.specs.EditedDump.{is_untouched}
use Rattle.hd_terms.specs.Edges.{index_of}
use Rattle.hd_strength.proofs.RowLemmas.{at_none, at_cut, at_some, not-true, not-false}
use Rattle.hd_strength.proofs.Reading.{read_none, read_some}
use Rattle.hd_strength.proofs.edited.standing_read.Goals as goal

pub returns-in_err-target-clause-edge : goal.returns-in_err-target-clause-edge
returns-in_err-target-clause-edge c =
    let dump = c.args.edited.graph.now in
    let s : SlotEntry = record { slot = c.slots-read.result.slot; kind = c.slots-read.result.kind; id = c.slots-read.result.id } in
    let none : index_of dump.objects s.id ≡ None = sym c.slots-read.ensures.target ∙ c.in_err-target.was in
    c.from_residual.ensures ∙ read_none dump c.args.edited.front.now c.args.o c.args.index
    (at_none dump c.args.edited.front.now c.args.o c.args.index s c.slots-read.ensures.entry none)

pub returns-then-slot-clause-edge : goal.returns-then-slot-clause-edge
returns-then-slot-clause-edge c =
    let dump = c.args.edited.graph.now in
    let log = c.args.edited.front.now in
    let s : SlotEntry = record { slot = c.slots-read.result.slot; kind = c.slots-read.result.kind; id = c.slots-read.result.id } in
    let cut : is_untouched log (object_at dump c.args.o) s ≡ false =
    not-true (is_untouched log (object_at dump c.args.o) s) (sym (c.requires.removed.slots c.args.o c.args.index s c.requires.object c.slots-read.ensures.entry)
    ∙ sym (c.slot.ensures s c.slots-read.ensures.entry refl) ∙ c.if-slot.true) in
    read_none dump log c.args.o c.args.index (at_cut dump log c.args.o c.args.index s c.slots-read.ensures.entry cut)

pub returns-clause-edge : goal.returns-clause-edge
returns-clause-edge c =
    let dump = c.args.edited.graph.now in
    let log = c.args.edited.front.now in
    let s : SlotEntry = record { slot = c.slots-read.result.slot; kind = c.slots-read.result.kind; id = c.slots-read.result.id } in
    let t = c.in_ok-target.target in
    let some : index_of dump.objects s.id ≡ Some t = sym c.slots-read.ensures.target ∙ c.in_ok-target.was in
    let stands : is_untouched log (object_at dump c.args.o) s ≡ true =
    not-false (is_untouched log (object_at dump c.args.o) s)
    (sym (c.requires.removed.slots c.args.o c.args.index s c.requires.object c.slots-read.ensures.entry)
    ∙ sym (c.slot.ensures s c.slots-read.ensures.entry refl) ∙ c.if-slot.false) in
    read_some dump log c.args.o c.args.index s t (at_some dump log c.args.o c.args.index s c.slots-read.ensures.entry t some stands)
