use Rattle.std.proofs.Common.{◌∙◌, refl, sym, arith}
use Rattle.hd_terms.specs.Dump.{SlotEntry}
use Rattle.hd_view.proofs.StandingLemmas.{past_objects, past_slots, stands_by_slot}
use Rattle.hd_view.proofs.edited.edge_stands.Goals as goal

pub returns-then-o-objects : goal.returns-then-o-objects
returns-then-o-objects c = past_objects c.args.edited.graph.now c.args.edited.front.now c.args.o c.args.i
    (omega (arith, c.if-o-objects.true, c.objects.ensures))

pub returns-then-i-slots_len : goal.returns-then-i-slots_len
returns-then-i-slots_len c = past_slots c.args.edited.graph.now c.args.edited.front.now c.args.o c.args.i
    (omega (arith, c.if-i-slots_len.true, c.slots_len.ensures))

pub returns-then-is_some : goal.returns-then-is_some
returns-then-is_some c =
    let s : SlotEntry = record { slot = c.slots-read.result.slot; kind = c.slots-read.result.kind; id = c.slots-read.result.id } in
    stands_by_slot c.args.edited.graph.now c.args.edited.front.now c.args.o c.args.i s c.slots-read.result.target c.slot.result c.slots-read.ensures.entry
    c.slots-read.ensures.target (sym c.is_some.ensures ∙ c.if-is_some.true)
    (c.slot.ensures s c.slots-read.ensures.entry refl
    ∙ c.requires.slots c.args.o c.args.i s (omega (arith, c.if-o-objects.false, c.objects.ensures)) c.slots-read.ensures.entry)
