use Rattle.std.proofs.Common.{arith}
use Rattle.hd_terms.specs.Dump.{SlotEntry}
use Rattle.hd_view.proofs.LostLemmas.{no_object_there, no_slot_there, by_name}
use Rattle.hd_view.proofs.lost.push_slot.Goals as goal

pub returns-then-o-objects-clause-all : goal.returns-then-o-objects-clause-all
returns-then-o-objects-clause-all c = no_object_there c.args.more.graph.now c.args.more.front.now c.args.less.front.now c.args.o c.args.i c.args.items.now.items
    (omega (arith, c.if-o-objects.true, c.objects.ensures))

pub returns-then-i-slots_len-clause-all : goal.returns-then-i-slots_len-clause-all
returns-then-i-slots_len-clause-all c = no_slot_there c.args.more.graph.now c.args.more.front.now c.args.less.front.now c.args.o c.args.i c.args.items.now.items
    (omega (arith, c.if-i-slots_len.true, c.slots_len.ensures))

pub returns-clause-all : goal.returns-clause-all
returns-clause-all c =
    let s : SlotEntry = record { slot = c.slots.result.slot; kind = c.slots.result.kind; id = c.slots.result.id } in
    by_name c.args.more.graph.now c.args.more.front.now c.args.less.front.now c.args.o c.args.i s c.push_edge.new.items.items c.slots.ensures.entry
    c.in_ok-push_edge.ensures.all
