use Rattle.std.proofs.Common.{◌∙◌, sym, arith}
use Rattle.hd_settled.proofs.Checked.{refuted, refuted_other, decided_alike, without_source, without_slot, without_edge, elsewhere, explained}
use Rattle.hd_settled.proofs.checking.edge_supports.Goals as goal

pub returns-then-source-objects : goal.returns-then-source-objects
returns-then-source-objects c =
    refuted (λ (e, s). without_source c.args.edited.graph.now c.args.edited.front.now c.args.strengths.now c.args.o c.args.source c.args.slot
    (omega (arith, c.objects.ensures)) e s)

pub returns-in_default : goal.returns-in_default
returns-in_default c =
    refuted (λ (e, s). without_slot c.args.edited.graph.now c.args.edited.front.now c.args.source c.args.slot c.slot_index.result c.slot_index.ensures.first
    c.slot_index.ensures.only c.args.strengths.now c.args.o c.in_default.is e s)

pub returns-in_default-standing_read : goal.returns-in_default-standing_read
returns-in_default-standing_read c =
    refuted (λ (e, s).
    without_edge c.args.edited.graph.now c.args.edited.front.now c.args.source c.args.slot c.slot_index.result c.slot_index.ensures.first
    c.slot_index.ensures.only c.args.strengths.now c.args.o c.in-Some.index c.in-Some.is
    (sym c.in_default-standing_read.is ∙ c.standing_read.ensures.edge) e s)

pub returns-then-read-o : goal.returns-then-read-o
returns-then-read-o c =
    decided_alike c.explains.result c.explains.ensures
    (explained c.args.edited.graph.now c.args.edited.front.now c.args.source c.args.slot c.slot_index.result c.slot_index.ensures.first
    c.slot_index.ensures.only c.args.strengths.now c.args.o c.in-Some.index c.in-Some-standing_read.read c.in-Some.is
    (sym c.in-Some-standing_read.is ∙ c.standing_read.ensures.edge) c.if-read-o.true)

pub returns-else-read-o : goal.returns-else-read-o
returns-else-read-o c =
    refuted_other c.in-Some-standing_read.read.target c.args.o c.if-read-o.false (λ (e, s).
    elsewhere c.args.edited.graph.now c.args.edited.front.now c.args.source c.args.slot c.slot_index.result c.slot_index.ensures.first c.slot_index.ensures.only
    c.args.strengths.now c.args.o c.in-Some.index c.in-Some-standing_read.read c.in-Some.is
    (sym c.in-Some-standing_read.is ∙ c.standing_read.ensures.edge) c.if-read-o.false e s)
