use Rattle.std.proofs.Common.{◌∙◌, sym}
use Rattle.hd_settled.proofs.Checked.{refuted, refuted_other, not_held, held_by_another, held_strongly}
use Rattle.hd_settled.proofs.checking.root_supports.Goals as goal

pub returns-in_default : goal.returns-in_default
returns-in_default c = refuted
    (λ s. not_held c.args.edited.graph.now c.args.edited.front.now c.args.r c.args.o (sym c.in_default.is ∙ c.held_object.ensures.held) s.0)

pub returns-then-held-o : goal.returns-then-held-o
returns-then-held-o c =
    held_strongly c.args.edited.graph.now c.args.edited.front.now c.args.strengths.now c.args.r c.in-Some.held c.args.o c.has_strength.result
    (sym c.in-Some.is ∙ c.held_object.ensures.held) c.if-held-o.true c.has_strength.ensures

pub returns-else-held-o : goal.returns-else-held-o
returns-else-held-o c =
    refuted_other c.in-Some.held c.args.o c.if-held-o.false
    (λ s. held_by_another c.args.edited.graph.now c.args.edited.front.now c.args.r c.in-Some.held c.args.o
    (sym c.in-Some.is ∙ c.held_object.ensures.held) c.if-held-o.false s.0)
