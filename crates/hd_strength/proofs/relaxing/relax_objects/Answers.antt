use Rattle.std.proofs.Common.{inr}
use Rattle.hd_strength.proofs.Going.{one_more}
use Rattle.hd_strength.proofs.relaxing.relax_objects.Goals as goal

pub returns-then-not-branch : goal.returns-then-not-branch
returns-then-not-branch c =
    one_more c.args.edited.graph.now c.args.edited.front.now c.args.strength c.args.part.now c.loop-passed.part c.relax_next.new.part c.loop-passed.passed
    c.loop-passed.invariant c.in_ok-relax_next.ensures

pub loop-passed-preserved : goal.loop-passed-preserved
loop-passed-preserved c =
    inr (one_more c.args.edited.graph.now c.args.edited.front.now c.args.strength c.args.part.now c.loop-passed.part c.relax_next.new.part c.loop-passed.passed
    c.loop-passed.invariant c.in_ok-relax_next.ensures)
