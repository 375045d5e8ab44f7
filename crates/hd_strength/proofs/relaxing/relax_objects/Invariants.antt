use Rattle.hd_strength.proofs.Going.{HasBegun}
use Rattle.hd_strength.proofs.relaxing.relax_objects.Given as goal

-- nothing has changed yet, or the part has relaxed
abbrev pub invariant-loop-passed : goal.invariant-loop-passed
invariant-loop-passed l = HasBegun l.fn.edited.graph.now l.fn.edited.front.now l.fn.strength l.fn.part l.part l.passed
