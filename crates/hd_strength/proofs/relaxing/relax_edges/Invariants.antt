use Rattle.hd_strength.proofs.Going.{HasLooked}
use Rattle.hd_strength.proofs.relaxing.relax_edges.Given as goal

-- the slots so far are looked at
abbrev pub invariant-loop-index : goal.invariant-loop-index
invariant-loop-index l = HasLooked l.fn.edited.graph.now l.fn.edited.front.now l.fn.strength l.fn.part l.part l.fn.o l.index
