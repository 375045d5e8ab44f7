use Rattle.hd_repair.proofs.MarkingLemmas.{AreSummed}
use Rattle.hd_repair.proofs.marking.is_large.Given as goal

-- the sum is of different objects that are inside
abbrev pub invariant-loop-o : goal.invariant-loop-o
invariant-loop-o g l = AreSummed (g.E.Edges.rows l.edges) l.marks.known.items l.o l.sum
