use Rattle.std.proofs.Common.{map}
use Rattle.hd_strength.specs.Found.{only_strength}
use Rattle.hd_queries.specs.Totals.{AreCounted}
use Rattle.hd_queries.proofs.totals.count_part.Given as goal

-- the totals of the objects so far
abbrev pub invariant-loop-o : goal.invariant-loop-o
invariant-loop-o l = AreCounted l.graph (map only_strength l.strengths) l.start l.o l.totals
