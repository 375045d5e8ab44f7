use Rattle.std.proofs.Common.{◌-◌, ◌≤◌}
use Rattle.hd_queries.specs.Moved.{AreMovesBetween}
use Rattle.hd_queries.proofs.moved.count_part.Given as goal

-- the objects so far are counted
abbrev pub invariant-loop-o : goal.invariant-loop-o
invariant-loop-o l = record {
  from : l.start ≤ l.o;
  within : l.o ≤ l.end;
  counted : AreMovesBetween l.graph l.compared.earlier.strengths.now l.compared.later.strengths.now l.start l.o l.totals.items;
}

abbrev pub decreases-loop-o : goal.decreases-loop-o
decreases-loop-o l = l.end - l.o
