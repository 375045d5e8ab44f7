use Rattle.std.proofs.Common.{◌-◌, ◌≤◌}
use Rattle.hd_totals.specs.Counting.{totals_of}
use Rattle.hd_totals.specs.Fallen.{falls_from}
use Rattle.hd_queries.specs.Freed.{AreFreedBetween}
use Rattle.hd_queries.proofs.freed.count_part.Given as goal

-- the objects so far are counted
abbrev pub invariant-loop-o : goal.invariant-loop-o
invariant-loop-o l = record {
  from : l.start ≤ l.o;
  within : l.o ≤ l.end;
  counted : AreFreedBetween l.graph (falls_from l.compared.earlier.strengths.now l.compared.later.strengths.now) l.start l.o l.part.total
      (totals_of l.part.groups);
}

abbrev pub decreases-loop-o : goal.decreases-loop-o
decreases-loop-o l = l.end - l.o
