use Rattle.std.proofs.Common.{rules, inl, inr}
use Rattle.hd_repair.proofs.best.better_by_edge.Goals as goal
use Rattle.hd_repair.proofs.best.better_by_edge.Goals.{else-rank-3-via-then-rank-3+else-not-comes_before, else-rank-3-via-else-rank-3}

pub returns-clause-which : goal.returns-clause-which
returns-clause-which c = inr (record {
  stands = search rules;
  passes_on = search rules;
  is = search rules;
  better = elim c.else-rank-3.branch [
    | else-rank-3-via-then-rank-3+else-not-comes_before w ↦ inr (w.comes_before.ensures (search rules))
    | else-rank-3-via-else-rank-3 w ↦ inl (search rules)
  ];
})
