use Rattle.std.proofs.Common.{◌≡◌}
use Rattle.hd_queries.specs.IntoShown.{rows_before}
use Rattle.hd_queries.proofs.into.into_rows.Given as goal

-- the rows of the first references are there
abbrev pub invariant-loop-i : goal.invariant-loop-i
invariant-loop-i l = l.rows.items ≡ rows_before l.edited.graph.now l.edited.front.now l.o l.i
