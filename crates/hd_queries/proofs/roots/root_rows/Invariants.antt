use Rattle.std.proofs.Common.{◌≡◌}
use Rattle.hd_queries.specs.RootsShown.{rows_before}
use Rattle.hd_queries.proofs.roots.root_rows.Given as goal

-- the roots of the dump are there, and those that the first events add
abbrev pub invariant-loop-k : goal.invariant-loop-k
invariant-loop-k l = l.rows.items ≡ rows_before l.edited.graph.now l.edited.front.now l.k
