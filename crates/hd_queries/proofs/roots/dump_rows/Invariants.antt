use Rattle.std.proofs.Common.{◌≡◌}
use Rattle.hd_queries.specs.RootsShown.{dump_rows}
use Rattle.hd_queries.proofs.roots.dump_rows.Given as goal

-- the first roots are there as the log leaves them
abbrev pub invariant-loop-r : goal.invariant-loop-r
invariant-loop-r l = l.rows.items ≡ dump_rows l.edited.graph.now l.edited.front.now l.r
