use Rattle.std.proofs.Common.{◌≡◌}
use Rattle.hd_view.specs.Finding.{edges_before}
use Rattle.hd_view.proofs.finding.edge_count.Given as goal

-- the edges among the first slots are counted
abbrev pub invariant-loop-i : goal.invariant-loop-i
invariant-loop-i l = l.edges ≡ edges_before l.graph l.o l.i
