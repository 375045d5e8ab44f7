use Rattle.std.proofs.Common.{◌≡◌, ◌+◌, ◌≤◌, take, []}
use Rattle.hd_repair.specs.Spreading.{IsBestSoFar}
use Rattle.hd_repair.proofs.best.best_by_roots.Given as goal

abbrev pub invariant-loop-i : goal.invariant-loop-i
invariant-loop-i g l = record {
  same : g.E.Edges.rows l.edges ≡ g.E.Edges.rows l.fn.edges;
  looks : g.E.Edges.look_count l.edges ≤ g.E.Edges.look_count l.fn.edges + l.i;
  best : IsBestSoFar (g.E.Edges.rows l.fn.edges).standing l.kept l.o (take l.i ((g.E.Edges.rows l.fn.edges).roots l.o)) [] l.best;
}
