use Rattle.std.proofs.Common.{◌≡◌, ◌+◌, ◌≤◌, take, length}
use Rattle.hd_repair.specs.Spreading.{IsBestSoFar}
use Rattle.hd_repair.proofs.best.best_offer.Given as goal

abbrev pub invariant-loop-i : goal.invariant-loop-i
invariant-loop-i g l = record {
  same : g.E.Edges.rows l.edges ≡ g.E.Edges.rows l.fn.edges;
  looks : g.E.Edges.look_count l.edges ≤ g.E.Edges.look_count l.fn.edges + (length ((g.E.Edges.rows l.fn.edges).roots l.o) + l.i);
  best : IsBestSoFar (g.E.Edges.rows l.fn.edges).standing l.kept l.o ((g.E.Edges.rows l.fn.edges).roots l.o)
      (take l.i ((g.E.Edges.rows l.fn.edges).into l.o)) l.best;
}
