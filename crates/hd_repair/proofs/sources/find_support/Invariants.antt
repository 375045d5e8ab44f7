use Rattle.std.proofs.Common.{◌≡◌, ◌+◌, ◌≤◌, length, IfSome}
use Rattle.hd_repair.specs.Hanging.{IsSupportFor}
use Rattle.hd_repair.proofs.sources.find_support.Given as goal

-- what is known so far is a support
abbrev pub invariant-loop-i : goal.invariant-loop-i
invariant-loop-i g l = record {
  same : g.E.Edges.rows l.edges ≡ g.E.Edges.rows l.fn.edges;
  looks : g.E.Edges.look_count l.edges ≤ g.E.Edges.look_count l.fn.edges + (length ((g.E.Edges.rows l.fn.edges).roots l.o) + l.i);
  best : IfSome l.best (λ by. IsSupportFor (g.E.Edges.rows l.fn.edges).standing l.kept l.o by);
}
