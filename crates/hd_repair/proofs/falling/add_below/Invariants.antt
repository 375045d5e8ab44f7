use Rattle.std.proofs.Common.{◌≡◌, ◌+◌, ◌≤◌, take}
use Rattle.hd_repair.specs.Falling.{FindsFrom}
use Rattle.hd_repair.proofs.falling.add_below.Given as goal

-- the edges so far are looked at
abbrev pub invariant-loop-i : goal.invariant-loop-i
invariant-loop-i g l = record {
  same : g.E.Edges.rows l.edges ≡ g.E.Edges.rows l.fn.edges;
  looks : g.E.Edges.look_count l.edges ≤ g.E.Edges.look_count l.fn.edges + l.i;
  below : FindsFrom l.kept l.o (take l.i ((g.E.Edges.rows l.fn.edges).out l.o)) l.fn.below.items l.below.items;
}
