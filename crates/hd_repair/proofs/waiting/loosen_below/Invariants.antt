use Rattle.std.proofs.Common.{◌≡◌, ◌+◌, ◌≤◌, length, take}
use Rattle.hd_repair.specs.Alone.{AreFirst, IsFirstOr}
use Rattle.hd_repair.specs.Losing.{AreLoosened, IsFrom, SupportNone}
use Rattle.hd_repair.proofs.waiting.loosen_below.Given as goal

-- the edges so far are followed
abbrev pub invariant-loop-i : goal.invariant-loop-i
invariant-loop-i g l = record {
  same : g.E.Edges.rows l.edges ≡ g.E.Edges.rows l.fn.edges;
  looks : g.E.Edges.look_count l.edges ≤ g.E.Edges.look_count l.fn.edges + l.i;
  count : length l.kept ≡ length l.fn.kept;
  loosened : AreLoosened l.fn.kept l.kept l.fn.waiting.items l.waiting.items (IsFrom l.o);
  alone : AreFirst l.alone l.waiting.items (IsFirstOr (g.E.Edges.rows l.fn.edges) l.fn.waiting.items l.fn.alone l.o);
  none : SupportNone l.kept l.o (take l.i ((g.E.Edges.rows l.fn.edges).out l.o));
}
