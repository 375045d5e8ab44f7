use Rattle.std.proofs.Common.{◌≡◌, ◌+◌, ◌-◌, ◌≤◌, [], length, take, sum_by}
use Rattle.hd_repair.specs.Losing.{targets_of}
use Rattle.hd_repair.proofs.FallLemmas.{IsFalling}
use Rattle.hd_repair.proofs.falling.fall.Given as goal

-- what hangs on the first ones that are gone is gone too, and the edges of those are looked at
abbrev pub invariant-loop-next : goal.invariant-loop-next
invariant-loop-next g l =
    let r = g.E.Edges.rows l.fn.edges in
    record {
      same : g.E.Edges.rows l.edges ≡ r;
      count : length l.kept ≡ length l.fn.kept;
      falling : IsFalling l.fn.losing.waiting.items l.fn.kept l.kept l.fn.losing.gone l.losing.gone l.next;
      looks : g.E.Edges.look_count l.edges + sum_by (targets_of r) l.fn.losing.gone.objects.items
          ≤ g.E.Edges.look_count l.fn.edges + sum_by (targets_of r) (take l.next l.losing.gone.objects.items);
      none : l.losing.waiting.items ≡ [];
      rehung : l.losing.rehung ≡ l.fn.losing.rehung;
      lifted : l.losing.lifted ≡ l.fn.losing.lifted;
      sought : l.losing.sought ≡ l.fn.losing.sought;
    }

-- each round looks at objects that weren't looked at
abbrev pub decreases-loop-next : goal.decreases-loop-next
decreases-loop-next g l = (g.E.Edges.rows l.fn.edges).objects - l.next
