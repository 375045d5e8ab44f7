use Rattle.std.proofs.Common.{◌≡◌, ◌+◌, ◌-◌, ◌<◌, ◌≤◌, take, length, get_or, sum_by}
use Rattle.hd_repair.specs.Losing.{AreEarly, AreLifted, IsLifting, LateFrom, targets_of}
use Rattle.hd_repair.proofs.lifting.lift_below.Given as goal

-- what the objects before `next` support comes after them
abbrev pub invariant-follow : goal.invariant-follow
invariant-follow g l =
    let r = g.E.Edges.rows l.fn.edges in
    record {
      same : g.E.Edges.rows l.edges ≡ r;
      looks : g.E.Edges.look_count l.edges + sum_by (targets_of r) (take l.first l.fn.lifted.items) ≤ g.E.Edges.look_count l.fn.edges + sum_by
          (targets_of r) (take l.next l.lifted.items);
      count : length l.kept ≡ length l.fn.kept;
      next : l.next ≤ length l.lifted.items;
      lifting : IsLifting r l.kept l.lifted.items (LateFrom l.next l.lifted.items);
      changed : AreLifted l.fn.kept l.kept l.fn.lifted.items l.lifted.items;
    }

abbrev pub decreases-follow : goal.decreases-follow
decreases-follow g l = (g.E.Edges.rows l.fn.edges).objects - l.next

-- and what the edges so far support comes after this one
abbrev pub invariant-out : goal.invariant-out
invariant-out g l =
    let r = g.E.Edges.rows l.fn.edges in
    record {
      same : g.E.Edges.rows l.edges ≡ r;
      looks : g.E.Edges.look_count l.edges + sum_by (targets_of r) (take l.first l.fn.lifted.items) ≤ g.E.Edges.look_count l.fn.edges + sum_by
          (targets_of r) (take l.next l.lifted.items) + l.i;
      count : length l.kept ≡ length l.fn.kept;
      next : l.next < length l.lifted.items;
      source : get_or l.lifted.items l.next 0 ≡ l.source;
      lifting : IsLifting r l.kept l.lifted.items (LateFrom l.next l.lifted.items);
      changed : AreLifted l.fn.kept l.kept l.fn.lifted.items l.lifted.items;
      early : AreEarly l.kept l.source (take l.i (r.out l.source));
    }
