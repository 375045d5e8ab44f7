use Rattle.std.proofs.Common.{◌≡◌, ◌+◌, ◌≤◌, take, sum_by}
use Rattle.hd_repair.specs.Losing.{targets_of}
use Rattle.hd_repair.specs.Spreading.{OffersFrom}
use Rattle.hd_repair.proofs.offering.offer_out_of_each.Given as goal

-- the objects so far are done
abbrev pub invariant-loop-o : goal.invariant-loop-o
invariant-loop-o g l =
    let r = g.E.Edges.rows l.fn.edges in
    record {
      same : g.E.Edges.rows l.edges ≡ r;
      looks : g.E.Edges.look_count l.edges ≤ g.E.Edges.look_count l.fn.edges + sum_by (targets_of r) (take l.o-index l.objects);
      offers : OffersFrom r l.kept (take l.o-index l.objects) l.fn.offers l.offers;
    }
