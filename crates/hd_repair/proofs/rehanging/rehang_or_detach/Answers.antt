-- It begins with what the lost items held, and settles objects that wait: some, and then all at once (`fall`).
-- In between it may end with the marks of a large region.
use Rattle.std.proofs.Common.{arith}
use Rattle.hd_repair.proofs.rehanging.rehang_or_detach.Goals as goal

pub settle_waiting-requires : goal.settle_waiting-requires
settle_waiting-requires g c = c.in_ok-losing.ensures.halfway (g.E.Edges.rows c.args.edges.now) c.requires.count c.requires.settled

pub returns-2-clause-done : goal.returns-2-clause-done
returns-2-clause-done g c =
    let r = g.E.Edges.rows c.args.edges.now in
    let same = c.in_ok-settle_waiting.ensures.same in
    let looks = rw same at c.in_ok-fall.ensures.looks in
    record {
      few = omega (arith, c.in_ok-settle_waiting.ensures.looks, looks, c.in_ok-losing.ensures.none r);
      none = c.in_ok-fall.ensures.none;
      underway = rw same at c.in_ok-fall.ensures.underway;
      since = c.in_ok-fall.ensures.since c.args.kept.now c.args.lost.now (c.in_ok-settle_waiting.ensures.since c.args.kept.now c.args.lost.now
          (c.in_ok-losing.ensures.since r c.requires.count c.requires.settled));
      sought = rw same at c.in_ok-fall.ensures.sought;
    }
