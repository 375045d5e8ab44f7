use Rattle.std.proofs.Common.{◌∙◌, ◌<◌, length, ap, arith}
use Rattle.hd_terms.specs.EdgeRows.{Rows}
use Rattle.hd_edges.specs.Marks.{marked_edge}
use Rattle.hd_repair.proofs.BestLemmas.{in_within, edge_more}
use Rattle.hd_repair.proofs.best.best_offer.Goals as goal

pub better_by_edge-best-requires : goal.better_by_edge-best-requires
better_by_edge-best-requires g c =
    let rows = g.E.Edges.rows in
    let lt : c.loop-i.i < length ((rows c.args.edges.now).into c.args.o) =
    omega (arith, ap (λ (r : Rows). length (r.into c.args.o)) c.best_by_roots-best.ensures.same) in
    in_within (rows c.args.edges.now) (rows c.loop-i.edges) c.loop-i.invariant.same (g.met.E.Edges.lawful c.loop-i.edges) c.args.kept.now c.args.o c.loop-i.i
    (marked_edge c.into-edge.result) lt c.into-edge.ensures.value
    (length c.args.kept.now) c.requires.count c.requires.object

pub loop-i-preserved : goal.loop-i-preserved
loop-i-preserved g c =
    let rows = g.E.Edges.rows in
    let lt : c.loop-i.i < length ((rows c.args.edges.now).into c.args.o) =
    omega (arith, ap (λ (r : Rows). length (r.into c.args.o)) c.best_by_roots-best.ensures.same) in
    record {
      same = c.into-edge.ensures.same ∙ c.loop-i.invariant.same;
      looks = omega (arith, c.into-edge.ensures.counted, c.loop-i.invariant.looks);
      best = edge_more (rows c.args.edges.now) (rows c.loop-i.edges) c.loop-i.invariant.same
          (g.met.E.Edges.lawful c.loop-i.edges) c.args.kept.now c.args.o c.loop-i.i (marked_edge c.into-edge.result) lt c.into-edge.ensures.value
          c.mode-mode.result c.mode-mode.ensures ((rows c.args.edges.now).roots c.args.o) c.loop-i.best c.better_by_edge-best.result c.loop-i.invariant.best
          c.better_by_edge-best.ensures.least c.better_by_edge-best.ensures.covers c.better_by_edge-best.ensures.which;
    }
