use Rattle.std.proofs.Common.{◌∙◌, ◌<◌, length, arith}
use Rattle.hd_edges.specs.Marks.{marked_edge}
use Rattle.hd_repair.proofs.FallLemmas.{from_step}
use Rattle.hd_repair.proofs.OutLemmas.{entry_within}
use Rattle.hd_repair.proofs.falling.add_below.Goals as goal

pub add_if_below-requires : goal.add_if_below-requires
add_if_below-requires g c =
    let rows = g.E.Edges.rows in
    let lt : c.loop-i.i < length ((rows c.args.edges.now).out c.args.o) = omega arith in
    (entry_within (rows c.args.edges.now) (rows c.loop-i.edges) c.loop-i.invariant.same (g.met.E.Edges.lawful c.loop-i.edges) c.args.kept.now c.args.o
    c.loop-i.i (marked_edge c.out-edge.result) lt c.out-edge.ensures.value (length c.args.kept.now) c.requires.count c.requires.object).target

pub loop-i-preserved : goal.loop-i-preserved
loop-i-preserved g c =
    let rows = g.E.Edges.rows in
    let lt : c.loop-i.i < length ((rows c.args.edges.now).out c.args.o) = omega arith in
    record {
      same = c.out-edge.ensures.same ∙ c.loop-i.invariant.same;
      looks = omega (arith, c.out-edge.ensures.counted, c.loop-i.invariant.looks);
      below = from_step (rows c.args.edges.now) (rows c.loop-i.edges) c.loop-i.invariant.same (g.met.E.Edges.lawful c.loop-i.edges) c.args.kept.now c.args.o
          c.loop-i.i (marked_edge c.out-edge.result) lt c.out-edge.ensures.value c.args.below.now.items c.loop-i.below.items c.add_if_below.new.below.items
          c.in_ok-add_if_below.ensures c.loop-i.invariant.below;
    }
