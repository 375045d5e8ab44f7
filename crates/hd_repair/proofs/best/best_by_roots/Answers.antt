use Rattle.std.proofs.Common.{◌∙◌, ◌<◌, length, arith}
use Rattle.hd_edges.specs.Marks.{marked_root}
use Rattle.hd_repair.proofs.BestLemmas.{root_stands, root_falls}
use Rattle.hd_repair.proofs.best.best_by_roots.Goals as goal
use Rattle.hd_repair.proofs.best.best_by_roots.Goals.{then-mark, else-mark}

pub loop-i-preserved : goal.loop-i-preserved
loop-i-preserved g c =
    let rows = g.E.Edges.rows in
    let lt : c.loop-i.i < length ((rows c.args.edges.now).roots c.args.o) = omega arith in
    record {
      same = c.root-mark.ensures.same ∙ c.loop-i.invariant.same;
      looks = omega (arith, c.root-mark.ensures.counted, c.loop-i.invariant.looks);
      best = elim c.if-mark.branch [
        | then-mark w ↦ rw w.best-is
            (root_stands (rows c.args.edges.now) (rows c.loop-i.edges) c.loop-i.invariant.same
            (g.met.E.Edges.lawful c.loop-i.edges) c.args.kept.now c.args.o c.loop-i.i
            (marked_root c.root-mark.result) lt c.root-mark.ensures.value c.loop-i.best c.loop-i.invariant.best w.if-mark.true)
        | else-mark w ↦ rw w.best-is
            (root_falls (rows c.args.edges.now) (rows c.loop-i.edges) c.loop-i.invariant.same
            (g.met.E.Edges.lawful c.loop-i.edges) c.args.kept.now c.args.o c.loop-i.i
            (marked_root c.root-mark.result) lt c.root-mark.ensures.value c.loop-i.best c.loop-i.invariant.best w.if-mark.false)
      ];
    }
