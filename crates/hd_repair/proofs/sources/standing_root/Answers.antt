use Rattle.std.proofs.Common.{◌<◌, length, arith}
use Rattle.hd_edges.specs.Marks.{marked_root}
use Rattle.hd_repair.proofs.SourceLemmas.{root_read}
use Rattle.hd_repair.proofs.sources.standing_root.Goals as goal

pub returns-then-mark-clause-root : goal.returns-then-mark-clause-root
returns-then-mark-clause-root g c =
    let rows = g.E.Edges.rows in
    let lt : c.loop-i.i < length ((rows c.args.edges.now).roots c.args.o) = omega arith in
    root_read (rows c.args.edges.now) (rows c.loop-i.edges) c.loop-i.invariant.same (g.met.E.Edges.lawful c.loop-i.edges) c.args.o c.loop-i.i
    (marked_root c.root-mark.result) lt c.root-mark.ensures.value c.if-mark.true
