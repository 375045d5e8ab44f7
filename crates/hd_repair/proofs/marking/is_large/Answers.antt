-- The sum is of different objects of the region, so it is no more than the degree of the region.
use Rattle.std.proofs.Common.{arith}
use Rattle.hd_repair.proofs.MarkingLemmas.{none_summed, one_passed, one_summed, summed_within}
use Rattle.hd_repair.proofs.marking.is_large.Goals as goal
use Rattle.hd_repair.proofs.marking.is_large.Goals.{then-is_inside, else-is_inside}

pub loop-o-init : goal.loop-o-init
loop-o-init g c = none_summed (g.E.Edges.rows c.args.edges.now) c.args.marks.now.known.items

pub returns-then-saturating_add-looks : goal.returns-then-saturating_add-looks
returns-then-saturating_add-looks g c is region all =
    let r = g.E.Edges.rows c.args.edges.now in
    let within = summed_within r c.args.marks.now.known.items c.loop-o.o c.loop-o.sum c.loop-o.invariant c.in-Some.looks
    (omega (arith, c.if-saturating_add-looks.true, c.saturating_add.ensures)) region all in
    omega (arith, within, c.in-Some.ensures, c.looks.ensures)

pub loop-o-preserved : goal.loop-o-preserved
loop-o-preserved g c =
    let r = g.E.Edges.rows c.args.edges.now in
    let known = c.args.marks.now.known.items in
    elim c.if-is_inside.branch [
      | then-is_inside w ↦ rw w.sum-is (one_summed r known c.loop-o.o c.loop-o.sum c.loop-o.invariant w.saturating_add-sum.result
          (c.is_inside.ensures.yes w.if-is_inside.true)
          (omega (arith, w.saturating_add-sum.ensures, w.edges_of.ensures)))
      | else-is_inside w ↦ rw w.sum-is (one_passed r known c.loop-o.o c.loop-o.sum c.loop-o.invariant)
    ]

pub returns : goal.returns
returns g c is region all =
    let r = g.E.Edges.rows c.args.edges.now in
    let within = summed_within r c.args.marks.now.known.items c.loop-o.o c.loop-o.sum c.loop-o.invariant c.in-Some.looks
    (omega (arith, c.if-saturating_add-looks-2.false, c.saturating_add-2.ensures)) region all in
    omega (arith, within, c.in-Some.ensures, c.looks.ensures)
