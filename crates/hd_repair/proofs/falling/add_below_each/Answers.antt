use Rattle.std.proofs.Common.{◌≡◌, ◌∙◌, ◌<◌, length, get_or, arith}
use Rattle.std.proofs.lemmas.List.{take_more}
use Rattle.std.proofs.lemmas.List.Sums.{sum_by_more}
use Rattle.hd_repair.specs.Losing.{targets_of}
use Rattle.hd_repair.proofs.FallLemmas.{more_below}
use Rattle.hd_repair.proofs.falling.add_below_each.Goals as goal

pub loop-o-preserved : goal.loop-o-preserved
loop-o-preserved g c =
    let rows = g.E.Edges.rows in
    let r = rows c.args.edges.now in
    let same : rows c.loop-o.edges ≡ r = c.loop-o.invariant.same in
    let i = c.loop-o.o-index in
    let xs = c.args.objects.now in
    let lt : i < length xs = omega arith in
    let looks = rw same at c.add_below.ensures.looks in
    record {
      same = c.add_below.ensures.same ∙ same;
      looks = omega (arith, sum_by_more (targets_of r) xs i 0 lt, looks, c.loop-o.invariant.looks);
      below = rw (take_more xs i 0 lt) (more_below r c.args.kept.now _ (get_or xs i 0) c.args.below.now.items c.loop-o.below.items c.add_below.new.below.items
          c.loop-o.invariant.below (rw same at c.in_ok-add_below.ensures.below));
    }
