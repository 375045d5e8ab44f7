use Rattle.std.proofs.Common.{◌+◌, List, ℕ, get_or, subst, sym, arith}
use Rattle.hd_parts.proofs.FirstLemmas.{FirstsSoFar, next-fits, firsts-more, firsts-all}
use Rattle.hd_parts.proofs.part_index.firsts_by.Goals as goal

pub overflow_add-end : goal.overflow_add-end
overflow_add-end c =
    let fits = next-fits c.args.lens.now c.loop-len.firsts.items c.loop-len.end c.loop-len.len-index c.loop-len-test.true c.loop-len.invariant in
    omega (arith, fits, c.requires)

pub loop-len-preserved : goal.loop-len-preserved
loop-len-preserved c =
    let end = c.loop-len.end + get_or c.args.lens.now c.loop-len.len-index 0 in
    subst (λ (firsts : List ℕ). FirstsSoFar c.args.lens.now firsts end (c.loop-len.len-index + 1)) (sym c.in_ok-push-2.ensures.items)
    (firsts-more c.args.lens.now c.loop-len.firsts.items c.loop-len.end c.loop-len.len-index c.loop-len-test.true c.loop-len.invariant)

pub returns : goal.returns
returns c = firsts-all c.args.lens.now c.loop-len.firsts.items c.loop-len.end c.loop-len.len-index c.loop-len-test.false c.loop-len.invariant
