use Rattle.std.proofs.Common.{◌+◌, ◌≤◌, arith}
use Rattle.std.proofs.lemmas.Nat.{mul-le}
use Rattle.hd_graph.proofs.OpenLemmas.{length-le-weight}
use Rattle.hd_graph.proofs.sharing.make_part.Goals as goal

pub overflow_mul-first : goal.overflow_mul-first
overflow_mul-first c =
    let few : c.len.result ≤ 2147483647 = omega (arith, c.len.ensures, length-le-weight c.args.list.now, c.requires.within.few) in
    omega (arith, mul-le c.len.result c.args.part 2147483647 16 few (omega (arith, c.requires.part, c.requires.few)))

pub overflow_mul-end : goal.overflow_mul-end
overflow_mul-end c =
    let few : c.len-2.result ≤ 2147483647 = omega (arith, c.len-2.ensures, length-le-weight c.args.list.now, c.requires.within.few) in
    omega (arith, mul-le c.len-2.result (c.args.part + 1) 2147483647 16 few (omega (arith, c.requires.part, c.requires.few)))
