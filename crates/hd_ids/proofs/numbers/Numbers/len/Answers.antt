use Rattle.std.proofs.Common.{length, ap, arith}
use Rattle.hd_ids.proofs.NumberLemmas.{length-numbers}
use Rattle.hd_ids.proofs.numbers.Numbers.len.Goals as goal

pub overflow_mul-result : goal.overflow_mul-result
overflow_mul-result c = let a = c.self.inside in omega (arith, c.len.ensures, a.blocks.ok.0, c.self.invariant.few)

pub returns : goal.returns
returns c =
    let a = c.self.inside in
    omega (arith, c.len.ensures, a.blocks.ok.0, length-numbers a.blocks.items a.scattered.items, ap length c.self.view_is)
