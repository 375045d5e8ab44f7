use Rattle.std.proofs.Common.{◌∙◌, ◌+◌, ◌≤◌, ◌^◌, ◌++◌, List, ℕ, replicate, length, ap, arith}
use Rattle.hd_ids.proofs.NumberLemmas.{blocks-added, longer-kept, length-numbers}
use Rattle.hd_ids.proofs.numbers.Numbers.add_row.Goals as goal

pub invariant_of-self-2 : goal.invariant_of-self-2
invariant_of-self-2 c =
    let a = c.self.inside in
    let fits : length a.blocks.items + 16 ≤ 2 ^ 27 = omega (arith, c.requires, length-numbers a.blocks.items a.scattered.items, ap length c.self.view_is) in
    rw c.in_ok-push_blocks.ensures.ok (longer-kept a.blocks.items a.scattered.items 16 c.self.invariant fits)

pub returns-clause-ok : goal.returns-clause-ok
returns-clause-ok c =
    let a = c.self.inside in
    rw c.in_ok-push_blocks.ensures.ok (blocks-added a.blocks.items a.scattered.items 16 c.self.invariant)
    ∙ ap (λ (ns : List ℕ). ns ++ replicate 512 0) c.self.view_is
