-- Where the number follows those of its block, the block alone changes (`number-set`, `set-kept`).
-- Else it goes into the row of the block (`set_scattered`).
use Rattle.std.proofs.Common.{◌∙◌, ℕ, ◌*◌, ◌/◌, ◌%◌, ◌<◌, ◌≤◌, ◌^◌, List, length, slice_set, ap, subst, arith}
use Rattle.hd_ids.specs.declared.block.Block.{Block}
use Rattle.hd_ids.specs.Numbers.{block_at, no_numbers, IsBlockWith}
use Rattle.hd_ids.proofs.NumberLemmas.{length-numbers, read-block, number-set, set-kept}
use Rattle.hd_ids.proofs.numbers.Numbers.set.Goals as goal

pub index-block-requires : goal.index-block-requires
index-block-requires c =
    let a = c.self.inside in
    omega (arith, c.requires.within, a.blocks.ok.0, length-numbers a.blocks.items a.scattered.items, ap length c.self.view_is)

pub with-requires-clause-low : goal.with-requires-clause-low
with-requires-clause-low c =
    let a = c.self.inside in
    let lt : c.args.slot / 32 < length a.blocks.items =
    omega (arith, c.requires.within, length-numbers a.blocks.items a.scattered.items, ap length c.self.view_is) in
    let block = read-block a.blocks.items (c.args.slot / 32) c.index-block.result.now lt c.index-block.ensures in
    let low : (block_at a.blocks.items (c.args.slot / 32)).first ≤ 2 ^ 31 = c.self.invariant.low (c.args.slot / 32) no_numbers lt in
    omega (arith, low, ap (λ (b : Block). b.first) block)

pub index_mut-requires : goal.index_mut-requires
index_mut-requires c =
    let a = c.self.inside in
    omega (arith, c.requires.within, a.blocks.ok.0, length-numbers a.blocks.items a.scattered.items, ap length c.self.view_is)

pub invariant_of-self : goal.invariant_of-self
invariant_of-self c =
    let a = c.self.inside in
    let slot = c.args.slot in
    let lt : slot < length a.blocks.items * 32 = omega (arith, c.requires.within, length-numbers a.blocks.items a.scattered.items, ap length c.self.view_is) in
    let block = read-block a.blocks.items (slot / 32) c.index-block.result.now (omega (arith, lt)) c.index-block.ensures in
    let with_number = subst (λ (b : Block). IsBlockWith b (slot % 32) c.args.number c.in-Some.block) block c.in-Some.ensures in
    set-kept a.blocks.items a.scattered.items slot c.args.number c.in-Some.block lt with_number c.self.invariant

pub returns-in-Some-clause-ok : goal.returns-in-Some-clause-ok
returns-in-Some-clause-ok c =
    let a = c.self.inside in
    let slot = c.args.slot in
    let lt : slot < length a.blocks.items * 32 = omega (arith, c.requires.within, length-numbers a.blocks.items a.scattered.items, ap length c.self.view_is) in
    let block = read-block a.blocks.items (slot / 32) c.index-block.result.now (omega (arith, lt)) c.index-block.ensures in
    let with_number = subst (λ (b : Block). IsBlockWith b (slot % 32) c.args.number c.in-Some.block) block c.in-Some.ensures in
    number-set a.blocks.items a.scattered.items slot c.args.number c.in-Some.block lt with_number
    ∙ ap (λ (ns : List ℕ). slice_set ns slot c.args.number) c.self.view_is
