use Rattle.std.proofs.Common.{◌∙◌, ℕ, ◌+◌, ◌-◌, ◌*◌, ◌/◌, ◌%◌, ◌<◌, List, length, slice_set, ap, arith}
use Rattle.hd_ids.specs.declared.block.Block.{Block}
use Rattle.hd_ids.specs.Numbers.{numbers_of}
use Rattle.hd_ids.proofs.NumberLemmas.{length-numbers, read-block, number-changed}
use Rattle.hd_ids.proofs.numbers.Numbers.set_scattered.Goals as goal

pub scatter-requires-clause-within : goal.scatter-requires-clause-within
scatter-requires-clause-within c =
    let a = c.self.inside in
    omega (arith, c.requires, length-numbers a.blocks.items a.scattered.items, ap length c.self.view_is)

pub returns-clause-ok : goal.returns-clause-ok
returns-clause-ok c =
    let a = c.self.inside in
    let slot = c.args.slot in
    let blocks = c.scatter.new.blocks.items in
    let scattered = c.scatter.new.scattered.items in
    let lt : slot < length blocks * 32 =
    omega (arith, c.requires, c.scatter.ensures.count, length-numbers a.blocks.items a.scattered.items, ap length c.self.view_is) in
    let block = read-block blocks (slot / 32) c.index.result.now (omega (arith, lt)) c.index.ensures in
    ap (λ (b : Block). numbers_of blocks (slice_set scattered ((b.first - 1) * 32 + slot % 32) c.args.number)) block
    ∙ number-changed blocks scattered slot c.args.number lt c.scatter.ensures.kept c.in_ok-scatter.ensures.scattered
    ∙ ap (λ (ns : List ℕ). slice_set ns slot c.args.number) (c.scatter.ensures.same ∙ c.self.view_is)
