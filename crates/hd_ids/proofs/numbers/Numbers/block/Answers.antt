use Rattle.std.proofs.Common.{◌≡◌, ◌∙◌, ℕ, ◌+◌, ◌*◌, ◌/◌, ◌%◌, ◌<◌, ◌≤◌, ◌^◌, false, List, length, get_or, ap, sym, arith}
use Rattle.hd_ids.specs.declared.block.Block.{Block}
use Rattle.hd_ids.specs.Numbers.{block_at, is_scattered, no_numbers, number_by, number_at}
use Rattle.hd_ids.proofs.NumberLemmas.{length-numbers, at-slot, by-follows, read-block}
use Rattle.hd_ids.proofs.numbers.Numbers.block.Goals as goal

pub index-requires : goal.index-requires
index-requires c =
    let a = c.self.inside in
    omega (arith, c.requires, a.blocks.ok.0, length-numbers a.blocks.items a.scattered.items, ap length c.self.view_is)

pub returns-clause-low : goal.returns-clause-low
returns-clause-low c =
    let a = c.self.inside in
    let lt : c.args.index < length a.blocks.items = omega (arith, c.requires, length-numbers a.blocks.items a.scattered.items, ap length c.self.view_is) in
    let block = read-block a.blocks.items c.args.index c.index.result.now lt c.index.ensures in
    let low : (block_at a.blocks.items c.args.index).first ≤ 2 ^ 31 = c.self.invariant.low c.args.index no_numbers lt in
    omega (arith, low, ap (λ (b : Block). b.first) block)

pub returns-clause-numbers : goal.returns-clause-numbers
returns-clause-numbers c follows place within =
    let a = c.self.inside in
    let i = c.args.index in
    let slot : ℕ = i * 32 + place in
    let lt : i < length a.blocks.items = omega (arith, c.requires, length-numbers a.blocks.items a.scattered.items, ap length c.self.view_is) in
    let block = read-block a.blocks.items i c.index.result.now lt c.index.ensures in
    let same : is_scattered (block_at a.blocks.items i) ≡ false = ap is_scattered (sym block) ∙ follows in
    let here : slot / 32 ≡ i = omega (arith, within) in
    let there : slot % 32 ≡ place = omega (arith, within) in
    ap (λ (ns : List ℕ). get_or ns slot 0) (sym c.self.view_is)
    ∙ at-slot a.blocks.items a.scattered.items slot (omega (arith, lt, within))
    ∙ ap (λ (k : ℕ). number_at a.blocks.items a.scattered.items slot) here
    ∙ rw (here, there) (by-follows a.scattered.items (block_at a.blocks.items i) place same)
    ∙ ap (λ (b : Block). number_by b place) (sym block)
