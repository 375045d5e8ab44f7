-- The block of the place tells its number, by its bits and its first number, or by its row where it is scattered.
-- A block without numbers tells 0.
use Rattle.std.proofs.Common.{◌≡◌, ◌∙◌, ℕ, ◌+◌, ◌-◌, ◌*◌, ◌/◌, ◌%◌, ◌<◌, ◌≤◌, ◌^◌, true, false, List, length, get_or, ap, sym, arith, refl, ne_eqb}
use Rattle.std.proofs.lemmas.Grind.{get_or_default_zero}
use Rattle.hd_ids.specs.declared.block.Block.{Block}
use Rattle.hd_ids.specs.Numbers.{block_at, is_scattered, no_numbers, number_by}
use Rattle.hd_ids.proofs.BlockLemmas.{some-follows, no-number}
use Rattle.hd_ids.proofs.NumberLemmas.{length-numbers, at-slot, by-row, by-follows, place-within, read-block}
use Rattle.hd_ids.proofs.numbers.Numbers.get.Goals as goal

pub index-block-requires : goal.index-block-requires
index-block-requires c =
    let a = c.self.inside in
    omega (arith, c.requires, a.blocks.ok.0, length-numbers a.blocks.items a.scattered.items, ap length c.self.view_is)

pub number-requires-clause-low : goal.number-requires-clause-low
number-requires-clause-low c =
    let a = c.self.inside in
    let lt : c.args.slot / 32 < length a.blocks.items = omega (arith, c.requires, length-numbers a.blocks.items a.scattered.items, ap length c.self.view_is) in
    let block = read-block a.blocks.items (c.args.slot / 32) c.index-block.result.now lt c.index-block.ensures in
    let low : (block_at a.blocks.items (c.args.slot / 32)).first ≤ 2 ^ 31 = c.self.invariant.low (c.args.slot / 32) no_numbers lt in
    omega (arith, low, ap (λ (b : Block). b.first) block)

pub returns-then-block-ne0 : goal.returns-then-block-ne0
returns-then-block-ne0 c =
    let a = c.self.inside in
    let slot = c.args.slot in
    let read = c.index-block.result.now in
    let lt : slot < length a.blocks.items * 32 = omega (arith, c.requires, length-numbers a.blocks.items a.scattered.items, ap length c.self.view_is) in
    let block = read-block a.blocks.items (slot / 32) read (omega (arith, lt)) c.index-block.ensures in
    let follows : is_scattered (block_at a.blocks.items (slot / 32)) ≡ false = ap is_scattered (sym block)
    ∙ some-follows read.mask read.first c.if-block-ne0.true in
    c.number.ensures
    ∙ ap (λ (b : Block). number_by b (slot % 32)) block
    ∙ sym (by-follows a.scattered.items (block_at a.blocks.items (slot / 32)) (slot % 32) follows)
    ∙ sym (at-slot a.blocks.items a.scattered.items slot lt)
    ∙ ap (λ (ns : List ℕ). get_or ns slot 0) c.self.view_is

pub returns-then-block-eq0 : goal.returns-then-block-eq0
returns-then-block-eq0 c =
    let a = c.self.inside in
    let slot = c.args.slot in
    let read = c.index-block.result.now in
    let lt : slot < length a.blocks.items * 32 = omega (arith, c.requires, length-numbers a.blocks.items a.scattered.items, ap length c.self.view_is) in
    let block = read-block a.blocks.items (slot / 32) read (omega (arith, lt)) c.index-block.ensures in
    let follows : is_scattered (block_at a.blocks.items (slot / 32)) ≡ false = ap is_scattered (sym block)
    ∙ rw (c.if-block-ne0.false, c.if-block-eq0.true) refl in
    let none : number_by read (slot % 32) ≡ 0 = rw c.if-block-ne0.false (no-number read.first (slot % 32)) in
    sym none
    ∙ ap (λ (b : Block). number_by b (slot % 32)) block
    ∙ sym (by-follows a.scattered.items (block_at a.blocks.items (slot / 32)) (slot % 32) follows)
    ∙ sym (at-slot a.blocks.items a.scattered.items slot lt)
    ∙ ap (λ (ns : List ℕ). get_or ns slot 0) c.self.view_is

pub index-requires : goal.index-requires
index-requires c =
    let a = c.self.inside in
    let read = c.index-block.result.now in
    let lt : c.args.slot < length a.blocks.items * 32 = omega (arith, c.requires, length-numbers a.blocks.items a.scattered.items, ap length c.self.view_is) in
    let block = read-block a.blocks.items (c.args.slot / 32) read (omega (arith, lt)) c.index-block.ensures in
    let in_row : is_scattered (block_at a.blocks.items (c.args.slot / 32)) ≡ true = ap is_scattered (sym block)
    ∙ rw (c.if-block-ne0.false, ne_eqb read.first 0 c.if-block-eq0.false) refl in
    omega (arith, place-within a.blocks.items a.scattered.items c.args.slot 0 lt c.self.invariant in_row, ap (λ (b : Block). b.first) block, a.scattered.ok.0)

pub returns : goal.returns
returns c =
    let a = c.self.inside in
    let slot = c.args.slot in
    let read = c.index-block.result.now in
    let lt : slot < length a.blocks.items * 32 = omega (arith, c.requires, length-numbers a.blocks.items a.scattered.items, ap length c.self.view_is) in
    let block = read-block a.blocks.items (slot / 32) read (omega (arith, lt)) c.index-block.ensures in
    let in_row : is_scattered (block_at a.blocks.items (slot / 32)) ≡ true = ap is_scattered (sym block)
    ∙ rw (c.if-block-ne0.false, ne_eqb read.first 0 c.if-block-eq0.false) refl in
    let there = place-within a.blocks.items a.scattered.items slot 0 lt c.self.invariant in_row in
    c.index.ensures
    ∙ ap (λ (b : Block). get_or a.scattered.items ((b.first - 1) * 32 + slot % 32) c.index.result.now) block
    ∙ get_or_default_zero a.scattered.items (((block_at a.blocks.items (slot / 32)).first - 1) * 32 + slot % 32) c.index.result.now there
    ∙ sym (by-row a.scattered.items (block_at a.blocks.items (slot / 32)) (slot % 32) in_row)
    ∙ sym (at-slot a.blocks.items a.scattered.items slot lt)
    ∙ ap (λ (ns : List ℕ). get_or ns slot 0) c.self.view_is
