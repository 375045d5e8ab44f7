use Rattle.std.proofs.Common.{◌≡◌, ◌∙◌, ◌*◌, ◌/◌, false, ◌++◌, length, map, ap, sym, arith}
use Rattle.std.specs.List.{range_with_len}
use Rattle.hd_ids.specs.declared.block.Block.{Block}
use Rattle.hd_ids.specs.Numbers.{block_at, is_scattered, number_by}
use Rattle.hd_ids.proofs.NumberLemmas.{read-block, same-numbers, spread-kept}
use Rattle.hd_ids.proofs.numbers.scatter.Goals as goal

pub returns-clause-kept : goal.returns-clause-kept
returns-clause-kept c =
    let blocks = c.args.blocks.now.items in
    let scattered = c.args.scattered.now.items in
    let i = c.args.index in
    let row = c.len-row.result / 32 in
    let block = read-block blocks i c.index-block.result.now c.requires.within c.index-block.ensures in
    let none : is_scattered (block_at blocks i) ≡ false = ap is_scattered (sym block) ∙ sym c.is_scattered.ensures ∙ c.if-is_scattered.false in
    let end : length scattered ≡ row * 32 = omega (arith, c.requires.kept.whole, c.len-row.ensures, c.args.scattered.now.ok.0) in
    rw (c.in_ok-push_row.ensures.ok ∙ ap (λ (b : Block). scattered ++ map (number_by b) (range_with_len 0 32)) block)
    (spread-kept blocks scattered i row c.requires.within c.requires.kept none end (omega (arith, c.if-row-ge-MOST_SCATTERED.false)))

pub returns-clause-same : goal.returns-clause-same
returns-clause-same c =
    let blocks = c.args.blocks.now.items in
    let scattered = c.args.scattered.now.items in
    let i = c.args.index in
    let row = c.len-row.result / 32 in
    let block = read-block blocks i c.index-block.result.now c.requires.within c.index-block.ensures in
    let none : is_scattered (block_at blocks i) ≡ false = ap is_scattered (sym block) ∙ sym c.is_scattered.ensures ∙ c.if-is_scattered.false in
    let end : length scattered ≡ row * 32 = omega (arith, c.requires.kept.whole, c.len-row.ensures, c.args.scattered.now.ok.0) in
    rw (c.in_ok-push_row.ensures.ok ∙ ap (λ (b : Block). scattered ++ map (number_by b) (range_with_len 0 32)) block)
    (same-numbers blocks scattered i row c.requires.within c.requires.kept none end)
