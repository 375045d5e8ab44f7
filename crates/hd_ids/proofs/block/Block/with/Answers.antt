use Rattle.std.proofs.Common.{◌≡◌, ◌∙◌, inl, inr, false, ◌+◌, ◌*◌, ◌%◌, ◌<◌, ◌^◌, refl, arith}
use Rattle.std.specs.Prelude.{count_ones}
use Rattle.std.proofs.lemmas.Nat.{pow_pos, one_shl, ones_le_self}
use Rattle.hd_ids.specs.Numbers.{is_scattered}
use Rattle.hd_ids.proofs.BlockLemmas.{with-number, low-by-quotient, some-follows}
use Rattle.hd_ids.proofs.block.Block.with.Goals as goal

pub returns-then-self-eq0 : goal.returns-then-self-eq0
returns-then-self-eq0 c =
    let b = c.args.self in
    let place = c.args.place in
    let low : b.mask < 2 ^ place = omega (arith, c.if-self-eq0.true, pow_pos place) in
    let bit : (1 * 2 ^ place) % 2 ^ 32 ≡ b.mask + 2 ^ place = one_shl place 32 c.requires.place ∙ omega (arith, c.if-self-eq0.true) in
    let follows : is_scattered b ≡ false = rw (c.if-self-ne0.false, c.if-self-eq0.true) refl in
    let none : count_ones b.mask ≡ 0 = omega (arith, ones_le_self b.mask, c.if-self-eq0.true) in
    rw bit (with-number b place c.args.number c.args.number low follows (inr c.if-self-eq0.true) (omega (arith, none)) c.requires.low_number)

pub returns : goal.returns
returns c =
    let b = c.args.self in
    let place = c.args.place in
    let low : b.mask < 2 ^ place = low-by-quotient b.mask place c.if-self-place-ne0.false in
    let bit : (1 * 2 ^ place) % 2 ^ 32 ≡ 2 ^ place = one_shl place 32 c.requires.place in
    rw bit (with-number b place c.args.number b.first low (some-follows b.mask b.first c.if-self-eq0.false) (inl refl) c.if-self-number.false c.requires.low)
