use Rattle.std.proofs.Common.{◌<◌, ◌≤◌, ◌*◌, ◌∙◌, sym, arith}
use Rattle.std.proofs.Math.Nat.{mul-le-mul_right}
use Rattle.hd_words.proofs.Digits.{digit_next, digit_none, digits_fit, digits_grow, least_growth}
use Rattle.hd_words.proofs.numbers.read_number.Goals as goal

pub returns-in_default-clause-number : goal.returns-in_default-clause-number
returns-in_default-clause-number c =
    digit_none c.args.base c.args.digits.now c.loop-byte.number c.loop-byte.byte-index c.loop-byte-test.true c.loop-byte.invariant.rest
    (sym c.digit_of.ensures.value ∙ c.in_default.is)

pub overflow_mul-number : goal.overflow_mul-number
overflow_mul-number c =
    let few : c.loop-byte.byte-index < 20 = omega arith in
    let product : c.args.base * c.loop-byte.number ≤ 16 * c.loop-byte.number = mul-le-mul_right c.loop-byte.number c.requires.base in
    let fits = digits_fit c.loop-byte.number c.loop-byte.byte-index 0 c.loop-byte.invariant.small few (omega arith) in
    omega (arith, product, fits)

pub overflow_add-number : goal.overflow_add-number
overflow_add-number c =
    let few : c.loop-byte.byte-index < 20 = omega arith in
    let grown = least_growth c.args.base c.loop-byte.number c.in-Some.digit c.requires.base c.in-Some.ensures.small in
    let fits = digits_fit c.loop-byte.number c.loop-byte.byte-index 15 c.loop-byte.invariant.small few (omega arith) in
    omega (arith, grown, fits)

pub loop-byte-preserved : goal.loop-byte-preserved
loop-byte-preserved c =
    let grown = least_growth c.args.base c.loop-byte.number c.in-Some.digit c.requires.base c.in-Some.ensures.small in
    let grows = digits_grow c.loop-byte.number c.loop-byte.byte-index 15 c.loop-byte.invariant.small (omega arith) in
    record {
      rest = digit_next c.args.base c.args.digits.now c.loop-byte.number c.loop-byte.byte-index c.loop-byte-test.true c.loop-byte.invariant.rest c.in-Some.digit
          (sym c.digit_of.ensures.value ∙ c.in-Some.is);
      small = omega (arith, grown, grows);
    }
