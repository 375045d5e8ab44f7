use Rattle.std.proofs.Common.{◌≡◌, ◌^◌, ◌*◌, ◌<◌, Some, drop}
use Rattle.std.specs.Prelude.{fold}
use Rattle.hd_lines.specs.Lines.{with_digit, number_in}
use Rattle.hd_words.proofs.numbers.read_number.Given as goal

-- the digits that are left give the number, and it is small enough
abbrev pub invariant-loop-byte : goal.invariant-loop-byte
invariant-loop-byte l = record {
  rest : fold (with_digit l.base) (Some l.number) (drop l.byte-index l.digits) ≡ number_in l.base l.digits;
  small : l.number < 2 ^ (4 * l.byte-index);
}
