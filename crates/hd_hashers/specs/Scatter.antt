-- Scattering numbers by a secret.
-- Source: this project.
use Rattle.std.specs.Prelude.{ℕ, ◌+◌, ◌*◌, ◌/◌, ◌%◌, ◌^◌, List, slice_index, bit_xor}

-- the number that eight bytes are, the lowest first
abbrev pub number : List ℕ → ℕ
number bs = slice_index bs 0 + 256 *
    (slice_index bs 1 + 256 *
    (slice_index bs 2 + 256 * (slice_index bs 3 + 256 * (slice_index bs 4 + 256 * (slice_index bs 5 + 256 * (slice_index bs 6 + 256 * slice_index bs 7))))))

-- the upper half of a number of 64 bits, folded into the lower one
abbrev pub folded : ℕ → ℕ
folded n = bit_xor n (n / 2 ^ 32)

-- a number multiplied, folded and multiplied again, in 64 bits
abbrev pub scattered : ℕ → ℕ → ℕ
scattered secret n = (folded ((n * secret) % 2 ^ 64) * secret) % 2 ^ 64
