-- What an `IdHasher` computes.
-- Source: this project.
use Rattle.std.specs.Prelude.{ℕ, ◌*◌, ◌/◌, ◌%◌, ◌^◌, List, length, ◌==◌, bit_and, bit_xor, if◌then◌else◌}
use Rattle.hd_hashers.specs.declared.id_hasher.IdHasher.{IdHasher}
use Rattle.hd_hashers.specs.Scatter.{number, scattered}

-- the scattered number of an ID's block of 128 bytes, in 28 bits, and above it the ID's place in the block
abbrev pub mixed : ℕ → ℕ → ℕ
mixed secret id = bit_xor (scattered secret (id / 2 ^ 7) / 2 ^ 36) ((bit_and id 0x78 * 2 ^ 25) % 2 ^ 64)

abbrev pub write : IdHasher → List ℕ → IdHasher
write h bs = if length bs == 8 then record { secret = h.secret; state = mixed h.secret (number bs) } else h

abbrev pub finish : IdHasher → ℕ
finish h = h.state
