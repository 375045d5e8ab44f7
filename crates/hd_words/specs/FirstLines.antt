-- The first lines of an answer.
-- Source: this project's protocol (docs/PROTOCOL.md).
use Rattle.std.specs.Prelude.{ℕ, min, Option, Some, None}

-- how many of `len` lines are written where at most `most` are wanted, all without a number
abbrev pub first_count : ℕ → Option ℕ → ℕ
first_count len None = len
first_count len (Some most) = min most len
