-- What a `PageHasher` computes.
-- Source: this project.
use Rattle.std.specs.Prelude.{ℕ, ◌/◌, ◌^◌, List, length, ◌==◌, if◌then◌else◌}
use Rattle.hd_hashers.specs.declared.page_hasher.PageHasher.{PageHasher}
use Rattle.hd_hashers.specs.Scatter.{number, scattered}

abbrev pub write : PageHasher → List ℕ → PageHasher
write h bs = if length bs == 8 then record { secret = h.secret; state = scattered h.secret (number bs) / 2 ^ 32 } else h

abbrev pub finish : PageHasher → ℕ
finish h = h.state
