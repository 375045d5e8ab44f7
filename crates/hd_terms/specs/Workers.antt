-- How many workers may decode a dump.
-- Source: this project.
use Rattle.std.specs.Prelude.{ℕ, ◌≤◌}

-- the most workers
abbrev pub most_workers : ℕ
most_workers = 16

-- from one worker to the most
pub record IsWorkers (n : ℕ) : Type 0 where
  pub some : 1 ≤ n
  pub few : n ≤ most_workers
