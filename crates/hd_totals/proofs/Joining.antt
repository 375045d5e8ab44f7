-- What the loop that joins two totals keeps.
use Rattle.std.specs.Prelude.{◌≡◌, ℕ, ◌+◌, ◌<◌, ◌≤◌, length, Contains}
use Rattle.hd_totals.specs.Totals.{Totals, place_of, row_at, sums_of}

-- two totals on the way to being joined: the totals of the first `i` keys of the second are added
pub record AreJoining (one other : Totals) (i : ℕ) (both : Totals) : Type 0 where
  pub added : (key : ℕ) → place_of other key < i → row_at both key ≡ sums_of (row_at one key) (row_at other key)
  pub rest : (key : ℕ) → i ≤ place_of other key → row_at both key ≡ row_at one key
  pub first : (key : ℕ) → Contains one.keys key → Contains both.keys key
  pub second : (key : ℕ) → place_of other key < i → Contains both.keys key
  pub few_keys : length both.keys ≤ length one.keys + i
  pub whole : length both.rows ≡ length both.keys
