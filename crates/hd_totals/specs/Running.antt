-- Totals on their way: of some of the objects, or for other strengths than those that are kept.
-- Source: this project.
use Rattle.std.specs.Prelude.{◌≡◌, ◌≢◌, ℕ, ◌+◌, ◌<◌, ◌≤◌, ◌^◌, ◌==◌, Bool, ◌&&◌, List, length, Contains, count_by, sum_by}
use Rattle.std.specs.List.{range_with_len}
use Rattle.hd_terms.specs.declared.Group.{Group}
use Rattle.hd_terms.specs.declared.Strength.{Strength}
use Rattle.hd_terms.specs.Dump.{Dump, object_at}
use Rattle.hd_terms.specs.Listed.{group_key}
use Rattle.hd_terms.specs.Ranks.{rank}
use Rattle.hd_terms.specs.Records.{largest_file}
use Rattle.hd_terms.specs.Settled.{Reached, reached_at}
use Rattle.hd_totals.specs.Members.{same_group, bytes_if, InRange}
use Rattle.hd_totals.specs.Totals.{Totals, total_for, total_in, row_at, place_of, with_total, plus_object, less_object}
use Rattle.hd_totals.specs.declared.total.StrengthTotals.{StrengthTotals}

-- the object of a number is of a group and has a strength, where objects have these
abbrev pub counts_for : Dump → (ℕ → Strength) → Group → Strength → ℕ → Bool
counts_for dump strength group s o = (rank (strength o) == rank s) && same_group (object_at dump o).group group

-- the totals of the first `k` objects, where objects have these strengths
pub record AreTotalsOf (dump : Dump) (strength : ℕ → Strength) (k : ℕ) (t : Totals) : Type 0 where
  pub counts : (group : Group) (s : Strength) → InRange group → (total_in t group s).count ≡ count_by (counts_for dump strength group s) (range_with_len 0 k)
  pub bytes : (group : Group) (s : Strength) → InRange group → (total_in t group s).bytes ≡ sum_by (bytes_if dump (counts_for dump strength group s))
      (range_with_len 0 k)
  pub grouped : (o : ℕ) → o < k → Contains t.keys (group_key (object_at dump o).group)
  pub in_range : (o : ℕ) → o < k → InRange (object_at dump o).group
  pub small : (o : ℕ) → o < k → (object_at dump o).bytes ≤ largest_file
  pub few : k < 2 ^ 32

-- the strengths that are kept
abbrev pub strength_in : List Reached → ℕ → Strength
strength_in ks o = (reached_at ks o).strength

-- other totals of a key, in the place of those that it had or in a new one
pub record IsRowPut (old new : Totals) (key : ℕ) (row : StrengthTotals) : Type 0 where
  pub here : row_at new key ≡ row
  pub others : (k : ℕ) → k ≢ key → row_at new k ≡ row_at old k
  pub kept : (k : ℕ) → Contains old.keys k → Contains new.keys k
  pub there : Contains new.keys key
  pub whole : length new.rows ≡ length new.keys
  pub few : length new.keys ≤ length old.keys + 1

-- a key has a place, which it may not have had
pub record IsPlaced (old new : Totals) (key place : ℕ) : Type 0 where
  pub put : IsRowPut old new key (row_at old key)
  pub place_is : place ≡ place_of new key
  pub within : place < length new.rows

-- the totals with one more object of a strength, of `bytes` bytes
abbrev pub plus_one : StrengthTotals → Strength → ℕ → StrengthTotals
plus_one row s bytes = with_total row s (plus_object (total_for row s) bytes)

-- the totals with one object of a strength, of `bytes` bytes, fewer
abbrev pub less_one : StrengthTotals → Strength → ℕ → StrengthTotals
less_one row s bytes = with_total row s (less_object (total_for row s) bytes)
