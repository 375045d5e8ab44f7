-- Pairs of strengths, counted by what is kept of the objects before and after.
-- Source: this project.
use Rattle.std.specs.Prelude.{◌≡◌, ◌≢◌, ℕ, ◌+◌, ◌*◌, ◌-◌, ◌<◌, ◌==◌, Bool, ◌&&◌, not, List, length, map, All, Contains, ◌≤◌, slice_index_or}
use Rattle.std.specs.List.Sorted.{IsStrictlyIncreasing}
use Rattle.hd_terms.specs.declared.MovedRow.{MovedRow}
use Rattle.hd_terms.specs.declared.Strength.{Strength}
use Rattle.hd_terms.specs.Dump.{Dump}
use Rattle.hd_terms.specs.Listed.{move_key}
use Rattle.hd_terms.specs.Ranks.{rank}
use Rattle.hd_terms.specs.Settled.{Reached}
use Rattle.hd_totals.specs.declared.total.Total.{Total}
use Rattle.hd_totals.specs.Running.{strength_in}
use Rattle.hd_totals.specs.Totals.{no_total, plus_object}
use Rattle.hd_queries.specs.Between.{IsTotalBetween, IsCountedIf}

-- where a pair of strengths stands among the 36 pairs: those from the greatest strength first, and of these those to the greatest
abbrev pub move_place : (was is : Strength) → ℕ
move_place was is = 6 * (5 - rank was) + (5 - rank is)

-- the object of a number has other strengths before and after, and their pair stands at a place
abbrev pub is_moved_at : (before after : List Reached) → (place o : ℕ) → Bool
is_moved_at before after place o = not (rank (strength_in before o) == rank (strength_in after o)) &&
    (move_place (strength_in before o) (strength_in after o) == place)

-- the totals of all pairs, for the objects from one number on, before another
pub record AreMovesBetween (dump : Dump) (before after : List Reached) (start end : ℕ) (totals : List Total) : Type 0 where
  pub whole : length totals ≡ 36
  pub each : (place : ℕ) → place < 36 → IsTotalBetween dump (is_moved_at before after place) start end (slice_index_or totals place no_total)

-- the totals of all pairs, with one more object
pub record AreMovesWith (dump : Dump) (before after : List Reached) (o : ℕ) (old new : List Total) : Type 0 where
  pub whole : length new ≡ 36
  pub each : (place : ℕ) → place < 36 → IsCountedIf dump (is_moved_at before after place) o (slice_index_or old place no_total)
      (slice_index_or new place no_total)

-- an object of `bytes` bytes is counted at a place
pub record AreMovesAdded (old : List Total) (place bytes : ℕ) (new : List Total) : Type 0 where
  pub whole : length new ≡ 36
  pub here : slice_index_or new place no_total ≡ plus_object (slice_index_or old place no_total) bytes
  pub others : (i : ℕ) → i ≢ place → slice_index_or new i no_total ≡ slice_index_or old i no_total

-- a row has the total of its pair, which is of some object
pub record IsMoveRow (totals : List Total) (row : MovedRow) : Type 0 where
  pub count_is : row.count ≡ (slice_index_or totals (move_key row) no_total).count
  pub bytes_is : row.bytes ≡ (slice_index_or totals (move_key row) no_total).bytes
  pub some : 1 ≤ row.count

-- the rows of those among the first `k` pairs that have objects, in order
pub record AreMoveRows (totals : List Total) (k : ℕ) (rows : List MovedRow) : Type 0 where
  pub in_order : IsStrictlyIncreasing (map move_key rows)
  pub before : All (λ (row : MovedRow). move_key row < k) rows
  pub each : All (IsMoveRow totals) rows
  pub all : (i : ℕ) → i < k → 1 ≤ (slice_index_or totals i no_total).count → Contains (map move_key rows) i
