-- The objects that pass a test, counted by their groups.
-- Source: this project.
use Rattle.std.specs.Prelude.{◌≡◌, ℕ, ◌+◌, ◌<◌, ◌≤◌, ◌^◌, Bool, ◌&&◌, true, false, length}
use Rattle.hd_terms.specs.declared.Group.{Group}
use Rattle.hd_terms.specs.declared.Strength.{Strength}
use Rattle.hd_terms.specs.declared.Strength.TheVariants as strengths
use Rattle.hd_terms.specs.Dump.{Dump, object_at}
use Rattle.hd_terms.specs.Listed.{group_key}
use Rattle.hd_terms.specs.Records.{largest_file}
use Rattle.hd_totals.specs.declared.total.Total.{Total}
use Rattle.hd_totals.specs.Members.{InRange}
use Rattle.hd_totals.specs.Running.{counts_for, plus_one, IsRowPut}
use Rattle.hd_totals.specs.Totals.{Totals, plus_object, row_at, total_in}
use Rattle.hd_queries.specs.Between.{IsTotalBetween}

-- the object of a number passes a test, and is counted for a group and a strength where all count as unreachable
abbrev pub counts_freed : Dump → (ℕ → Bool) → Group → Strength → ℕ → Bool
counts_freed dump test group s o = test o && counts_for dump (λ (x : ℕ). strengths.Unreachable) group s o

-- the total of the objects from one number on, before another, that pass a test, and those of their groups, which count them as
-- unreachable
pub record AreFreedBetween (dump : Dump) (test : ℕ → Bool) (start end : ℕ) (total : Total) (groups : Totals) : Type 0 where
  pub all : IsTotalBetween dump test start end total
  pub each : (group : Group) (s : Strength) → InRange group → IsTotalBetween dump (counts_freed dump test group s) start end (total_in groups group s)
  pub in_range : (o : ℕ) → start ≤ o → o < end → test o ≡ true → InRange (object_at dump o).group
  pub few_keys : length groups.keys + start ≤ end
  pub whole : length groups.rows ≡ length groups.keys

-- one more object may be counted
pub record CanCountMore (total : Total) (groups : Totals) : Type 0 where
  pub count : total.count + 1 < 2 ^ 64
  pub bytes : total.bytes + largest_file < 2 ^ 64
  pub counts : (group : Group) (s : Strength) → InRange group → (total_in groups group s).count + 1 < 2 ^ 64
  pub sizes : (group : Group) (s : Strength) → InRange group → (total_in groups group s).bytes + largest_file < 2 ^ 64
  pub whole : length groups.rows ≡ length groups.keys

-- the totals with one more object, of which the bytes are few
pub record IsOneMore (dump : Dump) (o : ℕ) (total : Total) (groups : Totals) (new : Total) (news : Totals) : Type 0 where
  pub range : InRange (object_at dump o).group
  pub small : (object_at dump o).bytes ≤ largest_file
  pub all : new ≡ plus_object total (object_at dump o).bytes
  pub put : IsRowPut groups news (group_key (object_at dump o).group)
      (plus_one (row_at groups (group_key (object_at dump o).group)) strengths.Unreachable (object_at dump o).bytes)

-- the totals with an object, if that passes a test: it is counted in all, and in its group as unreachable
pub record IsFreedWith (dump : Dump) (test : ℕ → Bool) (o : ℕ) (total : Total) (groups : Totals) (new : Total) (news : Totals) : Type 0 where
  pub passed : test o ≡ true → IsOneMore dump o total groups new news
  pub failed : test o ≡ false → (new ≡ total) × (news ≡ groups)
