-- Totals of some of the objects, and of two parts together.
-- Source: this project.
use Rattle.std.specs.Prelude.{◌≡◌, ℕ, ◌+◌, ◌-◌, ◌*◌, ◌/◌, ◌<◌, ◌≤◌, List, length, Contains, count_by, sum_by}
use Rattle.std.specs.List.{range_with_len}
use Rattle.hd_terms.specs.declared.Group.{Group}
use Rattle.hd_terms.specs.declared.Strength.{Strength}
use Rattle.hd_terms.specs.Dump.{Dump, object_at}
use Rattle.hd_terms.specs.Listed.{group_key}
use Rattle.hd_terms.specs.Records.{largest_file}
use Rattle.hd_terms.specs.Settled.{Reached}
use Rattle.hd_totals.specs.declared.counting.Counted.{Counted}
use Rattle.hd_totals.specs.declared.counting.Share.{Share}
use Rattle.hd_totals.specs.GroupPages.{AreNotedBetween}
use Rattle.hd_totals.specs.Members.{bytes_if, InRange}
use Rattle.hd_totals.specs.Running.{counts_for, strength_in}
use Rattle.hd_totals.specs.Totals.{Totals, row_at, sums_of, total_in}

-- what was counted, as totals
abbrev pub totals_of : Counted → Totals
totals_of c = record { keys = c.keys; rows = c.rows.items }

-- there are totals for each key
abbrev pub AreWhole : Counted → Type 0
AreWhole c = length c.rows.items ≡ length c.keys

-- the totals of the objects from one number on, before another, where objects have these strengths: with the objects before the
-- first they make those before the second
pub record AreTotalsBetween (dump : Dump) (strength : ℕ → Strength) (start end : ℕ) (t : Totals) : Type 0 where
  pub counts : (group : Group) (s : Strength) → InRange group
      → (total_in t group s).count + count_by (counts_for dump strength group s) (range_with_len 0 start) ≡ count_by (counts_for dump strength group s)
      (range_with_len 0 end)
  pub bytes : (group : Group) (s : Strength) → InRange group
      → (total_in t group s).bytes + sum_by (bytes_if dump (counts_for dump strength group s)) (range_with_len 0 start) ≡ sum_by
      (bytes_if dump (counts_for dump strength group s)) (range_with_len 0 end)
  pub few : (group : Group) (s : Strength) → InRange group → (total_in t group s).count + start ≤ end
  pub light : (group : Group) (s : Strength) → InRange group → (total_in t group s).bytes + start * largest_file ≤ end * largest_file
  pub grouped : (o : ℕ) → start ≤ o → o < end → Contains t.keys (group_key (object_at dump o).group)
  pub in_range : (o : ℕ) → start ≤ o → o < end → InRange (object_at dump o).group
  pub small : (o : ℕ) → start ≤ o → o < end → (object_at dump o).bytes ≤ largest_file
  pub few_keys : length t.keys + start ≤ end
  pub whole : length t.rows ≡ length t.keys

-- the same, where objects have the strengths that are kept
abbrev pub AreGroupsCounted : Dump → List Reached → (start end : ℕ) → Counted → Type 0
AreGroupsCounted dump ks start end c = AreTotalsBetween dump (strength_in ks) start end (totals_of c)

-- two totals together: those of each key are added
pub record AreJoined (one other both : Totals) : Type 0 where
  pub sums : (key : ℕ) → row_at both key ≡ sums_of (row_at one key) (row_at other key)
  pub first : (key : ℕ) → Contains one.keys key → Contains both.keys key
  pub second : (key : ℕ) → Contains other.keys key → Contains both.keys key
  pub few_keys : length both.keys ≤ length one.keys + length other.keys
  pub whole : length both.rows ≡ length both.keys

-- the totals of the objects from one number on, before another, and the pages of these
pub record IsShare (dump : Dump) (ks : List Reached) (start end : ℕ) (share : Share) : Type 0 where
  pub counted : AreGroupsCounted dump ks start end share.counted
  pub room : length share.pages.least ≡ (end - start + 1023) / 1024
  pub noted : AreNotedBetween dump start end share.pages
