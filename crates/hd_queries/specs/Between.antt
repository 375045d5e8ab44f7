-- Totals of the objects from one number on, before another.
-- Source: this project.
use Rattle.std.specs.Prelude.{◌≡◌, ℕ, ◌+◌, ◌*◌, ◌≤◌, Bool, if◌then◌else◌, count_by, sum_by}
use Rattle.std.specs.List.{range_with_len}
use Rattle.hd_terms.specs.Dump.{Dump}
use Rattle.hd_terms.specs.Records.{largest_file}
use Rattle.hd_totals.specs.declared.total.Total.{Total}
use Rattle.hd_totals.specs.Members.{bytes_if}

-- the total of the objects from one number on, before another, that pass a test: with the objects before the first it makes that of
-- the objects before the second
pub record IsTotalBetween (dump : Dump) (test : ℕ → Bool) (start end : ℕ) (total : Total) : Type 0 where
  pub counts : total.count + count_by test (range_with_len 0 start) ≡ count_by test (range_with_len 0 end)
  pub sizes : total.bytes + sum_by (bytes_if dump test) (range_with_len 0 start) ≡ sum_by (bytes_if dump test) (range_with_len 0 end)
  pub few : total.count + start ≤ end
  pub light : total.bytes + start * largest_file ≤ end * largest_file

-- one, if the object of a number passes a test
abbrev pub count_if : (ℕ → Bool) → ℕ → ℕ
count_if test o = if test o then 1 else 0

-- a total with an object, if that passes a test
pub record IsCountedIf (dump : Dump) (test : ℕ → Bool) (o : ℕ) (old new : Total) : Type 0 where
  pub counts : new.count ≡ old.count + count_if test o
  pub sizes : new.bytes ≡ old.bytes + bytes_if dump test o
  pub small : bytes_if dump test o ≤ largest_file
