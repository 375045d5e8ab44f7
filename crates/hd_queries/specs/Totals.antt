-- Totals of strengths, by what is kept of the objects.
-- Source: this project.
use Rattle.std.specs.Prelude.{◌≡◌, ℕ, ◌+◌, ◌*◌, ◌≤◌, List, length, take, count_by, sum_by}
use Rattle.std.specs.List.{range_with_len}
use Rattle.hd_terms.specs.declared.Strength.{Strength}
use Rattle.hd_terms.specs.Records.{largest_file}
use Rattle.hd_terms.specs.Dump.{Dump}
use Rattle.hd_terms.specs.Settled.{Reached}
use Rattle.hd_totals.specs.declared.total.StrengthTotals.{StrengthTotals}
use Rattle.hd_totals.specs.Members.{has_kept, bytes_if}
use Rattle.hd_totals.specs.Totals.{total_for}

-- the totals of the objects from one number on, before another: with the objects before the first they make those before the
-- second
pub record AreCounted (dump : Dump) (ks : List Reached) (start end : ℕ) (totals : StrengthTotals) : Type 0 where
  pub counts : (s : Strength) → (total_for totals s).count + count_by (has_kept ks s) (take start (range_with_len 0 (length dump.objects))) ≡ count_by
      (has_kept ks s) (take end (range_with_len 0 (length dump.objects)))
  pub bytes : (s : Strength) → (total_for totals s).bytes + sum_by (bytes_if dump (has_kept ks s))
      (take start (range_with_len 0 (length dump.objects))) ≡ sum_by (bytes_if dump (has_kept ks s)) (take end (range_with_len 0 (length dump.objects)))
  pub few : (s : Strength) → (total_for totals s).count + start ≤ end
  pub small : (s : Strength) → (total_for totals s).bytes + start * largest_file ≤ end * largest_file
