-- Rows of groups that have objects of a strength.
-- Source: this project.
use Rattle.std.specs.Prelude.{◌≡◌, ℕ, ◌<◌, ◌≤◌, nat_eq, true, List, length, map, All, Contains, count_by, sum_by, slice_index, slice_index_or}
use Rattle.std.specs.List.{IsDistinct, range_with_len}
use Rattle.std.specs.List.Sorted.{IsStrictlyIncreasing}
use Rattle.hd_terms.specs.declared.ClassRow.{ClassRow}
use Rattle.hd_terms.specs.declared.Group.{Group}
use Rattle.hd_terms.specs.declared.Strength.{Strength}
use Rattle.hd_terms.specs.Dump.{Dump, object_at}
use Rattle.hd_terms.specs.Listed.{group_key}
use Rattle.hd_terms.specs.Settled.{Reached}
use Rattle.hd_totals.specs.Members.{has_kept, is_member, bytes_if, InRange}
use Rattle.hd_totals.specs.Totals.{Totals, no_totals, total_for, total_in}

-- where a row's group stands among the groups
abbrev pub row_key : ClassRow → ℕ
row_key row = group_key row.group

-- the group of a row
abbrev pub row_group : ClassRow → Group
row_group row = row.group

-- a row has the total of its group, and that is of some object
pub record IsRowOf (t : Totals) (s : Strength) (row : ClassRow) : Type 0 where
  pub range : InRange row.group
  pub count_is : row.count ≡ (total_in t row.group s).count
  pub bytes_is : row.bytes ≡ (total_in t row.group s).bytes
  pub some : 1 ≤ row.count

-- the rows of those among the first `k` groups that have objects of a strength, each once
pub record AreRowsBefore (t : Totals) (s : Strength) (k : ℕ) (rows : List ClassRow) : Type 0 where
  pub distinct : IsDistinct nat_eq (map row_key rows)
  pub each : All (IsRowOf t s) rows
  pub found : (key : ℕ) → Contains (map row_key rows) key → (i : ℕ) × (i < k) × (slice_index t.keys i ≡ key)
  pub all : (i : ℕ) → i < k → 1 ≤ (total_for (slice_index_or t.rows i no_totals) s).count → Contains (map row_key rows) (slice_index t.keys i)

-- the rows of the groups that have objects of a strength, in order
pub record AreRowsOf (t : Totals) (s : Strength) (rows : List ClassRow) : Type 0 where
  pub in_order : IsStrictlyIncreasing (map row_key rows)
  pub each : All (IsRowOf t s) rows
  pub all : (group : Group) → InRange group → 1 ≤ (total_in t group s).count → Contains (map row_group rows) group

-- a row has the total of the objects of its group, by what is kept of them, and there is one
pub record IsMemberRow (dump : Dump) (ks : List Reached) (s : Strength) (row : ClassRow) : Type 0 where
  pub range : InRange row.group
  pub count_is : row.count ≡ count_by (is_member dump ks row.group s) (range_with_len 0 (length dump.objects))
  pub bytes_is : row.bytes ≡ sum_by (bytes_if dump (is_member dump ks row.group s)) (range_with_len 0 (length dump.objects))
  pub some : (o : ℕ) × (o < length dump.objects) × (is_member dump ks row.group s o ≡ true)

-- the rows of the groups that have objects of a strength, by what is kept of these, in order
pub record AreMemberRows (dump : Dump) (ks : List Reached) (s : Strength) (rows : List ClassRow) : Type 0 where
  pub in_order : IsStrictlyIncreasing (map row_key rows)
  pub each : All (IsMemberRow dump ks s) rows
  pub all : (o : ℕ) → o < length dump.objects → has_kept ks s o ≡ true → Contains (map row_group rows) (object_at dump o).group
