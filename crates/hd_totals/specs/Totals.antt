-- The totals of strengths, and those of each group.
-- Source: this project.
use Rattle.std.specs.Prelude.{◌≡◌, ℕ, ◌+◌, ◌-◌, ◌<◌, ◌≤◌, ◌^◌, nat_eq, List, length, Contains, count_by, sum_by, slice_index_or}
use Rattle.std.specs.List.{range_with_len, position_or_len}
use Rattle.hd_terms.specs.declared.Group.{Group}
use Rattle.hd_terms.specs.declared.Strength.{Strength}
use Rattle.hd_terms.specs.declared.Strength.TheVariants as strengths
use Rattle.hd_terms.specs.Dump.{Dump, object_at}
use Rattle.hd_terms.specs.Listed.{group_key}
use Rattle.hd_terms.specs.Records.{largest_file}
use Rattle.hd_terms.specs.Regions.{StrengthChange, AreChanges}
use Rattle.hd_terms.specs.Settled.{Reached}
use Rattle.hd_totals.specs.declared.total.Total.{Total}
use Rattle.hd_totals.specs.declared.total.StrengthTotals.{StrengthTotals}
use Rattle.hd_totals.specs.Members.{is_member, bytes_if, InRange}

-- no object
abbrev pub no_total : Total
no_total = record { count = 0; bytes = 0 }

-- no object of any strength
abbrev pub no_totals : StrengthTotals
no_totals = record { strong = no_total; soft = no_total; weak = no_total; finalizable = no_total; phantom = no_total; unreachable = no_total }

-- the total of a strength
abbrev pub total_for : StrengthTotals → Strength → Total
total_for totals strengths.Strong = totals.strong
total_for totals strengths.Soft = totals.soft
total_for totals strengths.Weak = totals.weak
total_for totals strengths.Final = totals.finalizable
total_for totals strengths.Phantom = totals.phantom
total_for totals strengths.Unreachable = totals.unreachable

-- another total for a strength
abbrev pub with_total : StrengthTotals → Strength → Total → StrengthTotals
with_total totals strengths.Strong total = record totals { strong = total }
with_total totals strengths.Soft total = record totals { soft = total }
with_total totals strengths.Weak total = record totals { weak = total }
with_total totals strengths.Final total = record totals { finalizable = total }
with_total totals strengths.Phantom total = record totals { phantom = total }
with_total totals strengths.Unreachable total = record totals { unreachable = total }

-- one more object of `bytes` bytes
abbrev pub plus_object : Total → ℕ → Total
plus_object total bytes = record { count = total.count + 1; bytes = total.bytes + bytes }

-- one object of `bytes` bytes fewer
abbrev pub less_object : Total → ℕ → Total
less_object total bytes = record { count = total.count - 1; bytes = total.bytes - bytes }

-- the objects of two totals together
abbrev pub sum_of : Total → Total → Total
sum_of one other = record { count = one.count + other.count; bytes = one.bytes + other.bytes }

-- those of each strength
abbrev pub sums_of : StrengthTotals → StrengthTotals → StrengthTotals
sums_of one other = record {
  strong = sum_of one.strong other.strong;
  soft = sum_of one.soft other.soft;
  weak = sum_of one.weak other.weak;
  finalizable = sum_of one.finalizable other.finalizable;
  phantom = sum_of one.phantom other.phantom;
  unreachable = sum_of one.unreachable other.unreachable;
}

-- the totals of groups: the keys of the groups, and the totals of each, in the same order
pub record Totals : Type 0 where
  pub keys : List ℕ
  pub rows : List StrengthTotals

-- where the totals of a key are: past the last, where the key isn't there
abbrev pub place_of : Totals → ℕ → ℕ
place_of t key = position_or_len (nat_eq key) t.keys

-- the totals of a key: nothing, where the key isn't there
abbrev pub row_at : Totals → ℕ → StrengthTotals
row_at t key = slice_index_or t.rows (place_of t key) no_totals

-- the total of a group and a strength
abbrev pub total_in : Totals → Group → Strength → Total
total_in t group s = total_for (row_at t (group_key group)) s

-- the totals of the objects of a dump, by what is kept of them: each group of an object is there. The objects are few, and no
-- file holds more bytes than one may record, so that no total is too great
pub record AreTotals (dump : Dump) (ks : List Reached) (t : Totals) : Type 0 where
  pub counts : (group : Group) (s : Strength) → InRange group → (total_in t group s).count ≡ count_by (is_member dump ks group s)
      (range_with_len 0 (length dump.objects))
  pub bytes : (group : Group) (s : Strength) → InRange group → (total_in t group s).bytes ≡ sum_by (bytes_if dump (is_member dump ks group s))
      (range_with_len 0 (length dump.objects))
  pub grouped : (o : ℕ) → o < length dump.objects → Contains t.keys (group_key (object_at dump o).group)
  pub in_range : (o : ℕ) → o < length dump.objects → InRange (object_at dump o).group
  pub small : (o : ℕ) → o < length dump.objects → (object_at dump o).bytes ≤ largest_file
  pub few : length dump.objects < 2 ^ 32

-- the totals are those before changes from what was kept to what is kept
pub record AreTotalsBefore (dump : Dump) (t : Totals) (changes : List StrengthChange) (before after : List Reached) : Type 0 where
  pub before_count : length before ≡ length dump.objects
  pub after_count : length after ≡ length dump.objects
  pub totals : AreTotals dump before t
  pub moved : AreChanges before after changes

-- the totals are those before changes from something to something
pub record CanChange (dump : Dump) (t : Totals) (changes : List StrengthChange) : Type 0 where
  pub before : List Reached
  pub after : List Reached
  pub are : AreTotalsBefore dump t changes before after
