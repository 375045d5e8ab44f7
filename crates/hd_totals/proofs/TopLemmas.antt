-- Rows of groups that are ranked by their bytes.
use Rattle.std.proofs.Common.{◌≡◌, ℕ, ◌<◌, false, List, length, map, get_or, arith}
use Rattle.std.specs.Prelude.{nat_eq}
use Rattle.std.specs.List.{IsDistinct}
use Rattle.std.specs.List.Sorted.{IsPermutation, IsStrictlyIncreasing}
use Rattle.std.proofs.lemmas.Bool.{ne_eqb}
use Rattle.std.proofs.lemmas.List.Elements.{All-from_recursion, recursion_from_All}
use Rattle.std.proofs.lemmas.List.Sorted.{All-permutation, Contains-permutation, IsPermutation-map, IsPermutation-sym}
use Rattle.std.proofs.lemmas.Map.Keys.{IsDistinct-from_apart, below_from_sorted, sorted_from_strictly_increasing}
use Rattle.hd_terms.specs.declared.ClassRow.{ClassRow}
use Rattle.hd_terms.specs.declared.Event.{Event}
use Rattle.hd_terms.specs.declared.Strength.{Strength}
use Rattle.hd_terms.specs.Dump.{Dump}
use Rattle.hd_terms.specs.EditedDump.{standing}
use Rattle.hd_terms.specs.Listed.{AreClassRows, AreRanked, AreTopRows}
use Rattle.hd_terms.specs.Strengths.{HasStrength}
use Rattle.hd_terms.specs.Totals.{IsGroupTotal}
use Rattle.hd_totals.specs.Rows.{row_group}

-- rows in the order of their groups are of different ones
pub rising-distinct : (keys : List ℕ) → IsStrictlyIncreasing keys → IsDistinct nat_eq keys
rising-distinct keys up = IsDistinct-from_apart nat_eq keys apart
  where
    apart : (i j d : ℕ) → i < j → j < length keys → nat_eq (get_or keys i d) (get_or keys j d) ≡ false
    apart i j d lt within =
        let below = below_from_sorted keys i j d (sorted_from_strictly_increasing keys up) lt within in
        ne_eqb (get_or keys i d) (get_or keys j d) (λ e. omega arith)

-- the rows of a strength's groups, ranked
pub top-rows : (dump : Dump) (log : List Event) (s : Strength) (rows sorted : List ClassRow) → AreClassRows dump log s rows → IsPermutation rows sorted
    → AreRanked sorted
    → AreTopRows dump (λ (o : ℕ). HasStrength (standing dump log) o s) sorted
top-rows dump log s rows sorted h moved ranks = record {
  ranked = ranks;
  totals = recursion_from_All (λ (row : ClassRow). IsGroupTotal dump log row.group s row.count row.bytes) sorted
      (All-permutation (λ (row : ClassRow). IsGroupTotal dump log row.group s row.count row.bytes) rows sorted moved
      (All-from_recursion (λ (row : ClassRow). IsGroupTotal dump log row.group s row.count row.bytes) rows h.totals));
  groups = λ group. (
    λ has. (h.groups group).0
        (Contains-permutation (map row_group sorted) (map row_group rows) group
        (IsPermutation-sym (map row_group rows) (map row_group sorted) (IsPermutation-map row_group rows sorted moved)) has),
    λ meant. Contains-permutation (map row_group rows) (map row_group sorted) group (IsPermutation-map row_group rows sorted moved) ((h.groups group).1 meant),
  );
}
