-- The totals of strengths and of groups, by what is kept of the objects.
use Rattle.std.proofs.Common.{◌≡◌, ◌∙◌, ℕ, zero, suc, ◌+◌, ◌<◌, ◌≤◌, ◌^◌, true, List, [], ◌∷◌, length, map, get_or, take, cond, eq-eqb, refl, sym, ap, subst}
use Rattle.std.proofs.Common.{arith, add-zero, zero-add}
use Rattle.std.specs.Prelude.{sum_by}
use Rattle.std.specs.List.{range_with_len}
use Rattle.std.proofs.lemmas.List.{take_all, get_or-map}
use Rattle.std.proofs.lemmas.List.FromFn.{length-range_with_len, get_or-range_with_len}
use Rattle.std.proofs.lemmas.List.Sums.{sum_by_more}
use Rattle.hd_terms.specs.declared.Strength.{Strength}
use Rattle.hd_terms.specs.declared.Event.{Event}
use Rattle.hd_terms.specs.Ranks.{rank}
use Rattle.hd_terms.specs.Records.{largest_file}
use Rattle.hd_terms.specs.Paths.{Standing}
use Rattle.hd_terms.specs.Dump.{Dump, object_at}
use Rattle.hd_terms.specs.EditedDump.{standing}
use Rattle.hd_terms.specs.Strengths.{HasStrength}
use Rattle.hd_terms.specs.Settled.{Reached, reached_at, unreached}
use Rattle.hd_terms.specs.Totals.{IsTotal}
use Rattle.hd_totals.specs.declared.total.StrengthTotals.{StrengthTotals}
use Rattle.hd_totals.specs.Members.{has_kept, bytes_if}
use Rattle.hd_totals.specs.Running.{plus_one}
use Rattle.hd_totals.specs.Totals.{no_totals, total_for, sum_of, sums_of}
use Rattle.hd_totals.proofs.RunningLemmas.{cond-le}
use Rattle.hd_totals.proofs.TotalLemmas.{one-rank, plus-count, plus-bytes, total-none, total-sums}
use Rattle.hd_strength.specs.Found.{strength_of, only_strength}
use Rattle.hd_queries.specs.Totals.{AreCounted}
use Rattle.hd_queries.proofs.FallenLemmas.{count-more, count-all}

-- of strengths alone the same is seen
pub alone-at : (ks : List Reached) (o : ℕ) → (reached_at (map only_strength (map strength_of ks)) o).strength ≡ (reached_at ks o).strength
alone-at [] zero = refl
alone-at [] (suc o) = refl
alone-at (k ∷ ks) zero = refl
alone-at (k ∷ ks) (suc o) = alone-at ks o

-- the strength that is seen is the one that stands there
pub only-at : (ss : List Strength) (o : ℕ) (d : Strength) → o < length ss → (reached_at (map only_strength ss) o).strength ≡ get_or ss o d
only-at ss o d lt = ap (λ (k : Reached). k.strength) (get_or-map only_strength ss o d unreached lt)

-- no object
pub none-counted : (dump : Dump) (ks : List Reached) (start : ℕ) → AreCounted dump ks start start no_totals
none-counted dump ks start = record {
  counts = λ s. omega (arith, ap (λ t. t.count) (total-none s));
  bytes = λ s. omega (arith, ap (λ t. t.bytes) (total-none s));
  few = λ s. omega (arith, ap (λ t. t.count) (total-none s));
  small = λ s. omega (arith, ap (λ t. t.bytes) (total-none s));
}

-- one more object
module _ (dump : Dump) (ks : List Reached) (start o : ℕ) (old : StrengthTotals) (h : AreCounted dump ks start o old) (within : o < length dump.objects)
    (small : (object_at dump o).bytes ≤ largest_file) where
  sum-more : (f : ℕ → ℕ) → sum_by f (take (o + 1) (range_with_len 0 (length dump.objects))) ≡ sum_by f (take o (range_with_len 0 (length dump.objects))) + f o
  sum-more f =
      sum_by_more f (range_with_len 0 (length dump.objects)) o 0 (omega (arith, length-range_with_len 0 (length dump.objects)))
      ∙ ap (λ (n : ℕ). sum_by f (take o (range_with_len 0 (length dump.objects))) + f n) (get_or-range_with_len 0 (length dump.objects) o 0 within ∙ zero-add o)

  abbrev new : StrengthTotals
  new = plus_one old (reached_at ks o).strength (object_at dump o).bytes

  count-is : (s : Strength) → (total_for new s).count ≡ (total_for old s).count + cond (has_kept ks s o) 1 0
  count-is s = plus-count old (reached_at ks o).strength s (object_at dump o).bytes

  bytes-is : (s : Strength) → (total_for new s).bytes ≡ (total_for old s).bytes + bytes_if dump (has_kept ks s) o
  bytes-is s = plus-bytes old (reached_at ks o).strength s (object_at dump o).bytes

  pub one-more-counted : AreCounted dump ks start (o + 1) new
  one-more-counted = record {
    counts = λ s. omega (arith, count-is s, h.counts s, count-more (has_kept ks s) (length dump.objects) o within (has_kept ks s o) refl);
    bytes = λ s. omega (arith, bytes-is s, h.bytes s, sum-more (bytes_if dump (has_kept ks s)));
    few = λ s. omega (arith, count-is s, h.few s, cond-le (has_kept ks s o) 1 1 (omega arith));
    small = λ s. omega (arith, bytes-is s, h.small s, cond-le (has_kept ks s o) (object_at dump o).bytes (object_at dump o).bytes (omega arith));
  }

-- the objects of two parts, of which one begins where the other ends
module _ (dump : Dump) (ks : List Reached) (start middle end : ℕ) (one other : StrengthTotals) (first : AreCounted dump ks start middle one)
    (second : AreCounted dump ks middle end other) where
  sum-is : (all : StrengthTotals) → all ≡ sums_of one other → (s : Strength) → total_for all s ≡ sum_of (total_for one s) (total_for other s)
  sum-is all is s = ap (λ t. total_for t s) is ∙ total-sums one other s

  pub both-counted : (all : StrengthTotals) → all ≡ sums_of one other → AreCounted dump ks start end all
  both-counted all is = record {
    counts = λ s. omega (arith, ap (λ t. t.count) (sum-is all is s), first.counts s, second.counts s);
    bytes = λ s. omega (arith, ap (λ t. t.bytes) (sum-is all is s), first.bytes s, second.bytes s);
    few = λ s. omega (arith, ap (λ t. t.count) (sum-is all is s), first.few s, second.few s);
    small = λ s. omega (arith, ap (λ t. t.bytes) (sum-is all is s), first.small s, second.small s);
  }

  -- neither sum is too great
  pub counts-fit : end < 2 ^ 32 → (s : Strength) → (total_for one s).count + (total_for other s).count < 2 ^ 64
  counts-fit small s = omega (arith, first.few s, second.few s)

  pub bytes-fit : end < 2 ^ 32 → (s : Strength) → (total_for one s).bytes + (total_for other s).bytes < 2 ^ 64
  bytes-fit small s = omega (arith, first.small s, second.small s)

-- all objects, where what is kept has their strengths in the dump under a log
module _ (one : (g : Standing) (o : ℕ) (a b : Strength) → HasStrength g o a → HasStrength g o b → a ≡ b)
    (dump : Dump) (log : List Event) (ks : List Reached) (has : (o : ℕ) → HasStrength (standing dump log) o (reached_at ks o).strength) where
  pub has-strength : (s : Strength) (o : ℕ) → has_kept ks s o ≡ true → HasStrength (standing dump log) o s
  has-strength s o e = subst (HasStrength (standing dump log) o) (one-rank (reached_at ks o).strength s e) (has o)

  pub is-kept : (s : Strength) (o : ℕ) → HasStrength (standing dump log) o s → has_kept ks s o ≡ true
  is-kept s o h = eq-eqb (rank (reached_at ks o).strength) (rank s) (ap rank (one (standing dump log) o (reached_at ks o).strength s (has o) h))

  pub total-is : (totals : StrengthTotals) → AreCounted dump ks 0 (length dump.objects) totals → (s : Strength)
      → IsTotal dump log s (total_for totals s).count (total_for totals s).bytes
  total-is totals h s = record {
    has = has_kept ks s;
    decides = λ o within. (has-strength s o, is-kept s o);
    count_is = sym (add-zero (total_for totals s).count) ∙ h.counts s ∙ count-all (has_kept ks s) (length dump.objects);
    bytes_is = sym (add-zero (total_for totals s).bytes) ∙ h.bytes s
        ∙ ap (sum_by (bytes_if dump (has_kept ks s)))
        (take_all (length dump.objects) (range_with_len 0 (length dump.objects)) (omega (arith, length-range_with_len 0 (length dump.objects))));
  }
