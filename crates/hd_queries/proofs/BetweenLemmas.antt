-- Totals of the objects from one number on, before another.
use Rattle.std.proofs.Common.{◌≡◌, ◌∙◌, ℕ, zero, suc, ◌+◌, ◌-◌, ◌<◌, ◌≤◌, Bool, true, false, length, cond, sym, ap, arith}
use Rattle.std.specs.Prelude.{count_by, sum_by}
use Rattle.std.specs.List.{range_with_len}
use Rattle.hd_terms.specs.Dump.{Dump, object_at}
use Rattle.hd_terms.specs.Totals.{Decides, IsTotalOf}
use Rattle.hd_totals.specs.declared.total.Total.{Total}
use Rattle.hd_totals.specs.Members.{bytes_if}
use Rattle.hd_totals.specs.Totals.{no_total}
use Rattle.hd_totals.proofs.RunningLemmas.{cond-le}
use Rattle.hd_totals.proofs.SumLemmas.{count_suc, count-term, some-passes, sum_suc}
use Rattle.hd_queries.specs.Between.{IsTotalBetween, IsCountedIf}

module _ (dump : Dump) (test : ℕ → Bool) where
  -- no object
  pub none-between : (start : ℕ) → IsTotalBetween dump test start start no_total
  none-between start = record { counts = omega arith; sizes = omega arith; few = omega arith; light = omega arith }

  -- one more number
  count-more : (k : ℕ) → count_by test (range_with_len 0 (k + 1)) ≡ count_by test (range_with_len 0 k) + cond (test k) 1 0
  count-more k = let next : k + 1 ≡ suc k = omega arith in ap (λ (n : ℕ). count_by test (range_with_len 0 n)) next ∙ count_suc test k

  size-more : (k : ℕ) → sum_by (bytes_if dump test) (range_with_len 0 (k + 1)) ≡ sum_by (bytes_if dump test) (range_with_len 0 k) + bytes_if dump test k
  size-more k = let next : k + 1 ≡ suc k = omega arith in ap (λ (n : ℕ). sum_by (bytes_if dump test) (range_with_len 0 n)) next ∙ sum_suc (bytes_if dump test) k

  -- one more object
  pub one-more : (start k : ℕ) (old new : Total) → IsCountedIf dump test k old new → IsTotalBetween dump test start k old
      → IsTotalBetween dump test start (k + 1) new
  one-more start k old new one h = record {
    counts = omega (arith, one.counts, h.counts, count-more k);
    sizes = omega (arith, one.sizes, h.sizes, size-more k);
    few = omega (arith, one.counts, h.few, cond-le (test k) 1 1 (omega arith));
    light = omega (arith, one.sizes, h.light, one.small);
  }

  -- more objects, none of which passes
  count-quiet : (k n : ℕ) → ((o : ℕ) → k ≤ o → o < k + n → test o ≡ false) → count_by test (range_with_len 0 (k + n)) ≡ count_by test (range_with_len 0 k)
  count-quiet k zero quiet = let same : k + 0 ≡ k = omega arith in ap (λ (m : ℕ). count_by test (range_with_len 0 m)) same
  count-quiet k (suc n) quiet =
      let next : k + suc n ≡ suc (k + n) = omega arith in
      let none : cond (test (k + n)) 1 0 ≡ 0 = ap (λ (b : Bool). cond {A = ℕ} b 1 0) (quiet (k + n) (omega arith) (omega arith)) in
      omega (
        arith,
        ap (λ (m : ℕ). count_by test (range_with_len 0 m)) next,
        count_suc test (k + n),
        none,
        count-quiet k n
            (λ o le lt. quiet o le (omega arith)),
      )

  size-quiet : (k n : ℕ) → ((o : ℕ) → k ≤ o → o < k + n → test o ≡ false) → sum_by (bytes_if dump test) (range_with_len 0 (k + n)) ≡ sum_by (bytes_if dump test)
      (range_with_len 0 k)
  size-quiet k zero quiet = let same : k + 0 ≡ k = omega arith in ap (λ (m : ℕ). sum_by (bytes_if dump test) (range_with_len 0 m)) same
  size-quiet k (suc n) quiet =
      let next : k + suc n ≡ suc (k + n) = omega arith in
      let none : bytes_if dump test (k + n) ≡ 0 = ap (λ (b : Bool). cond b (object_at dump (k + n)).bytes 0) (quiet (k + n) (omega arith) (omega arith)) in
      omega (
        arith,
        ap (λ (m : ℕ). sum_by (bytes_if dump test) (range_with_len 0 m)) next,
        sum_suc (bytes_if dump test) (k + n),
        none,
        size-quiet k n
            (λ o le lt. quiet o le (omega arith)),
      )

  pub quiet-between : (start k m : ℕ) (total : Total) → k ≤ m → ((o : ℕ) → k ≤ o → o < m → test o ≡ false) → IsTotalBetween dump test start k total
      → IsTotalBetween dump test start m total
  quiet-between start k m total le quiet h =
      let end : k + (m - k) ≡ m = omega arith in
      let none : (o : ℕ) → k ≤ o → o < k + (m - k) → test o ≡ false = λ o after before. quiet o after (omega arith) in
      let count = ap (λ (n : ℕ). count_by test (range_with_len 0 n)) (sym end) ∙ count-quiet k (m - k) none in
      let size = ap (λ (n : ℕ). sum_by (bytes_if dump test) (range_with_len 0 n)) (sym end) ∙ size-quiet k (m - k) none in
      record {
        counts = h.counts ∙ sym count;
        sizes = h.sizes ∙ sym size;
        few = omega (arith, h.few);
        light = omega (arith, h.light);
      }

  -- all objects
  pub total-of : (IsMeant : ℕ → Type 0) (total : Total) → Decides dump IsMeant test → IsTotalBetween dump test 0 (length dump.objects) total
      → IsTotalOf dump IsMeant total.count total.bytes
  total-of IsMeant total decides h = record {
    has = test;
    decides = decides;
    count_is = omega (arith, h.counts);
    bytes_is = omega (arith, h.sizes);
  }

  -- an object that passes, where there is one
  pub some-of : (total : Total) → IsTotalBetween dump test 0 (length dump.objects) total → 1 ≤ total.count → (o : ℕ) × (o < length dump.objects)
      × (test o ≡ true)
  some-of total h some = some-passes test (length dump.objects) (omega (arith, h.counts))

  pub count-of : (total : Total) → IsTotalBetween dump test 0 (length dump.objects) total → (o : ℕ) → o < length dump.objects → test o ≡ true → 1 ≤ total.count
  count-of total h o lt passes = omega (arith, h.counts, count-term test o (length dump.objects) lt passes)
