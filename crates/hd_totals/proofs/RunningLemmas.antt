-- Totals on their way: one more object is counted, or one moves to another strength.
use Rattle.std.proofs.Common.{◌≡◌, ◌≢◌, ◌∙◌, ℕ, ◌+◌, ◌*◌, ◌<◌, ◌≤◌, Bool, true, false, ◌&&◌, List, length, cond, eqb, eq-eqb, refl, sym, ap, subst, arith}
use Rattle.std.specs.Prelude.{count_by, sum_by}
use Rattle.std.specs.List.{range_with_len}
use Rattle.hd_terms.specs.declared.Group.{Group}
use Rattle.hd_terms.specs.declared.Strength.{Strength}
use Rattle.hd_terms.specs.Dump.{Dump, object_at}
use Rattle.hd_terms.specs.Listed.{group_key}
use Rattle.hd_terms.specs.Ranks.{rank}
use Rattle.hd_terms.specs.Records.{largest_file}
use Rattle.hd_terms.specs.Settled.{Reached}
use Rattle.hd_totals.specs.declared.total.StrengthTotals.{StrengthTotals}
use Rattle.hd_totals.specs.Members.{same_group, bytes_if, InRange}
use Rattle.hd_totals.specs.Running.{counts_for, strength_in, plus_one, less_one, AreTotalsOf, IsRowPut}
use Rattle.hd_totals.specs.Totals.{Totals, total_for, row_at, total_in, AreTotals}
use Rattle.hd_totals.proofs.GroupLemmas.{one-group, itself, other-key}
use Rattle.hd_totals.proofs.SumLemmas.{one_if, and-false, and-true, count-at, sum-at, count-same, sum-same, count-term, sum-term, count-le, sum-le}
use Rattle.hd_totals.proofs.TotalLemmas.{plus-count, plus-bytes, less-count, less-bytes}

-- what is kept of objects, as their strengths
pub of-kept : (dump : Dump) (ks : List Reached) (t : Totals) → AreTotals dump ks t → AreTotalsOf dump (strength_in ks) (length dump.objects) t
of-kept dump ks t h = record { counts = h.counts; bytes = h.bytes; grouped = h.grouped; in_range = h.in_range; small = h.small; few = h.few }

pub to-kept : (dump : Dump) (ks : List Reached) (t : Totals) → AreTotalsOf dump (strength_in ks) (length dump.objects) t → AreTotals dump ks t
to-kept dump ks t h = record { counts = h.counts; bytes = h.bytes; grouped = h.grouped; in_range = h.in_range; small = h.small; few = h.few }

-- what counts only where a test passes
pub cond-le : (b : Bool) (n m : ℕ) → n ≤ m → cond b n 0 ≤ m
cond-le true n m le = le
cond-le false n m le = omega arith

-- one more object, where its totals are put
module _ (dump : Dump) (strength : ℕ → Strength) (k : ℕ) (t t' : Totals) (range : InRange (object_at dump k).group)
    (put : IsRowPut t t' (group_key (object_at dump k).group)
    (plus_one (row_at t (group_key (object_at dump k).group)) (strength k) (object_at dump k).bytes)) where
  abbrev g : Group
  g = (object_at dump k).group

  abbrev row : StrengthTotals
  row = row_at t (group_key g)

  counted : (group : Group) (s : Strength) → InRange group → (b : Bool) → same_group g group ≡ b
      → ((total_in t' group s).count ≡ (total_in t group s).count + cond (eqb (rank (strength k)) (rank s) && b) 1 0)
      × ((total_in t' group s).bytes ≡ (total_in t group s).bytes + cond (eqb (rank (strength k)) (rank s) && b) (object_at dump k).bytes 0)
  counted group s r true e = subst
      (λ (x : Group). ((total_in t' x s).count ≡ (total_in t x s).count + cond (eqb (rank (strength k)) (rank s) && true) 1 0)
      × ((total_in t' x s).bytes ≡ (total_in t x s).bytes + cond (eqb (rank (strength k)) (rank s) && true) (object_at dump k).bytes 0)) (one-group g group e) (
        ap (λ (x : StrengthTotals). (total_for x s).count) put.here ∙ plus-count row (strength k) s (object_at dump k).bytes
            ∙ ap (λ (b : Bool). (total_for row s).count + cond b 1 0) (sym (and-true (eqb (rank (strength k)) (rank s)))),
        ap (λ (x : StrengthTotals). (total_for x s).bytes) put.here ∙ plus-bytes row (strength k) s (object_at dump k).bytes
            ∙ ap (λ (b : Bool). (total_for row s).bytes + cond b (object_at dump k).bytes 0) (sym (and-true (eqb (rank (strength k)) (rank s)))),
      )
  counted group s r false e =
      let same = put.others (group_key group) (other-key g group range r e) in
      let no : (eqb (rank (strength k)) (rank s) && false) ≡ false = and-false (eqb (rank (strength k)) (rank s)) in (
        omega (arith, ap (λ (x : StrengthTotals). (total_for x s).count) same, ap (λ (b : Bool). cond {A = ℕ} b 1 0) no),
        omega (arith, ap (λ (x : StrengthTotals). (total_for x s).bytes) same, ap (λ (b : Bool). cond b (object_at dump k).bytes 0) no),
      )

  pub one-counted : (group : Group) (s : Strength) → InRange group
      → ((total_in t' group s).count ≡ (total_in t group s).count + one_if (counts_for dump strength group s k))
      × ((total_in t' group s).bytes ≡ (total_in t group s).bytes + bytes_if dump (counts_for dump strength group s) k)
  one-counted group s r = counted group s r (same_group g group) refl

module _ (dump : Dump) (strength : ℕ → Strength) (k : ℕ) (t : Totals) (h : AreTotalsOf dump strength k t) where
  pub few-objects : (group : Group) (s : Strength) → InRange group → (total_in t group s).count ≤ k
  few-objects group s range = subst (λ (m : ℕ). m ≤ k) (sym (h.counts group s range)) (count-le (counts_for dump strength group s) k)

  pub few-bytes : (group : Group) (s : Strength) → InRange group → (total_in t group s).bytes ≤ k * largest_file
  few-bytes group s range = subst (λ (m : ℕ). m ≤ k * largest_file) (sym (h.bytes group s range))
      (sum-le (bytes_if dump (counts_for dump strength group s)) largest_file k
      (λ o lt. cond-le (counts_for dump strength group s o) (object_at dump o).bytes largest_file (h.small o lt)))

  pub same-totals : (strength' : ℕ → Strength) → ((o : ℕ) → strength o ≡ strength' o) → AreTotalsOf dump strength' k t
  same-totals strength' same = record {
    counts = λ group s range. h.counts group s range ∙ count-same (counts_for dump strength group s) (counts_for dump strength' group s) k
        (λ o lt. test group s o);
    bytes = λ group s range. h.bytes group s range ∙ sum-same (bytes_if dump (counts_for dump strength group s))
        (bytes_if dump (counts_for dump strength' group s)) k
        (λ o lt. ap (λ (b : Bool). cond b (object_at dump o).bytes 0) (test group s o));
    grouped = h.grouped;
    in_range = h.in_range;
    small = h.small;
    few = h.few;
  }
    where
      test : (group : Group) (s : Strength) (o : ℕ) → counts_for dump strength group s o ≡ counts_for dump strength' group s o
      test group s o = ap (λ (x : Strength). eqb (rank x) (rank s) && same_group (object_at dump o).group group) (same o)

  -- one object of another strength
  module _ (o : ℕ) (lt : o < k) where
    abbrev group_is : Group
    group_is = (object_at dump o).group

    abbrev size : ℕ
    size = (object_at dump o).bytes

    abbrev totals_are : StrengthTotals
    totals_are = row_at t (group_key group_is)

    itself-counts : counts_for dump strength group_is (strength o) o ≡ true
    itself-counts = ap (λ (b : Bool). b && same_group group_is group_is) (eq-eqb (rank (strength o)) (rank (strength o)) refl) ∙ itself group_is

    pub one-there : 1 ≤ (total_in t group_is (strength o)).count
    one-there = subst (λ (m : ℕ). 1 ≤ m) (sym (h.counts group_is (strength o) (h.in_range o lt)))
        (count-term (counts_for dump strength group_is (strength o)) o k lt itself-counts)

    pub bytes-there : size ≤ (total_in t group_is (strength o)).bytes
    bytes-there = subst (λ (m : ℕ). size ≤ m) (sym (h.bytes group_is (strength o) (h.in_range o lt)))
        (subst (λ (m : ℕ). m ≤ sum_by (bytes_if dump (counts_for dump strength group_is (strength o))) (range_with_len 0 k))
        (ap (λ (b : Bool). cond b size 0) itself-counts) (sum-term (bytes_if dump (counts_for dump strength group_is (strength o))) o k lt))

    module _ (strength' : ℕ → Strength) (others : (x : ℕ) → x ≢ o → strength x ≡ strength' x) (t' : Totals)
        (put : IsRowPut t t' (group_key group_is) (plus_one (less_one totals_are (strength o) size) (strength' o) size)) where
      moved : (group : Group) (s : Strength) → InRange group → (b : Bool) → same_group group_is group ≡ b
          → ((total_in t' group s).count + cond (eqb (rank (strength o)) (rank s) && b) 1 0 ≡ (total_in t group s).count + cond
          (eqb (rank (strength' o)) (rank s) && b) 1 0)
          × ((total_in t' group s).bytes + cond (eqb (rank (strength o)) (rank s) && b) size 0 ≡ (total_in t group s).bytes + cond
          (eqb (rank (strength' o)) (rank s) && b) size 0)
      moved group s r true e = subst
          (λ (x : Group). ((total_in t' x s).count + cond (eqb (rank (strength o)) (rank s) && true) 1 0 ≡ (total_in t x s).count + cond
          (eqb (rank (strength' o)) (rank s) && true) 1 0)
          × ((total_in t' x s).bytes + cond (eqb (rank (strength o)) (rank s) && true) size 0 ≡ (total_in t x s).bytes + cond
          (eqb (rank (strength' o)) (rank s) && true) size 0)) (one-group group_is group e) (
            omega (
              arith,
              ap (λ (x : StrengthTotals). (total_for x s).count) put.here,
              plus-count (less_one totals_are (strength o) size) (strength' o) s size,
              less-count totals_are (strength o) s size one-there,
              ap (λ (b : Bool). cond {A = ℕ} b 1 0) (and-true (eqb (rank (strength o)) (rank s))),
              ap (λ (b : Bool). cond {A = ℕ} b 1 0) (and-true (eqb (rank (strength' o)) (rank s))),
            ),
            omega (
              arith,
              ap (λ (x : StrengthTotals). (total_for x s).bytes) put.here,
              plus-bytes (less_one totals_are (strength o) size) (strength' o) s size,
              less-bytes totals_are (strength o) s size bytes-there,
              ap (λ (b : Bool). cond b size 0) (and-true (eqb (rank (strength o)) (rank s))),
              ap (λ (b : Bool). cond b size 0) (and-true (eqb (rank (strength' o)) (rank s))),
            ),
          )
      moved group s r false e =
          let same = put.others (group_key group) (other-key group_is group (h.in_range o lt) r e) in (
            omega (
              arith,
              ap (λ (x : StrengthTotals). (total_for x s).count) same,
              ap (λ (b : Bool). cond {A = ℕ} b 1 0) (and-false (eqb (rank (strength o)) (rank s))),
              ap (λ (b : Bool). cond {A = ℕ} b 1 0) (and-false (eqb (rank (strength' o)) (rank s))),
            ),
            omega (
              arith,
              ap (λ (x : StrengthTotals). (total_for x s).bytes) same,
              ap (λ (b : Bool). cond b size 0) (and-false (eqb (rank (strength o)) (rank s))),
              ap (λ (b : Bool). cond b size 0) (and-false (eqb (rank (strength' o)) (rank s))),
            ),
          )

      agrees : (group : Group) (s : Strength) (x : ℕ) → x ≢ o → counts_for dump strength group s x ≡ counts_for dump strength' group s x
      agrees group s x other = ap (λ (a : Strength). eqb (rank a) (rank s) && same_group (object_at dump x).group group) (others x other)

      cancel : (new old a b m n : ℕ) → new + a ≡ old + b → old ≡ m → m + b ≡ n + a → new ≡ n
      cancel new old a b m n e f g = omega arith

      pub one-moved : AreTotalsOf dump strength' k t'
      one-moved = record {
        counts = λ group s r.
            let p = counts_for dump strength group s in
            let q = counts_for dump strength' group s in
            cancel (total_in t' group s).count (total_in t group s).count (one_if (p o)) (one_if (q o)) (count_by p (range_with_len 0 k))
            (count_by q (range_with_len 0 k))
            (moved group s r (same_group group_is group) refl).0 (h.counts group s r) (count-at p q o k lt (agrees group s));
        bytes = λ group s r.
            let p = counts_for dump strength group s in
            let q = counts_for dump strength' group s in
            cancel (total_in t' group s).bytes (total_in t group s).bytes (bytes_if dump p o) (bytes_if dump q o)
            (sum_by (bytes_if dump p) (range_with_len 0 k)) (sum_by (bytes_if dump q) (range_with_len 0 k))
            (moved group s r (same_group group_is group) refl).1 (h.bytes group s r)
            (sum-at (bytes_if dump p) (bytes_if dump q) o k lt (λ x other. ap (λ (b : Bool). cond b (object_at dump x).bytes 0) (agrees group s x other)));
        grouped = λ x less. put.kept (group_key (object_at dump x).group) (h.grouped x less);
        in_range = h.in_range;
        small = h.small;
        few = h.few;
      }
