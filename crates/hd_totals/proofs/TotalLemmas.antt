-- The totals of strengths: one is put, and the others stay.
use Rattle.std.proofs.Common.{◌≡◌, ◌∙◌, ℕ, zero, suc, ◌+◌, ◌≤◌, Bool, true, false, cond, eqb, eqb-true, refl, sym, ap, arith, add-zero}
use Rattle.hd_terms.specs.declared.Strength.{Strength}
use Rattle.hd_terms.specs.declared.Strength.TheVariants as strengths
use Rattle.hd_terms.specs.Ranks.{rank}
use Rattle.hd_totals.specs.declared.total.Total.{Total}
use Rattle.hd_totals.specs.declared.total.StrengthTotals.{StrengthTotals}
use Rattle.hd_totals.specs.Running.{plus_one, less_one}
use Rattle.hd_totals.specs.Totals.{no_total, no_totals, total_for, with_total, plus_object, less_object, sum_of, sums_of}

-- the strength of a rank
abbrev of_rank : ℕ → Strength
of_rank zero = strengths.Unreachable
of_rank (suc zero) = strengths.Phantom
of_rank (suc (suc zero)) = strengths.Final
of_rank (suc (suc (suc zero))) = strengths.Weak
of_rank (suc (suc (suc (suc zero)))) = strengths.Soft
of_rank (suc (suc (suc (suc (suc n))))) = strengths.Strong

of_rank-rank : (s : Strength) → of_rank (rank s) ≡ s
of_rank-rank strengths.Unreachable = refl
of_rank-rank strengths.Phantom = refl
of_rank-rank strengths.Final = refl
of_rank-rank strengths.Weak = refl
of_rank-rank strengths.Soft = refl
of_rank-rank strengths.Strong = refl

-- strengths of one rank are one
pub one-rank : (s t : Strength) → eqb (rank s) (rank t) ≡ true → s ≡ t
one-rank s t e = sym (of_rank-rank s) ∙ ap of_rank (eqb-true (rank s) (rank t) e) ∙ of_rank-rank t

-- another total counts for its own strength
pub total-put : (row : StrengthTotals) (s t : Strength) (total : Total) → total_for (with_total row s total) t ≡ cond (eqb (rank s) (rank t)) total
    (total_for row t)
total-put row strengths.Strong strengths.Strong total = refl
total-put row strengths.Strong strengths.Soft total = refl
total-put row strengths.Strong strengths.Weak total = refl
total-put row strengths.Strong strengths.Final total = refl
total-put row strengths.Strong strengths.Phantom total = refl
total-put row strengths.Strong strengths.Unreachable total = refl
total-put row strengths.Soft strengths.Strong total = refl
total-put row strengths.Soft strengths.Soft total = refl
total-put row strengths.Soft strengths.Weak total = refl
total-put row strengths.Soft strengths.Final total = refl
total-put row strengths.Soft strengths.Phantom total = refl
total-put row strengths.Soft strengths.Unreachable total = refl
total-put row strengths.Weak strengths.Strong total = refl
total-put row strengths.Weak strengths.Soft total = refl
total-put row strengths.Weak strengths.Weak total = refl
total-put row strengths.Weak strengths.Final total = refl
total-put row strengths.Weak strengths.Phantom total = refl
total-put row strengths.Weak strengths.Unreachable total = refl
total-put row strengths.Final strengths.Strong total = refl
total-put row strengths.Final strengths.Soft total = refl
total-put row strengths.Final strengths.Weak total = refl
total-put row strengths.Final strengths.Final total = refl
total-put row strengths.Final strengths.Phantom total = refl
total-put row strengths.Final strengths.Unreachable total = refl
total-put row strengths.Phantom strengths.Strong total = refl
total-put row strengths.Phantom strengths.Soft total = refl
total-put row strengths.Phantom strengths.Weak total = refl
total-put row strengths.Phantom strengths.Final total = refl
total-put row strengths.Phantom strengths.Phantom total = refl
total-put row strengths.Phantom strengths.Unreachable total = refl
total-put row strengths.Unreachable strengths.Strong total = refl
total-put row strengths.Unreachable strengths.Soft total = refl
total-put row strengths.Unreachable strengths.Weak total = refl
total-put row strengths.Unreachable strengths.Final total = refl
total-put row strengths.Unreachable strengths.Phantom total = refl
total-put row strengths.Unreachable strengths.Unreachable total = refl

pub total-none : (s : Strength) → total_for no_totals s ≡ no_total
total-none strengths.Strong = refl
total-none strengths.Soft = refl
total-none strengths.Weak = refl
total-none strengths.Final = refl
total-none strengths.Phantom = refl
total-none strengths.Unreachable = refl

-- the totals of two parts, strength by strength
pub total-sums : (one other : StrengthTotals) (s : Strength) → total_for (sums_of one other) s ≡ sum_of (total_for one s) (total_for other s)
total-sums one other strengths.Strong = refl
total-sums one other strengths.Soft = refl
total-sums one other strengths.Weak = refl
total-sums one other strengths.Final = refl
total-sums one other strengths.Phantom = refl
total-sums one other strengths.Unreachable = refl

-- no object beside some
sum-none : (t : Total) → sum_of t no_total ≡ t
sum-none t = ap (λ (n : ℕ). record { count = n; bytes = t.bytes + 0 }) (add-zero t.count) ∙ ap (λ (n : ℕ). record { count = t.count; bytes = n })
    (add-zero t.bytes)

pub sums-none : (row : StrengthTotals) → sums_of row no_totals ≡ row
sums-none row = rw (sum-none row.strong, sum-none row.soft, sum-none row.weak, sum-none row.finalizable, sum-none row.phantom, sum-none row.unreachable) refl

-- one object more of a strength
case-count : (b : Bool) (total : Total) (bytes : ℕ) → (cond b (plus_object total bytes) total).count ≡ total.count + cond b 1 0
case-count true total bytes = refl
case-count false total bytes = sym (add-zero total.count)

case-bytes : (b : Bool) (total : Total) (bytes : ℕ) → (cond b (plus_object total bytes) total).bytes ≡ total.bytes + cond b bytes 0
case-bytes true total bytes = refl
case-bytes false total bytes = sym (add-zero total.bytes)

same-total : (row : StrengthTotals) (s t : Strength) (bytes : ℕ) (b : Bool) → eqb (rank s) (rank t) ≡ b
    → cond b (plus_object (total_for row s) bytes) (total_for row t) ≡ cond b (plus_object (total_for row t) bytes) (total_for row t)
same-total row s t bytes true e = ap (λ (x : Strength). plus_object (total_for row x) bytes) (one-rank s t e)
same-total row s t bytes false e = refl

plus-total : (row : StrengthTotals) (s t : Strength) (bytes : ℕ) → total_for (plus_one row s bytes) t ≡ cond (eqb (rank s) (rank t))
    (plus_object (total_for row t) bytes) (total_for row t)
plus-total row s t bytes = total-put row s t (plus_object (total_for row s) bytes) ∙ same-total row s t bytes (eqb (rank s) (rank t)) refl

pub plus-count : (row : StrengthTotals) (s t : Strength) (bytes : ℕ) → (total_for (plus_one row s bytes) t).count ≡ (total_for row t).count + cond
    (eqb (rank s) (rank t)) 1 0
plus-count row s t bytes = ap (λ (x : Total). x.count) (plus-total row s t bytes) ∙ case-count (eqb (rank s) (rank t)) (total_for row t) bytes

pub plus-bytes : (row : StrengthTotals) (s t : Strength) (bytes : ℕ) → (total_for (plus_one row s bytes) t).bytes ≡ (total_for row t).bytes + cond
    (eqb (rank s) (rank t)) bytes 0
plus-bytes row s t bytes = ap (λ (x : Total). x.bytes) (plus-total row s t bytes) ∙ case-bytes (eqb (rank s) (rank t)) (total_for row t) bytes

-- one object of a strength fewer
less-case : (row : StrengthTotals) (s t : Strength) (bytes : ℕ) (b : Bool) → eqb (rank s) (rank t) ≡ b → 1 ≤ (total_for row s).count
    → (cond b (less_object (total_for row s) bytes) (total_for row t)).count + cond b 1 0 ≡ (total_for row t).count
less-case row s t bytes true e some =
    let same : (total_for row s).count ≡ (total_for row t).count = ap (λ (x : Strength). (total_for row x).count) (one-rank s t e) in
    omega arith
less-case row s t bytes false e some = add-zero (total_for row t).count

less-bytes-case : (row : StrengthTotals) (s t : Strength) (bytes : ℕ) (b : Bool) → eqb (rank s) (rank t) ≡ b → bytes ≤ (total_for row s).bytes
    → (cond b (less_object (total_for row s) bytes) (total_for row t)).bytes + cond b bytes 0 ≡ (total_for row t).bytes
less-bytes-case row s t bytes true e some =
    let same : (total_for row s).bytes ≡ (total_for row t).bytes = ap (λ (x : Strength). (total_for row x).bytes) (one-rank s t e) in
    omega arith
less-bytes-case row s t bytes false e some = add-zero (total_for row t).bytes

pub less-count : (row : StrengthTotals) (s t : Strength) (bytes : ℕ) → 1 ≤ (total_for row s).count → (total_for (less_one row s bytes) t).count + cond
    (eqb (rank s) (rank t)) 1 0 ≡ (total_for row t).count
less-count row s t bytes some =
    ap (λ (x : Total). x.count + cond (eqb (rank s) (rank t)) 1 0) (total-put row s t (less_object (total_for row s) bytes))
    ∙ less-case row s t bytes (eqb (rank s) (rank t)) refl some

pub less-bytes : (row : StrengthTotals) (s t : Strength) (bytes : ℕ) → bytes ≤ (total_for row s).bytes → (total_for (less_one row s bytes) t).bytes + cond
    (eqb (rank s) (rank t)) bytes 0 ≡ (total_for row t).bytes
less-bytes row s t bytes some =
    ap (λ (x : Total). x.bytes + cond (eqb (rank s) (rank t)) bytes 0) (total-put row s t (less_object (total_for row s) bytes))
    ∙ less-bytes-case row s t bytes (eqb (rank s) (rank t)) refl some
