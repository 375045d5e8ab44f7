use Rattle.std.proofs.Common.{◌≡◌, ◌≢◌, ◌∙◌, ℕ, zero, suc, ◌≤◌, refl, sym, ap, arith, min, leb}
use Rattle.std.proofs.lemmas.Bool.{cond_both, leb-true, leb-false}
use Rattle.hd_terms.specs.declared.Strength.{Strength}
use Rattle.hd_terms.specs.declared.Strength.TheVariants as strengths
use Rattle.hd_terms.specs.declared.EdgeKind.{EdgeKind}
use Rattle.hd_terms.specs.declared.EdgeKind.TheVariants as kinds
use Rattle.hd_terms.specs.declared.Mode.{Mode}
use Rattle.hd_terms.specs.declared.Mode.TheVariants as modes
use Rattle.hd_terms.specs.Ranks.{rank, given_by, weaker_of, least_passed_on}

-- the strength of a rank
abbrev of_rank : ℕ → Strength
of_rank zero = strengths.Unreachable
of_rank (suc zero) = strengths.Phantom
of_rank (suc (suc zero)) = strengths.Final
of_rank (suc (suc (suc zero))) = strengths.Weak
of_rank (suc (suc (suc (suc zero)))) = strengths.Soft
of_rank (suc (suc (suc (suc (suc n))))) = strengths.Strong

of_rank-rank : (s : Strength) → of_rank (rank s) ≡ s
of_rank-rank strengths.Unreachable = refl
of_rank-rank strengths.Phantom = refl
of_rank-rank strengths.Final = refl
of_rank-rank strengths.Weak = refl
of_rank-rank strengths.Soft = refl
of_rank-rank strengths.Strong = refl

-- strengths of one rank are one
pub same_rank : (s t : Strength) → rank s ≡ rank t → s ≡ t
same_rank s t h = sym (of_rank-rank s) ∙ ap of_rank h ∙ of_rank-rank t

pub rank-le : (s : Strength) → rank s ≤ 5
rank-le strengths.Unreachable = omega arith
rank-le strengths.Phantom = omega arith
rank-le strengths.Final = omega arith
rank-le strengths.Weak = omega arith
rank-le strengths.Soft = omega arith
rank-le strengths.Strong = omega arith

pub weaker-le_left : (s t : Strength) → rank (weaker_of s t) ≤ rank s
weaker-le_left s t = cond_both (leb (rank s) (rank t)) s t (λ x. rank x ≤ rank s) (λ e. omega arith) (λ e. omega (arith, leb-false (rank s) (rank t) e))

pub weaker-le_right : (s t : Strength) → rank (weaker_of s t) ≤ rank t
weaker-le_right s t = cond_both (leb (rank s) (rank t)) s t (λ x. rank x ≤ rank t) (λ e. omega (arith, leb-true (rank s) (rank t) e)) (λ e. omega arith)

pub rank-weaker : (s t : Strength) → rank (weaker_of s t) ≡ min (rank s) (rank t)
rank-weaker s t = cond_both (leb (rank s) (rank t)) s t (λ x. rank x ≡ min (rank s) (rank t)) (λ e. omega (arith, leb-true (rank s) (rank t) e))
    (λ e. omega (arith, leb-false (rank s) (rank t) e))

pub weaker_comm : (s t : Strength) → weaker_of s t ≡ weaker_of t s
weaker_comm s t = same_rank _ _ (omega (arith, rank-weaker s t, rank-weaker t s))

pub weaker_assoc : (s t u : Strength) → weaker_of (weaker_of s t) u ≡ weaker_of s (weaker_of t u)
weaker_assoc s t u = same_rank _ _ (omega (arith, rank-weaker s t, rank-weaker t u, rank-weaker (weaker_of s t) u, rank-weaker s (weaker_of t u)))

-- what neither is below, the weaker isn't
pub weaker-greatest : (n : ℕ) (s t : Strength) → n ≤ rank s → n ≤ rank t → n ≤ rank (weaker_of s t)
weaker-greatest n s t hs ht = cond_both (leb (rank s) (rank t)) s t (λ x. n ≤ rank x) (λ e. hs) (λ e. ht)

pub given-positive : (k : EdgeKind) → 1 ≤ rank (given_by k)
given-positive kinds.Strong = omega arith
given-positive kinds.Soft = omega arith
given-positive kinds.Weak = omega arith
given-positive kinds.Final = omega arith
given-positive kinds.Phantom = omega arith

-- only unreachable has rank 0
pub reached_rank : (s : Strength) → s ≢ strengths.Unreachable → 1 ≤ rank s
reached_rank strengths.Unreachable h = absurd (h refl)
reached_rank strengths.Phantom h = omega arith
reached_rank strengths.Final h = omega arith
reached_rank strengths.Weak h = omega arith
reached_rank strengths.Soft h = omega arith
reached_rank strengths.Strong h = omega arith

-- nothing is passed on of what is unreachable
pub least-positive : (mode : Mode) → 1 ≤ rank (least_passed_on mode)
least-positive modes.Direct = omega arith
least-positive modes.Closure = omega arith
