-- The objects that become unreachable, counted by what is kept of them.
use Rattle.std.proofs.Common.{◌≡◌, ◌∙◌, ℕ, ◌<◌, Bool, true, false, ◌&&◌, true≢false, List, length, get_or, take, cond, ◌+◌, refl, sym, ap, subst, arith}
use Rattle.std.proofs.Common.{zero-add, add-zero}
use Rattle.std.specs.Prelude.{not, count_by}
use Rattle.std.specs.List.{range_with_len}
use Rattle.std.proofs.lemmas.List.{take_all}
use Rattle.std.proofs.lemmas.List.FromFn.{length-range_with_len, get_or-range_with_len}
use Rattle.std.proofs.lemmas.List.Sums.{count_by_more_yes, count_by_more_no}
use Rattle.hd_terms.specs.declared.Strength.{Strength}
use Rattle.hd_terms.specs.declared.Strength.TheVariants as strengths
use Rattle.hd_terms.specs.declared.Event.{Event}
use Rattle.hd_terms.specs.Paths.{Standing}
use Rattle.hd_terms.specs.Dump.{Dump}
use Rattle.hd_terms.specs.EditedDump.{standing}
use Rattle.hd_terms.specs.Strengths.{HasStrength}
use Rattle.hd_terms.specs.Settled.{Reached, Settled, reached_at}
use Rattle.hd_terms.specs.Totals.{Decides}
use Rattle.hd_terms.specs.Fell.{FellCount, Falls, IsUnreachable}
use Rattle.hd_totals.specs.Fallen.{is_unreachable, falls_from}

pub unreachable-true : (s : Strength) → is_unreachable s ≡ true → s ≡ strengths.Unreachable
unreachable-true strengths.Unreachable e = refl
unreachable-true strengths.Phantom e = absurd cc
unreachable-true strengths.Final e = absurd cc
unreachable-true strengths.Weak e = absurd cc
unreachable-true strengths.Soft e = absurd cc
unreachable-true strengths.Strong e = absurd cc

-- a test of two parts passes where the first does and the second doesn't
both : (a b : Bool) → (a && not b) ≡ true → (a ≡ true) × (b ≡ false)
both true false e = (refl, refl)
both true true e = absurd cc
both false b e = absurd cc

neither : (a b : Bool) → a ≡ true → (b ≡ true → ⊥) → (a && not b) ≡ true
neither true false e other = refl
neither true true e other = absurd (other refl)
neither false b e other = absurd cc

-- what is kept is settled for a dump under two logs
module _ (gives : (g : Standing) (ks : List Reached) → Settled g ks → (o : ℕ) → HasStrength g o (reached_at ks o).strength)
    (one : (g : Standing) (o : ℕ) (a b : Strength) → HasStrength g o a → HasStrength g o b → a ≡ b)
    (dump : Dump) where
  -- an object is unreachable exactly where what is kept of it says so
  says : (log : List Event) (ks : List Reached) → Settled (standing dump log) ks → (o : ℕ) → is_unreachable (reached_at ks o).strength ≡ true
      → IsUnreachable dump log o
  says log ks h o e = subst (λ (s : Strength). HasStrength (standing dump log) o s) (unreachable-true (reached_at ks o).strength e)
      (gives (standing dump log) ks h o)

  said : (log : List Event) (ks : List Reached) → Settled (standing dump log) ks → (o : ℕ) → IsUnreachable dump log o
      → is_unreachable (reached_at ks o).strength ≡ true
  said log ks h o u = ap is_unreachable (one (standing dump log) o (reached_at ks o).strength strengths.Unreachable (gives (standing dump log) ks h o) u)

  -- the test decides which objects fall
  pub decides-falls : (before after : List Event) (ks ls : List Reached) → Settled (standing dump before) ks → Settled (standing dump after) ls
      → Decides dump (Falls dump before after) (falls_from ks ls)
  decides-falls before after ks ls h k o within = (falls o, fallen o)
    where
      falls : (o : ℕ) → falls_from ks ls o ≡ true → Falls dump before after o
      falls o e =
          let parts = both (is_unreachable (reached_at ls o).strength) (is_unreachable (reached_at ks o).strength) e in
          (says after ls k o parts.0, λ u. absurd (true≢false (sym (said before ks h o u) ∙ parts.1)))

      fallen : (o : ℕ) → Falls dump before after o → falls_from ks ls o ≡ true
      fallen o f = neither (is_unreachable (reached_at ls o).strength) (is_unreachable (reached_at ks o).strength) (said after ls k o f.0)
          (λ e. f.1 (says before ks h o e))

  pub fell-count : (before after : List Event) (ks ls : List Reached) → Settled (standing dump before) ks → Settled (standing dump after) ls
      → length ls ≡ length dump.objects
      → (n : ℕ) → n ≡ count_by (falls_from ks ls) (range_with_len 0 (length ls)) → FellCount dump before after n
  fell-count before after ks ls h k same n counted = record {
    falls = falls_from ks ls;
    decides = decides-falls before after ks ls h k;
    count = counted ∙ ap (λ (m : ℕ). count_by (falls_from ks ls) (range_with_len 0 m)) same;
  }

module _ (p : ℕ → Bool) (n o : ℕ) (within : o < n) where
  here : p (get_or (range_with_len 0 n) o 0) ≡ p o
  here = ap p (get_or-range_with_len 0 n o 0 within ∙ zero-add o)

  -- one more number, which passes a test or doesn't
  pub count-more : (b : Bool) → p o ≡ b → count_by p (take (o + 1) (range_with_len 0 n)) ≡ count_by p (take o (range_with_len 0 n)) + cond b 1 0
  count-more true e = count_by_more_yes p (range_with_len 0 n) o 0 (omega (arith, length-range_with_len 0 n)) (here ∙ e)
  count-more false e = count_by_more_no p (range_with_len 0 n) o 0 (omega (arith, length-range_with_len 0 n)) (here ∙ e)
      ∙ sym (add-zero (count_by p (take o (range_with_len 0 n))))

-- all numbers
pub count-all : (p : ℕ → Bool) (n : ℕ) → count_by p (take n (range_with_len 0 n)) ≡ count_by p (range_with_len 0 n)
count-all p n = ap (count_by p) (take_all n (range_with_len 0 n) (omega (arith, length-range_with_len 0 n)))
