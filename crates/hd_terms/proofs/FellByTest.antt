-- A count of what falls, by tests that compute, for examples.
use Rattle.std.proofs.Common.{◌≡◌, ℕ, ◌==◌, Bool, true, false, ◌&&◌, not, List, length, refl, ap, subst, eq-eqb}
use Rattle.std.specs.Prelude.{count_by}
use Rattle.std.specs.List.{range_with_len}
use Rattle.std.proofs.lemmas.Bool.{eqb-true}
use Rattle.hd_terms.specs.declared.Strength.TheVariants as strengths
use Rattle.hd_terms.specs.declared.Event.{Event}
use Rattle.hd_terms.specs.Ranks.{rank}
use Rattle.hd_terms.specs.Strengths.{HasStrength}
use Rattle.hd_terms.specs.Dump.{Dump}
use Rattle.hd_terms.specs.EditedDump.{standing}
use Rattle.hd_terms.specs.Totals.{Decides}
use Rattle.hd_terms.specs.Fell.{IsUnreachable, Falls, FellCount}
use Rattle.hd_terms.specs.Settled.{Reached, reached_at}
use Rattle.hd_terms.proofs.RankLemmas.{same_rank}
use Rattle.hd_terms.proofs.OneStrength.{one_strength}
use Rattle.hd_terms.proofs.SettledByTest.{is_settled, strengths_of}

-- nothing reaches an object, as what is kept of it says
abbrev is_out : List Reached → ℕ → Bool
is_out ks o = rank (reached_at ks o).strength == 0

-- it is unreachable after, and was not before
abbrev pub falls_by : (ks ls : List Reached) → ℕ → Bool
falls_by ks ls o = is_out ls o && not (is_out ks o)

parts : (a b : Bool) → (a && not b) ≡ true → (a ≡ true) × (b ≡ false)
parts true false h = (refl, refl)
parts true true h = absurd cc
parts false b h = absurd cc

both : (a b : Bool) → a ≡ true → (b ≡ true → ⊥) → (a && not b) ≡ true
both true false h other = refl
both true true h other = absurd (other refl)
both false b h other = absurd cc

contrary : (b : Bool) → b ≡ true → b ≡ false → ⊥
contrary true h k = cc
contrary false h k = cc

module _ (dump : Dump) (log : List Event) (ks : List Reached) (h : is_settled (standing dump log) ks ≡ true) (o : ℕ) where
  says : is_out ks o ≡ true → IsUnreachable dump log o
  says out = subst (HasStrength (standing dump log) o)
      (same_rank (reached_at ks o).strength strengths.Unreachable (eqb-true (rank (reached_at ks o).strength) 0 out)) (strengths_of (standing dump log) ks h o)

  said : IsUnreachable dump log o → is_out ks o ≡ true
  said out = eq-eqb (rank (reached_at ks o).strength) 0
      (ap rank (one_strength (standing dump log) o (reached_at ks o).strength strengths.Unreachable (strengths_of (standing dump log) ks h o) out))

-- the test decides what falls
pub decided : (dump : Dump) (before after : List Event) (ks ls : List Reached) → is_settled (standing dump before) ks ≡ true
    → is_settled (standing dump after) ls ≡ true
    → Decides dump (Falls dump before after) (falls_by ks ls)
decided dump before after ks ls h k o within = (
  (λ is. let p = parts (is_out ls o) (is_out ks o) is in (says dump after ls k o p.0, λ was. contrary (is_out ks o) (said dump before ks h o was) p.1)),
  (λ f. both (is_out ls o) (is_out ks o) (said dump after ls k o f.0) (λ out. f.1 (says dump before ks h o out))),
)

-- what passes the tests is counted
pub fell : (dump : Dump) (before after : List Event) (ks ls : List Reached) → is_settled (standing dump before) ks ≡ true
    → is_settled (standing dump after) ls ≡ true
    → FellCount dump before after (count_by (falls_by ks ls) (range_with_len 0 (length dump.objects)))
fell dump before after ks ls h k = record { falls = falls_by ks ls; decides = decided dump before after ks ls h k; count = refl }
