-- Totals by tests that compute, for examples.
use Rattle.std.proofs.Common.{◌≡◌, ◌∙◌, ℕ, ◌==◌, Bool, true, false, ◌&&◌, if◌then◌else◌, List, length, refl, ap, sym, subst, eq-eqb}
use Rattle.std.specs.Prelude.{count_by, sum_by}
use Rattle.std.specs.List.{range_with_len}
use Rattle.std.proofs.lemmas.Bool.{and_parts, eqb-true}
use Rattle.hd_terms.specs.declared.Group.{Group}
use Rattle.hd_terms.specs.declared.Group.TheVariants as groups
use Rattle.hd_terms.specs.declared.Strength.{Strength}
use Rattle.hd_terms.specs.declared.Event.{Event}
use Rattle.hd_terms.specs.Ranks.{rank}
use Rattle.hd_terms.specs.Strengths.{HasStrength}
use Rattle.hd_terms.specs.Dump.{Dump, object_at}
use Rattle.hd_terms.specs.EditedDump.{standing}
use Rattle.hd_terms.specs.Totals.{IsTotal, IsGroupTotal}
use Rattle.hd_terms.specs.Settled.{Reached, reached_at}
use Rattle.hd_terms.proofs.RankLemmas.{same_rank}
use Rattle.hd_terms.proofs.OneStrength.{one_strength}
use Rattle.hd_terms.proofs.SettledByTest.{is_settled, strengths_of}

-- one group
abbrev same_group : Group → Group → Bool
same_group (groups.Class a) (groups.Class b) = a == b
same_group (groups.Class a) (groups.Prim b) = false
same_group (groups.Class a) groups.Classes = false
same_group (groups.Prim a) (groups.Class b) = false
same_group (groups.Prim a) (groups.Prim b) = a == b
same_group (groups.Prim a) groups.Classes = false
same_group groups.Classes (groups.Class b) = false
same_group groups.Classes (groups.Prim b) = false
same_group groups.Classes groups.Classes = true

same_group-true : (a b : Group) → same_group a b ≡ true → a ≡ b
same_group-true (groups.Class a) (groups.Class b) h = ap (λ (k : ℕ). groups.Class k) (eqb-true a b h)
same_group-true (groups.Class a) (groups.Prim b) h = absurd cc
same_group-true (groups.Class a) groups.Classes h = absurd cc
same_group-true (groups.Prim a) (groups.Class b) h = absurd cc
same_group-true (groups.Prim a) (groups.Prim b) h = ap (λ (k : ℕ). groups.Prim k) (eqb-true a b h)
same_group-true (groups.Prim a) groups.Classes h = absurd cc
same_group-true groups.Classes (groups.Class b) h = absurd cc
same_group-true groups.Classes (groups.Prim b) h = absurd cc
same_group-true groups.Classes groups.Classes h = refl

same_group-same : (a : Group) → same_group a a ≡ true
same_group-same (groups.Class a) = eq-eqb a a refl
same_group-same (groups.Prim a) = eq-eqb a a refl
same_group-same groups.Classes = refl

-- what is kept of an object has a strength
abbrev pub has : List Reached → Strength → ℕ → Bool
has ks s o = rank (reached_at ks o).strength == rank s

-- it does, and the object is of a group
abbrev pub is_of : Dump → List Reached → Group → Strength → ℕ → Bool
is_of dump ks group s o = same_group (object_at dump o).group group && has ks s o

both : (a b : Bool) → a ≡ true → b ≡ true → (a && b) ≡ true
both true b h k = k
both false b h k = absurd cc

module _ (dump : Dump) (log : List Event) (ks : List Reached) (h : is_settled (standing dump log) ks ≡ true) (s : Strength) where
  says : (o : ℕ) → has ks s o ≡ true → HasStrength (standing dump log) o s
  says o is = subst (HasStrength (standing dump log) o) (same_rank (reached_at ks o).strength s (eqb-true (rank (reached_at ks o).strength) (rank s) is))
      (strengths_of (standing dump log) ks h o)

  said : (o : ℕ) → HasStrength (standing dump log) o s → has ks s o ≡ true
  said o is = eq-eqb (rank (reached_at ks o).strength) (rank s)
      (ap rank (one_strength (standing dump log) o (reached_at ks o).strength s (strengths_of (standing dump log) ks h o) is))

  -- all objects that pass the test
  pub total : IsTotal dump log s (count_by (has ks s) (range_with_len 0 (length dump.objects)))
      (sum_by (λ o. if has ks s o then (object_at dump o).bytes else 0) (range_with_len 0 (length dump.objects)))
  total = record { has = has ks s; decides = λ o within. (says o, said o); count_is = refl; bytes_is = refl }

  -- those of a group
  pub group_total : (group : Group) → IsGroupTotal dump log group s (count_by (is_of dump ks group s) (range_with_len 0 (length dump.objects)))
      (sum_by (λ o. if is_of dump ks group s o then (object_at dump o).bytes else 0) (range_with_len 0 (length dump.objects)))
  group_total group = record {
    has = is_of dump ks group s;
    decides = λ o within. (
      (λ is. let p = and_parts (same_group (object_at dump o).group group) (has ks s o) is in (same_group-true (object_at dump o).group group p.0, says o p.1)),
      (λ p. both (same_group (object_at dump o).group group) (has ks s o) (ap (λ (g : Group). same_group (object_at dump o).group g) (sym p.0)
          ∙ same_group-same (object_at dump o).group) (said o p.1)),
    );
    count_is = refl;
    bytes_is = refl;
  }
