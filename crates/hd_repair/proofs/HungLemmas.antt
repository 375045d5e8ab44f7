use Rattle.std.proofs.Common.{◌≡◌, ◌∙◌, ℕ, ◌⊎◌, inl, inr, List, sym, ap, subst}
use Rattle.hd_terms.specs.declared.Slot.{Slot}
use Rattle.hd_terms.specs.declared.Support.{Support}
use Rattle.hd_terms.specs.declared.Support.TheVariants as supports
use Rattle.hd_terms.specs.Settled.{Reached, reached_at, IsBefore}
use Rattle.hd_repair.specs.Hanging.{IsHung, by_root, by_source}

-- the source of a support
abbrev pub source_in : Support → ℕ
source_in supports.Nothing = 0
source_in (supports.Root n) = 0
source_in (supports.Edge source slot) = source

-- what hangs by an edge comes after its source, which hangs
pub hung_source : (ks : List Reached) (o source : ℕ) (slot : Slot) → (reached_at ks o).support ≡ supports.Edge source slot → IsHung ks o
    → IsBefore (reached_at ks source) (reached_at ks o) × IsHung ks source
hung_source ks o source slot is (by_root n e) = let both : supports.Root n ≡ supports.Edge source slot = sym e ∙ is in absurd cc
hung_source ks o source slot is (by_source s t e before h) =
    let same : s ≡ source = ap source_in (sym e ∙ is) in
    subst (λ (x : ℕ). IsBefore (reached_at ks x) (reached_at ks o) × IsHung ks x) same (before, h)

-- what has no support doesn't hang
pub loose_not_hung : (ks : List Reached) (o : ℕ) → (reached_at ks o).support ≡ supports.Nothing → IsHung ks o → ⊥
loose_not_hung ks o is (by_root n e) = let both : supports.Root n ≡ supports.Nothing = sym e ∙ is in absurd cc
loose_not_hung ks o is (by_source s t e before h) = let both : supports.Edge s t ≡ supports.Nothing = sym e ∙ is in absurd cc

-- where nothing that hangs is changed, it hangs still
module _ (ks ks' : List Reached) (IsChanged : ℕ → Type 0) (others : (o : ℕ) → IsChanged o ⊎ (reached_at ks' o ≡ reached_at ks o))
    (not_hung : (o : ℕ) → IsChanged o → IsHung ks o → ⊥) where
  same_hung : (o : ℕ) → IsHung ks o → reached_at ks' o ≡ reached_at ks o
  same_hung o h = elim (others o) [
    | inl changed ↦ absurd (not_hung o changed h)
    | inr same ↦ same
  ]

  pub hung_still : (o : ℕ) → IsHung ks o → IsHung ks' o
  hung_still o (by_root n e) = by_root n (ap (λ (k : Reached). k.support) (same_hung o (by_root n e)) ∙ e)
  hung_still o (by_source s t e before h) =
      let here : reached_at ks' o ≡ reached_at ks o = same_hung o (by_source s t e before h) in
      let there : reached_at ks' s ≡ reached_at ks s = same_hung s h in
      by_source s t (ap (λ (k : Reached). k.support) here ∙ e) (rw (here, there) before) (hung_still s h)
