-- The strength of an object: the best of its root paths.
-- Source: java.lang.ref package specification, "Reachability".
use Rattle.std.specs.Prelude.{◌≡◌, ◌≢◌, ℕ, ◌≤◌, List}
use Rattle.hd_terms.specs.declared.Strength.{Strength}
use Rattle.hd_terms.specs.declared.Strength.TheVariants as strengths
use Rattle.hd_terms.specs.Ranks.{rank}
use Rattle.hd_terms.specs.Paths.{Edge, RootEntry, Standing, IsPath, path_strength}

-- an object's strength is the greatest over the paths to it, unreachable where there is none
pub record HasStrength (g : Standing) (o : ℕ) (s : Strength) : Type 0 where
  pub found : s ≢ strengths.Unreachable → (r : RootEntry) × (es : List Edge) × IsPath g r es o × (path_strength es ≡ s)
  pub greatest : (r : RootEntry) (es : List Edge) → IsPath g r es o → rank (path_strength es) ≤ rank s
