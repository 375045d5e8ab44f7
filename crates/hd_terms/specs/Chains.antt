-- Chains: the root paths that are shown.
-- Source: this project. A chain explains a strength, so it has that strength and goes round no cycle.
use Rattle.std.specs.Prelude.{◌≡◌, ℕ, List, [], ◌∷◌, Contains}
use Rattle.hd_terms.specs.declared.Strength.{Strength}
use Rattle.hd_terms.specs.Paths.{Edge, RootEntry, Standing, IsPath, path_strength, objects_on}

-- no object twice
abbrev pub NoneTwice : List ℕ → Type 0
NoneTwice [] = Unit {0}
NoneTwice (x ∷ xs) = (Contains xs x → ⊥) × NoneTwice xs

-- a chain of an object of this strength: a root path of that strength in which no object occurs twice
pub record IsChain (g : Standing) (r : RootEntry) (es : List Edge) (o : ℕ) (s : Strength) : Type 0 where
  pub path : IsPath g r es o
  pub strength : path_strength es ≡ s
  pub simple : NoneTwice (objects_on r es)
