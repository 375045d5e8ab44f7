-- Lists in parts: what the parts hold together, and that all parts but the last are full.
-- Source: this project.
use Rattle.std.specs.Prelude.{◌≡◌, ℕ, ◌<◌, ◌≤◌, List, [], ◌∷◌, ◌++◌, length}

-- the parts, one after another
abbrev pub joined : {X : Type 0} → List (List X) → List X
joined [] = []
joined (p ∷ ps) = p ++ joined ps

-- no part is longer than n, and each has that length but the last
abbrev pub IsFilled : {X : Type 0} → ℕ → List (List X) → Type 0
IsFilled n [] = Unit {0}
IsFilled n (p ∷ ps) = (length p ≤ n) × (0 < length ps → length p ≡ n) × IsFilled n ps

-- parts that are filled, and how many items they hold
pub record HasLength {X : Type 0} (n count : ℕ) (ps : List (List X)) : Type 0 where
  pub filled : IsFilled n ps
  pub len : count ≡ length (joined ps)
