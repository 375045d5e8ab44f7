-- Noting IDs one after another, each once.
-- Source: this project.
use Rattle.std.specs.Prelude.{ℕ, ◌==◌, Bool, not, if◌then◌else◌, List, [], ◌∷◌, ◌++◌}
use Rattle.std.specs.List.{list_any}

-- an ID is one of these
abbrev pub is_noted : List ℕ → ℕ → Bool
is_noted ids id = list_any (λ k. id == k) ids

-- the IDs once an ID is noted: a new one comes last
abbrev pub noted : List ℕ → ℕ → List ℕ
noted ids id = if is_noted ids id then ids else ids ++ id ∷ []

-- no ID is in both
abbrev pub are_apart : List ℕ → List ℕ → Bool
are_apart front back = not (list_any (is_noted front) back)
