-- The first of each key.
use Rattle.std.specs.Prelude.{ℕ, ◌==◌, if◌then◌else◌, List, [], ◌∷◌, ◌++◌}
use Rattle.std.specs.List.{list_any}

-- those whose key is none of those before and no earlier one's
abbrev pub firsts_from : {X : Type 0} → (X → ℕ) → List X → List X → List X
firsts_from key before [] = []
firsts_from key before (x ∷ xs) =
    if list_any (λ y. key x == key y) before then firsts_from key (before ++ x ∷ []) xs else x ∷ firsts_from key (before ++ x ∷ []) xs

abbrev pub firsts : {X : Type 0} → (X → ℕ) → List X → List X
firsts key xs = firsts_from key [] xs
