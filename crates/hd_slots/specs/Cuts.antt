-- Rows of one list, by the indexes at which they start.
use Rattle.std.specs.Prelude.{ℕ, ◌-◌, ◌≤◌, List, [], ◌∷◌, take, drop}

-- the parts between one index and the next
abbrev pub between : {X : Type 0} → ℕ → List ℕ → List X → List (List X)
between start [] xs = []
between start (end ∷ ends) xs = take (end - start) (drop start xs) ∷ between end ends xs

abbrev pub rows_from : {X : Type 0} → List ℕ → List X → List (List X)
rows_from [] xs = []
rows_from (start ∷ ends) xs = between start ends xs

-- the last index, or another where there is none
abbrev pub last_from : ℕ → List ℕ → ℕ
last_from d [] = d
last_from d (x ∷ xs) = last_from x xs

-- from one index on, the indexes rise up to another
abbrev pub AreRising : ℕ → List ℕ → ℕ → Type 0
AreRising start [] end = start ≤ end
AreRising start (e ∷ es) end = (start ≤ e) × AreRising e es end
