-- The keys of groups, each once.
-- Source: this project.
use Rattle.std.specs.Prelude.{ℕ, ◌≤◌, nat_eq, if◌then◌else◌, All, List, [], ◌∷◌, ◌++◌}
use Rattle.std.specs.List.{IsDistinct, list_any}

-- a key is added, if it isn't there
abbrev pub with_key : List ℕ → ℕ → List ℕ
with_key keys key = if list_any (nat_eq key) keys then keys else keys ++ key ∷ []

-- each key once, and none past the last: 2 ^ 64 + 2 ^ 8
pub record AreKeys (keys : List ℕ) : Type 0 where
  pub distinct : IsDistinct nat_eq keys
  pub small : All (λ key. key ≤ 18446744073709551872) keys
