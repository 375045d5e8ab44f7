-- What calls of a function do at the places of a list that stands in a longer one.
-- Of a `Fn(usize, &mut T)`: g says what its calls do, and f is its value.
-- Source: this project.
use Rattle.std.specs.Prelude.{ℕ, ◌+◌, ◌<◌, List, length, slice_index_or}
use denote.Param.Members.{Shared}
use denote.Ref.{MutBor}
use Rattle.std.specs.Fork.{AcceptsAt, ChangesAt}

module _ {F T : Type 0} (g : Shared F (ℕ × (MutBor T × Unit {0})) ((Unit {0}) × (MutBor T × Unit {0}))) (f : F) (base : ℕ) where
  -- f may be called at each place of xs, which begin at this one
  pub record AcceptsFrom (xs : List T) : Type 0 where
    pub each : (k : ℕ) (d : T) → k < length xs → AcceptsAt g f (base + k) (slice_index_or xs k d)

  -- each element of ys is what a call of f left at its place
  pub record ChangesFrom (xs ys : List T) : Type 0 where
    pub each : (k : ℕ) (d : T) → k < length xs → ChangesAt g f (base + k) (slice_index_or xs k d) (slice_index_or ys k d)
