-- Parts of which each has some objects, numbered behind those of the part before.
-- Source: this project.
use Rattle.std.specs.Prelude.{◌≡◌, ℕ, ◌+◌, ◌-◌, ◌*◌, ◌<◌, ◌≤◌, List, [], ◌∷◌, length, slice_index, sum, take}

-- where the objects of each part end, where those of the first begin at this number
abbrev pub ends_from : ℕ → List ℕ → List ℕ
ends_from first [] = []
ends_from first (len ∷ lens) = (first + len) ∷ ends_from (first + len) lens

-- the number of the first object of each part, and behind them how many objects there are
abbrev pub firsts_of : List ℕ → List ℕ
firsts_of lens = 0 ∷ ends_from 0 lens

-- how many objects each part has, by where they end
abbrev pub lens_behind : ℕ → List ℕ → List ℕ
lens_behind first [] = []
lens_behind first (end ∷ ends) = (end - first) ∷ lens_behind end ends

-- how many objects each part has, by the numbers of the first ones
abbrev pub lens_between : List ℕ → List ℕ
lens_between [] = []
lens_between (first ∷ ends) = lens_behind first ends

-- of each 65,536 of the first `total` numbers, one of the first `count` parts that has the first of them or stands before it
pub record LeadTo (count total : ℕ) (lens at : List ℕ) : Type 0 where
  pub covered : total ≤ length at * 65536
  pub before : (j : ℕ) → j < length at → (slice_index at j < count) × (sum (take (slice_index at j) lens) ≤ j * 65536)

-- the numbers of the first objects, and of each 65,536 numbers the part that has the first of them
pub record IsIndexOf (lens firsts at : List ℕ) : Type 0 where
  pub firsts_are : firsts ≡ firsts_of lens
  pub at_is : LeadTo (length lens) (sum lens) lens at
