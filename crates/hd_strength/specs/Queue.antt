-- The objects that wait to pass their strength on.
-- Source: this project.
use Rattle.std.specs.Prelude.{◌≡◌, ℕ, ◌+◌, ◌⊎◌, List, ◌++◌, length, Contains}
use Rattle.hd_strength.specs.declared.queue.Order.{Order}
use Rattle.hd_strength.specs.declared.queue.Order.TheVariants.{FirstCome, LastCome}

-- the objects that wait
abbrev pub objects_in : Order → List ℕ
objects_in (FirstCome objects) = objects.items
objects_in (LastCome objects) = objects.items

-- one of them is taken out
pub record IsTaken (old new : List ℕ) (o : ℕ) : Type 0 where
  pub was : Contains old o
  pub before : (p : ℕ) → Contains new p → Contains old p
  pub left : (p : ℕ) → Contains old p → (p ≡ o) ⊎ Contains new p
  pub one_less : length new + 1 ≡ length old

-- some objects are the first of a list
pub record Begins (first list : List ℕ) : Type 0 where
  pub rest : List ℕ
  pub is : list ≡ first ++ rest
