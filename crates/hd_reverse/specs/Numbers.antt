-- Numbers that belong to objects.
-- Source: this project.
use Rattle.std.specs.Prelude.{◌≡◌, ℕ, ◌-◌, ◌<◌, ◌≤◌, ◌^◌, ◌==◌, List, length, map, take, drop, Option, slice_index_or}
use Rattle.std.specs.Option.{option_map}
use Rattle.std.specs.List.{filter}
use Rattle.std.specs.List.Sorted.{IsNonDecreasingBy}
use Rattle.hd_terms.specs.Dump.{Root, Dump}
use Rattle.hd_terms.specs.Edges.{index_of}
use Rattle.hd_reverse.specs.declared.numbers.NumberOn.{NumberOn}

-- the numbers that belong to an object, in their order
abbrev pub numbers_on : List NumberOn → ℕ → List ℕ
numbers_on pairs o = map (λ (p : NumberOn). p.number) (filter (λ (p : NumberOn). p.object == o) pairs)

-- a number that belongs to the object of an ID, where there is one
abbrev pub number_on_id : Dump → ℕ → ℕ → Option NumberOn
number_on_id dump number id = option_map (λ (target : ℕ). record { object = target; number = number }) (index_of dump.objects id)

-- a root of the dump as a number that belongs to an object
abbrev pub root_number : Dump → ℕ × Root → Option NumberOn
root_number dump (r, root) = number_on_id dump r root.id

-- what holds of the numbers as they are kept: the numbers of objects don't fall, and numbers of four bytes suffice
pub record AreByObject (pairs : List NumberOn) : Type 0 where
  pub rise : IsNonDecreasingBy (λ (p : NumberOn). p.object) pairs
  pub few : length pairs < 2 ^ 32

-- the numbers that belong to an object are those from one place to another
pub record IsRow (pairs : List NumberOn) (o start end : ℕ) : Type 0 where
  pub order : start ≤ end
  pub within : end ≤ length pairs
  pub is : numbers_on pairs o ≡ map (λ (p : NumberOn). p.number) (take (end - start) (drop start pairs))

-- where the numbers of an object end: no object before that place is higher, and each from it on is
pub record IsEnd (pairs : List NumberOn) (o at : ℕ) : Type 0 where
  pub within : at ≤ length pairs
  pub upto : (k : ℕ) (d : NumberOn) → k < at → (slice_index_or pairs k d).object ≤ o
  pub behind : (k : ℕ) (d : NumberOn) → at ≤ k → k < length pairs → o < (slice_index_or pairs k d).object
