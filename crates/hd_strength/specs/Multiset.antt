-- Numbers with repeats, in ascending order.
-- Source: this project.
use Rattle.std.specs.Prelude.{ℕ, ◌<◌, ◌≤◌, ◌==◌, Bool, false, nat_eq, List, length, Option, Some, None, count_by, slice_index_or}

-- how often a number stands among some
abbrev pub multiplicity : ℕ → List ℕ → ℕ
multiplicity n numbers = count_by (nat_eq n) numbers

-- a number is the one of an option, where there is one
abbrev pub is_number : Option ℕ → ℕ → Bool
is_number None n = false
is_number (Some number) n = n == number

-- a place in ascending numbers: those before it are below a number, and those from it on aren't
pub record IsPlace (numbers : List ℕ) (number at : ℕ) : Type 0 where
  pub within : at ≤ length numbers
  pub below : (k d : ℕ) → k < at → slice_index_or numbers k d < number
  pub rest : (k d : ℕ) → at ≤ k → k < length numbers → number ≤ slice_index_or numbers k d
