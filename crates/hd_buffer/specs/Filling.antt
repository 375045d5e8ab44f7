-- What calls of a function make of new bytes.
-- Of a `Fn(usize, &mut [u8])`: g says what its calls do, and f is its value.
-- Source: this project.
use Rattle.std.specs.Prelude.{◌≡◌, ℕ, ◌+◌, ◌≤◌, List, [], ◌++◌, length, replicate}
use denote.Param.Members.{Shared}
use denote.Ref.{MutBor}
use Rattle.std.specs.Fork.{AcceptsAt, ChangesAt}

module _ {F : Type 0} (g : Shared F (ℕ × (MutBor (List ℕ) × Unit {0})) (Unit {0} × (MutBor (List ℕ) × Unit {0}))) (f : F) where
  -- f may be called with any number of zeros at any offset, where they lie between these two offsets
  abbrev pub TakesZeros : (start end : ℕ) → Type 0
  TakesZeros start end = (offset count : ℕ) → start ≤ offset → offset + count ≤ end → AcceptsAt g f offset (replicate count 0)

  -- the bytes lie side by side in runs, the first of which begins at this offset, and each is what a call of f with the run's offset leaves of zeros
  pub data FilledFrom (start : ℕ) : List ℕ → Type 0 where
    no_run : FilledFrom start []
    one_more : (xs ys : List ℕ) → FilledFrom start xs → ChangesAt g f (start + length xs) (replicate (length ys) 0) ys → FilledFrom start (xs ++ ys)

  -- `count` bytes more, directly after those that were there, each run of them filled by a call of f
  pub record FillsNext (count : ℕ) (before after : List ℕ) : Type 0 where
    pub added : List ℕ
    pub are_added : after ≡ before ++ added
    pub counted : length added ≡ count
    pub by_calls : FilledFrom (length before) added
