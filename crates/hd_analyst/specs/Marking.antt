-- How `mark`, `private` and `back` end, and how a desk is refreshed before a command.
-- Source: this project.
use Rattle.std.specs.Prelude.{◌≡◌, ◌⊎◌, ◌≤◌, ◌<◌, ℕ, List, [], ◌∷◌, ◌++◌, length, drop, decimal, None, Some, Result, Ok, Err}
use Rattle.hd_terms.specs.declared.Event.{Event}
use Rattle.hd_terms.specs.declared.errors.LogFault.TheVariants as faults
use Rattle.hd_terms.specs.declared.errors.Refusal.{Refusal}
use Rattle.hd_terms.specs.declared.errors.Refusal.TheVariants as refusals
use Rattle.hd_lines.specs.Memory.{Memory, most_marks, with_mark, gone_private, gone_back}
use Rattle.hd_lines.specs.Replies.{IsUnserved, answered, refused, refusal_name}
use Rattle.hd_lines.specs.Sessions.{IsRefreshed}
use Rattle.hd_analyst.specs.Work.{Work}

-- the same analyst, whose session remembers something else now
pub record Remembers (old new : Work) (memory : Memory) : Type 0 where
  pub same_analyst : new.analyst ≡ old.analyst
  pub memory_is : new.memory ≡ memory

-- a later log may have been seen
pub record Refreshes (old new : Work) : Type 0 where
  pub same_analyst : new.analyst ≡ old.analyst
  pub refreshed : IsRefreshed old.analyst.who old.memory new.memory

-- how a refresh ends: the state has come to what was seen; or the command that follows isn't run
abbrev pub RefreshEnds : (old new : Work) → Result (Unit {0}) Refusal → Type 0
RefreshEnds old new (Ok done) = Refreshes old new × (new.front ≡ new.memory.log)
RefreshEnds old new (Err r) = Refreshes old new × IsUnserved (refused (refusal_name r))

-- memory ran out
abbrev pub RanOut : Refusal → Type 0
RanOut r = r ≡ refusals.Log faults.OutOfMemory

-- the log is marked, and this is the number of the mark
pub record Marks (old new : Work) (m : ℕ) : Type 0 where
  pub room : length old.memory.marks < most_marks
  pub number : m ≡ length old.memory.marks
  pub marked : Remembers old new (with_mark old.memory)

-- why there is no mark: memory ran out, or there are as many as there may be
abbrev pub IsWhyNoMark : Work → Refusal → Type 0
IsWhyNoMark old r = RanOut r ⊎ ((r ≡ refusals.MarksFull) × (most_marks ≤ length old.memory.marks))

-- the log is marked, or nothing changes
abbrev pub MarkEnds : (old new : Work) → Result ℕ Refusal → Type 0
MarkEnds old new (Ok m) = Marks old new m
MarkEnds old new (Err r) = Remembers old new old.memory × IsWhyNoMark old r

-- a private part begins where none is open, after `n` events
pub record GoesPrivate (old new : Work) (n : ℕ) : Type 0 where
  pub none_open : old.memory.home ≡ None
  pub number : n ≡ length old.memory.log
  pub begun : Remembers old new (gone_private old.memory)

-- why none begins: memory ran out, or one is open
abbrev pub IsWhyNotPrivate : Work → Refusal → Type 0
IsWhyNotPrivate old r = RanOut r ⊎ ((r ≡ refusals.AlreadyPrivate) × (home : List Event) × (old.memory.home ≡ Some home))

-- a private part begins, or nothing changes
abbrev pub PrivateEnds : (old new : Work) → Result ℕ Refusal → Type 0
PrivateEnds old new (Ok n) = GoesPrivate old new n
PrivateEnds old new (Err r) = Remembers old new old.memory × IsWhyNotPrivate old r

-- the private part ends that was open, after `k` events of its own
pub record GoesBack (old new : Work) (k : ℕ) : Type 0 where
  pub home : List Event
  pub was_open : old.memory.home ≡ Some home
  pub number : k ≡ length (drop (length home) old.memory.log)
  pub ended : Remembers old new (gone_back old.memory home)

-- the private part ends, or none was open and nothing changes
abbrev pub BackEnds : (old new : Work) → Result ℕ Refusal → Type 0
BackEnds old new (Ok k) = GoesBack old new k
BackEnds old new (Err r) = Remembers old new old.memory × (r ≡ refusals.NotPrivate) × (old.memory.home ≡ None)

-- the reply to such a command: a line of a word and a number, or why there is none
abbrev pub numbered_reply : (word : List ℕ) → Result ℕ Refusal → List ℕ
numbered_reply word (Ok number) = answered ((word ++ decimal number) ∷ [])
numbered_reply word (Err r) = refused (refusal_name r)
