-- How segments are shared out among workers, and what the workers' parts come to.
use Rattle.std.specs.Prelude.{◌≡◌, ◌⊎◌, ℕ, zero, suc, ◌+◌, ◌/◌, ◌<◌, ◌≤◌, List, [], ◌∷◌, ◌++◌, length, map, take, drop, sum_by, slice_index_or, Result, Ok, Err}
use Rattle.std.specs.List.{flat_map}
use denote.Ref.{Bor}
use Rattle.hd_terms.specs.declared.IdSize.{IdSize}
use Rattle.hd_terms.specs.declared.Span.{Span}
use Rattle.hd_terms.specs.declared.errors.Cause.TheVariants as causes
use Rattle.hd_terms.specs.declared.errors.ReadFault.{ReadFault}
use Rattle.hd_terms.specs.SubRecords.{Sub}
use Rattle.hd_terms.specs.ReadFaults.{fault}
use Rattle.hd_subs.specs.Joined.{joined}
use Rattle.hd_decode.specs.Bodies.{span_total, ReadsBodies, IsBodiesFaultOrMemory}

abbrev pub no_span : Span
no_span = record { start = 0; len = 0 }

-- where the middle of a segment lies, if all bodies stood one after another
abbrev pub middle : List Span → ℕ → ℕ
middle spans i = span_total (take i spans) + (slice_index_or spans i no_span).len / 2

-- the segments of shares, one share after another
abbrev pub shared : List (Bor (List Span)) → List Span
shared shares = flat_map (λ (share : Bor (List Span)). share.now) shares

-- a share for each worker; they are all segments, in their order
pub record AreShares (spans : List Span) (workers : ℕ) (shares : List (Bor (List Span))) : Type 0 where
  pub many : length shares ≡ workers
  pub all : shared shares ≡ spans

-- the longest front of segments whose middles lie within `bytes` bytes
pub record IsLongestFront (spans : List Span) (bytes : ℕ) (front : List Span) : Type 0 where
  pub is : front ≡ take (length front) spans
  pub within : (i : ℕ) → i < length front → middle spans i ≤ bytes
  pub longest : length front < length spans → bytes < middle spans (length front)

-- the share of a worker with others behind it, by how many these are: the last has all segments; one before others has the longest front
-- whose middles lie within its part of the bytes, which is as large as each of theirs
abbrev pub IsFirstShare : List Span → ℕ → List Span → Type 0
IsFirstShare spans zero share = share ≡ spans
IsFirstShare spans (suc others) share = IsLongestFront spans (span_total spans / (others + 2)) share

-- segments are shared out among workers: the first has its share, and what is behind it is shared out among the others
abbrev pub IsSharedOut : List Span → ℕ → List (Bor (List Span)) → Type 0
IsSharedOut spans zero shares = shares ≡ []
IsSharedOut spans (suc others) [] = ⊥
IsSharedOut spans (suc others) (share ∷ shares) = IsFirstShare spans others share.now × IsSharedOut (drop (length share.now) spans) others shares

-- the share of a worker
abbrev pub share_at : List (Bor (List Span)) → ℕ → List Span
share_at shares worker = slice_index_or (map (λ (share : Bor (List Span)). share.now) shares) worker []

-- what a worker answers
abbrev pub Part : Type 0
Part = Result (List Sub) ReadFault

-- its answer for its share: the sub-records, or the fault of the first segment that has one
abbrev pub IsPart : IdSize → List ℕ → List Span → Part → Type 0
IsPart size bytes share (Ok list) = ReadsBodies size bytes share list
IsPart size bytes share (Err f) = IsBodiesFaultOrMemory size bytes share f

-- how many sub-records parts have
abbrev pub part_len : Part → ℕ
part_len (Ok list) = length list
part_len (Err f) = 0

abbrev pub subs_in : List Part → ℕ
subs_in parts = sum_by part_len parts

abbrev pub whole_parts : List (List Sub) → List Part
whole_parts lists = map (λ (list : List Sub). Ok list) lists

-- no part is a fault, and this is all of them, one after another
pub record AreJoined (parts : List Part) (list : List Sub) : Type 0 where
  pub lists : List (List Sub)
  pub all : parts ≡ whole_parts lists
  pub list_is : list ≡ joined lists

-- the first part that is a fault
pub record IsFirstFault (parts : List Part) (f : ReadFault) : Type 0 where
  pub lists : List (List Sub)
  pub after : List Part
  pub all : parts ≡ whole_parts lists ++ Err f ∷ after

abbrev pub IsFirstFaultOrMemory : List Part → ReadFault → Type 0
IsFirstFaultOrMemory parts f = (f ≡ fault causes.OutOfMemory 0) ⊎ IsFirstFault parts f
