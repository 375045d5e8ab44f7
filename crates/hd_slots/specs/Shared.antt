-- What is kept of a slot while rows are made: the file offset of its ID, or which of the offsets that many slots share it is.
use Rattle.std.specs.Prelude.{ℕ, ◌-◌, ◌<◌, ◌≤◌, nat_lt, if◌then◌else◌, List, slice_index}
use Rattle.hd_terms.specs.declared.IdSize.{IdSize}
use Rattle.hd_slots.specs.Table.{IsIdWithin}
use Rattle.hd_slots.specs.Resolving.{mark, found_code}

-- IDs that many slots have, and an offset of each
pub record Noted : Type 0 where
  pub ids : List ℕ
  pub offsets : List ℕ

-- the file offset of the ID of a slot, where these are the shared offsets
abbrev pub offset_of : List ℕ → ℕ → ℕ
offset_of shared item = if nat_lt item mark then item else slice_index shared (item - mark)

-- a slot's ID lies within a file of `n` bytes, or is one of `many` that are shared
pub record IsKept (size : IdSize) (n many item : ℕ) : Type 0 where
  pub own : item < mark → IsIdWithin size n item
  pub shared : mark ≤ item → item - mark < many

-- what is found for a slot, where this was found for the shared offsets
abbrev pub found_item : List ℕ → List ℕ → IdSize → List ℕ → ℕ → ℕ
found_item ids bytes size shared item = if nat_lt item mark then found_code ids bytes size item else slice_index shared (item - mark)
