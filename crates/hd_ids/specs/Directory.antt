-- Rows of pages, told by where the pages lie in the heap.
-- Source: this project.
use Rattle.std.specs.Prelude.{◌≡◌, ℕ, ◌==◌, ◌&&◌, not, nat_lt, ◌+◌, ◌-◌, ◌/◌, ◌%◌, ◌<◌, List, length, slice_index, if◌then◌else◌}
use Rattle.hd_ids.specs.Rows.{row_of, AreSlots}

-- a number for each page of IDs that are multiples of 8, from a first one on: one more than its row, or 0
pub record Entries : Type 0 where
  pub first : ℕ
  pub rows : List ℕ

-- one more than the row that is told of a page, 0 where none is
abbrev pub told : Entries → ℕ → ℕ
told d page = if page % 8 == 0 && not (nat_lt (page / 8) d.first) then slice_index d.rows (page / 8 - d.first) else 0

-- each row that is told of a page is its own
abbrev pub TellsRows : (pages : List ℕ) → Entries → Type 0
TellsRows pages d = (page row : ℕ) → told d page ≡ row + 1 → (row < length pages) × (row_of pages page ≡ row)

-- the slots of the numbers of IDs in rows, the row of the last page, and what is told of rows
pub record AreIndexed (pages numbers slots : List ℕ) (last_page last_row : ℕ) (directory : Entries) : Type 0 where
  pub slots_are : AreSlots pages numbers slots last_page last_row
  pub told_is : TellsRows pages directory
