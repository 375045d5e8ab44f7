-- Where the number of an ID stands: in the row of its page.
-- Source: this project.
use Rattle.std.specs.Prelude.{◌≡◌, nat_eq, ℕ, ◌+◌, ◌*◌, ◌/◌, ◌%◌, ◌≤◌, ◌<◌, ◌^◌, ◌==◌, List, length, map, slice_index, if◌then◌else◌, All}
use Rattle.std.specs.List.{position_or_len, IsDistinct}
use Rattle.hd_ids.specs.Noted.{is_noted}

-- the page of an ID: 4,096 addresses, apart by what 8 leaves of them
abbrev pub page_of : ℕ → ℕ
page_of id = id / 4096 * 8 + id % 8

-- the place of an ID in the row of its page
abbrev pub place_of : ℕ → ℕ
place_of id = id / 8 % 512

-- the row of a page, one past the last where it has none
abbrev pub row_of : List ℕ → ℕ → ℕ
row_of pages page = position_or_len (λ k. page == k) pages

-- where the number of an ID stands
abbrev pub slot_of : List ℕ → ℕ → ℕ
slot_of pages id = row_of pages (page_of id) * 512 + place_of id

-- the number of an ID: one more than its index, 0 where it isn't there
abbrev pub number_of : List ℕ → ℕ → ℕ
number_of ids id = if is_noted ids id then position_or_len (λ k. id == k) ids + 1 else 0

-- the ID of a place in the row of a page
abbrev pub id_at : ℕ → ℕ → ℕ
id_at page place = page / 8 * 4096 + place * 8 + page % 8

-- the ID whose number stands in a slot of the rows of these pages
abbrev pub id_of_slot : List ℕ → ℕ → ℕ
id_of_slot pages slot = id_at (slice_index pages (slot / 512)) (slot % 512)

-- the IDs whose numbers stand in these slots
abbrev pub ids_in : List ℕ → List ℕ → List ℕ
ids_in pages slots = map (id_of_slot pages) slots

-- these rows have the numbers of these IDs
pub record AreNumbers (pages numbers ids : List ℕ) : Type 0 where
  pub rows : length numbers ≡ length pages * 512
  pub at : (id : ℕ) → slice_index numbers (slot_of pages id) ≡ number_of ids id
  pub distinct : IsDistinct nat_eq ids

-- rows of IDs with at most 64 numbers for each ID and 65,536 more, and the row of the last page
pub record AreRows (pages numbers ids : List ℕ) (last_page last_row : ℕ) : Type 0 where
  pub numbers_are : AreNumbers pages numbers ids
  pub last : row_of pages last_page ≡ last_row
  pub within : last_row ≤ length pages
  pub small : length numbers ≤ length ids * 64 + 2 ^ 16
  pub few_ids : length ids ≤ 2 ^ 31

-- the slots of the numbers of IDs in rows, and the row of the last page
pub record AreSlots (pages numbers slots : List ℕ) (last_page last_row : ℕ) : Type 0 where
  pub rows : AreRows pages numbers (ids_in pages slots) last_page last_row
  pub low : All (λ (p : ℕ). p < 2 ^ 55) pages
  pub within : All (λ (s : ℕ). s < length pages * 512) slots
  pub few : length numbers ≤ 2 ^ 32
