-- The lists of which rows of IDs are made: the objects' IDs, the starts of the rows, the numbers, the absent IDs.
use Rattle.std.specs.Prelude.{◌≡◌, ℕ, ◌+◌, ◌<◌, ◌≤◌, ◌^◌, List, length, map, drop, slice_index, All}
use Rattle.hd_terms.specs.declared.IdSize.{IdSize}
use Rattle.hd_slots.specs.Table.{Rows, Table, id_at, IsIdWithin}
use Rattle.hd_slots.specs.Codes.{id_of_code, IsCode}
use Rattle.hd_slots.specs.Cuts.{rows_from, last_from, AreRising}

-- the rows that numbers stand for
abbrev pub rows_of : (ids starts items absent : List ℕ) → Rows
rows_of ids starts items absent = record { ids = ids; rows = rows_from starts (map (id_of_code ids absent) items) }

-- what holds of them
pub record AreParts (ids starts items absent : List ℕ) : Type 0 where
  pub few : length ids < 2 ^ 31
  pub no_null : All (λ id. 0 < id) ids
  pub codes : All (IsCode ids absent) items
  pub within : All (λ start. start ≤ length items) starts
  pub rising : AreRising 0 starts (length items)
  pub begins : 0 < length starts
  pub from_zero : slice_index starts 0 ≡ 0
  pub whole : last_from 0 starts ≡ length items
  pub room : length ids + length items < 2 ^ 32

-- the rows that offsets of IDs in a file stand for
abbrev pub table_from : (bytes : List ℕ) → IdSize → (ids starts offsets : List ℕ) → Table
table_from bytes size ids starts offsets = record {
  bytes = bytes;
  size = size;
  ids = ids;
  rows = rows_from starts (map (id_at bytes size) offsets);
  filling = drop (last_from 0 starts) (map (id_at bytes size) offsets);
  count = length offsets;
}

-- what holds of them
pub record AreOffsets (bytes : List ℕ) (size : IdSize) (ids starts offsets : List ℕ) : Type 0 where
  pub small : length bytes < 2 ^ 31
  pub few : length ids < 2 ^ 31
  pub no_null : All (λ id. 0 < id) ids
  pub in_file : All (IsIdWithin size (length bytes)) offsets
  pub within : All (λ start. start ≤ length offsets) starts
  pub rising : AreRising 0 starts (length offsets)
  pub begins : 0 < length starts
  pub from_zero : slice_index starts 0 ≡ 0
  pub room : length ids + length offsets < 2 ^ 32
