-- Rows of parts of the objects, one part behind the other.
use Rattle.std.specs.Prelude.{◌≡◌, ℕ, ◌<◌, ◌≤◌, ◌^◌, List, [], length, map, sum_by, slice_index_or, All}
use Rattle.std.specs.List.{flat_map}
use Rattle.hd_terms.specs.declared.IdSize.TheVariants as sizes
use Rattle.hd_slots.specs.Table.{Rows, Table}

-- the rows of all parts
abbrev pub rows_made : List Table → List (List ℕ)
rows_made parts = flat_map (λ (t : Table). t.rows) parts

-- the first part, while they are made; where there is none, no rows of an empty file
abbrev pub first_table : List Table → Table
first_table parts = slice_index_or parts 0 (record { bytes = []; size = sizes.Eight; ids = []; rows = []; filling = []; count = 0 })

-- the rows of all parts as one table, of the file and over the IDs of the first
abbrev pub joined_table : List Table → Table
joined_table parts = record (first_table parts) { rows = rows_made parts; filling = []; count = sum_by (λ (t : Table). t.count) parts }

-- no row of a part is being filled, and it is over the same IDs, from one file, as the first
pub record IsOfFile (first part : Table) : Type 0 where
  pub bytes_are : part.bytes ≡ first.bytes
  pub size_is : part.size ≡ first.size
  pub ids_are : part.ids ≡ first.ids
  pub filled : part.filling ≡ []

-- so it is with each of some parts
pub record AreOfOneFile (parts : List Table) : Type 0 where
  pub some : 0 < length parts
  pub few_parts : length parts ≤ 256
  pub few_rows : length (rows_made parts) < 2 ^ 32
  pub file : All (IsOfFile (first_table parts)) parts

-- what is left of a table once its references are found
abbrev pub rows_in : Table → Rows
rows_in t = record { ids = t.ids; rows = t.rows }

-- the rows of all parts, over these IDs
abbrev pub joined_rows : List ℕ → List Rows → Rows
joined_rows ids parts = record { ids = ids; rows = flat_map (λ (t : Rows). t.rows) parts }

-- parts are over the same IDs
pub record AreOfOneDump (ids : List ℕ) (parts : List Rows) : Type 0 where
  pub few : length ids < 2 ^ 31
  pub some : 0 < length parts
  pub few_parts : length parts ≤ 256
  pub few_rows : length (joined_rows ids parts).rows < 2 ^ 32
  pub each : All (λ (t : Rows). t.ids ≡ ids) parts

-- and it is kept how many rows each part has
pub record AreIndexed (ids : List ℕ) (parts : List Rows) (lens : List ℕ) : Type 0 where
  pub dump : AreOfOneDump ids parts
  pub lens_are : lens ≡ map (λ (t : Rows). length t.rows) parts
