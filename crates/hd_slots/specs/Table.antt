-- The references of objects, seen as rows of IDs.
-- Source of the size of an ID: HPROF binary format.
use Rattle.std.specs.Prelude.{◌≡◌, ℕ, ◌+◌, ◌≤◌, ◌==◌, Bool, ◌&&◌, not, List, [], length, drop, position, is_some, is_none, count_by, sum_by}
use Rattle.std.specs.List.{slice_index_or}
use Rattle.byteorder.specs.Endian.{big_number}
use Rattle.hd_terms.specs.declared.IdSize.{IdSize}
use Rattle.hd_terms.specs.Records.{id_len}

-- the IDs of the objects by number, and the row of each object
pub record Rows : Type 0 where
  pub ids : List ℕ
  pub rows : List (List ℕ)

-- rows that are being made from a file: its bytes and the size of its IDs, the IDs of the objects by number, the row of each
-- object so far, the row that is being filled, and how many IDs the rows have
pub record Table : Type 0 where
  pub bytes : List ℕ
  pub size : IdSize
  pub ids : List ℕ
  pub rows : List (List ℕ)
  pub filling : List ℕ
  pub count : ℕ

-- the row of an object
abbrev pub row_at : Rows → ℕ → List ℕ
row_at t o = slice_index_or t.rows o []

-- an ID is an object's
abbrev pub is_known : List ℕ → ℕ → Bool
is_known ids id = is_some (position (λ x. id == x) ids)

-- an ID is neither null nor an object's
abbrev pub is_absent : List ℕ → ℕ → Bool
is_absent ids id = not (id == 0) && is_none (position (λ x. id == x) ids)

-- how many IDs of all rows are objects', and how many are neither null nor an object's
abbrev pub known_in : Rows → ℕ
known_in t = sum_by (count_by (is_known t.ids)) t.rows

abbrev pub absent_in : Rows → ℕ
absent_in t = sum_by (count_by (is_absent t.ids)) t.rows

-- the number that stands for null
abbrev pub null_code : ℕ
null_code = 4294967295

-- the ID that lies at an offset of a file
abbrev pub id_at : List ℕ → IdSize → ℕ → ℕ
id_at bytes size offset = big_number (id_len size) (drop offset bytes)

-- an ID lies whole in a file of `n` bytes
abbrev pub IsIdWithin : IdSize → ℕ → ℕ → Type 0
IsIdWithin size n offset = offset + id_len size ≤ n

-- this ID lies at that offset
pub record HasIdAt (bytes : List ℕ) (size : IdSize) (offset id : ℕ) : Type 0 where
  pub within : IsIdWithin size (length bytes) offset
  pub is : id_at bytes size offset ≡ id
