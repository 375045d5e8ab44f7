-- Resolving references: the number of the object whose ID lies at an offset.
use Rattle.std.specs.Prelude.{◌≡◌, ◌≢◌, ◌⊎◌, ℕ, ◌+◌, ◌-◌, ◌<◌, ◌≤◌, ◌==◌, nat_lt, if◌then◌else◌, List, length, map, take, drop, position, slice_index, All}
use Rattle.std.specs.Option.{option_map_or}
use Rattle.hd_terms.specs.declared.IdSize.{IdSize}
use Rattle.hd_slots.specs.Table.{null_code, id_at, IsIdWithin}
use Rattle.hd_slots.specs.Codes.{id_of_code, target_of_code, IsCode}

-- what marks the offset of an ID that is no object's
abbrev pub mark : ℕ
mark = 2147483648

-- what was found is a marked offset
abbrev pub IsMarked : ℕ → Type 0
IsMarked item = (mark ≤ item) × (item ≢ null_code)

-- what was found is no marked offset
abbrev pub IsUnmarked : ℕ → Type 0
IsUnmarked item = mark ≤ item → item ≡ null_code

-- what is found for an ID that lies at an offset: null, the object's number, or the marked offset
abbrev pub found_for : List ℕ → ℕ → ℕ → ℕ
found_for ids offset id = if id == 0 then null_code else option_map_or (λ (o : ℕ). o) (position (λ x. id == x) ids) (mark + offset)

abbrev pub found_code : List ℕ → List ℕ → IdSize → ℕ → ℕ
found_code ids bytes size offset = found_for ids offset (id_at bytes size offset)

-- the ID for which a number was found
abbrev pub id_of_found : List ℕ → List ℕ → IdSize → ℕ → ℕ
id_of_found ids bytes size item =
    if item == null_code then 0 else if nat_lt item (length ids) then slice_index ids item else id_at bytes size (item - mark)

-- a number was found for its ID: it is an object's exactly where that has the ID, and else it is null or a marked offset
pub record IsFound (ids bytes : List ℕ) (size : IdSize) (item : ℕ) : Type 0 where
  pub target : position (λ x. id_of_found ids bytes size item == x) ids ≡ target_of_code ids item
  pub known : (item ≡ null_code) ⊎ ((item < length ids) ⊎ ((mark ≤ item) × (item ≢ null_code) × IsIdWithin size (length bytes) (item - mark)))

-- these numbers stand for these IDs
pub record AreCodesOf (ids wanted codes absent : List ℕ) : Type 0 where
  pub codes_are : All (IsCode ids absent) codes
  pub ids_are : map (id_of_code ids absent) codes ≡ wanted

-- the numbers before an index stand for their IDs, those from it on are as they were found
pub record AreKeptSoFar (ids bytes : List ℕ) (size : IdSize) (before items absent : List ℕ) (i : ℕ) : Type 0 where
  pub codes : All (IsCode ids absent) (take i items)
  pub ids_are : map (id_of_code ids absent) (take i items) ≡ map (id_of_found ids bytes size) (take i before)
  pub rest : drop i items ≡ drop i before
  pub few : length absent ≤ i

-- a block is done, whatever list the numbers were found in: if those before `start` are done, so are then those before `end`
abbrev pub KeepsBlock : List ℕ → List ℕ → IdSize → List ℕ → List ℕ → ℕ → List ℕ → List ℕ → ℕ → Type 0
KeepsBlock ids bytes size items absent start items' absent' end =
    (before : List ℕ) → All (IsFound ids bytes size) before → length items ≡ length before
    → AreKeptSoFar ids bytes size before items absent start → AreKeptSoFar ids bytes size before items' absent' end
