-- References as numbers of four bytes: null, an object, or an ID that is no object's.
use Rattle.std.specs.Prelude.{◌≡◌, ℕ, ◌+◌, ◌-◌, ◌<◌, ◌⊎◌, ◌==◌, nat_lt, if◌then◌else◌, List, ◌++◌, length, position, slice_index, Option, Some, None}
use Rattle.hd_slots.specs.Table.{null_code}

-- the ID that a number stands for
abbrev pub id_of_code : List ℕ → List ℕ → ℕ → ℕ
id_of_code ids absent code =
    if code == null_code then 0 else if nat_lt code (length ids) then slice_index ids code else slice_index absent (code - length ids)

-- the object that a number stands for, where there are `objects` objects
abbrev pub object_of_code : ℕ → ℕ → Option ℕ
object_of_code objects code = if nat_lt code objects then Some code else None

-- the same, where these are the IDs of the objects
abbrev pub target_of_code : List ℕ → ℕ → Option ℕ
target_of_code ids code = object_of_code (length ids) code

-- a number is one of an object exactly where its ID is
pub record IsCode (ids absent : List ℕ) (code : ℕ) : Type 0 where
  pub target : position (λ x. id_of_code ids absent code == x) ids ≡ target_of_code ids code
  pub known : (code ≡ null_code) ⊎ (code < length ids + length absent)

-- the list has grown at its end, by one at most
pub record IsLonger (old new : List ℕ) : Type 0 where
  pub more : List ℕ
  pub is : new ≡ old ++ more
  pub one : length more < 2
