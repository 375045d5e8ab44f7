-- Numbers of IDs that are put behind those of others, place by place.
-- Source: this project.
use Rattle.std.specs.Prelude.{◌≡◌, ◌≢◌, ℕ, false, ◌==◌, ◌+◌, ◌*◌, ◌/◌, ◌%◌, ◌≤◌, ◌<◌, ◌^◌, ◌⊎◌, List, length, replicate, slice_index, if◌then◌else◌, All, ◌∷◌}
use Rattle.std.specs.Prelude.{[], ◌++◌}
use Rattle.hd_ids.specs.declared.block.Block.{Block}
use Rattle.hd_ids.specs.Numbers.{is_scattered, number_by}
use Rattle.hd_ids.specs.Rows.{ids_in, AreNumbers}

-- what stands at a place where the number of a further ID is put, `base` higher; 0 is none
abbrev pub put : (number more base : ℕ) → ℕ
put number more base = if more == 0 then number else more + base

-- the numbers of a block that follow one another, each `base` higher
pub record IsBehind (old : Block) (base : ℕ) (new : Block) : Type 0 where
  pub numbers : (place : ℕ) → number_by new place ≡ put 0 (number_by old place) base
  pub low : new.first ≤ 2 ^ 31
  pub old_follows : is_scattered old ≡ false
  pub follows : is_scattered new ≡ false

-- a number is put at a place, which has none of the others
pub record IsPutAt (old new : List ℕ) (slot number base : ℕ) : Type 0 where
  pub count : length new ≡ length old
  pub here : slice_index new slot ≡ put (slice_index old slot) number base
  pub apart : (slice_index old slot ≡ 0) ⊎ (number ≡ 0)
  pub others : (q : ℕ) → q ≢ slot → slice_index new q ≡ slice_index old q

-- the numbers of `n` places from `from` on are put at those from `start` on; no place has one of both
pub record ArePut (old new : List ℕ) (start : ℕ) (more : List ℕ) (from base n : ℕ) : Type 0 where
  pub count : length new ≡ length old
  pub here : (i : ℕ) → i < n → slice_index new (start + i) ≡ put (slice_index old (start + i)) (slice_index more (from + i)) base
  pub apart : (i : ℕ) → i < n → (slice_index old (start + i) ≡ 0) ⊎ (slice_index more (from + i) ≡ 0)
  pub before : (q : ℕ) → q < start → slice_index new q ≡ slice_index old q
  pub behind : (q : ℕ) → start + n ≤ q → slice_index new q ≡ slice_index old q

-- one of these places has a number of both
pub record Meet (old : List ℕ) (start : ℕ) (more : List ℕ) (from n : ℕ) : Type 0 where
  pub place : ℕ
  pub within : place < n
  pub old_some : slice_index old (start + place) ≢ 0
  pub more_some : slice_index more (from + place) ≢ 0

-- the first `n` rows of further numbers are put into these rows; no place has one of both
pub record AreRowsPut (old new rows more : List ℕ) (base n : ℕ) : Type 0 where
  pub count : length new ≡ length old
  pub here : (k place : ℕ) → k < n → place < 512
      → slice_index new (slice_index rows k * 512 + place) ≡ put (slice_index old (slice_index rows k * 512 + place)) (slice_index more (k * 512 + place)) base
  pub apart : (k place : ℕ) → k < n → place < 512
      → (slice_index old (slice_index rows k * 512 + place) ≡ 0) ⊎ (slice_index more (k * 512 + place) ≡ 0)
  pub others : (row place : ℕ) → place < 512 → ((k : ℕ) → k < n → slice_index rows k ≢ row)
      → slice_index new (row * 512 + place) ≡ slice_index old (row * 512 + place)

-- one of these rows has a place with a number of both
pub record RowsMeet (old rows more : List ℕ) : Type 0 where
  pub row : ℕ
  pub row_within : row < length rows
  pub meet : Meet old (slice_index rows row * 512) more (row * 512) 512

-- no row is one of those behind it
abbrev pub AreApartRows : List ℕ → Type 0
AreApartRows rows = (j k : ℕ) → j < k → k < length rows → slice_index rows j ≢ slice_index rows k

-- a page has a row, and either it had it before or it is new and the row has no number
pub record HasGotRow (pages numbers : List ℕ) (page row : ℕ) (pages' numbers' : List ℕ) : Type 0 where
  pub within : row < length pages'
  pub is : slice_index pages' row ≡ page
  pub grown : ((pages' ≡ pages) × (numbers' ≡ numbers)) ⊎ ((pages' ≡ pages ++ page ∷ []) × (numbers' ≡ numbers ++ replicate 512 0))

-- the first `n` of further pages have these rows; the IDs and the numbers are as before
pub record HaveGotRows (pages numbers pages' numbers' rows more : List ℕ) (n : ℕ) : Type 0 where
  pub numbers_kept : (ids : List ℕ) → AreNumbers pages numbers ids → AreNumbers pages' numbers' ids
  pub ids_kept : (slots : List ℕ) → All (λ (s : ℕ). s < length pages * 512) slots → ids_in pages' slots ≡ ids_in pages slots
  pub grown : length pages ≤ length pages'
  pub few : length pages' ≤ length pages + n
  pub whole : length numbers' ≡ length pages' * 512
  pub low : All (λ (p : ℕ). p < 2 ^ 55) pages → All (λ (p : ℕ). p < 2 ^ 55) pages'
  pub count : length rows ≡ n
  pub within : (k : ℕ) → k < n → slice_index rows k < length pages'
  pub are : (k : ℕ) → k < n → slice_index pages' (slice_index rows k) ≡ slice_index more k

-- where the number of an ID stands, once its row is another one
abbrev pub moved_slot : List ℕ → ℕ → ℕ
moved_slot rows slot = slice_index rows (slot / 512) * 512 + slot % 512
