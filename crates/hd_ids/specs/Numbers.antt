-- Numbers of IDs, by blocks of 32 places.
-- Source: this project.
use Rattle.std.specs.Prelude.{◌≡◌, ◌≢◌, ℕ, ◌==◌, ◌&&◌, not, Bool, true, false, ◌+◌, ◌-◌, ◌*◌, ◌/◌, ◌%◌, ◌≤◌, ◌^◌, List, get_or, length, map, slice_index}
use Rattle.std.specs.Prelude.{if◌then◌else◌, count_ones, All}
use Rattle.std.specs.List.{range_with_len}
use Rattle.std.specs.Int.{bit_at}
use Rattle.hd_ids.specs.declared.block.Block.{Block}

-- no place of a block has a number
abbrev pub no_numbers : Block
no_numbers = record { mask = 0; first = 0 }

-- the numbers of a block don't follow one another: they stand in a row of scattered numbers
abbrev pub is_scattered : Block → Bool
is_scattered b = b.mask == 0 && not (b.first == 0)

-- the number at a place of a block whose numbers follow one another: as many behind the first as there are before the place; 0 where
-- there is none
abbrev pub number_by : Block → ℕ → ℕ
number_by b place = if bit_at b.mask place == 1 then b.first + count_ones (b.mask % 2 ^ place) else 0

-- the number at a place of a block
abbrev pub number_in : List ℕ → Block → ℕ → ℕ
number_in scattered b place = if is_scattered b then slice_index scattered ((b.first - 1) * 32 + place) else number_by b place

-- the block of an index
abbrev pub block_at : List Block → ℕ → Block
block_at blocks i = get_or blocks i no_numbers

-- the number at a place of all blocks
abbrev pub number_at : List Block → List ℕ → ℕ → ℕ
number_at blocks scattered slot = number_in scattered (block_at blocks (slot / 32)) (slot % 32)

-- the numbers at all places
abbrev pub numbers_of : List Block → List ℕ → List ℕ
numbers_of blocks scattered = map (number_at blocks scattered) (range_with_len 0 (length blocks * 32))

-- a number was put at a place of a block whose numbers follow one another, and still do
pub record IsBlockWith (old : Block) (place number : ℕ) (new : Block) : Type 0 where
  pub here : (scattered : List ℕ) → number_in scattered new place ≡ number
  pub others : (scattered : List ℕ) (other : ℕ) → other ≢ place → number_in scattered new other ≡ number_in scattered old other
  pub low : new.first ≤ 2 ^ 31
  pub follows : is_scattered new ≡ false

-- there are at most 2^32 places; first numbers have at most 32 bits with the numbers of their blocks; rows of scattered numbers are
-- whole, and each is one block's
pub record AreBlocks (blocks : List Block) (scattered : List ℕ) : Type 0 where
  pub few : length blocks ≤ 2 ^ 27
  pub low : All (λ (b : Block). b.first ≤ 2 ^ 31) blocks
  pub whole : length scattered % 32 ≡ 0
  pub within : (i : ℕ) → is_scattered (block_at blocks i) ≡ true → (block_at blocks i).first * 32 ≤ length scattered
  pub apart : (i j : ℕ) → is_scattered (block_at blocks i) ≡ true → is_scattered (block_at blocks j) ≡ true
      → (block_at blocks i).first ≡ (block_at blocks j).first → i ≡ j
