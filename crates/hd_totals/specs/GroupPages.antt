-- Of each page of objects, the groups of its objects by buckets, and an ID that none of its objects is below.
-- Source: this project.
use Rattle.std.specs.Prelude.{◌≡◌, ℕ, ◌+◌, ◌-◌, ◌*◌, ◌/◌, ◌%◌, ◌<◌, ◌≤◌, ◌^◌, ◌++◌, List, length, replicate, slice_index_or}
use Rattle.std.specs.Int.{bit_at}
use Rattle.hd_terms.specs.declared.Group.{Group}
use Rattle.hd_terms.specs.declared.Group.TheVariants as groups
use Rattle.hd_terms.specs.Dump.{Dump, object_at}
use Rattle.hd_totals.specs.LastChanges.{page_of}

-- words of 64 bits, 64 a page, and IDs, one a page
pub record PageMarks : Type 0 where
  pub marks : List ℕ
  pub least : List ℕ

abbrev pub AreWhole : PageMarks → Type 0
AreWhole p = length p.marks ≡ length p.least * 64

-- the marks of `pages` pages, of which no object is noted
abbrev pub no_marks : ℕ → PageMarks
no_marks pages = record { marks = replicate (pages * 64) 0; least = replicate pages (2 ^ 64 - 1) }

-- the number of a group, spread over 64 bits
abbrev pub spread : Group → ℕ
spread (groups.Class id) = id * 11400714819323198485 % 2 ^ 64
spread (groups.Prim element) = element * 11400714819323198485 % 2 ^ 64
spread groups.Classes = 0

-- pages, and later ones behind them
abbrev pub pages_behind : (earlier later : PageMarks) → PageMarks
pages_behind earlier later = record { marks = earlier.marks ++ later.marks; least = earlier.least ++ later.least }

-- the two buckets of a group, each one of 4,096
abbrev pub first_bucket : Group → ℕ
first_bucket group = spread group / 2 ^ 52

abbrev pub second_bucket : Group → ℕ
second_bucket group = spread group / 2 ^ 40 % 4096

-- the word of a page that has the bit of a bucket
abbrev pub word_at : List ℕ → (page bucket : ℕ) → ℕ
word_at marks page bucket = slice_index_or marks (page * 64 + bucket / 64) 0

-- a bucket is marked at a page
abbrev pub HasBucket : List ℕ → (page bucket : ℕ) → Type 0
HasBucket marks page bucket = bit_at (word_at marks page bucket) (bucket % 64) ≡ 1

-- both buckets of a group are marked at a page
abbrev pub IsMarked : PageMarks → ℕ → Group → Type 0
IsMarked p page group = HasBucket p.marks page (first_bucket group) × HasBucket p.marks page (second_bucket group)

-- the ID that no object of a page is below
abbrev pub least_at : PageMarks → ℕ → ℕ
least_at p page = slice_index_or p.least page 0

-- a group and an ID are noted at a page
pub record IsNoted (p : PageMarks) (page : ℕ) (group : Group) (id : ℕ) : Type 0 where
  pub marked : IsMarked p page group
  pub above : least_at p page ≤ id

-- the objects of a dump from one number on, before another, are noted at pages of which the first is that of the first object
abbrev pub AreNotedBetween : Dump → (start end : ℕ) → PageMarks → Type 0
AreNotedBetween dump start end p = (o : ℕ) → start ≤ o → o < end → IsNoted p (page_of o - page_of start) (object_at dump o).group (object_at dump o).id

-- all objects of a dump are noted
abbrev pub AreNoted : Dump → PageMarks → Type 0
AreNoted dump p = (o : ℕ) → o < length dump.objects → IsNoted p (page_of o) (object_at dump o).group (object_at dump o).id
