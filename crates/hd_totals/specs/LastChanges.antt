-- When the strengths of the objects of a page last changed.
-- Source: this project.
use Rattle.std.specs.Prelude.{◌≡◌, ℕ, ◌/◌, ◌<◌, ◌≤◌, List, length, take, slice_index_or, Contains}
use Rattle.hd_terms.specs.declared.Event.{Event}
use Rattle.hd_terms.specs.Dump.{Dump}
use Rattle.hd_terms.specs.EditedDump.{standing}
use Rattle.hd_terms.specs.Regions.{StrengthChange}
use Rattle.hd_terms.specs.Settled.{Reached, reached_at}
use Rattle.hd_terms.specs.Strengths.{HasStrength}

-- the page that an object is of: a page has 1,024 objects
abbrev pub page_of : ℕ → ℕ
page_of o = o / 1024

-- no object of a page has changed its strength since a log had `n` events
abbrev pub IsUnchanged : List ℕ → (page n : ℕ) → Type 0
IsUnchanged last page n = (page < length last) × (slice_index_or last page 0 ≤ n)

-- one of the changes is of an object of a page
abbrev pub HasChangeOn : ℕ → List StrengthChange → Type 0
HasChangeOn page changes = (d : StrengthChange) × Contains changes d × (page_of d.object ≡ page)

-- after changes by the last of `n` events: their pages last changed then, and the others as before
pub record AreChangedBy (before : List ℕ) (changes : List StrengthChange) (n : ℕ) (after : List ℕ) : Type 0 where
  pub count : length after ≡ length before
  pub changed : (page : ℕ) → page < length before → HasChangeOn page changes → slice_index_or after page 0 ≡ n
  pub others : (page : ℕ) → (HasChangeOn page changes → ⊥) → slice_index_or after page 0 ≡ slice_index_or before page 0

-- what is kept of an object is its strength under each beginning of the log since which its page is unchanged
abbrev pub AreLastChanges : Dump → List Event → List Reached → List ℕ → Type 0
AreLastChanges dump log ks last = (o n : ℕ) → IsUnchanged last (page_of o) n → n ≤ length log
    → HasStrength (standing dump (take n log)) o (reached_at ks o).strength
