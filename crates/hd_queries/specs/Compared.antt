-- Two logs over one dump, by what is kept of the objects under each.
-- Source: this project.
use Rattle.std.specs.Prelude.{◌≡◌, ℕ, ◌≤◌, List, length, take}
use Rattle.hd_terms.specs.declared.Event.{Event}
use Rattle.hd_queries.specs.declared.compared.Compared.{Compared}
use Rattle.hd_totals.specs.LastChanges.{page_of, IsUnchanged}
use Rattle.hd_totals.specs.Running.{strength_in}

-- under both logs something is kept of each of `n` objects
abbrev pub AreBothKept : ℕ → Compared → Type 0
AreBothKept n compared = (length compared.earlier.strengths.now ≡ n) × (length compared.later.strengths.now ≡ n)

-- a page has not changed since the events that both logs begin with
abbrev pub IsQuietPage : Compared → ℕ → Type 0
IsQuietPage compared page = IsUnchanged compared.earlier.last_changes.now page compared.common
    × IsUnchanged compared.later.last_changes.now page compared.common

-- each object of a quiet page has one strength under both
abbrev pub IsSameOnQuiet : Compared → Type 0
IsSameOnQuiet compared = (o : ℕ) → IsQuietPage compared (page_of o) → strength_in compared.earlier.strengths.now o ≡ strength_in compared.later.strengths.now o

-- the first `n` events of two logs are the same
pub record AreCommon (earlier later : List Event) (n : ℕ) : Type 0 where
  pub within_earlier : n ≤ length earlier
  pub within_later : n ≤ length later
  pub same : take n earlier ≡ take n later
