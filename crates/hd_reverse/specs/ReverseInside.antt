-- What a reverse index stands for.
-- Source: this project.
use Rattle.std.specs.Prelude.{ℕ, ◌+◌, ◌<◌, ◌≤◌, length, slice_index}
use Rattle.hd_reverse.specs.declared.reverse.ReverseRows.TheInside.{Inside}
use Rattle.hd_reverse.specs.Reverse.{Reverse}

-- the rows as they are kept
abbrev pub reverse_of : Inside → Reverse
reverse_of a = record { starts = a.starts.items; referrers = a.referrers.items; roots = a.roots; kinds = a.kinds }

-- what holds of them: no row ends before it starts or past the last one
pub record IsReverse (a : Inside) : Type 0 where
  pub order : (o : ℕ) → o + 1 < length a.starts.items → slice_index a.starts.items o ≤ slice_index a.starts.items (o + 1)
  pub within : (o : ℕ) → slice_index a.starts.items o ≤ length a.referrers.items
