-- What falls from one log to another: the objects that become unreachable.
-- Source: this project.
use Rattle.std.specs.Prelude.{◌≡◌, ℕ, Bool, List, length, count_by}
use Rattle.std.specs.List.{range_with_len}
use Rattle.hd_terms.specs.declared.Strength.TheVariants as strengths
use Rattle.hd_terms.specs.declared.Event.{Event}
use Rattle.hd_terms.specs.Strengths.{HasStrength}
use Rattle.hd_terms.specs.Dump.{Dump}
use Rattle.hd_terms.specs.EditedDump.{standing}
use Rattle.hd_terms.specs.Totals.{Decides}

-- an object is unreachable under a log
abbrev pub IsUnreachable : Dump → List Event → ℕ → Type 0
IsUnreachable dump log o = HasStrength (standing dump log) o strengths.Unreachable

-- the object of a number is unreachable under the later log, and was not under the earlier one
abbrev pub Falls : Dump → (before after : List Event) → ℕ → Type 0
Falls dump before after o = IsUnreachable dump after o × (IsUnreachable dump before o → ⊥)

-- the number of the objects that fall; `falls` is a test that decides which do
pub record FellCount (dump : Dump) (before after : List Event) (n : ℕ) : Type 0 where
  pub falls : ℕ → Bool
  pub decides : Decides dump (Falls dump before after) falls
  pub count : n ≡ count_by falls (range_with_len 0 (length dump.objects))
