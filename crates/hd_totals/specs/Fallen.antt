-- Which objects become unreachable, by what is kept of them before and after.
-- Source: this project.
use Rattle.std.specs.Prelude.{ℕ, Bool, true, false, ◌&&◌, not, List}
use Rattle.hd_terms.specs.declared.Strength.{Strength}
use Rattle.hd_terms.specs.declared.Strength.TheVariants as strengths
use Rattle.hd_terms.specs.Settled.{Reached, reached_at}

-- the strength of what nothing reaches
abbrev pub is_unreachable : Strength → Bool
is_unreachable strengths.Unreachable = true
is_unreachable strengths.Phantom = false
is_unreachable strengths.Final = false
is_unreachable strengths.Weak = false
is_unreachable strengths.Soft = false
is_unreachable strengths.Strong = false

-- unreachable after, and not before
abbrev pub falls_to : (before after : Strength) → Bool
falls_to before after = is_unreachable after && not (is_unreachable before)

-- the object of a number becomes unreachable
abbrev pub falls_from : (before after : List Reached) → ℕ → Bool
falls_from before after o = falls_to (reached_at before o).strength (reached_at after o).strength
