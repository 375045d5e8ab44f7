-- Which logs an analyst can find, having seen an earlier one.
-- Source: this project. All analysts append to one log; what one has seen of it is a beginning of it, with all of the
-- analyst's own events.
use Rattle.std.specs.Prelude.{◌≡◌, ◌≢◌, ℕ, ◌⊎◌, List, Contains}
use Rattle.hd_terms.specs.declared.Event.{Event}
use Rattle.hd_terms.specs.Log.{own, begins_with}

-- a log continues what an analyst has seen: it begins with it, and has the same events of the analyst
pub record Continues (who : ℕ) (seen log : List Event) : Type 0 where
  pub begins : begins_with log seen
  pub same_own : own who log ≡ own who seen

-- a log doesn't continue what an analyst has seen: it doesn't begin with it, or has other events of the analyst
abbrev pub Differs : ℕ → (seen log : List Event) → Type 0
Differs who seen log = (begins_with log seen → ⊥) ⊎ (own who log ≢ own who seen)

-- a log is foreign to what an analyst has seen: the board has no desk of this number, or the log doesn't continue it
abbrev pub IsForeign : (numbers : List ℕ) → ℕ → (seen log : List Event) → Type 0
IsForeign numbers who seen log = (Contains numbers who → ⊥) ⊎ Differs who seen log

-- what an analyst is told stands apart from what the analyst has seen: it doesn't continue it, and is no beginning of it
abbrev pub IsApart : ℕ → (seen told : List Event) → Type 0
IsApart who seen told = Differs who seen told × (begins_with seen told → ⊥)
