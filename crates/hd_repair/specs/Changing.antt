-- The changes of the objects that lost their strength.
use Rattle.std.specs.Prelude.{◌≡◌, ◌≢◌, ℕ, List, Contains}
use Rattle.hd_terms.specs.Chains.{NoneTwice}
use Rattle.hd_terms.specs.Settled.{Reached, reached_at}
use Rattle.hd_terms.specs.Regions.{StrengthChange, changed_objects}

-- the changes among some objects: those whose strength differs, each once, with both strengths
pub record AreChangesAmong (before after : List Reached) (objects : List ℕ) (changes : List StrengthChange) : Type 0 where
  pub once : NoneTwice (changed_objects changes)
  pub within : (o : ℕ) → Contains (changed_objects changes) o → Contains objects o
  pub each : (d : StrengthChange) → Contains changes d → ((reached_at before d.object).strength ≡ d.before) ×
      ((reached_at after d.object).strength ≡ d.after) × (d.before ≢ d.after)
  pub all : (o : ℕ) → Contains objects o → (reached_at before o).strength ≢ (reached_at after o).strength → Contains (changed_objects changes) o
