-- A log with one more event.
-- Source: this project.
use Rattle.std.specs.Prelude.{◌≡◌, List, [], ◌∷◌, ◌++◌, None}
use Rattle.hd_terms.specs.declared.Event.{Event}
use Rattle.hd_terms.specs.Log.{log_fault}

-- the later log is the earlier one with one more event, which that one takes
pub record IsNextLog (before after : List Event) : Type 0 where
  pub event : Event
  pub takes : log_fault before event ≡ None
  pub is : after ≡ before ++ event ∷ []
