-- What holds of a front as it is kept.
-- Source: this project.
use Rattle.std.specs.Prelude.{◌≡◌, Bool, List}
use Rattle.hd_terms.specs.declared.Event.{Event}
use Rattle.hd_terms.specs.Log.{IsLawful, live_flags}

-- the events are a lawful log, and the flags say which of them are live
pub record IsFront (log : List Event) (live : List Bool) : Type 0 where
  pub lawful : IsLawful log
  pub flags : live ≡ live_flags log
