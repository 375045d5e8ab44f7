-- A desk: an analyst's replica of a dump under the board's log.
-- Source: this project.
use Rattle.std.specs.Prelude.{◌≡◌, ◌<◌, ℕ, List, length}
use Rattle.hd_terms.specs.declared.Event.{Event}
use Rattle.hd_terms.specs.Dump.{Dump}
use Rattle.hd_terms.specs.Log.{begins_with}

-- the analyst's number, the dump, what was seen of the log, and the log of the desk's state
pub record Replica : Type 0 where
  pub who : ℕ
  pub dump : Dump
  pub seen : List Event
  pub front : List Event

-- the same desk, which has seen one log, and whose state has come to another
pub record IsAt (old new : Replica) (log reached : List Event) : Type 0 where
  pub who : new.who ≡ old.who
  pub dump : new.dump ≡ old.dump
  pub seen : new.seen ≡ log
  pub front : new.front ≡ reached

-- the same desk, which has seen a log, and whose state is behind it, but not behind a log to which it had come
pub record IsBehindAt (old new : Replica) (log reached : List Event) : Type 0 where
  pub who : new.who ≡ old.who
  pub dump : new.dump ≡ old.dump
  pub seen : new.seen ≡ log
  pub front : begins_with new.front reached
  pub within : begins_with log new.front
  pub behind : length new.front < length log
