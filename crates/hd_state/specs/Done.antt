-- What an event did.
-- Source: this project.
use Rattle.std.specs.Prelude.{◌≡◌, List, length}
use Rattle.hd_terms.specs.declared.Event.{Event}
use Rattle.hd_terms.specs.Dump.{Dump}
use Rattle.hd_terms.specs.Fell.{FellCount}
use Rattle.hd_state.specs.declared.state.Done.{Done}

-- from one log to the next: the event's number, how many objects became unreachable, and how many ceased to be
pub record IsDone (dump : Dump) (before after : List Event) (done : Done) : Type 0 where
  pub event : done.event ≡ length before
  pub fell : FellCount dump before after done.fell
  pub back : FellCount dump after before done.back
