-- How a desk's state comes to what the desk has seen.
-- Source: this project.
use Rattle.std.specs.Prelude.{List, length}
use Rattle.hd_terms.specs.declared.Event.{Event}
use Rattle.hd_terms.specs.declared.What.{What}
use Rattle.hd_terms.specs.Log.{IsEvent}
use Rattle.hd_terms.specs.Schedule.{Board}
use Rattle.hd_terms.specs.Appending.{with_event}
use Rattle.hd_state.specs.declared.state.Done.{Done}
use Rattle.hd_state.specs.Done.{IsDone}
use Rattle.hd_board.specs.declared.desk.Unfinished.{Unfinished}
use Rattle.hd_board.specs.declared.desk.Unfinished.TheVariants as unfinished
use Rattle.hd_board.specs.Calls.{AppendsNot, AppendsBehind}
use Rattle.hd_board.specs.Replicas.{Replica, IsAt}

-- the state was stepped by the next event of what was seen; this is what that event did
pub record StepsOnce (old new : Replica) (done : Done) : Type 0 where
  pub event : Event
  pub next : IsEvent old.seen (length old.front) event
  pub at : IsAt old new old.seen (with_event old.front event)
  pub done_is : IsDone old.dump old.front (with_event old.front event) done

-- the desk has seen a log and one event more, and has come to it; this is what that event did
pub record ComesTo (old new : Replica) (before : List Event) (event : Event) (done : Done) : Type 0 where
  pub at : IsAt old new (with_event before event) (with_event before event)
  pub done_is : IsDone old.dump before (with_event before event) done

-- an event wasn't appended; or it was, and the desk couldn't come to it
abbrev pub Unfinishes : Board → (old new : Replica) → What → Unfinished → Type 0
Unfinishes board old new what (unfinished.Append fault) = AppendsNot board old new what fault
Unfinishes board old new what (unfinished.Accepted number) = AppendsBehind board old new what number
