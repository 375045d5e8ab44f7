-- What the calls of a desk answer, and what they leave.
-- Source: this project.
use Rattle.std.specs.Prelude.{◌≡◌, ℕ, ◌⊎◌, List, length, Option, None, Some}
use Rattle.hd_terms.specs.declared.Edit.{Edit}
use Rattle.hd_terms.specs.declared.Event.{Event}
use Rattle.hd_terms.specs.declared.What.{What}
use Rattle.hd_terms.specs.declared.What.TheVariants as whats
use Rattle.hd_terms.specs.Refusals.{edit_refusal}
use Rattle.hd_terms.specs.Log.{begins_with}
use Rattle.hd_terms.specs.Desks.{Continues, IsForeign, IsApart}
use Rattle.hd_terms.specs.Schedule.{Board}
use Rattle.hd_terms.specs.Appending.{event_by, with_event}
use Rattle.hd_state.specs.declared.state.Done.{Done}
use Rattle.hd_state.specs.Done.{IsDone}
use Rattle.hd_board.specs.declared.faults.AppendFault.{AppendFault}
use Rattle.hd_board.specs.declared.faults.AppendFault.TheVariants as append_faults
use Rattle.hd_board.specs.declared.faults.EditFault.{EditFault}
use Rattle.hd_board.specs.declared.faults.EditFault.TheVariants as edit_faults
use Rattle.hd_board.specs.declared.faults.UndoFault.{UndoFault}
use Rattle.hd_board.specs.declared.faults.UndoFault.TheVariants as undo_faults
use Rattle.hd_board.specs.declared.faults.RefreshFault.{RefreshFault}
use Rattle.hd_board.specs.declared.faults.RefreshFault.TheVariants as refresh_faults
use Rattle.hd_board.specs.declared.faults.LearnFault.{LearnFault}
use Rattle.hd_board.specs.declared.faults.LearnFault.TheVariants as learn_faults
use Rattle.hd_board.specs.Appends.{IsFound, IsTaken, RefusesAppend}
use Rattle.hd_board.specs.Replicas.{Replica, IsAt, IsBehindAt}

-- an event of the desk's analyst was appended to a log that took it up: the desk has seen the log with the event and has
-- come to it, and what was done is what this one event did
pub record Appends (board : Board) (old new : Replica) (what : What) (done : Done) : Type 0 where
  pub log : List Event
  pub taken : IsTaken board.roots board.numbers old.seen log (event_by old.who what)
  pub at : IsAt old new (with_event log (event_by old.who what)) (with_event log (event_by old.who what))
  pub done_is : IsDone old.dump log (with_event log (event_by old.who what)) done

-- the same, but memory ran out on the way to it: the number of the event is known, and the desk is behind
pub record AppendsBehind (board : Board) (old new : Replica) (what : What) (number : ℕ) : Type 0 where
  pub log : List Event
  pub taken : IsTaken board.roots board.numbers old.seen log (event_by old.who what)
  pub number_is : number ≡ length log
  pub at : IsBehindAt old new (with_event log (event_by old.who what)) old.seen

-- what a desk has seen once an append was refused: the log that was found, where it isn't foreign
abbrev pub seen_after : (seen : List Event) → AppendFault → List Event
seen_after seen (append_faults.Foreign found) = seen
seen_after seen (append_faults.Refused refusal found) = found
seen_after seen append_faults.OutOfMemory = seen

-- an event of the desk's analyst wasn't appended; the state has come to what was seen before
pub record AppendsNot (board : Board) (old new : Replica) (what : What) (fault : AppendFault) : Type 0 where
  pub log : List Event
  pub refused : RefusesAppend board.roots board.numbers old.seen log (event_by old.who what) fault
  pub at : IsAt old new (seen_after old.seen fault) old.seen

-- an edit is appended that the dump doesn't refuse
pub record Edits (board : Board) (old new : Replica) (edit : Edit) (done : Done) : Type 0 where
  pub asked : edit_refusal old.dump edit ≡ None
  pub appends : Appends board old new (whats.Do edit) done

-- an edit isn't done: the desk couldn't catch up first; the dump refuses it; the log doesn't take it; or the log took it and
-- the desk couldn't come to it
abbrev pub RefusesEdit : Board → (old new : Replica) → Edit → EditFault → Type 0
RefusesEdit board old new edit edit_faults.Behind = IsBehindAt old new old.seen old.front
RefusesEdit board old new edit (edit_faults.Refused refusal) = (edit_refusal old.dump edit ≡ Some refusal) × IsAt old new old.seen old.seen
RefusesEdit board old new edit (edit_faults.Append fault) = (edit_refusal old.dump edit ≡ None) × AppendsNot board old new (whats.Do edit) fault
RefusesEdit board old new edit (edit_faults.Accepted number) = (edit_refusal old.dump edit ≡ None) × AppendsBehind board old new (whats.Do edit) number

-- the undo of an event isn't done, where the event is known that it names
abbrev pub RefusesUndo : Board → (old new : Replica) → (k : ℕ) → UndoFault → Type 0
RefusesUndo board old new k undo_faults.Behind = IsBehindAt old new old.seen old.front
RefusesUndo board old new k undo_faults.NothingToUndo = ⊥
RefusesUndo board old new k (undo_faults.Append fault) = AppendsNot board old new (whats.Undo k) fault
RefusesUndo board old new k (undo_faults.Accepted number) = AppendsBehind board old new (whats.Undo k) number

-- the undo of the last live event of the desk's analyst isn't done: there is none, or that undo isn't done
abbrev pub RefusesUndoLast : Board → (old new : Replica) → Option ℕ → UndoFault → Type 0
RefusesUndoLast board old new None undo_faults.Behind = IsBehindAt old new old.seen old.front
RefusesUndoLast board old new None undo_faults.NothingToUndo = IsAt old new old.seen old.seen
RefusesUndoLast board old new None (undo_faults.Append fault) = ⊥
RefusesUndoLast board old new None (undo_faults.Accepted number) = ⊥
RefusesUndoLast board old new (Some k) fault = RefusesUndo board old new k fault

-- a desk was refreshed: it has come to a log of the board that continues what it had seen
pub record IsRefreshedBy (board : Board) (old new : Replica) : Type 0 where
  pub found : IsFound board.numbers old.who old.seen new.seen
  pub at : IsAt old new new.seen new.seen

-- a desk isn't refreshed: the log that was found is foreign; or the desk has seen a later log and couldn't come to it; or
-- memory ran out before
abbrev pub RefusesRefresh : Board → (old new : Replica) → RefreshFault → Type 0
RefusesRefresh board old new (refresh_faults.Foreign found) = IsForeign board.numbers old.who old.seen found × IsAt old new old.seen old.front
RefusesRefresh board old new refresh_faults.Behind = IsFound board.numbers old.who old.seen new.seen × IsBehindAt old new new.seen old.front
RefusesRefresh board old new refresh_faults.OutOfMemory = IsAt old new old.seen old.front

-- a desk learns what it was told, where that continues what it has seen; a beginning of what it has seen changes nothing. Its
-- state isn't moved
abbrev pub Learns : (old new : Replica) → (told : List Event) → Type 0
Learns old new told = (Continues old.who old.seen told × IsAt old new told old.front) ⊎ (begins_with old.seen told × IsAt old new old.seen old.front)

-- a desk doesn't learn what it was told, and nothing changes: that stands apart, or it is longer and memory ran out
abbrev pub RefusesLearn : (old new : Replica) → (told : List Event) → LearnFault → Type 0
RefusesLearn old new told learn_faults.Apart = IsApart old.who old.seen told × IsAt old new old.seen old.front
RefusesLearn old new told learn_faults.OutOfMemory = Continues old.who old.seen told × (begins_with old.seen told → ⊥) × IsAt old new old.seen old.front
