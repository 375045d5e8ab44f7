-- How an edit or an undo ends.
-- Source: this project.
use Rattle.std.specs.Prelude.{◌≡◌, ◌⊎◌, ℕ, List, [], ◌∷◌, length, None, Some, Result, Ok, Err}
use Rattle.hd_terms.specs.declared.Event.{Event}
use Rattle.hd_terms.specs.declared.What.{What}
use Rattle.hd_terms.specs.declared.errors.LogFault.TheVariants as faults
use Rattle.hd_terms.specs.declared.errors.Refusal.{Refusal}
use Rattle.hd_terms.specs.declared.errors.Refusal.TheVariants as refusals
use Rattle.hd_board.specs.declared.faults.AppendFault.{AppendFault}
use Rattle.hd_board.specs.declared.faults.AppendFault.TheVariants as append_faults
use Rattle.hd_board.specs.declared.faults.EditFault.{EditFault}
use Rattle.hd_board.specs.declared.faults.EditFault.TheVariants as edit_faults
use Rattle.hd_board.specs.declared.faults.UndoFault.{UndoFault}
use Rattle.hd_board.specs.declared.faults.UndoFault.TheVariants as undo_faults
use Rattle.hd_terms.specs.Appending.{append_refusal}
use Rattle.hd_lines.specs.Memory.{at_log}
use Rattle.hd_lines.specs.Replies.{IsUnserved, accepted_reply, answered, refused, event_line, refusal_name}
use Rattle.hd_lines.specs.Sessions.{IsLater, roots_at}
use Rattle.hd_terms.specs.Appending.{event_by, with_event}
use Rattle.hd_state.specs.declared.state.Done.{Done}
use Rattle.hd_state.specs.Done.{IsDone}
use Rattle.hd_analyst.specs.declared.edit.NotDone.{NotDone}
use Rattle.hd_analyst.specs.declared.edit.NotDone.TheVariants as not_done
use Rattle.hd_analyst.specs.Work.{Work}

-- why an event isn't appended, as it is answered
abbrev pub append_reason : AppendFault → Refusal
append_reason (append_faults.Foreign found) = refusals.Foreign
append_reason (append_faults.Refused r found) = r
append_reason append_faults.OutOfMemory = refusals.Log faults.OutOfMemory

-- why an edit or an undo isn't done, as it is answered
abbrev pub edit_not_done : EditFault → NotDone
edit_not_done edit_faults.Behind = not_done.Refused refusals.Behind
edit_not_done (edit_faults.Refused r) = not_done.Refused r
edit_not_done (edit_faults.Append f) = not_done.Refused (append_reason f)
edit_not_done (edit_faults.Accepted number) = not_done.Accepted number

abbrev pub undo_not_done : UndoFault → NotDone
undo_not_done undo_faults.Behind = not_done.Refused refusals.Behind
undo_not_done undo_faults.NothingToUndo = not_done.Refused refusals.NothingToUndo
undo_not_done (undo_faults.Append f) = not_done.Refused (append_reason f)
undo_not_done (undo_faults.Accepted number) = not_done.Accepted number

-- the event of the analyst that does something
abbrev pub event_of : Work → What → Event
event_of work what = event_by work.analyst.who what

-- the event that is asked for is added to the log that is found
pub record Adds (old new : Work) (want : Result What Refusal) : Type 0 where
  pub what : What
  pub asked_for : want ≡ Ok what
  pub found : List Event
  pub later : IsLater old.analyst.who old.memory.log found
  pub taken : append_refusal (roots_at old.analyst old.memory.home) found (event_of old what) ≡ None
  pub same_analyst : new.analyst ≡ old.analyst
  pub added : new.memory ≡ at_log old.memory (with_event found (event_of old what))

-- and the state has come to it: this is what it did
pub record Does (old new : Work) (want : Result What Refusal) (done : Done) : Type 0 where
  pub adds : Adds old new want
  pub counts : IsDone old.analyst.dump adds.found (with_event adds.found (event_of old adds.what)) done

-- or memory ran out on the way to it: this is its number
pub record AddsBehind (old new : Work) (want : Result What Refusal) (number : ℕ) : Type 0 where
  pub adds : Adds old new want
  pub number_is : number ≡ length adds.found

-- the log that is found doesn't take the event that is asked for
pub record LogRefuses (old : Work) (found : List Event) (want : Result What Refusal) (r : Refusal) : Type 0 where
  pub what : What
  pub asked_for : want ≡ Ok what
  pub refuses : append_refusal (roots_at old.analyst old.memory.home) found (event_of old what) ≡ Some r

-- why nothing was added: it isn't run, or it was refused before the log was asked, and the log is as it was; or the log that
-- was found refuses it
abbrev pub IsWhyNot : Work → List Event → Result What Refusal → Refusal → Type 0
IsWhyNot old found want r = ((found ≡ old.memory.log) × (IsUnserved (refused (refusal_name r)) ⊎ (want ≡ Err r))) ⊎ LogRefuses old found want r

-- nothing was added to the log that was found
pub record AddsNot (old new : Work) (want : Result What Refusal) (r : Refusal) : Type 0 where
  pub found : List Event
  pub later : IsLater old.analyst.who old.memory.log found
  pub why : IsWhyNot old found want r
  pub same_analyst : new.analyst ≡ old.analyst
  pub left : new.memory ≡ at_log old.memory found

-- how an edit or an undo ends that asks for this
abbrev pub EditEnds : (old new : Work) → Result What Refusal → Result Done NotDone → Type 0
EditEnds old new want (Ok done) = Does old new want done
EditEnds old new want (Err (not_done.Accepted number)) = AddsBehind old new want number
EditEnds old new want (Err (not_done.Refused r)) = AddsNot old new want r

-- its reply
abbrev pub edit_reply : Result Done NotDone → List ℕ
edit_reply (Ok done) = answered (event_line done.event done.fell done.back ∷ [])
edit_reply (Err (not_done.Accepted number)) = accepted_reply number
edit_reply (Err (not_done.Refused r)) = refused (refusal_name r)
