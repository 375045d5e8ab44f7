-- How an edit or an undo of a desk ends for the analyst.
use Rattle.std.proofs.Common.{◌≡◌, ◌∙◌, ◌⊎◌, inl, inr, ℕ, List, [], ◌∷◌, Option, None, Some, Result, Ok, Err, IfOk, IfErr, sym, ap, subst, refl, append-nil}
use Rattle.hd_terms.specs.declared.Edit.{Edit}
use Rattle.hd_terms.specs.declared.Event.{Event}
use Rattle.hd_terms.specs.declared.What.{What}
use Rattle.hd_terms.specs.declared.What.TheVariants as whats
use Rattle.hd_terms.specs.declared.errors.Refusal.{Refusal}
use Rattle.hd_terms.specs.declared.errors.Refusal.TheVariants as refusals
use Rattle.hd_terms.specs.Appending.{append_refusal}
use Rattle.hd_lines.specs.Asking.{undo_asked, undo_of_last, unless_refused}
use Rattle.hd_terms.specs.Refusals.{edit_refusal}
use Rattle.hd_terms.specs.Log.{IsLawful, last_live}
use Rattle.hd_lines.specs.Replies.{IsUnserved, refused, refusal_name}
use Rattle.hd_terms.specs.Schedule.{Board}
use Rattle.hd_lines.specs.Sessions.{roots_at}
use Rattle.hd_terms.specs.Appending.{event_by, with_event}
use Rattle.hd_terms.proofs.Beginnings.{lawful_beginning}
use Rattle.hd_state.specs.declared.state.Done.{Done}
use Rattle.hd_board.specs.declared.faults.AppendFault.{AppendFault}
use Rattle.hd_board.specs.declared.faults.AppendFault.TheVariants as append_faults
use Rattle.hd_board.specs.declared.faults.EditFault.{EditFault}
use Rattle.hd_board.specs.declared.faults.EditFault.TheVariants as edit_faults
use Rattle.hd_board.specs.declared.faults.UndoFault.{UndoFault}
use Rattle.hd_board.specs.declared.faults.UndoFault.TheVariants as undo_faults
use Rattle.hd_board.specs.Appends.{IsTaken}
use Rattle.hd_board.specs.Calls.{Appends, AppendsNot, Edits, RefusesEdit, RefusesUndo, RefusesUndoLast}
use Rattle.hd_board.specs.Calls as calls
use Rattle.hd_board.specs.Replicas.{Replica}
use Rattle.hd_analyst.specs.declared.analyst.Analyst.TheInside.{Inside}
use Rattle.hd_analyst.specs.declared.analyst.PrivatePart.{PrivatePart}
use Rattle.hd_analyst.specs.declared.edit.NotDone.{NotDone}
use Rattle.hd_analyst.specs.AnalystInside.{IsPartOf, board_in, home_of, work_of}
use Rattle.hd_analyst.specs.Editing.{Adds, AddsBehind, AddsNot, EditEnds, append_reason, edit_not_done, undo_not_done}
use Rattle.hd_analyst.specs.Work.{Work, analyst_at, memory_at}

-- the same with another desk
abbrev pub with_desk : Inside → Replica → Inside
with_desk a new = record a { desk = new }

-- the board on which commands run
abbrev pub board_of : Inside → Board
board_of a = board_in a.board.now a.private

-- it counts as many roots as are said
roots-in : (board : Board) (desk : Replica) (private : Option PrivatePart) → IsPartOf desk private
    → (board_in board private).roots ≡ roots_at (analyst_at board desk) (home_of private)
roots-in board desk None part = refl
roots-in board desk (Some p) part = part.2

-- the desk is the same analyst's
pub same_at : (board : Board) (old new : Replica) → new.who ≡ old.who → new.dump ≡ old.dump → analyst_at board new ≡ analyst_at board old
same_at board old new who dump = cc

-- an event is appended
abbrev adds : (a : Inside) (new : Replica) (what : What) (want : Result What Refusal) (log : List Event) → want ≡ Ok what → IsPartOf a.desk a.private
    → IsTaken (board_of a).roots (board_of a).numbers a.desk.seen log (event_by a.desk.who what)
    → new.who ≡ a.desk.who → new.dump ≡ a.desk.dump → new.seen ≡ with_event log (event_by a.desk.who what) → IsLawful new.seen
    → Adds (work_of a) (work_of (with_desk a new)) want
adds a new what want log asked part taken who dump seen law = record {
  what = what;
  asked_for = asked;
  found = log;
  later = record {
    more = taken.found.continues.begins.0;
    begins = taken.found.continues.begins.1;
    same_own = taken.found.continues.same_own;
    lawful = lawful_beginning new.seen log (event_by a.desk.who what ∷ [], seen) law;
  };
  taken = subst (λ (n : ℕ). append_refusal n log (event_by a.desk.who what) ≡ None) (roots-in a.board.now a.desk a.private part) taken.accepts;
  same_analyst = same_at a.board.now a.desk new who dump;
  added = ap (λ (l : List Event). memory_at l a.marks.items (home_of a.private) a.names) seen;
}

-- nothing is appended, and nothing more is seen
stays : (a : Inside) (new : Replica) (want : Result What Refusal) (r : Refusal) → new.who ≡ a.desk.who → new.dump ≡ a.desk.dump → new.seen ≡ a.desk.seen
    → IsLawful new.seen
    → IsUnserved (refused (refusal_name r)) ⊎ (want ≡ Err r) → AddsNot (work_of a) (work_of (with_desk a new)) want r
stays a new want r who dump seen law why = record {
  found = a.desk.seen;
  later = record { more = []; begins = sym (append-nil a.desk.seen); same_own = refl; lawful = subst IsLawful seen law };
  why = inl (refl, why);
  same_analyst = same_at a.board.now a.desk new who dump;
  left = ap (λ (l : List Event). memory_at l a.marks.items (home_of a.private) a.names) seen;
}

-- the log doesn't take an event, or isn't reached
adds_not : (a : Inside) (new : Replica) (what : What) (want : Result What Refusal) (fault : AppendFault) → want ≡ Ok what → IsPartOf a.desk a.private
    → AppendsNot (board_of a) a.desk new what fault → IsLawful new.seen → AddsNot (work_of a) (work_of (with_desk a new)) want (append_reason fault)
adds_not a new what want (append_faults.Foreign found) asked part h law = stays a new want refusals.Foreign h.at.who h.at.dump h.at.seen law
    (inl (inr (inr refl)))
adds_not a new what want append_faults.OutOfMemory asked part h law = stays a new want _ h.at.who h.at.dump h.at.seen law (inl (inl refl))
adds_not a new what want (append_faults.Refused r found) asked part h law =
    let is : found ≡ h.log = h.refused.0 in
    record {
      found = h.log;
      later = record {
        more = h.refused.1.continues.begins.0;
        begins = h.refused.1.continues.begins.1;
        same_own = h.refused.1.continues.same_own;
        lawful = subst IsLawful (h.at.seen ∙ is) law;
      };
      why = inr (record {
        what = what;
        asked_for = asked;
        refuses = subst (λ (n : ℕ). append_refusal n h.log (event_by a.desk.who what) ≡ Some r) (roots-in a.board.now a.desk a.private part) h.refused.2;
      });
      same_analyst = same_at a.board.now a.desk new h.at.who h.at.dump;
      left = ap (λ (l : List Event). memory_at l a.marks.items (home_of a.private) a.names) (h.at.seen ∙ is);
    }

-- an event is appended, and the state has come to it
does : (a : Inside) (new : Replica) (what : What) (want : Result What Refusal) (done : Done) → want ≡ Ok what → IsPartOf a.desk a.private
    → Appends (board_of a) a.desk new what done → IsLawful new.seen → EditEnds (work_of a) (work_of (with_desk a new)) want (Ok done)
does a new what want done asked part h law = record {
  adds = adds a new what want h.log asked part h.taken h.at.who h.at.dump h.at.seen law;
  counts = h.done_is;
}

-- or it is behind
adds_behind : (a : Inside) (new : Replica) (what : What) (want : Result What Refusal) (number : ℕ) → want ≡ Ok what → IsPartOf a.desk a.private
    → calls.AppendsBehind (board_of a) a.desk new what number → IsLawful new.seen
    → AddsBehind (work_of a) (work_of (with_desk a new)) want number
adds_behind a new what want number asked part h law = record {
  adds = adds a new what want h.log asked part h.taken h.at.who h.at.dump h.at.seen law;
  number_is = h.number_is;
}

-- what an edit asks for
abbrev edit_want : Inside → Edit → Result What Refusal
edit_want a edit = unless_refused (edit_refusal a.desk.dump edit) (whats.Do edit)

edit_asked : (a : Inside) (edit : Edit) → edit_refusal a.desk.dump edit ≡ None → edit_want a edit ≡ Ok (whats.Do edit)
edit_asked a edit none = ap (λ (x : Option Refusal). unless_refused x (whats.Do edit)) none

-- an edit is done
edits : (a : Inside) (new : Replica) (edit : Edit) (done : Done) → IsPartOf a.desk a.private
    → Edits (board_of a) a.desk new edit done → IsLawful new.seen → EditEnds (work_of a) (work_of (with_desk a new)) (edit_want a edit) (Ok done)
edits a new edit done part h law = does a new (whats.Do edit) (edit_want a edit) done (edit_asked a edit h.asked) part h.appends law

-- an edit isn't done
refuses_edit : (a : Inside) (new : Replica) (edit : Edit) (fault : EditFault) → IsPartOf a.desk a.private
    → RefusesEdit (board_of a) a.desk new edit fault → IsLawful new.seen → EditEnds (work_of a) (work_of (with_desk a new)) (edit_want a edit)
    (Err (edit_not_done fault))
refuses_edit a new edit edit_faults.Behind part h law = stays a new (edit_want a edit) refusals.Behind h.who h.dump h.seen law (inl (inr (inl refl)))
refuses_edit a new edit (edit_faults.Refused r) part h law =
    stays a new (edit_want a edit) r h.1.who h.1.dump h.1.seen law (inr (ap (λ (x : Option Refusal). unless_refused x (whats.Do edit)) h.0))
refuses_edit a new edit (edit_faults.Append fault) part h law = adds_not a new (whats.Do edit) (edit_want a edit) fault (edit_asked a edit h.0) part h.1 law
refuses_edit a new edit (edit_faults.Accepted number) part h law = adds_behind a new (whats.Do edit) (edit_want a edit) number
    (edit_asked a edit h.0) part h.1 law

-- the undo of an event isn't done
refuses_undo : (a : Inside) (new : Replica) (want : Result What Refusal) (k : ℕ) (fault : UndoFault) → want ≡ Ok (whats.Undo k) → IsPartOf a.desk a.private
    → RefusesUndo (board_of a) a.desk new k fault → IsLawful new.seen → EditEnds (work_of a) (work_of (with_desk a new)) want (Err (undo_not_done fault))
refuses_undo a new want k undo_faults.Behind asked part h law = stays a new want refusals.Behind h.who h.dump h.seen law (inl (inr (inl refl)))
refuses_undo a new want k undo_faults.NothingToUndo asked part h law = absurd h
refuses_undo a new want k (undo_faults.Append fault) asked part h law = adds_not a new (whats.Undo k) want fault asked part h law
refuses_undo a new want k (undo_faults.Accepted number) asked part h law = adds_behind a new (whats.Undo k) want number asked part h law

-- nor that of the last
refuses_last : (a : Inside) (new : Replica) (last : Option ℕ) (fault : UndoFault) → IsPartOf a.desk a.private
    → RefusesUndoLast (board_of a) a.desk new last fault → IsLawful new.seen → EditEnds (work_of a) (work_of (with_desk a new)) (undo_of_last last)
    (Err (undo_not_done fault))
refuses_last a new None undo_faults.Behind part h law = stays a new (undo_of_last None) refusals.Behind h.who h.dump h.seen law (inl (inr (inl refl)))
refuses_last a new None undo_faults.NothingToUndo part h law = stays a new (undo_of_last None) refusals.NothingToUndo h.who h.dump h.seen law (inr refl)
refuses_last a new None (undo_faults.Append fault) part h law = absurd h
refuses_last a new None (undo_faults.Accepted number) part h law = absurd h
refuses_last a new (Some k) fault part h law = refuses_undo a new (undo_of_last (Some k)) k fault refl part h law

-- how an edit ends, as it is answered
abbrev pub edit_answer : Result Done EditFault → Result Done NotDone
edit_answer (Ok done) = Ok done
edit_answer (Err fault) = Err (edit_not_done fault)

abbrev pub undo_answer : Result Done UndoFault → Result Done NotDone
undo_answer (Ok done) = Ok done
undo_answer (Err fault) = Err (undo_not_done fault)

ends_edit : (a : Inside) (new : Replica) (edit : Edit) (ended : Result Done EditFault) → IsPartOf a.desk a.private
    → IfOk ended (Edits (board_of a) a.desk new edit) → IfErr ended (RefusesEdit (board_of a) a.desk new edit) → IsLawful new.seen
    → EditEnds (work_of a) (work_of (with_desk a new)) (edit_want a edit) (edit_answer ended)
ends_edit a new edit (Ok done) part ok err law = edits a new edit done part ok law
ends_edit a new edit (Err fault) part ok err law = refuses_edit a new edit fault part err law

ends_undo : (a : Inside) (new : Replica) (k : ℕ) (ended : Result Done UndoFault) → IsPartOf a.desk a.private
    → IfOk ended (Appends (board_of a) a.desk new (whats.Undo k)) → IfErr ended (RefusesUndo (board_of a) a.desk new k) → IsLawful new.seen
    → EditEnds (work_of a) (work_of (with_desk a new)) (Ok (whats.Undo k)) (undo_answer ended)
ends_undo a new k (Ok done) part ok err law = does a new (whats.Undo k) (Ok (whats.Undo k)) done refl part ok law
ends_undo a new k (Err fault) part ok err law = refuses_undo a new (Ok (whats.Undo k)) k fault refl part err law

ends_last : (a : Inside) (new : Replica) (ended : Result Done UndoFault) → IsPartOf a.desk a.private
    → IfOk ended (λ done. (k : ℕ) × (last_live a.desk.seen a.desk.who ≡ Some k) × Appends (board_of a) a.desk new (whats.Undo k) done)
    → IfErr ended (RefusesUndoLast (board_of a) a.desk new (last_live a.desk.seen a.desk.who)) → IsLawful new.seen
    → EditEnds (work_of a) (work_of (with_desk a new)) (undo_asked a.desk.seen a.desk.who None) (undo_answer ended)
ends_last a new (Ok done) part ok err law = does a new (whats.Undo ok.0) (undo_asked a.desk.seen a.desk.who None) done (ap undo_of_last ok.1) part ok.2 law
ends_last a new (Err fault) part ok err law = refuses_last a new (last_live a.desk.seen a.desk.who) fault part err law

-- how a call of `edit` ends
pub edit_ends : (old : Work) (a : Inside) (board : Board) (new : Replica) (edit : Edit) (ended : Result Done EditFault) → work_of a ≡ old → board ≡ board_of a
    → IsPartOf a.desk a.private
    → IfOk ended (Edits board a.desk new edit) → IfErr ended (RefusesEdit board a.desk new edit) → IsLawful new.seen
    → EditEnds old (work_of (with_desk a new)) (unless_refused (edit_refusal old.analyst.dump edit) (whats.Do edit)) (edit_answer ended)
edit_ends old a board new edit ended view is part ok err law =
    subst (λ (w : Work). EditEnds w (work_of (with_desk a new)) (unless_refused (edit_refusal w.analyst.dump edit) (whats.Do edit)) (edit_answer ended)) view
    (ends_edit a new edit ended part (subst (λ (b : Board). IfOk ended (Edits b a.desk new edit)) is ok)
    (subst (λ (b : Board). IfErr ended (RefusesEdit b a.desk new edit)) is err) law)

-- how a call of `undo` with a number ends
pub undo_ends : (old : Work) (a : Inside) (board : Board) (new : Replica) (k : ℕ) (ended : Result Done UndoFault) → work_of a ≡ old → board ≡ board_of a
    → IsPartOf a.desk a.private
    → IfOk ended (Appends board a.desk new (whats.Undo k)) → IfErr ended (RefusesUndo board a.desk new k) → IsLawful new.seen
    → EditEnds old (work_of (with_desk a new)) (undo_asked old.memory.log old.analyst.who (Some k)) (undo_answer ended)
undo_ends old a board new k ended view is part ok err law =
    subst (λ (w : Work). EditEnds w (work_of (with_desk a new)) (Ok (whats.Undo k)) (undo_answer ended)) view
    (ends_undo a new k ended part (subst (λ (b : Board). IfOk ended (Appends b a.desk new (whats.Undo k))) is ok)
    (subst (λ (b : Board). IfErr ended (RefusesUndo b a.desk new k)) is err) law)

-- and without one
pub last_ends : (old : Work) (a : Inside) (board : Board) (new : Replica) (ended : Result Done UndoFault) → work_of a ≡ old → board ≡ board_of a
    → IsPartOf a.desk a.private
    → IfOk ended (λ done. (k : ℕ) × (last_live a.desk.seen a.desk.who ≡ Some k) × Appends board a.desk new (whats.Undo k) done)
    → IfErr ended (RefusesUndoLast board a.desk new (last_live a.desk.seen a.desk.who)) → IsLawful new.seen
    → EditEnds old (work_of (with_desk a new)) (undo_asked old.memory.log old.analyst.who None) (undo_answer ended)
last_ends old a board new ended view is part ok err law =
    subst (λ (w : Work). EditEnds w (work_of (with_desk a new)) (undo_asked w.memory.log w.analyst.who None) (undo_answer ended)) view
    (ends_last a new ended part
    (subst (λ (b : Board). IfOk ended (λ done. (k : ℕ) × (last_live a.desk.seen a.desk.who ≡ Some k) × Appends b a.desk new (whats.Undo k) done)) is ok)
    (subst (λ (b : Board). IfErr ended (RefusesUndoLast b a.desk new (last_live a.desk.seen a.desk.who))) is err) law)
