-- The last event does an edit, or it undoes an earlier event, which does one: the two cases of what it moves.
-- In both the logs differ by that edit alone.
use Rattle.std.proofs.Common.{◌≡◌, ◌∙◌, ℕ, Bool, not, List, Some, length, slice_get, sym, ap, subst}
use Rattle.hd_terms.specs.declared.Event.{Event}
use Rattle.hd_state.specs.Moves.{Moves}
use Rattle.hd_state.proofs.MovedLemmas.{moves_done, moves_back, edits_done, edits_back, restores, undo_edit}
use Rattle.hd_state.proofs.repairing.moved_by.Goals as goal

pub returns-in-Do-clause-moves : goal.returns-in-Do-clause-moves
returns-in-Do-clause-moves c =
    let before : List Event = c.args.before.now in
    let later : List Event = c.args.after.now in
    let at : slice_get later (length before) ≡ Some c.event.result = ap (slice_get later) (sym c.len-last.ensures.len) ∙ c.event.ensures in
    subst (λ (n : ℕ). Moves before later (not c.adds_root.result) n c.in-Do.edit) (sym c.len-last.ensures.len)
    (subst (λ (b : Bool). Moves before later (not b) (length before) c.in-Do.edit) (sym c.adds_root.ensures)
    (moves_done before later c.requires c.event.result at c.in-Do.edit c.in-Do.is))

pub moved_back-requires : goal.moved_back-requires
moved_back-requires c =
    let before : List Event = c.args.before.now in
    let later : List Event = c.args.after.now in
    let at : slice_get later (length before) ≡ Some c.event.result = ap (slice_get later) (sym c.len-last.ensures.len) ∙ c.event.ensures in
    undo_edit before later c.requires c.event.result at c.in-Undo.k c.in-Undo.is

pub returns-in-Undo-clause-moves : goal.returns-in-Undo-clause-moves
returns-in-Undo-clause-moves c =
    let before : List Event = c.args.before.now in
    let later : List Event = c.args.after.now in
    let at : slice_get later (length before) ≡ Some c.event.result = ap (slice_get later) (sym c.len-last.ensures.len) ∙ c.event.ensures in
    moves_back before later c.requires c.event.result at c.in-Undo.k c.moved_back.result c.in-Undo.is c.moved_back.ensures

pub returns-in-Do-clause-edits : goal.returns-in-Do-clause-edits
returns-in-Do-clause-edits c =
    let before : List Event = c.args.before.now in
    let later : List Event = c.args.after.now in
    let at : slice_get later (length before) ≡ Some c.event.result = ap (slice_get later) (sym c.len-last.ensures.len) ∙ c.event.ensures in
    edits_done before later c.requires c.event.result at c.in-Do.edit c.len-last.ensures.lawful c.in-Do.is

pub returns-in-Undo-clause-edits : goal.returns-in-Undo-clause-edits
returns-in-Undo-clause-edits c =
    let before : List Event = c.args.before.now in
    let later : List Event = c.args.after.now in
    let at : slice_get later (length before) ≡ Some c.event.result = ap (slice_get later) (sym c.len-last.ensures.len) ∙ c.event.ensures in
    edits_back before later c.requires c.event.result at c.in-Undo.k c.moved_back.result c.in-Undo.is c.moved_back.ensures

pub returns-in-Undo-clause-restores : goal.returns-in-Undo-clause-restores
returns-in-Undo-clause-restores c not_done last =
    let before : List Event = c.args.before.now in
    let later : List Event = c.args.after.now in
    let at : slice_get later (length before) ≡ Some c.event.result = ap (slice_get later) (sym c.len-last.ensures.len) ∙ c.event.ensures in
    restores before later c.requires c.event.result at c.in-Undo.k c.in-Undo.is (rw c.moved_back.ensures.event at last)
