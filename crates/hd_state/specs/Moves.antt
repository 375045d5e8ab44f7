-- What one event changes.
-- Source: this project.
use Rattle.std.specs.Prelude.{◌≡◌, ℕ, Bool, true, false, List, Some}
use Rattle.hd_terms.specs.declared.Edit.{Edit}
use Rattle.hd_terms.specs.declared.Event.{Event}
use Rattle.hd_terms.specs.declared.What.TheVariants as whats
use Rattle.hd_terms.specs.EditedDump.{adds_root}
use Rattle.hd_terms.specs.Log.{IsEvent}
use Rattle.hd_strength.specs.OneMore.{HasEditMore}
use Rattle.hd_view.specs.OneEdit.{LosesBy}
use Rattle.hd_state.specs.declared.repairing.Moved.{Moved}

-- by the edit of event k something that stood stands no more, or else something stands that didn't
abbrev pub Moves : (before after : List Event) → Bool → ℕ → Edit → Type 0
Moves before after true k edit = LosesBy before after k edit
Moves before after false k edit = LosesBy after before k edit

-- one log has the live edits of another and one more: the later log, where the edit is done, or else the earlier one
abbrev pub ChangesEdits : (before after : List Event) → Bool → Edit → Type 0
ChangesEdits before after true edit = HasEditMore before after edit
ChangesEdits before after false edit = HasEditMore after before edit

-- event k of a log is an edit
pub record IsEdit (log : List Event) (k : ℕ) : Type 0 where
  pub who : ℕ
  pub edit : Edit
  pub is : IsEvent log k (record { who = who; what = whats.Do edit })

-- what an undo of event k changes: what its edit added stands no more, or what it took away stands again
pub record IsMovedBack (log : List Event) (k : ℕ) (moved : Moved) : Type 0 where
  pub event : moved.event ≡ k
  pub is : (who : ℕ) (edit : Edit) → IsEvent log k (record { who = who; what = whats.Do edit }) → moved.edit ≡ edit
  pub loses : moved.loses ≡ adds_root (Some moved.edit)
  pub done : moved.done ≡ false
