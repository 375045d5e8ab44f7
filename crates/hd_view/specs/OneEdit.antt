-- Logs that differ by one live edit.
-- Source: this project.
use Rattle.std.specs.Prelude.{◌≡◌, ℕ, ◌⊎◌, List, Some}
use Rattle.hd_terms.specs.declared.Edit.{Edit}
use Rattle.hd_terms.specs.declared.Edit.TheVariants as edits
use Rattle.hd_terms.specs.declared.Event.{Event}
use Rattle.hd_terms.specs.EditedDump.{live_edit_at}

-- a log has the live edits of another at their places, and beside them none but one, at its place
pub record HasOneMore (fewer more : List Event) (k : ℕ) (edit : Edit) : Type 0 where
  pub kept : (j : ℕ) (x : Edit) → live_edit_at fewer j ≡ Some x → live_edit_at more j ≡ Some x
  pub only : (j : ℕ) (x : Edit) → live_edit_at more j ≡ Some x → (live_edit_at fewer j ≡ Some x) ⊎ ((j ≡ k) × (x ≡ edit))

-- what stands under one log and not under another is what one live edit adds to the first, or takes away from the other
abbrev pub LosesBy : (more less : List Event) → ℕ → Edit → Type 0
LosesBy more less k (edits.Cut id slot) = HasOneMore more less k (edits.Cut id slot)
LosesBy more less k (edits.Clear id) = HasOneMore more less k (edits.Clear id)
LosesBy more less k (edits.Drop r) = HasOneMore more less k (edits.Drop r)
LosesBy more less k (edits.Add id) = HasOneMore less more k (edits.Add id)
LosesBy more less k (edits.ClearAll kind) = HasOneMore more less k (edits.ClearAll kind)
LosesBy more less k (edits.CutAll class i) = HasOneMore more less k (edits.CutAll class i)
