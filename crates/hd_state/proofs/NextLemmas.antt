-- What a log takes away, where it differs from another by one live edit.
use Rattle.std.proofs.Common.{◌≡◌, ◌∙◌, ℕ, Bool, true, false, cond, List, Some, refl, ap, arith}
use Rattle.std.specs.Prelude.{count_by}
use Rattle.hd_terms.specs.declared.Edit.{Edit}
use Rattle.hd_terms.specs.declared.Edit.TheVariants as edits
use Rattle.hd_terms.specs.declared.Event.{Event}
use Rattle.hd_terms.specs.Dump.{Dump, object_at}
use Rattle.hd_terms.specs.EditedDump.{adds_root, drops}
use Rattle.hd_terms.specs.Log.{live_edits}
use Rattle.hd_strength.specs.Cleared.{clears}
use Rattle.hd_strength.specs.Removed.{Removals, cuts_field, takes_slot, IsRemovedBy}
use Rattle.hd_strength.proofs.RemovedLemmas.{is_removed_by}
use Rattle.hd_state.specs.Moves.{ChangesEdits}

-- a test that the edit doesn't pass is passed by as many live edits
module _ (before after : List Event) (edit : Edit) where
  same-count : (done : Bool) → ChangesEdits before after done edit → (test : Edit → Bool) → test edit ≡ false
      → count_by test (live_edits before) ≡ count_by test (live_edits after)
  same-count true changes test fails = omega (arith, changes test, ap {B = ℕ} (λ (b : Bool). cond b 1 0) fails)
  same-count false changes test fails = omega (arith, changes test, ap {B = ℕ} (λ (b : Bool). cond b 1 0) fails)

-- an edit that adds a root takes nothing away
unmoved : (dump : Dump) (before after : List Event) (id : ℕ) (done : Bool) (t : Removals) → ChangesEdits before after done (edits.Add id)
    → IsRemovedBy dump before t → IsRemovedBy dump after t
unmoved dump before after id done t changes is =
    is_removed_by dump after t
    (λ o i s lt at. is.slot_counts o i s lt at ∙ same-count before after (edits.Add id) done changes (takes_slot (object_at dump o) s) refl)
    (λ kind. is.kind_counts kind ∙ same-count before after (edits.Add id) done changes (clears kind) refl)
    (λ class i. is.field_counts class i ∙ same-count before after (edits.Add id) done changes (cuts_field class i) refl)
    (λ r. is.root_counts r ∙ same-count before after (edits.Add id) done changes (drops r) refl)

pub removed_still : (dump : Dump) (before after : List Event) (edit : Edit) (done : Bool) (t : Removals) → adds_root (Some edit) ≡ true
    → ChangesEdits before after done edit → IsRemovedBy dump before t → IsRemovedBy dump after t
removed_still dump before after (edits.Cut id slot) done t adds = absurd cc
removed_still dump before after (edits.Clear id) done t adds = absurd cc
removed_still dump before after (edits.Drop r) done t adds = absurd cc
removed_still dump before after (edits.Add id) done t adds = unmoved dump before after id done t
removed_still dump before after (edits.ClearAll kind) done t adds = absurd cc
removed_still dump before after (edits.CutAll class i) done t adds = absurd cc

-- an edit that is done or taken back
pub changes_done : (before after : List Event) (edit : Edit) (done : Bool) → done ≡ true → ChangesEdits before after done edit
    → ChangesEdits before after true edit
changes_done before after edit true is changes = changes
changes_done before after edit false is changes = absurd cc

pub changes_back : (before after : List Event) (edit : Edit) (done : Bool) → done ≡ false → ChangesEdits before after done edit
    → ChangesEdits before after false edit
changes_back before after edit true is changes = absurd cc
changes_back before after edit false is changes = changes
