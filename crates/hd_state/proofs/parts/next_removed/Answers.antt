use Rattle.std.proofs.Common.{◌∙◌, sym, subst}
use Rattle.std.specs.Arc.{arc_value}
use Rattle.hd_strength.specs.Removed.{IsRemovedBy}
use Rattle.hd_state.proofs.NextLemmas.{removed_still}
use Rattle.hd_state.proofs.parts.next_removed.Goals as goal

pub returns-then-adds_root : goal.returns-then-adds_root
returns-then-adds_root c =
    let dump = c.args.graph.now in
    let before = c.args.before.now in
    let after = c.args.after.now in
    let moved = c.moved_by-moved.result in
    subst (IsRemovedBy dump after) (sym c.in_ok-try_clone.ensures)
    (removed_still dump before after moved.edit moved.done (arc_value c.args.removed.now)
    (sym c.adds_root.ensures ∙ c.if-adds_root.true) c.moved_by-moved.ensures.edits c.requires.removed)
