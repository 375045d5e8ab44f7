use Rattle.std.proofs.Common.{◌≡◌, ◌∙◌, ◌+◌, length, sym, ap, true, false, arith}
use Rattle.hd_terms.specs.EditedDump.{is_dropped}
use Rattle.hd_strength.specs.Removed.{is_root_removed}
use Rattle.hd_strength.proofs.RowLemmas.{no_live_edit, adds_none, added_dropped, added_held}
use Rattle.hd_strength.proofs.edited.added_object.Goals as goal

pub returns-in_err-edit : goal.returns-in_err-edit
returns-in_err-edit c = c.from_residual.ensures
    ∙ no_live_edit c.args.edited.graph.now c.args.edited.front.now c.args.k c.live_edit.result c.requires.event c.live_edit.ensures c.in_err-edit.was

pub returns-in_err-id : goal.returns-in_err-id
returns-in_err-id c =
    c.from_residual-in_err-id.ensures
    ∙ adds_none c.args.edited.graph.now c.args.edited.front.now c.args.k c.live_edit.result c.requires.event c.live_edit.ensures c.in_ok-edit.edit
    c.in_ok-edit.was (sym c.added_id.ensures ∙ c.in_err-id.was)

pub returns-then-root : goal.returns-then-root
returns-then-root c =
    let dump = c.args.edited.graph.now in
    let log = c.args.edited.front.now in
    let number : c.from.result + c.from-2.result ≡ length dump.roots + c.args.k = omega (arith, c.from.ensures, c.from-2.ensures, c.roots_len.ensures) in
    let dropped : is_dropped log (length dump.roots + c.args.k) ≡ true =
    sym (c.requires.removed.roots (length dump.roots + c.args.k)) ∙ ap (is_root_removed c.args.edited.removed.now) (sym number) ∙ sym c.root.ensures
    ∙ c.if-root.true in
    added_dropped dump log c.args.k c.live_edit.result c.requires.event c.live_edit.ensures c.in_ok-edit.edit c.in_ok-id.id c.in_ok-edit.was
    (sym c.added_id.ensures ∙ c.in_ok-id.was) dropped

pub returns : goal.returns
returns c =
    let dump = c.args.edited.graph.now in
    let log = c.args.edited.front.now in
    let number : c.from.result + c.from-2.result ≡ length dump.roots + c.args.k = omega (arith, c.from.ensures, c.from-2.ensures, c.roots_len.ensures) in
    let stays : is_dropped log (length dump.roots + c.args.k) ≡ false =
    sym (c.requires.removed.roots (length dump.roots + c.args.k)) ∙ ap (is_root_removed c.args.edited.removed.now) (sym number) ∙ sym c.root.ensures
    ∙ c.if-root.false in
    c.index_of.ensures.first
    ∙ added_held dump log c.args.k c.live_edit.result c.requires.event c.live_edit.ensures c.in_ok-edit.edit c.in_ok-id.id c.in_ok-edit.was
    (sym c.added_id.ensures ∙ c.in_ok-id.was) stays
