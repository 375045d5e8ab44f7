use Rattle.std.proofs.Common.{◌≡◌, ◌∙◌, sym, ap, true, false}
use Rattle.hd_terms.specs.EditedDump.{is_dropped}
use Rattle.hd_strength.specs.Removed.{is_root_removed}
use Rattle.hd_strength.proofs.RowLemmas.{dump_held, dump_dropped_at}
use Rattle.hd_strength.proofs.edited.root_object.Goals as goal

pub returns-then-root : goal.returns-then-root
returns-then-root c =
    let dropped : is_dropped c.args.edited.front.now c.args.r ≡ true =
    sym (c.requires.removed.roots c.args.r) ∙ ap (is_root_removed c.args.edited.removed.now) (sym c.from.ensures) ∙ sym c.root.ensures ∙ c.if-root.true in
    dump_dropped_at c.args.edited.graph.now c.args.edited.front.now c.args.r c.requires.root dropped

pub returns : goal.returns
returns c =
    let stays : is_dropped c.args.edited.front.now c.args.r ≡ false =
    sym (c.requires.removed.roots c.args.r) ∙ ap (is_root_removed c.args.edited.removed.now) (sym c.from.ensures) ∙ sym c.root.ensures ∙ c.if-root.false in
    c.roots.ensures.object ∙ dump_held c.args.edited.graph.now c.args.edited.front.now c.args.r
    (record { kind = c.roots.result.kind; id = c.roots.result.id }) c.roots.ensures.entry stays
