use Rattle.std.proofs.Common.{◌∙◌, length, sym, ap, subst}
use Rattle.hd_terms.specs.declared.Strength.TheVariants as strengths
use Rattle.hd_strength.specs.Parts.{AreReady, HaveComeTo}
use Rattle.hd_strength.specs.Rows.{root_count}
use Rattle.hd_strength.proofs.Ending.{lent}
use Rattle.hd_strength.proofs.Holding.{have_queued, ready, begins}
use Rattle.hd_strength.proofs.roots.begin.Goals as goal

pub begin_parts-requires-clause-ready : goal.begin_parts-requires-clause-ready
begin_parts-requires-clause-ready g c = λ κs within.
    let h = c.in_ok-parts.ensures in
    let dump = c.args.edited.graph.now in
    let log = c.args.edited.front.now in
    subst AreReady (sym c.deref_mut.ensures.value) (ready dump log c.in_ok-parts.parts.items h.kept c.args.whole (root_count dump log) h.holds)

pub returns-clause-searching : goal.returns-clause-searching
returns-clause-searching g c =
    let dump = c.args.edited.graph.now in
    let log = c.args.edited.front.now in
    let old = c.in_ok-parts.parts.items in
    let new = c.begin_parts.new.parts in
    let h = c.in_ok-parts.ensures in
    let is = lent old new c.in_ok-parts.parts.len c.in_ok-parts.parts.ok.0 (c.begin_parts.ensures.count ∙ ap length c.deref_mut.ensures.value) in
    let queued = have_queued old c.deref_mut.result.now new c.deref.result.now (length dump.objects) c.deref_mut.ensures.value
    (c.deref.ensures.value ∙ is) c.begin_parts.ensures.count c.begin_parts.ensures.each (c.has_failed.ensures c.if-has_failed.false) h.holds.row in
    subst (HaveComeTo dump log c.args.whole strengths.Strong) (sym is) (begins dump log c.args.whole old new h.kept h.holds queued)
