use Rattle.std.proofs.Common.{◌∙◌, ap, subst}
use Rattle.std.specs.Arc.{arc_value}
use Rattle.hd_totals.specs.Totals.{AreTotals, AreTotalsBefore}
use Rattle.hd_terms.specs.Kept.{AreKept}
use Rattle.hd_state.specs.Solution.{Solution}
use Rattle.hd_state.proofs.state.State.moved_totals.Goals as goal
use Rattle.hd_state.proofs.state.State.moved_totals.Goals.{After-deref-3}

-- the totals that are shared are those before the repair
before : (c : After-deref-3) → AreTotalsBefore c.deref-2.result.now c.in_ok-totals.totals c.deref-3.result.now c.args.self.now.kept c.args.repair.now.supports
before c =
    let now = c.args.self.now in
    let t = arc_value c.self.inside.totals in
    let kept : AreKept now.dump now.log now.kept = subst (λ (s : Solution). AreKept s.dump s.log s.kept) c.self.view_is c.self.invariant.kept in
    let totals : AreTotals now.dump now.kept t = subst (λ (s : Solution). AreTotals s.dump s.kept t) c.self.view_is c.self.invariant.totals in
    let are : AreTotalsBefore now.dump t c.args.repair.now.changes.items now.kept c.args.repair.now.supports =
    record { before_count = kept.count; after_count = c.requires.count; totals = totals; moved = c.requires.changes } in
    rw (c.deref-2.ensures ∙ ap (λ (s : Solution). s.dump) c.self.view_is, c.in_ok-totals.ensures ∙ c.deref.ensures, c.deref-3.ensures.value) are

pub apply-requires : goal.apply-requires
apply-requires c = record { before = c.args.self.now.kept; after = c.args.repair.now.supports; are = before (goal.at.apply-requires c).After-deref-3 }

pub returns : goal.returns
returns c =
    let dump_is = c.deref-2.ensures ∙ ap (λ (s : Solution). s.dump) c.self.view_is in
    let b = before (goal.at.returns c).After-deref-3 in
    rw dump_is at c.in_ok-apply.ensures c.args.self.now.kept c.args.repair.now.supports (rw dump_is at b)
