use Rattle.std.proofs.Common.{subst}
use Rattle.std.specs.Arc.{arc_value}
use Rattle.hd_totals.specs.Totals.{AreTotals}
use Rattle.hd_terms.specs.Kept.{AreKept}
use Rattle.hd_state.specs.Solution.{Solution}
use Rattle.hd_queries.proofs.ClassLemmas.{group-total}
use Rattle.hd_state.proofs.state.State.total.Goals as goal

pub returns-clause-total : goal.returns-clause-total
returns-clause-total c =
    let now = c.args.self.now in
    let t = arc_value c.self.inside.totals in
    let kept : AreKept now.dump now.log now.kept = subst (λ (s : Solution). AreKept s.dump s.log s.kept) c.self.view_is c.self.invariant.kept in
    let totals : AreTotals now.dump now.kept t = subst (λ (s : Solution). AreTotals s.dump s.kept t) c.self.view_is c.self.invariant.totals in
    rw (c.total-total.ensures.total, c.deref.ensures)
    (group-total c.settled_supports_give_strengths.ensures.strengths c.one_strength.ensures now.dump now.log now.kept kept.settled t totals c.args.group
    c.args.strength c.total-total.ensures.range)

pub returns-clause-count : goal.returns-clause-count
returns-clause-count c =
    let now = c.args.self.now in
    let t = arc_value c.self.inside.totals in
    let totals : AreTotals now.dump now.kept t = subst (λ (s : Solution). AreTotals s.dump s.kept t) c.self.view_is c.self.invariant.totals in
    rw (c.total-total.ensures.total, c.deref.ensures) (totals.counts c.args.group c.args.strength c.total-total.ensures.range)
