use Rattle.std.proofs.Common.{subst}
use Rattle.std.specs.Arc.{arc_value}
use Rattle.hd_totals.specs.Totals.{AreTotals}
use Rattle.hd_terms.specs.Kept.{AreKept}
use Rattle.hd_state.specs.Solution.{Solution}
use Rattle.hd_queries.proofs.ClassLemmas.{class-rows}
use Rattle.hd_state.proofs.state.State.classes.Goals as goal

pub returns : goal.returns
returns c =
    let now = c.args.self.now in
    let t = arc_value c.self.inside.totals in
    let kept : AreKept now.dump now.log now.kept = subst (λ (s : Solution). AreKept s.dump s.log s.kept) c.self.view_is c.self.invariant.kept in
    let totals : AreTotals now.dump now.kept t = subst (λ (s : Solution). AreTotals s.dump s.kept t) c.self.view_is c.self.invariant.totals in
    class-rows c.settled_supports_give_strengths.ensures.strengths c.one_strength.ensures now.dump now.log now.kept kept.settled c.args.strength
    c.in_ok-rows.rows.items
    (c.in_ok-rows.ensures.members now.dump now.kept (rw c.deref.ensures totals))
