use Rattle.std.proofs.Common.{subst}
use Rattle.std.specs.Arc.{arc_value}
use Rattle.hd_terms.specs.Kept.{AreKept}
use Rattle.hd_state.specs.Solution.{Solution}
use Rattle.hd_queries.proofs.ClassLemmas.{group-counts}
use Rattle.hd_state.proofs.state.State.groups.Goals as goal

pub named_groups-requires : goal.named_groups-requires
named_groups-requires c =
    record { totals = (arc_value c.self.inside.supports, rw (c.deref.ensures, c.deref-2.ensures) c.self.invariant.totals) }

pub returns-clause-counts : goal.returns-clause-counts
returns-clause-counts c =
    let now = c.args.self.now in
    let kept : AreKept now.dump now.log now.kept = subst (λ (s : Solution). AreKept s.dump s.log s.kept) c.self.view_is c.self.invariant.kept in
    group-counts c.settled_supports_give_strengths.ensures.strengths c.one_strength.ensures now.dump now.log now.kept kept.settled
