-- The changed objects are among all whose strength the event changes, each once.
use Rattle.std.proofs.Common.{◌≤◌, subst, sum_by, arith}
use Rattle.hd_terms.specs.Kept.{AreKept}
use Rattle.hd_terms.specs.Regions.{changed_objects}
use Rattle.hd_state.specs.LastMove.{edges_at}
use Rattle.hd_state.specs.Solution.{Solution}
use Rattle.hd_state.proofs.UndoneLemmas.{moved_within}
use Rattle.hd_state.proofs.state.State.moved_edges.Goals as goal

pub returns : goal.returns
returns c region all =
    let now = c.args.self.now in
    let changes = c.args.repair.now.changes.items in
    let before : AreKept now.dump now.log now.kept = subst (λ (s : Solution). AreKept s.dump s.log s.kept) c.self.view_is c.self.invariant.kept in
    let most : c.edges_of_changes.result ≤ sum_by (edges_at now.dump) (changed_objects changes) =
    rw (c.view-view.ensures, c.deref-2.ensures.value) at c.edges_of_changes.ensures in
    omega (
      arith,
      most,
      moved_within c.settled_supports_give_strengths.ensures.strengths now.dump now.log c.args.front.now now.kept
          c.args.repair.now.supports changes c.requires.next before.settled c.requires.kept.settled c.requires.changes region all,
    )
