use Rattle.std.proofs.Common.{◌∙◌, List, ap, sym, subst}
use Rattle.hd_terms.specs.Log.{begins_with}
use Rattle.hd_state.specs.Done.{IsDone}
use Rattle.hd_state.specs.Solution.{Solution}
use Rattle.hd_board.specs.Replicas.{Replica}
use Rattle.hd_board.proofs.Steps.{steps_to}
use Rattle.hd_board.proofs.desk.Desk.step_once.Goals as goal

pub invariant_of-self : goal.invariant_of-self
invariant_of-self g c =
    let within = subst (λ (r : Replica). begins_with r.seen c.in_ok-next.next) (sym c.self.view_is) c.in_ok-next.ensures.within in
    subst (begins_with c.self.inside.seen) (sym c.in_ok-state.ensures.log) within

pub returns-clause-ok : goal.returns-clause-ok
returns-clause-ok g c =
    let old = c.args.self.now in
    let next = c.in_ok-next.next in
    let done = c.in_ok-state.done in
    let is = subst (λ (r : Replica). IsDone r.dump r.front next done) c.self.view_is c.in_ok-state.ensures.done in
    steps_to old _ next done c.in_ok-next.ensures.next c.in_ok-next.ensures.within
    (record {
      who = ap (λ (r : Replica). r.who) c.self.view_is;
      dump = c.in_ok-state.ensures.dump ∙ ap (λ (r : Replica). r.dump) c.self.view_is;
      seen = ap (λ (r : Replica). r.seen) c.self.view_is;
      front = c.in_ok-state.ensures.log;
    }) is
