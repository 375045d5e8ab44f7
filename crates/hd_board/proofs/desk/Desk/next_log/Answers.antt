use Rattle.std.proofs.Common.{◌≡◌, ◌∙◌, ◌+◌, List, [], ◌∷◌, ◌++◌, length, slice_get, subst, sym, ap, arith}
use Rattle.hd_terms.specs.declared.Event.{Event}
use Rattle.hd_terms.specs.Log.{begins_with}
use Rattle.hd_terms.proofs.Beginnings.{begins_next}
use Rattle.hd_state.specs.Next.{IsNextLog}
use Rattle.hd_board.specs.Replicas.{Replica}
use Rattle.hd_board.proofs.Steps.{next_all}
use Rattle.hd_board.proofs.desk.Desk.next_log.Goals as goal

pub returns-then-count-reached-eq1-clause-next : goal.returns-then-count-reached-eq1-clause-next
returns-then-count-reached-eq1-clause-next c =
    let d = c.self.inside in
    let one : length d.seen ≡ length d.state.log + 1 =
    omega (arith, c.len-count.ensures.len, c.len-reached.ensures.len, ap length c.front.ensures, c.if-count-reached-eq1.true) in
    subst (λ (r : Replica). IsNextLog r.front c.in_ok-seen.seen) c.self.view_is
    (subst (IsNextLog d.state.log) (sym c.in_ok-seen.ensures) (next_all d.seen d.state.log c.len-count.ensures.lawful c.self.invariant one))

pub returns-in-Ok-clause-within : goal.returns-in-Ok-clause-within
returns-in-Ok-clause-within c =
    let d = c.self.inside in
    let event = c.event-event.result in
    let place = c.len-reached.ensures.len ∙ ap length c.front.ensures in
    subst (λ (r : Replica). begins_with r.seen c.in-Ok.longer) c.self.view_is
    (subst (begins_with d.seen) (sym (c.in-Ok.ensures.ok.1 ∙ ap (λ (es : List Event). es ++ event ∷ []) c.front-2.ensures))
    (begins_next d.seen d.state.log event c.self.invariant (ap (slice_get d.seen) (sym place) ∙ c.event-event.ensures)))
