use Rattle.std.proofs.Common.{◌≡◌, ◌∙◌, List, ap}
use Rattle.std.specs.Arc.{arc_value}
use Rattle.hd_terms.specs.declared.Event.{Event}
use Rattle.hd_terms.specs.Log.{log_fault}
use Rattle.hd_log.proofs.FlagLemmas.{takes_or_refuses}
use Rattle.hd_log.proofs.front.Front.next_fault.Goals as goal

pub returns-clause-lawful : goal.returns-clause-lawful
returns-clause-lawful c =
    let events : List Event = (arc_value c.self.inside.events).items in
    let read : c.deref-2.result.now ≡ events = c.deref-2.ensures.value ∙ ap (λ v. v.items) c.deref.ensures in
    rw (← c.self.view_is) (takes_or_refuses events c.args.event.now c.log_fault.result c.self.invariant.lawful
    (c.log_fault.ensures ∙ ap (λ (log : List Event). log_fault log c.args.event.now) read))
