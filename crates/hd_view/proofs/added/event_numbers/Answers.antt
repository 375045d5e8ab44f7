use Rattle.std.proofs.Common.{◌∙◌, ◌+◌, sym, ap, subst}
use Rattle.hd_view.proofs.AddedLemmas.{AreEventNumbers, events_kept, events_more}
use Rattle.hd_view.proofs.added.event_numbers.Goals as goal
use Rattle.hd_view.proofs.added.event_numbers.Goals.{in-Some+in_ok-push, in_default}

pub loop-number-preserved : goal.loop-number-preserved
loop-number-preserved c =
    let dump = c.args.graph.now in
    let log = c.args.front.now in
    let k = c.loop-number.number in
    elim c.match-object_added.branch [
      | in-Some+in_ok-push w ↦
          subst (AreEventNumbers dump log (k + 1)) (sym (ap (λ v. v.items) w.numbers-is ∙ w.in_ok-push.ensures.items))
          (events_more dump log k c.event.result c.event.ensures c.loop-number.numbers.items w.in-Some.object c.loop-number.invariant (sym w.in-Some.ensures))
      | in_default w ↦
          subst (AreEventNumbers dump log (k + 1)) (sym (ap (λ v. v.items) w.numbers-is))
          (events_kept dump log k c.event.result c.event.ensures c.loop-number.numbers.items c.loop-number.invariant (sym w.in_default.ensures))
    ]
