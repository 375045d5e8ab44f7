use Rattle.std.proofs.Common.{◌≡◌, ◌≤◌, ◌++◌, ◌∙◌, List, length, take, drop, ap, sym, arith}
use Rattle.std.proofs.Math.Seq.{take-append_seam}
use Rattle.std.proofs.lemmas.List.{take_all, take-append-drop}
use Rattle.hd_terms.specs.declared.Event.{Event}
use Rattle.hd_log.proofs.events.begins_with.Goals as goal

pub returns : goal.returns
returns c =
    let log : List Event = c.args.events.now in
    let front : List Event = c.args.front.now in
    let i = c.loop-i.i in
    let end : length front ≤ i = omega arith in
    let place : i ≡ length front = omega arith in (
      λ is. (drop i log, sym (take-append-drop i log) ∙ ap (λ (es : List Event). es ++ drop i log) (c.loop-i.invariant.0 is ∙ take_all i front end)),
      λ begins. c.loop-i.invariant.1
          (ap (λ n. take n log) place ∙ ap (take (length front)) begins.1 ∙ take-append_seam front begins.0 ∙ sym (take_all i front end)),
    )
