use Rattle.std.proofs.Common.{◌∙◌, ◌<◌, length, ap, sym, arith}
use Rattle.hd_terms.specs.declared.Event.{Event}
use Rattle.hd_log.specs.Flags.{is_edit}
use Rattle.hd_log.proofs.FlagLemmas.{flag_within, fault_none, fault_not_live}
use Rattle.hd_log.proofs.events.undo_fault.Goals as goal

pub bounds-live-k : goal.bounds-live-k
bounds-live-k c = flag_within c.args.events.now c.args.live.now c.args.k c.requires (let lt : c.args.k < length c.args.events.now = omega arith in lt)

pub returns-then-not-live-k : goal.returns-then-not-live-k
returns-then-not-live-k c =
    let lt : c.args.k < length c.args.events.now = omega arith in
    let read = sym (c.event-event.ensures ∙ c.index-events-k.is) in
    let edit = ap (λ (e : Event). is_edit e.what) read ∙ sym c.is_edit.ensures ∙ c.if-not-is_edit.false in
    let own = ap (λ (e : Event). e.who) read ∙ c.if-event-who.false in
    fault_not_live c.args.events.now c.args.live.now c.args.k c.args.who _ c.requires lt edit own c.if-not-live-k.true

pub returns : goal.returns
returns c =
    let lt : c.args.k < length c.args.events.now = omega arith in
    let read = sym (c.event-event.ensures ∙ c.index-events-k.is) in
    let edit = ap (λ (e : Event). is_edit e.what) read ∙ sym c.is_edit.ensures ∙ c.if-not-is_edit.false in
    let own = ap (λ (e : Event). e.who) read ∙ c.if-event-who.false in
    fault_none c.args.events.now c.args.live.now c.args.k c.args.who _ c.requires lt edit own c.if-not-live-k.false
