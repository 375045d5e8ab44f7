use Rattle.std.proofs.Common.{◌∙◌, ap, sym}
use Rattle.hd_terms.specs.declared.Event.{Event}
use Rattle.hd_log.proofs.FlagLemmas.{flag_within, own_is, other_is, dead_is}
use Rattle.hd_terms.specs.declared.What.TheVariants as whats
use Rattle.hd_log.proofs.events.own_live.Goals as goal
use Rattle.hd_log.proofs.events.own_live.Goals.{else-live-k-via-then-live-k+else-owner-who, else-live-k-via-else-live-k}

pub bounds-live-k : goal.bounds-live-k
bounds-live-k c = flag_within c.args.events.now c.args.live.now c.args.k c.requires.flags c.requires.event

pub returns-then-owner-who : goal.returns-then-owner-who
returns-then-owner-who c e at =
    let read = c.who-owner.ensures ∙ ap (λ (e : Event). e.who) c.index-events-k.is in
    own_is c.args.events.now c.args.live.now c.args.k c.args.who _ e c.requires.flags at c.if-live-k.true (sym read ∙ c.if-owner-who.true)

pub returns-else-live-k : goal.returns-else-live-k
returns-else-live-k c e at =
    let log = c.args.events.now in
    let read = c.who-owner.ensures ∙ ap (λ (e : Event). e.who) c.index-events-k.is in
    let none : Event = record { who = 0; what = whats.Undo 0 } in
    elim c.else-live-k.branch [
      | else-live-k-via-then-live-k+else-owner-who w ↦
          other_is log c.args.live.now c.args.k c.args.who _ e c.requires.flags at w.if-live-k.true (λ same. w.if-owner-who.false (read ∙ same))
      | else-live-k-via-else-live-k w ↦ dead_is log c.args.live.now c.args.k c.args.who none e c.requires.flags at w.if-live-k.false
    ]
