use Rattle.std.proofs.Common.{◌∙◌, ap}
use Rattle.hd_terms.specs.declared.Event.{Event}
use Rattle.hd_terms.specs.declared.What.TheVariants as whats
use Rattle.hd_terms.specs.EditedDump.{adds_root}
use Rattle.hd_terms.specs.Log.{edit_of}
use Rattle.hd_log.proofs.FlagLemmas.{flag_within, live_adds, dead_adds}
use Rattle.hd_log.proofs.events.adds_root.Goals as goal

pub bounds-live-k : goal.bounds-live-k
bounds-live-k c = flag_within c.args.events.now c.args.live.now c.args.k c.requires.flags c.requires.event

pub returns-then-live-k : goal.returns-then-live-k
returns-then-live-k c =
    c.is_add.ensures
    ∙ ap (λ (e : Event). adds_root (edit_of e.what)) (c.event-event.ensures ∙ c.index-events-k.is)
    ∙ live_adds c.args.events.now c.args.live.now c.args.k _ c.requires.flags c.requires.event c.if-live-k.true

pub returns-else-live-k : goal.returns-else-live-k
returns-else-live-k c =
    let none : Event = record { who = 0; what = whats.Undo 0 } in
    c.if-live-k.false ∙ dead_adds c.args.events.now c.args.live.now c.args.k none c.requires.flags c.requires.event c.if-live-k.false
