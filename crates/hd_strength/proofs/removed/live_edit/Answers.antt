use Rattle.std.proofs.Common.{length, ap, arith}
use Rattle.hd_strength.proofs.RemovedLemmas.{length-live_flags, not_live, live_do}
use Rattle.hd_strength.proofs.removed.live_edit.Goals as goal

pub bounds-live-k : goal.bounds-live-k
bounds-live-k c = omega (arith, ap length c.requires.flags, length-live_flags c.args.front.now, c.requires.event)

pub returns-then-not-live-k : goal.returns-then-not-live-k
returns-then-not-live-k c e at =
    not_live c.args.front.now c.args.k c.event-what.result c.args.live.now _ c.requires.flags c.event-what.ensures e at c.if-not-live-k.true

pub returns-in-Do : goal.returns-in-Do
returns-in-Do c e at = live_do c.args.front.now c.args.k c.event-what.result c.args.live.now _ c.requires.flags c.event-what.ensures e at c.in-Do.edit
    c.if-not-live-k.false c.in-Do.is
