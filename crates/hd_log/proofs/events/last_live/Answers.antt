use Rattle.std.proofs.Common.{◌∙◌}
use Rattle.hd_log.proofs.LastLemmas.{own_seen, other_seen}
use Rattle.hd_log.proofs.events.last_live.Goals as goal
use Rattle.hd_log.proofs.events.last_live.Goals.{in-Some, in_default}

pub loop-k-preserved : goal.loop-k-preserved
loop-k-preserved c = elim c.match-own_live.branch [
  | in-Some w ↦ w.last-is ∙ own_seen c.args.events.now c.args.who c.loop-k.k w.in-Some.own c.own_live.result c.loop-k-test.true c.own_live.ensures w.in-Some.is
  | in_default w ↦ w.last-is
      ∙ other_seen c.args.events.now c.args.who c.loop-k.k c.loop-k.last c.own_live.result c.loop-k-test.true c.own_live.ensures w.in_default.is
      c.loop-k.invariant
]
