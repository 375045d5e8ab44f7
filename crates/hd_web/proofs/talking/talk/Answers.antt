use Rattle.hd_web.specs.Talks.{none, more}
use Rattle.hd_web.proofs.talking.talk.Goals as goal

pub loop-init : goal.loop-init
loop-init g c = none

pub loop-preserved : goal.loop-preserved
loop-preserved g c = more _ _ _ _ c.loop.invariant c.in-None-serve_next.ensures
