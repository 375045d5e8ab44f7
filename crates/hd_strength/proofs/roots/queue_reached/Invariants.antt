use Rattle.hd_strength.specs.Parts.{IsSameBut}
use Rattle.hd_strength.proofs.Holding.{AreQueued}
use Rattle.hd_strength.proofs.roots.queue_reached.Given as goal

-- the objects so far are queued that are reached
abbrev pub invariant-loop-place : goal.invariant-loop-place
invariant-loop-place l = record {
  same : IsSameBut l.fn.part l.part;
  queued : AreQueued l.fn.part l.part.queue l.place;
}
