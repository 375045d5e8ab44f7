use Rattle.std.proofs.Common.{◌≡◌}
use Rattle.hd_log.proofs.LastLemmas.{last_of}
use Rattle.hd_log.proofs.events.last_live.Given as goal

-- the last of the events so far
abbrev pub invariant-loop-k : goal.invariant-loop-k
invariant-loop-k l = l.last ≡ last_of l.events l.who l.k
