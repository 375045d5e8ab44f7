use Rattle.std.proofs.Common.{◌≡◌, drop}
use Rattle.hd_terms.specs.Log.{own}
use Rattle.hd_log.proofs.events.are_others.Given as goal

-- the events so far are others'
abbrev pub invariant-loop-i : goal.invariant-loop-i
invariant-loop-i l = own l.who l.events ≡ own l.who (drop l.i l.events)
