use Rattle.hd_totals.specs.Counting.{totals_of}
use Rattle.hd_totals.proofs.Joining.{AreJoining}
use Rattle.hd_totals.proofs.counting.join_parts.Given as goal

-- the totals of the keys so far are added
abbrev pub invariant-loop-i : goal.invariant-loop-i
invariant-loop-i l = AreJoining (totals_of l.fn.one) (totals_of l.other) l.i (record { keys = l.keys; rows = l.rows.items })
