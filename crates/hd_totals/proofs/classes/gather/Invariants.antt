use Rattle.hd_totals.specs.Rows.{AreRowsBefore}
use Rattle.hd_totals.proofs.classes.gather.Given as goal

-- the rows of the first groups are there
abbrev pub invariant-loop-i : goal.invariant-loop-i
invariant-loop-i l = AreRowsBefore l.totals l.strength l.i l.rows.items
