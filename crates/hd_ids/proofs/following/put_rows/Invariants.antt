use Rattle.hd_ids.specs.Put.{AreRowsPut}
use Rattle.hd_ids.proofs.following.put_rows.Given as goal

-- the rows so far are put
abbrev pub invariant-loop-i : goal.invariant-loop-i
invariant-loop-i l = AreRowsPut l.initial.numbers l.numbers l.rows l.more l.base l.i
