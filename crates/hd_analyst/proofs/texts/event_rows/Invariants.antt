use Rattle.std.proofs.Common.{◌≡◌}
use Rattle.hd_analyst.proofs.EventRows.{rows_before}
use Rattle.hd_analyst.proofs.texts.event_rows.Given as goal

-- the rows of the events so far
abbrev pub invariant-loop-number : goal.invariant-loop-number
invariant-loop-number l = l.rows.items ≡ rows_before l.front l.number
