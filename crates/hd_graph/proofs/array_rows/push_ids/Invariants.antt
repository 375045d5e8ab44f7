use Rattle.hd_graph.proofs.RowLemmas.{AreIdsPushed}
use Rattle.hd_graph.proofs.array_rows.push_ids.Given as goal

-- the IDs so far were added
abbrev pub invariant-loop-i : goal.invariant-loop-i
invariant-loop-i l = AreIdsPushed l.initial.slot_table l.start l.count l.i l.slot_table l.offset
