use Rattle.std.proofs.Common.{◌≡◌, map, take}
use Rattle.hd_terms.specs.Dump.{object_at}
use Rattle.hd_terms.specs.SlotRows.{slot_row}
use Rattle.hd_queries.proofs.rows.rows_of.Given as goal

-- the first slots are there as the log leaves them
abbrev pub invariant-loop-i : goal.invariant-loop-i
invariant-loop-i l = l.rows.items ≡ map (slot_row l.edited.graph.now l.edited.front.now (object_at l.edited.graph.now l.o))
    (take l.i (object_at l.edited.graph.now l.o).slots)
