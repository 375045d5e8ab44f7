use Rattle.std.proofs.Common.{length}
use Rattle.hd_graph.proofs.LayoutLemmas.{AreBefore}
use Rattle.hd_graph.proofs.instance_rows.push_fields.Given as goal

-- the IDs in the fields before the rest were added
abbrev pub invariant-loop-own : goal.invariant-loop-own
invariant-loop-own l = AreBefore l.start l.fn.layout l.rest l.initial.slot_table l.slot_table l.at

abbrev pub decreases-loop-own : goal.decreases-loop-own
decreases-loop-own l = length l.rest
