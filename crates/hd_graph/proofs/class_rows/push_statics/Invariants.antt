use Rattle.std.proofs.Common.{map}
use Rattle.hd_subs.specs.Views.{static_view}
use Rattle.hd_graph.specs.ArrayRows.{values_of_statics}
use Rattle.hd_graph.proofs.ValueLemmas.{AreIdsSoFar}
use Rattle.hd_graph.proofs.class_rows.push_statics.Given as goal

-- the IDs of the statics so far were added
abbrev pub invariant-loop-i : goal.invariant-loop-i
invariant-loop-i l = AreIdsSoFar (values_of_statics (map static_view l.statics)) l.i l.fn.slot_table l.slot_table
