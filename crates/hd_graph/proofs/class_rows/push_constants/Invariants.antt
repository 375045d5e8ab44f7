use Rattle.std.proofs.Common.{map}
use Rattle.hd_subs.specs.Views.{constant_view}
use Rattle.hd_graph.specs.ArrayRows.{values_of_constants}
use Rattle.hd_graph.proofs.ValueLemmas.{AreIdsSoFar}
use Rattle.hd_graph.proofs.class_rows.push_constants.Given as goal

-- the IDs of the constants so far were added
abbrev pub invariant-loop-i : goal.invariant-loop-i
invariant-loop-i l = AreIdsSoFar (values_of_constants (map constant_view l.constants)) l.i l.fn.slot_table l.slot_table
