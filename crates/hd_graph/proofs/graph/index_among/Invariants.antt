use Rattle.std.proofs.Common.{◌≤◌}
use Rattle.std.specs.List.{prefix_len}
use Rattle.std.specs.Prelude.{not}
use Rattle.hd_terms.specs.declared.Slot.{Slot}
use Rattle.hd_terms.specs.EditedDump.{same_slot}
use Rattle.hd_graph.proofs.graph.index_among.Given as goal

-- the names so far are others
abbrev pub invariant-loop-i : goal.invariant-loop-i
invariant-loop-i l = l.i ≤ prefix_len (λ (name : Slot). not (same_slot name l.slot)) l.names
