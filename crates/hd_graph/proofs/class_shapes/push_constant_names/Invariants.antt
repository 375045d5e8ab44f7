use Rattle.std.proofs.Common.{map}
use Rattle.hd_terms.specs.declared.Slot.TheVariants as slots
use Rattle.hd_subs.specs.Views.{constant_view}
use Rattle.hd_graph.specs.ArrayRows.{values_of_constants}
use Rattle.hd_graph.proofs.ValueLemmas.{AreNamesSoFar}
use Rattle.hd_graph.proofs.class_shapes.push_constant_names.Given as goal

-- the names of the constants so far were added
abbrev pub invariant-loop-i : goal.invariant-loop-i
invariant-loop-i l = AreNamesSoFar (λ i. slots.Const i) (values_of_constants (map constant_view l.constants)) l.i l.fn.names.items l.names.items
