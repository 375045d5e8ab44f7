use Rattle.std.proofs.Common.{map}
use Rattle.hd_terms.specs.declared.Slot.TheVariants as slots
use Rattle.hd_subs.specs.Views.{static_view}
use Rattle.hd_graph.specs.ArrayRows.{values_of_statics}
use Rattle.hd_graph.proofs.ValueLemmas.{AreNamesSoFar}
use Rattle.hd_graph.proofs.class_shapes.push_static_names.Given as goal

-- the names of the statics so far were added
abbrev pub invariant-loop-i : goal.invariant-loop-i
invariant-loop-i l = AreNamesSoFar (λ i. slots.Static i) (values_of_statics (map static_view l.statics)) l.i l.fn.names.items l.names.items
