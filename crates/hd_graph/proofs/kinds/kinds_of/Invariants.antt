use Rattle.hd_graph.specs.Shapes.{row_objects}
use Rattle.hd_graph.proofs.KindLemmas.{AreJoined}
use Rattle.hd_graph.proofs.kinds.kinds_of.Given as goal

-- the lists of the parts so far are joined, and the iterator has the others
abbrev pub invariant-loop-part : goal.invariant-loop-part
invariant-loop-part g l = AreJoined (row_objects l.shapes.objects l.slot_table.ids l.slot_table.rows) l.part-iterator.rest.items l.lists
