use Rattle.std.proofs.Common.{◌≡◌}
use Rattle.hd_graph.specs.Shapes.{row_objects}
use Rattle.hd_graph.specs.Kinds.{AreKindsBetween}
use Rattle.hd_graph.proofs.kinds.kinds_of_part.Given as goal

-- of each kind the edges of the part's objects so far
abbrev pub invariant-loop-o : goal.invariant-loop-o
invariant-loop-o l = AreKindsBetween (row_objects l.shapes.objects l.slot_table.ids l.slot_table.rows) l.start l.o l.lists × (l.list ≡ l.shapes)
