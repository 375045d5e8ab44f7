use Rattle.hd_classes.proofs.FieldLemmas.{first_fields}
use Rattle.hd_graph.proofs.LayoutLemmas.{ArePushed}
use Rattle.hd_graph.proofs.instance_rows.push_own_fields.Given as goal

-- the IDs in the fields so far were added
abbrev pub invariant-loop-i : goal.invariant-loop-i
invariant-loop-i l = ArePushed l.start (first_fields l.fields l.i) l.initial.slot_table l.slot_table l.at
