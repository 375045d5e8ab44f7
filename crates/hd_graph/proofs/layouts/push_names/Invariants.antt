use Rattle.std.proofs.Common.{◌≡◌, ◌++◌}
use Rattle.hd_graph.specs.ArrayRows.{field_names}
use Rattle.hd_classes.proofs.FieldLemmas.{first_fields}
use Rattle.hd_graph.proofs.layouts.push_names.Given as goal

-- the names of the fields so far were added
abbrev pub invariant-loop-i : goal.invariant-loop-i
invariant-loop-i l = l.names.items ≡ l.initial.names.items ++ field_names l.first (first_fields l.fields l.i)
