use Rattle.std.proofs.Common.{◌≡◌, ◌+◌, ◌++◌, length}
use Rattle.hd_graph.specs.ArrayRows.{field_names}
use Rattle.hd_graph.proofs.layouts.names_of_layout.Given as goal

-- the names so far, before those of the rest
abbrev pub invariant-loop-own : goal.invariant-loop-own
invariant-loop-own l = record {
  names : l.names.items ++ field_names l.first l.rest ≡ field_names 0 l.fn.layout;
  number : l.first + length l.rest ≡ length l.fn.layout;
}

abbrev pub decreases-loop-own : goal.decreases-loop-own
decreases-loop-own l = length l.rest
