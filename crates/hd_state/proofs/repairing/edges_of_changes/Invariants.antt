use Rattle.std.proofs.Common.{◌≤◌, sum_by, take}
use Rattle.hd_terms.specs.Regions.{changed_objects}
use Rattle.hd_state.specs.LastMove.{edges_at}
use Rattle.hd_state.proofs.repairing.edges_of_changes.Given as goal

-- the sum is of changed objects
abbrev pub invariant-loop-change : goal.invariant-loop-change
invariant-loop-change l = l.sum ≤ sum_by (edges_at l.view.dump) (changed_objects (take l.change-index l.changes))
