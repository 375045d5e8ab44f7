use Rattle.std.proofs.Common.{◌≡◌, ◌+◌, ◌*◌, ◌^◌, ◌≤◌, length, sum_by}
use Rattle.hd_terms.specs.Regions.{changed_objects}
use Rattle.hd_repair.specs.Spreading.{deficit_of, IsRepairing}
use Rattle.hd_repair.proofs.spreading.spread.Given as goal

abbrev pub invariant-loop-strength : goal.invariant-loop-strength
invariant-loop-strength g l = record {
  count : length l.kept ≡ length l.fn.kept;
  same : g.E.Edges.rows l.edges ≡ g.E.Edges.rows l.fn.edges;
  looks : g.E.Edges.look_count l.edges ≤ g.E.Edges.look_count l.fn.edges + sum_by (λ o. length ((g.E.Edges.rows l.fn.edges).out o))
      (changed_objects l.round.changes.items);
  repairing : IsRepairing (g.E.Edges.rows l.fn.edges) l.fn.kept l.kept l.round.offers l.round.changes.items;
}

-- what ranks can rise counts for more than any number of offers that a raise makes
abbrev pub decreases-loop-strength : goal.decreases-loop-strength
decreases-loop-strength g l = deficit_of l.kept * 2 ^ 32 + length l.round.offers
