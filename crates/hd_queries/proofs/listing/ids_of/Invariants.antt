use Rattle.std.proofs.Common.{◌≤◌, ◌-◌, length}
use Rattle.hd_queries.specs.Listed.{is_listed, AreGatheredBefore}
use Rattle.hd_queries.proofs.listing.ids_of.Given as goal

-- the IDs of those among the first objects are gathered
abbrev pub invariant-loop-first : goal.invariant-loop-first
invariant-loop-first l = record {
  within : l.first ≤ length l.graph.objects;
  ids : AreGatheredBefore l.graph (is_listed l.graph l.listed) l.fn.most l.first l.ids;
}

abbrev pub decreases-loop-first : goal.decreases-loop-first
decreases-loop-first l = length l.graph.objects - l.first
