use Rattle.std.proofs.Common.{List}
use Rattle.hd_terms.specs.Settled.{Reached}
use Rattle.hd_totals.specs.Totals.{AreTotals}
use Rattle.hd_queries.specs.Groups.{AreGroupsAbove}
use Rattle.hd_queries.proofs.groups.named_groups.Given as goal

-- the groups that have objects of the strengths that were passed are there
abbrev pub invariant-loop-place : goal.invariant-loop-place
invariant-loop-place l = (ks : List Reached) → AreTotals l.graph ks l.totals → AreGroupsAbove l.graph ks l.place l.groups.items
