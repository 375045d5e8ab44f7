use Rattle.std.proofs.Common.{ℕ, Option}
use Rattle.hd_queries.specs.Listed.{is_listed, AreGatheredBefore}
use Rattle.hd_queries.proofs.listing.put_ids.Given as goal

-- what was gathered of the objects before the first is now of those so far
abbrev pub invariant-loop-o : goal.invariant-loop-o
invariant-loop-o l = (most : Option ℕ) → AreGatheredBefore l.graph (is_listed l.graph l.listed) most l.first l.fn.ids
    → AreGatheredBefore l.graph (is_listed l.graph l.listed) most l.o l.ids
