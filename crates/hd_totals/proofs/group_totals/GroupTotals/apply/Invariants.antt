use Rattle.std.proofs.Common.{List}
use Rattle.hd_terms.specs.Settled.{Reached}
use Rattle.hd_totals.specs.Totals.{AreTotalsBefore}
use Rattle.hd_totals.proofs.ChangeLemmas.{IsBetween}
use Rattle.hd_totals.proofs.group_totals.GroupTotals.apply.Given as goal

-- the first changes are in the totals
abbrev pub invariant-loop-change : goal.invariant-loop-change
invariant-loop-change l = (before after : List Reached) → AreTotalsBefore l.graph l.fn.self l.changes before after
    → IsBetween l.graph before l.changes l.change-index l.self
