use Rattle.hd_totals.proofs.LastChangeLemmas.{IsChangedUpTo}
use Rattle.hd_totals.proofs.last_changes.LastChanges.apply.Given as goal

-- the first changes are kept
abbrev pub invariant-loop-change : goal.invariant-loop-change
invariant-loop-change l = IsChangedUpTo l.fn.self l.changes l.events l.change-index l.self
