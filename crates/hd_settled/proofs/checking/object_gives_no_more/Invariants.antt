use Rattle.std.proofs.Common.{◌≡◌, ℕ, ◌<◌, ◌≤◌, Some}
use Rattle.hd_terms.specs.Ranks.{rank}
use Rattle.hd_terms.specs.Paths.{Edge}
use Rattle.hd_strength.specs.Rows.{edge_at}
use Rattle.hd_strength.specs.Growing.{rank_at, offered_strength}
use Rattle.hd_settled.proofs.checking.object_gives_no_more.Given as goal

-- the references so far give no more than their targets have
abbrev pub invariant-loop-index : goal.invariant-loop-index
invariant-loop-index l = (k : ℕ) → k < l.index → (e : Edge) → edge_at l.fn.edited.graph.now l.fn.edited.front.now l.fn.o k ≡ Some e
    → rank (offered_strength l.fn.strengths e) ≤ rank_at l.fn.strengths e.target
