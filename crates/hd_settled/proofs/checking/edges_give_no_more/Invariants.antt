use Rattle.std.proofs.Common.{◌≡◌, ℕ, ◌<◌, Some}
use Rattle.hd_terms.specs.Paths.{Edge}
use Rattle.hd_strength.specs.Rows.{edge_at}
use Rattle.hd_settled.specs.Checking.{GivesNoMore}
use Rattle.hd_settled.proofs.checking.edges_give_no_more.Given as goal

-- the references of the objects so far give no more than their targets have
abbrev pub invariant-loop-o : goal.invariant-loop-o
invariant-loop-o l = (k : ℕ) → k < l.o → (i : ℕ) (e : Edge) → edge_at l.fn.edited.graph.now l.fn.edited.front.now k i ≡ Some e
    → GivesNoMore l.fn.edited.graph.now.mode l.fn.strengths e
