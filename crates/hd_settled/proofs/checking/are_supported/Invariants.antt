use Rattle.std.proofs.Common.{ℕ, ◌<◌}
use Rattle.hd_terms.specs.EditedDump.{standing}
use Rattle.hd_terms.specs.Settled.{reached_at, IsSupported}
use Rattle.hd_settled.proofs.checking.are_supported.Given as goal

-- the objects so far are supported
abbrev pub invariant-loop-o : goal.invariant-loop-o
invariant-loop-o l = (k : ℕ) → k < l.o → IsSupported (standing l.fn.edited.graph.now l.fn.edited.front.now) l.fn.strengths k
    (reached_at l.fn.strengths k).support
