use Rattle.std.proofs.Common.{◌+◌, length}
use Rattle.hd_strength.specs.Parts.{AreHolding}
use Rattle.hd_strength.proofs.roots.apply_roots.Given as goal

-- the roots of the dump hold their objects, and so do the roots added so far
abbrev pub invariant-loop-k : goal.invariant-loop-k
invariant-loop-k g l = AreHolding l.fn.edited.graph.now l.fn.edited.front.now l.fn.whole (length l.fn.edited.graph.now.roots + l.k) l.parts.items
