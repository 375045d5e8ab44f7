use Rattle.hd_strength.specs.Parts.{AreHolding}
use Rattle.hd_strength.proofs.roots.apply_dump_roots.Given as goal

-- the roots so far hold their objects
abbrev pub invariant-loop-r : goal.invariant-loop-r
invariant-loop-r g l = AreHolding l.fn.edited.graph.now l.fn.edited.front.now l.fn.whole l.r l.parts.items
