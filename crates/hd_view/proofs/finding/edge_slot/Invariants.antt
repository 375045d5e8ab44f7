use Rattle.hd_view.proofs.OutLemmas.{IsSought}
use Rattle.hd_view.proofs.finding.edge_slot.Given as goal

-- the edge isn't among the slots before
abbrev pub invariant-loop-slot : goal.invariant-loop-slot
invariant-loop-slot l = IsSought l.graph l.o l.edge l.edges l.slot
