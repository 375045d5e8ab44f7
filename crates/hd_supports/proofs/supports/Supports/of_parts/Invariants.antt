use Rattle.hd_supports.proofs.JoinLemmas.{AreJoined}
use Rattle.hd_supports.proofs.supports.Supports.of_parts.Given as goal

-- the parts so far are joined, and the iterator has the answers of the others
abbrev pub invariant-loop-list : goal.invariant-loop-list
invariant-loop-list g l = AreJoined l.fn.parts.items l.list-iterator.rest.items l.all
