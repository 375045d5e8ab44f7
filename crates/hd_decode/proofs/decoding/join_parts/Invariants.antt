use Rattle.hd_decode.proofs.JoinLemmas.{AreJoinedSoFar}
use Rattle.hd_decode.proofs.decoding.join_parts.Given as goal

-- the parts so far are joined, and the iterator has the others
abbrev pub invariant-loop-part : goal.invariant-loop-part
invariant-loop-part l = AreJoinedSoFar l.fn.parts.items l.part-iterator.rest.items l.list
