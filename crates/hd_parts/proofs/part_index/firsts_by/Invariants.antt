use Rattle.hd_parts.proofs.FirstLemmas.{FirstsSoFar}
use Rattle.hd_parts.proofs.part_index.firsts_by.Given as goal

abbrev pub invariant-loop-len : goal.invariant-loop-len
invariant-loop-len l = FirstsSoFar l.lens l.firsts.items l.end l.len-index
