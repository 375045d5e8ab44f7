use Rattle.hd_queries.proofs.ChainLemmas.{IsFollowed, distance}
use Rattle.hd_queries.proofs.chain.chain_back.Given as goal

-- the stored chain is followed back so far
abbrev pub invariant-loop-source : goal.invariant-loop-source
invariant-loop-source l = IsFollowed l.solved.graph.now l.solved.front.now l.solved.strengths.now l.o l.at l.links.items

abbrev pub decreases-loop-source : goal.decreases-loop-source
decreases-loop-source l = distance l.solved.strengths.now l.at
