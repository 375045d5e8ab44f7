use Rattle.hd_strength.specs.Parts.{HasComeTo, AreNoneOffered, IsAsFar}
use Rattle.hd_strength.proofs.rounds.accept_offers.Given as goal

-- the search has come to the strength, and the parts so far have none of it offered
abbrev pub invariant-loop-k : goal.invariant-loop-k
invariant-loop-k l = record {
  searching : HasComeTo l.fn.edited.graph.now l.fn.edited.front.now l.fn.strength l.search;
  none : AreNoneOffered l.search.parts.items l.fn.strength l.k;
  same : IsAsFar l.fn.search l.search;
}
