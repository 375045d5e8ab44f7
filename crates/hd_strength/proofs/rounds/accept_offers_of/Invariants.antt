use Rattle.std.proofs.Common.{slice_get}
use Rattle.hd_strength.specs.Parts.{HasComeTo, AreNoneOffered, IsAsFar}
use Rattle.hd_strength.proofs.Taking.{offered_by}
use Rattle.hd_strength.proofs.rounds.accept_offers_of.Given as goal

-- the search has come to the strength, and parts before have none of it offered
abbrev pub invariant-loop-offer : goal.invariant-loop-offer
invariant-loop-offer l = record {
  searching : HasComeTo l.fn.edited.graph.now l.fn.edited.front.now l.fn.strength l.search;
  none : AreNoneOffered l.search.parts.items l.fn.strength l.fn.k;
  same : IsAsFar l.fn.search l.search;
}

-- each offer is taken out once, and none of this strength is made
abbrev pub decreases-loop-offer : goal.decreases-loop-offer
decreases-loop-offer l = offered_by (slice_get l.search.parts.items l.fn.k) l.fn.strength
