use Rattle.std.proofs.Common.{◌≡◌}
use Rattle.hd_strength.specs.Parts.{HasAccepted, to_do_in}
use Rattle.hd_strength.proofs.rounds.spread_objects.Given as goal

-- what was offered of the strength is accepted
abbrev pub invariant-loop-strength : goal.invariant-loop-strength
invariant-loop-strength g l = record {
  searching : HasAccepted l.fn.edited.graph.now l.fn.edited.front.now l.fn.strength l.search;
  whole : l.search.whole ≡ l.fn.search.whole;
}

-- an object that is reached is queued at most once
abbrev pub decreases-loop-strength : goal.decreases-loop-strength
decreases-loop-strength g l = to_do_in l.search.parts.items
