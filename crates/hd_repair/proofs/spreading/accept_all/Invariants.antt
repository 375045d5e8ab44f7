use Rattle.std.proofs.Common.{◌≡◌, ◌<◌, ◌⊎◌, List, length}
use Rattle.hd_terms.specs.Settled.{Reached}
use Rattle.hd_repair.specs.Spreading.{GoesOn, IsInRound}
use Rattle.hd_repair.proofs.spreading.accept_all.Given as goal

-- the round goes on, and some offers are taken out
abbrev pub invariant-loop-offer : goal.invariant-loop-offer
invariant-loop-offer g l =
    let r = g.E.Edges.rows l.edges in
    record {
      count : length l.kept ≡ length l.fn.kept;
      in_round : (ks0 : List Reached) → IsInRound r ks0 l.fn.kept l.strength l.fn.round → IsInRound r ks0 l.kept l.strength l.round;
      goes_on : GoesOn l.fn.kept l.kept l.fn.round l.round;
      fewer : (l.round.offers ≡ l.fn.round.offers) ⊎ (length l.round.offers < length l.fn.round.offers);
    }

abbrev pub decreases-loop-offer : goal.decreases-loop-offer
decreases-loop-offer g l = length l.round.offers
