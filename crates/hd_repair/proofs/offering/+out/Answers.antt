use Rattle.std.proofs.Common.{[], rules}
use Rattle.std.proofs.lemmas.Result.{IfOk-at_ok}
use Rattle.hd_repair.specs.Spreading.{OffersFrom}
use Rattle.hd_repair.proofs.OfferLemmas.{offers_both}
use Rattle.hd_repair.proofs.offering.+out.Goals as goal

pub returns-clause-offers : goal.returns-clause-offers
returns-clause-offers g t c =
    let r = g.E.Edges.rows c.args.edges.now in
    let ks = c.args.kept.now in
    offers_both r ks c.split_at.result.0.now c.split_at.result.1.now c.args.objects.now _ _ _ (search rules) c.in_ok-all-2.ensures.offers
    (IfOk-at_ok (λ b. OffersFrom r ks c.split_at.result.0.now [] b.offers) c.in_ok-first.was c.join-first.ensures.first.1)
    (IfOk-at_ok (λ b. OffersFrom r ks c.split_at.result.1.now [] b.offers) c.in_ok-rest.was c.join-first.ensures.second.1)
