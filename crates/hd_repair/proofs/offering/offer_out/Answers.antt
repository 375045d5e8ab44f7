use Rattle.hd_repair.proofs.OfferLemmas.{offers_join}
use Rattle.hd_repair.proofs.offering.offer_out.Goals as goal

pub returns-clause-offers : goal.returns-clause-offers
returns-clause-offers g c =
    offers_join (g.E.Edges.rows c.args.edges.now) c.args.kept.now c.args.objects.now c.args.offers.now c.into_offers.result c.append.new.self
    (rw c.into_offers.ensures c.in_ok-found.ensures.offers) c.in_ok-append.ensures
