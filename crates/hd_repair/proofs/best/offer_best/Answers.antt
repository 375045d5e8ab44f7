use Rattle.hd_repair.proofs.OfferLemmas.{best_spreading, best_targets}
use Rattle.hd_repair.proofs.FallLemmas.{from_each}
use Rattle.hd_repair.proofs.best.offer_best.Goals as goal

pub returns-clause-targets : goal.returns-clause-targets
returns-clause-targets g c =
    best_targets (g.E.Edges.rows c.args.edges.now) c.args.kept.now c.args.objects.now c.into_offers.result
    (rw c.into_offers.ensures c.in_ok-found.ensures.offers) (from_each c.args.objects.now (g.E.Edges.rows c.args.edges.now).objects c.requires.objects)

pub returns-clause-spreading : goal.returns-clause-spreading
returns-clause-spreading g c =
    best_spreading (g.E.Edges.rows c.args.edges.now) c.are_rows.ensures c.args.kept.now c.args.objects.now c.into_offers.result
    (rw c.into_offers.ensures c.in_ok-found.ensures.offers) c.requires.spreading
