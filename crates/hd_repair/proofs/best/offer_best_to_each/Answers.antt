use Rattle.std.proofs.Common.{◌≡◌, ◌∙◌, ◌<◌, length, get_or, arith}
use Rattle.std.proofs.lemmas.List.{take_more}
use Rattle.std.proofs.lemmas.List.Sums.{sum_by_more}
use Rattle.hd_repair.specs.Losing.{sources_of}
use Rattle.hd_repair.proofs.OfferLemmas.{best_more}
use Rattle.hd_repair.proofs.best.offer_best_to_each.Goals as goal

pub loop-o-preserved : goal.loop-o-preserved
loop-o-preserved g c =
    let rows = g.E.Edges.rows in
    let r = rows c.args.edges.now in
    let same : rows c.loop-o.edges ≡ r = c.loop-o.invariant.same in
    let i = c.loop-o.o-index in
    let xs = c.args.objects.now in
    let lt : i < length xs = omega arith in
    let looks = rw same at c.best_offer-offer.ensures.looks in
    record {
      same = c.best_offer-offer.ensures.same ∙ same;
      looks = omega (arith, sum_by_more (sources_of r) xs i 0 lt, looks, c.loop-o.invariant.looks);
      offers = rw (take_more xs i 0 lt) (best_more r c.args.kept.now _ (get_or xs i 0) c.args.offers.now c.loop-o.offers c.push.new.self
          c.best_offer-offer.result c.loop-o.invariant.offers (rw same at c.best_offer-offer.ensures.best) c.in_ok-push.ensures);
    }
