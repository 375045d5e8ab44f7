-- One target after another: its best offer gives more and is spread later, or the same from an earlier source,
-- and becomes its support at once (`none_resupported` to begin with).
use Rattle.std.proofs.Common.{◌≡◌, ◌∙◌, ◌+◌, ◌<◌, ℕ, List, length, get_or, drop, refl, subst, arith}
use Rattle.std.proofs.lemmas.List.{take_all}
use Rattle.std.proofs.lemmas.List.Sums.{sum_by_more}
use Rattle.hd_terms.specs.EdgeRows.{AreRows}
use Rattle.hd_repair.specs.Spreading.{AreResupported}
use Rattle.hd_repair.proofs.EachLemmas.{from_place, none_to_do, past_end}
use Rattle.hd_repair.proofs.ResupportLemmas.{none_resupported, one_resupported, one_taken, taken_targets}
use Rattle.hd_repair.proofs.gaining.support_or_offer_each.Goals as goal

pub loop-o-init : goal.loop-o-init
loop-o-init g c = record {
  same = refl;
  count = refl;
  looks = omega arith;
  targets = rw c.new-offers.ensures (λ x (k, lt, is). absurd (omega arith));
  resupported = none_resupported c.args.kept.now;
  spreading = rw c.new-offers.ensures c.requires.spreading;
}

pub best_offer-offer-requires-clause-backed : goal.best_offer-offer-requires-clause-backed
best_offer-offer-requires-clause-backed g c = rw c.loop-o.invariant.same (c.loop-o.invariant.spreading.supported (get_or c.args.objects.now c.loop-o.o-index 0))

pub loop-o-preserved : goal.loop-o-preserved
loop-o-preserved g c =
    let rows = g.E.Edges.rows in
    let r = rows c.args.edges.now in
    let same : rows c.loop-o.edges ≡ r = c.loop-o.invariant.same in
    let laws : AreRows r = subst AreRows same (g.met.E.Edges.lawful c.loop-o.edges) in
    let i = c.loop-o.o-index in
    let xs = c.args.objects.now in
    let o = get_or xs i 0 in
    let lt : i < length xs = omega arith in
    let best = rw same at c.best_offer-offer.ensures.best in
    let looks = rw same at c.best_offer-offer.ensures.looks in
    let taken = c.in_ok-take_offer.ensures.ok in
    record {
      same = c.best_offer-offer.ensures.same ∙ same;
      count = c.take_offer.ensures.count ∙ c.loop-o.invariant.count;
      looks = omega (arith, sum_by_more (λ (o : ℕ). length (r.roots o) + length (r.into o)) xs i 0 lt, looks, c.loop-o.invariant.looks);
      targets = taken_targets c.loop-o.kept c.take_offer.new.kept c.loop-o.offers c.take_offer.new.offers c.best_offer-offer.result r.objects taken
          c.loop-o.invariant.targets (rw best.target (c.requires.objects i 0 lt));
      resupported = one_resupported c.args.kept.now c.loop-o.kept c.take_offer.new.kept xs i c.loop-o.offers c.take_offer.new.offers
          c.best_offer-offer.result lt best.target c.loop-o.invariant.resupported taken;
      spreading = one_taken r laws c.loop-o.kept c.take_offer.new.kept (drop i xs) (drop (i + 1) xs) o (λ t. from_place xs i 0 t lt) c.loop-o.offers
          c.take_offer.new.offers c.loop-o.invariant.spreading c.best_offer-offer.result best taken;
    }

pub returns-clause-resupported : goal.returns-clause-resupported
returns-clause-resupported g c = subst (λ (xs : List ℕ). AreResupported c.args.kept.now c.loop-o.kept xs)
    (take_all c.loop-o.o-index c.args.objects.now c.loop-o-test.false) c.loop-o.invariant.resupported

pub returns-clause-spreading : goal.returns-clause-spreading
returns-clause-spreading g c = none_to_do (g.E.Edges.rows c.args.edges.now).standing c.loop-o.kept c.loop-o.offers (drop c.loop-o.o-index c.args.objects.now)
    (λ x. past_end c.args.objects.now c.loop-o.o-index x c.loop-o-test.false) c.loop-o.invariant.spreading
