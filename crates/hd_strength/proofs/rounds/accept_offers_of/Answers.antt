-- Each turn takes the first offer of the bucket: `accept_offer` tries it, and by `let_go` the search goes on without it.
-- The bucket gets shorter (`fewer_offered`), and in the end it is empty (`none_more`).
use Rattle.std.proofs.Common.{◌≡◌, ◌∙◌, ◌<◌, length, length-set, Some, slice_get, refl, sym, ap, arith}
use Rattle.std.proofs.lemmas.Option.{slice_get_read}
use Rattle.hd_strength.specs.declared.part.Part.{Part}
use Rattle.hd_strength.specs.Buckets.{bucket}
use Rattle.hd_strength.proofs.Taking.{let_go, same_to_do, still_none, none_same, none_more, taken, fewer_offered, first-contained, none-first, with_buckets}
use Rattle.hd_strength.proofs.Taking.{read_there}
use Rattle.hd_strength.proofs.rounds.accept_offers_of.Goals as goal

pub accept_offer-requires-clause-made : goal.accept_offer-requires-clause-made
accept_offer-requires-clause-made c =
    let parts = c.loop-offer.search.parts.items in
    let k = c.args.k in
    let p : Part = c.index-in-Some.result.now in
    let q : Part = c.index.result.now in
    let lt : k < length parts = omega (arith, c.requires.part, c.loop-offer.invariant.same.count) in
    let there : slice_get parts k ≡ Some p = slice_get_read parts (length parts) k p refl lt c.index-in-Some.ensures in
    let first : slice_get (bucket p.buckets c.args.strength) 0 ≡ Some c.in-Some.offer = ap (λ (p : Part). slice_get (bucket p.buckets c.args.strength) 0)
    (sym (read_there parts k p q there c.index.ensures)) ∙ sym c.first.ensures ∙ c.in-Some.is in
    record {
      offered = record { index = k; part = p; there = there; made = first-contained (bucket p.buckets c.args.strength) c.in-Some.offer first };
      last =
          refl;
    }

pub loop-offer-smaller : goal.loop-offer-smaller
loop-offer-smaller c =
    let before = c.loop-offer.search.parts.items in
    let now = c.accept_offer.new.search.parts.items in
    let k = c.args.k in
    let p : Part = c.index.result.now in
    let q : Part = c.index_mut.result.now in
    let t = c.in_ok-accept_offer.ensures in
    let lt : k < length before = omega (arith, c.requires.part, c.loop-offer.invariant.same.count) in
    let there : slice_get before k ≡ Some p = slice_get_read before (length before) k p refl lt c.index.ensures in
    let here : slice_get now k ≡ Some q = slice_get_read now (length now) k q refl (omega (arith, t.as_far.count)) c.index_mut.ensures.value in
    fewer_offered c.args.strength before now k p q c.pop.new.self c.in-Some.offer c.pop.result there here t.same_offers
    (sym c.first.ensures ∙ c.in-Some.is) c.pop.ensures.none c.pop.ensures.some

pub loop-offer-preserved : goal.loop-offer-preserved
loop-offer-preserved c =
    let dump = c.args.edited.graph.now in
    let log = c.args.edited.front.now in
    let s = c.args.strength in
    let x = c.in-Some.offer in
    let before = c.loop-offer.search.parts.items in
    let now = c.accept_offer.new.search.parts.items in
    let k = c.args.k in
    let p : Part = c.index.result.now in
    let q : Part = c.index_mut.result.now in
    let t = c.in_ok-accept_offer.ensures in
    let h = c.loop-offer.invariant in
    let whole = c.accept_offer.new.search.whole in
    let lt : k < length before = omega (arith, c.requires.part, h.same.count) in
    let there : slice_get before k ≡ Some p = slice_get_read before (length before) k p refl lt c.index.ensures in
    let here : slice_get now k ≡ Some q = slice_get_read now (length now) k q refl (omega (arith, t.as_far.count)) c.index_mut.ensures.value in
    let out = taken s before now k p q c.pop.new.self x c.pop.result there here t.same_offers
    (sym c.first.ensures ∙ c.in-Some.is) c.pop.ensures.none c.pop.ensures.some in
    record {
      searching = let_go dump log whole s now t.searching k q c.pop.new.self x here out t.reached;
      none = still_none dump log whole s now t.searching k q c.pop.new.self x here out k (omega arith) (none_same s before now k t.same_offers h.none);
      same = record {
        whole = t.as_far.whole ∙ h.same.whole;
        count = length-set now k (with_buckets q c.pop.new.self) ∙ t.as_far.count ∙ h.same.count;
        no_more = omega (arith, same_to_do dump log whole s now t.searching k q c.pop.new.self x here out, t.as_far.no_more, h.same.no_more);
      };
    }

pub returns-clause-none : goal.returns-clause-none
returns-clause-none c =
    let parts = c.loop-offer.search.parts.items in
    let p : Part = c.index.result.now in
    let lt : c.args.k < length parts = omega (arith, c.requires.part, c.loop-offer.invariant.same.count) in
    let there : slice_get parts c.args.k ≡ Some p = slice_get_read parts (length parts) c.args.k p refl lt c.index.ensures in
    none_more c.args.strength parts c.args.k p c.loop-offer.invariant.none there
    (none-first (bucket p.buckets c.args.strength) (sym c.first.ensures ∙ c.in_default.is))
