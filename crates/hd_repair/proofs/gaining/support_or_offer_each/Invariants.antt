use Rattle.std.proofs.Common.{◌≡◌, ◌+◌, ◌<◌, ◌≤◌, take, drop, length, sum_by, Contains}
use Rattle.hd_repair.specs.declared.offers.Offer.{Offer}
use Rattle.hd_repair.specs.Spreading.{AreResupported, EdgeTo, IsSpreading, RootOn}
use Rattle.hd_repair.proofs.gaining.support_or_offer_each.Given as goal

-- the objects so far have supports or offers, the others are to do
abbrev pub invariant-loop-o : goal.invariant-loop-o
invariant-loop-o g l =
    let r = g.E.Edges.rows l.fn.edges in
    record {
      same : g.E.Edges.rows l.edges ≡ r;
      count : length l.kept ≡ length l.fn.kept;
      looks : g.E.Edges.look_count l.edges ≤ g.E.Edges.look_count l.fn.edges + sum_by (λ o. length (r.roots o) + length (r.into o)) (take l.o-index l.objects);
      targets : (x : Offer) → Contains l.offers x → x.target < r.objects;
      resupported : AreResupported l.fn.kept l.kept (take l.o-index l.objects);
      spreading : IsSpreading r.standing l.kept l.offers (RootOn (drop l.o-index l.objects)) (EdgeTo (drop l.o-index l.objects));
    }
