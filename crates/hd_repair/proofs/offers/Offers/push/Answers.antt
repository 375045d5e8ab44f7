-- One case for each strength: the offer comes last in its queue (`queued_before`), between the queues of greater strengths
-- and those of lesser ones (`adds_behind`).
use Rattle.std.proofs.Common.{map}
use Rattle.hd_terms.specs.declared.Strength.TheVariants as strengths
use Rattle.hd_repair.specs.OffersInside.{offer_at}
use Rattle.hd_repair.proofs.QueueLemmas.{queued_before, queued_at_end, adds_behind}
use Rattle.hd_repair.proofs.offers.Offers.push.Goals as goal

pub returns-in_ok-push_back-in-Strong : goal.returns-in_ok-push_back-in-Strong
returns-in_ok-push_back-in-Strong c =
    rw (← c.self.view_is) (queued_before strengths.Strong c.args.offer c.self.inside.strong.items c.push_back.new.self.items _ c.in-Strong.is
    (c.in_ok-push_back-in-Strong.ensures.items))

pub returns-in_ok-push_back-in-Soft : goal.returns-in_ok-push_back-in-Soft
returns-in_ok-push_back-in-Soft c =
    rw (← c.self.view_is) (adds_behind (map (offer_at strengths.Strong) c.self.inside.strong.items) _ _ c.args.offer
    (queued_before strengths.Soft c.args.offer c.self.inside.soft.items c.push_back-in-Soft.new.self.items _ c.in-Soft.is
    (c.in_ok-push_back-in-Soft.ensures.items)))

pub returns-in_ok-push_back-in-Weak : goal.returns-in_ok-push_back-in-Weak
returns-in_ok-push_back-in-Weak c =
    rw (← c.self.view_is) (adds_behind (map (offer_at strengths.Strong) c.self.inside.strong.items) _ _ c.args.offer
    (adds_behind (map (offer_at strengths.Soft) c.self.inside.soft.items) _ _ c.args.offer
    (queued_before strengths.Weak c.args.offer c.self.inside.weak.items c.push_back-in-Weak.new.self.items _ c.in-Weak.is
    (c.in_ok-push_back-in-Weak.ensures.items))))

pub returns-in_ok-push_back-in-Final : goal.returns-in_ok-push_back-in-Final
returns-in_ok-push_back-in-Final c =
    rw (← c.self.view_is) (adds_behind (map (offer_at strengths.Strong) c.self.inside.strong.items) _ _ c.args.offer
    (adds_behind (map (offer_at strengths.Soft) c.self.inside.soft.items) _ _ c.args.offer
    (adds_behind (map (offer_at strengths.Weak) c.self.inside.weak.items) _ _ c.args.offer
    (queued_before strengths.Final c.args.offer c.self.inside.finals.items c.push_back-in-Final.new.self.items _ c.in-Final.is
    (c.in_ok-push_back-in-Final.ensures.items)))))

pub returns-in_ok-push_back-in-Phantom : goal.returns-in_ok-push_back-in-Phantom
returns-in_ok-push_back-in-Phantom c =
    rw (← c.self.view_is) (adds_behind (map (offer_at strengths.Strong) c.self.inside.strong.items) _ _ c.args.offer
    (adds_behind (map (offer_at strengths.Soft) c.self.inside.soft.items) _ _ c.args.offer
    (adds_behind (map (offer_at strengths.Weak) c.self.inside.weak.items) _ _ c.args.offer
    (adds_behind (map (offer_at strengths.Final) c.self.inside.finals.items) _ _ c.args.offer
    (queued_at_end strengths.Phantom c.args.offer c.self.inside.phantom.items c.push_back-in-Phantom.new.self.items c.in-Phantom.is
    c.in_ok-push_back-in-Phantom.ensures.items)))))
