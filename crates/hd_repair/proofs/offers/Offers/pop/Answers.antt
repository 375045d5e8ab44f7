-- The queue of the strength has its first offer taken out, and the others stay.
use Rattle.std.proofs.Common.{◌≡◌, ◌++◌, map, refl}
use Rattle.hd_terms.specs.declared.Strength.TheVariants as strengths
use Rattle.hd_repair.specs.OffersInside.{offer_at}
use Rattle.hd_repair.proofs.QueueLemmas.{if_none, if_some, none_in, one_out, out_before, out_behind}
use Rattle.hd_repair.proofs.offers.Offers.pop.Goals as goal

pub returns-in-Strong-clause-none : goal.returns-in-Strong-clause-none
returns-in-Strong-clause-none c =
    let a = c.self.inside in
    rw (← c.self.view_is, c.in-Strong.is) (if_none c.pop_queued.result _ _ (λ h. (
      rw (h.0, h.1) refl,
      none_in a strengths.Strong (λ e. h.0)
          (λ e. let both : strengths.Soft ≡ strengths.Strong = e in absurd cc)
          (λ e. let both : strengths.Weak ≡ strengths.Strong = e in absurd cc)
          (λ e. let both : strengths.Final ≡ strengths.Strong = e in absurd cc)
          (λ e. let both : strengths.Phantom ≡ strengths.Strong = e in absurd cc),
    ))
    c.pop_queued.ensures.none)

pub returns-in-Strong-clause-some : goal.returns-in-Strong-clause-some
returns-in-Strong-clause-some c =
    let a = c.self.inside in
    let m2 = map (offer_at strengths.Soft) a.soft.items in
    let m3 = map (offer_at strengths.Weak) a.weak.items in
    let m4 = map (offer_at strengths.Final) a.finals.items in
    let m5 = map (offer_at strengths.Phantom) a.phantom.items in
    rw (← c.self.view_is, c.in-Strong.is) (if_some c.pop_queued.result _ _ (λ f h.
    (out_before _ _ (m2 ++ (m3 ++ (m4 ++ m5))) strengths.Strong f (one_out strengths.Strong f a.strong.items c.pop_queued.new.queue.items h)))
    (rw c.in-Strong.is at c.pop_queued.ensures.some))

pub returns-in-Soft-clause-none : goal.returns-in-Soft-clause-none
returns-in-Soft-clause-none c =
    let a = c.self.inside in
    rw (← c.self.view_is, c.in-Soft.is) (if_none c.pop_queued-in-Soft.result _ _ (λ h. (
      rw (h.0, h.1) refl,
      none_in a strengths.Soft (λ e. let both : strengths.Strong ≡ strengths.Soft = e in absurd cc)
          (λ e. h.0)
          (λ e. let both : strengths.Weak ≡ strengths.Soft = e in absurd cc)
          (λ e. let both : strengths.Final ≡ strengths.Soft = e in absurd cc)
          (λ e. let both : strengths.Phantom ≡ strengths.Soft = e in absurd cc),
    ))
    c.pop_queued-in-Soft.ensures.none)

pub returns-in-Soft-clause-some : goal.returns-in-Soft-clause-some
returns-in-Soft-clause-some c =
    let a = c.self.inside in
    let m1 = map (offer_at strengths.Strong) a.strong.items in
    let m3 = map (offer_at strengths.Weak) a.weak.items in
    let m4 = map (offer_at strengths.Final) a.finals.items in
    let m5 = map (offer_at strengths.Phantom) a.phantom.items in
    rw (← c.self.view_is, c.in-Soft.is) (if_some c.pop_queued-in-Soft.result _ _ (λ f h.
    (out_behind m1 _ _ strengths.Soft f
    (out_before _ _ (m3 ++ (m4 ++ m5)) strengths.Soft f (one_out strengths.Soft f a.soft.items c.pop_queued-in-Soft.new.queue.items h))))
    (rw c.in-Soft.is at c.pop_queued-in-Soft.ensures.some))

pub returns-in-Weak-clause-none : goal.returns-in-Weak-clause-none
returns-in-Weak-clause-none c =
    let a = c.self.inside in
    rw (← c.self.view_is, c.in-Weak.is) (if_none c.pop_queued-in-Weak.result _ _ (λ h. (
      rw (h.0, h.1) refl,
      none_in a strengths.Weak (λ e. let both : strengths.Strong ≡ strengths.Weak = e in absurd cc)
          (λ e. let both : strengths.Soft ≡ strengths.Weak = e in absurd cc)
          (λ e. h.0)
          (λ e. let both : strengths.Final ≡ strengths.Weak = e in absurd cc)
          (λ e. let both : strengths.Phantom ≡ strengths.Weak = e in absurd cc),
    ))
    c.pop_queued-in-Weak.ensures.none)

pub returns-in-Weak-clause-some : goal.returns-in-Weak-clause-some
returns-in-Weak-clause-some c =
    let a = c.self.inside in
    let m1 = map (offer_at strengths.Strong) a.strong.items in
    let m2 = map (offer_at strengths.Soft) a.soft.items in
    let m4 = map (offer_at strengths.Final) a.finals.items in
    let m5 = map (offer_at strengths.Phantom) a.phantom.items in
    rw (← c.self.view_is, c.in-Weak.is) (if_some c.pop_queued-in-Weak.result _ _ (λ f h.
    (out_behind m1 _ _ strengths.Weak f
    (out_behind m2 _ _ strengths.Weak f
    (out_before _ _ (m4 ++ m5) strengths.Weak f (one_out strengths.Weak f a.weak.items c.pop_queued-in-Weak.new.queue.items h)))))
    (rw c.in-Weak.is at c.pop_queued-in-Weak.ensures.some))

pub returns-in-Final-clause-none : goal.returns-in-Final-clause-none
returns-in-Final-clause-none c =
    let a = c.self.inside in
    rw (← c.self.view_is, c.in-Final.is) (if_none c.pop_queued-in-Final.result _ _ (λ h. (
      rw (h.0, h.1) refl,
      none_in a strengths.Final (λ e. let both : strengths.Strong ≡ strengths.Final = e in absurd cc)
          (λ e. let both : strengths.Soft ≡ strengths.Final = e in absurd cc)
          (λ e. let both : strengths.Weak ≡ strengths.Final = e in absurd cc)
          (λ e. h.0)
          (λ e. let both : strengths.Phantom ≡ strengths.Final = e in absurd cc),
    ))
    c.pop_queued-in-Final.ensures.none)

pub returns-in-Final-clause-some : goal.returns-in-Final-clause-some
returns-in-Final-clause-some c =
    let a = c.self.inside in
    let m1 = map (offer_at strengths.Strong) a.strong.items in
    let m2 = map (offer_at strengths.Soft) a.soft.items in
    let m3 = map (offer_at strengths.Weak) a.weak.items in
    let m5 = map (offer_at strengths.Phantom) a.phantom.items in
    rw (← c.self.view_is, c.in-Final.is) (if_some c.pop_queued-in-Final.result _ _ (λ f h.
    (out_behind m1 _ _ strengths.Final f
    (out_behind m2 _ _ strengths.Final f
    (out_behind m3 _ _ strengths.Final f
    (out_before _ _ m5 strengths.Final f (one_out strengths.Final f a.finals.items c.pop_queued-in-Final.new.queue.items h))))))
    (rw c.in-Final.is at c.pop_queued-in-Final.ensures.some))

pub returns-in-Phantom-clause-none : goal.returns-in-Phantom-clause-none
returns-in-Phantom-clause-none c =
    let a = c.self.inside in
    rw (← c.self.view_is, c.in-Phantom.is) (if_none c.pop_queued-in-Phantom.result _ _ (λ h. (
      rw (h.0, h.1) refl,
      none_in a strengths.Phantom (λ e. let both : strengths.Strong ≡ strengths.Phantom = e in absurd cc)
          (λ e. let both : strengths.Soft ≡ strengths.Phantom = e in absurd cc)
          (λ e. let both : strengths.Weak ≡ strengths.Phantom = e in absurd cc)
          (λ e. let both : strengths.Final ≡ strengths.Phantom = e in absurd cc)
          (λ e. h.0),
    ))
    c.pop_queued-in-Phantom.ensures.none)

pub returns-in-Phantom-clause-some : goal.returns-in-Phantom-clause-some
returns-in-Phantom-clause-some c =
    let a = c.self.inside in
    let m1 = map (offer_at strengths.Strong) a.strong.items in
    let m2 = map (offer_at strengths.Soft) a.soft.items in
    let m3 = map (offer_at strengths.Weak) a.weak.items in
    let m4 = map (offer_at strengths.Final) a.finals.items in
    rw (← c.self.view_is, c.in-Phantom.is) (if_some c.pop_queued-in-Phantom.result _ _ (λ f h.
    (out_behind m1 _ _ strengths.Phantom f
    (out_behind m2 _ _ strengths.Phantom f
    (out_behind m3 _ _ strengths.Phantom f
    (out_behind m4 _ _ strengths.Phantom f
    (one_out strengths.Phantom f a.phantom.items c.pop_queued-in-Phantom.new.queue.items h))))))
    (rw c.in-Phantom.is at c.pop_queued-in-Phantom.ensures.some))

pub returns-in-Unreachable-clause-none : goal.returns-in-Unreachable-clause-none
returns-in-Unreachable-clause-none c =
    let a = c.self.inside in (
      refl,
      rw (← c.self.view_is, c.in-Unreachable.is) (none_in a strengths.Unreachable (λ e. let both : strengths.Strong ≡ strengths.Unreachable = e in absurd cc)
          (λ e. let both : strengths.Soft ≡ strengths.Unreachable = e in absurd cc)
          (λ e. let both : strengths.Weak ≡ strengths.Unreachable = e in absurd cc)
          (λ e. let both : strengths.Final ≡ strengths.Unreachable = e in absurd cc)
          (λ e. let both : strengths.Phantom ≡ strengths.Unreachable = e in absurd cc)),
    )
