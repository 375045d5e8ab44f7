use Rattle.hd_terms.specs.declared.Strength.TheVariants as strengths
use Rattle.hd_repair.proofs.QueueLemmas.{joins_both, joins_queue}
use Rattle.hd_repair.proofs.offers.Offers.append.Goals as goal

pub returns : goal.returns
returns c =
    let a = c.self.inside in
    let b = c.others.inside in
    let j1 = joins_queue strengths.Strong a.strong.items b.strong.items c.append.new.self.items c.in_ok-append.ensures.items in
    let j2 = joins_queue strengths.Soft a.soft.items b.soft.items c.append-2.new.self.items c.in_ok-append-2.ensures.items in
    let j3 = joins_queue strengths.Weak a.weak.items b.weak.items c.append-3.new.self.items c.in_ok-append-3.ensures.items in
    let j4 = joins_queue strengths.Final a.finals.items b.finals.items c.append-4.new.self.items c.in_ok-append-4.ensures.items in
    let j5 = joins_queue strengths.Phantom a.phantom.items b.phantom.items c.append-5.new.self.items c.in_ok-append-5.ensures.items in
    rw (← c.self.view_is, ← c.others.view_is)
    (joins_both _ _ _ _ _ _ j1 (joins_both _ _ _ _ _ _ j2 (joins_both _ _ _ _ _ _ j3 (joins_both _ _ _ _ _ _ j4 j5))))
