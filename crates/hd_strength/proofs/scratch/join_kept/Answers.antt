use Rattle.std.proofs.Common.{◌∙◌, ap}
use Rattle.std.specs.Vec.Iter.{into_iter_items}
use Rattle.hd_strength.specs.Found.{Findings}
use Rattle.hd_strength.proofs.Joining.{one_joined, first_whole, later_whole}
use Rattle.hd_strength.proofs.scratch.join_kept.Goals as goal

pub into_kept-list-requires : goal.into_kept-list-requires
into_kept-list-requires c =
    ap (λ (f : Findings). f.whole) c.into_found.ensures ∙ first_whole (into_iter_items c.loop-part.part-iterator)
    (into_iter_items c.next.new.self) c.in-Some.part c.loop-part.invariant.whole c.in-Some.ensures.steps.0

pub loop-part-preserved : goal.loop-part-preserved
loop-part-preserved c =
    let before = into_iter_items c.loop-part.part-iterator in
    let later = into_iter_items c.next.new.self in
    let found = c.into_kept-list.ensures ∙ ap (λ (f : Findings). f.list) c.into_found.ensures in
    record {
      can_next = tt;
      is_finite = tt;
      joined = one_joined c.loop-part.kept.items c.append.new.self.items c.into_kept-list.result.items _ before later c.in-Some.part
          c.loop-part.invariant.joined c.in-Some.ensures.steps.0 found c.in_ok-append.ensures.items;
      whole = later_whole before later c.in-Some.part c.loop-part.invariant.whole c.in-Some.ensures.steps.0;
    }
