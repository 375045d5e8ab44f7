use Rattle.std.proofs.Common.{◌∙◌, List, length, ap, arith}
use Rattle.std.specs.Vec.Iter.{into_iter_items}
use Rattle.hd_terms.specs.Settled.{Reached}
use Rattle.hd_strength.specs.Found.{Findings}
use Rattle.hd_strength.proofs.Joining.{first_whole, later_whole, first_few, later_few, one_listed}
use Rattle.hd_strength.proofs.scratch.lists_of.Goals as goal

pub into_kept-requires : goal.into_kept-requires
into_kept-requires c =
    ap (λ (f : Findings). f.whole) c.into_found.ensures ∙ first_whole (into_iter_items c.loop-part.part-iterator)
    (into_iter_items c.next.new.self) c.in-Some.part c.loop-part.invariant.whole c.in-Some.ensures.steps.0

pub of-requires : goal.of-requires
of-requires c =
    let found = c.into_kept.ensures ∙ ap (λ (f : Findings). f.list) c.into_found.ensures in
    omega (
      arith,
      ap (λ (ks : List Reached). length ks) found,
      first_few (into_iter_items c.loop-part.part-iterator)
          (into_iter_items c.next.new.self) c.in-Some.part c.loop-part.invariant.few c.in-Some.ensures.steps.0,
    )

pub loop-part-preserved : goal.loop-part-preserved
loop-part-preserved c =
    let before = into_iter_items c.loop-part.part-iterator in
    let later = into_iter_items c.next.new.self in
    let found = c.of.ensures ∙ c.into_kept.ensures ∙ ap (λ (f : Findings). f.list) c.into_found.ensures in
    record {
      can_next = tt;
      is_finite = tt;
      listed = one_listed c.loop-part.lists.items c.push.new.self.items _ c.of.result before later c.in-Some.part c.loop-part.invariant.listed
          c.in-Some.ensures.steps.0 found c.in_ok-push.ensures.items;
      whole = later_whole before later c.in-Some.part c.loop-part.invariant.whole c.in-Some.ensures.steps.0;
      few = later_few before later c.in-Some.part c.loop-part.invariant.few c.in-Some.ensures.steps.0;
    }
