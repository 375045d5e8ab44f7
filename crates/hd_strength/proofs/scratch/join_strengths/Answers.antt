use Rattle.std.proofs.Common.{◌∙◌, map, ap}
use Rattle.std.specs.Vec.Iter.{into_iter_items}
use Rattle.hd_strength.specs.Found.{Findings, strength_of}
use Rattle.hd_strength.proofs.Joining.{one_strengths_joined}
use Rattle.hd_strength.proofs.scratch.join_strengths.Goals as goal

pub loop-part-preserved : goal.loop-part-preserved
loop-part-preserved c =
    let before = into_iter_items c.loop-part.part-iterator in
    let later = into_iter_items c.next.new.self in
    let found = c.into_strengths-list.ensures ∙ ap (λ (f : Findings). map strength_of f.list) c.into_found.ensures in
    record {
      can_next = tt;
      is_finite = tt;
      joined = one_strengths_joined c.loop-part.strengths.items c.append.new.self.items c.into_strengths-list.result.items _ before later c.in-Some.part
          c.loop-part.invariant.joined c.in-Some.ensures.steps.0 found c.in_ok-append.ensures.items;
    }
