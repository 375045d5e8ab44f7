use Rattle.std.proofs.Common.{◌≡◌, ◌∙◌, ◌++◌}
use Rattle.std.specs.Arc.{arc_value}
use Rattle.std.proofs.lemmas.List.{take-append-drop}
use Rattle.hd_pages.proofs.PartLemmas.{held_more, AreFull_more, held_last, IsFilled_last}
use Rattle.hd_pages.proofs.group.Group.of_slice.Goals as goal

pub loop-rest-preserved : goal.loop-rest-preserved
loop-rest-preserved g c =
    let page : arc_value c.in_ok-new.field-0 ≡ c.split_at.result.0.now = c.in_ok-new.ensures.ok ∙ c.in_ok-of_slice.ensures in
    let more : c.split_at.result.0.now ++ c.split_at.result.1.now ≡ c.loop-rest.rest.now =
    rw (c.split_at.ensures.front, c.split_at.ensures.back) (take-append-drop 1024 c.loop-rest.rest.now) in
    record {
      held = held_more arc_value c.loop-rest.pages.items c.push.new.self.items c.in_ok-new.field-0 c.split_at.result.0.now c.in_ok-push.ensures.items page
          c.loop-rest.rest.now c.split_at.result.1.now c.args.items.now c.loop-rest.invariant.held more;
      full = AreFull_more arc_value c.loop-rest.pages.items c.push.new.self.items c.in_ok-new.field-0 c.split_at.result.0.now c.in_ok-push.ensures.items page
          1024 c.loop-rest.invariant.full c.split_at.ensures.front_len;
    }

pub invariant_of-result : goal.invariant_of-result
invariant_of-result g c =
    let page : arc_value c.in_ok-new-2.field-0 ≡ c.loop-rest.rest.now = c.in_ok-new-2.ensures.ok ∙ c.in_ok-of_slice-2.ensures in
    IsFilled_last arc_value c.loop-rest.pages.items c.push-2.new.self.items c.in_ok-new-2.field-0 c.loop-rest.rest.now c.in_ok-push-2.ensures.items page 1024
    c.loop-rest.invariant.full c.loop-rest-test.false

pub returns : goal.returns
returns g c =
    let page : arc_value c.in_ok-new-2.field-0 ≡ c.loop-rest.rest.now = c.in_ok-new-2.ensures.ok ∙ c.in_ok-of_slice-2.ensures in
    held_last arc_value c.loop-rest.pages.items c.push-2.new.self.items c.in_ok-new-2.field-0 c.loop-rest.rest.now c.in_ok-push-2.ensures.items page
    c.args.items.now c.loop-rest.invariant.held
