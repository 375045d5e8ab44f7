use Rattle.std.proofs.Common.{◌≡◌, ◌∙◌, ◌<◌, length, get_or, sym, ap, arith}
use Rattle.std.specs.Arc.{arc_value}
use Rattle.std.specs.List.{sum_by}
use Rattle.std.proofs.lemmas.List.{take_all}
use Rattle.std.proofs.lemmas.List.Sums.{sum_by_more}
use Rattle.hd_slots.specs.Table.{is_known, is_absent, known_in, absent_in}
use Rattle.hd_slots.proofs.PartLemmas.{counted}
use Rattle.hd_slots.proofs.slot_table.SlotTable.counts.Goals as goal

pub loop-part-preserved : goal.loop-part-preserved
loop-part-preserved c =
    let before = c.loop-part.invariant in
    let items = c.as_slice-part-items.result.now in
    let i = c.loop-part.part-index in
    let part = c.part-item.result in
    let lt : i < length items = omega (arith, c.loop-part-test.true) in
    let is : get_or items i part ≡ part = sym c.part-item.is in
    record {
      objects = omega (arith, before.objects, c.counts-more.ensures.objects, sum_by_more known_in items i part lt, ap known_in is);
      others = omega (arith, before.others, c.counts-more.ensures.others, sum_by_more absent_in items i part lt, ap absent_in is);
      few = (omega (arith, before.few.0, c.counts-more.ensures.few.0), omega (arith, before.few.1, c.counts-more.ensures.few.1));
    }

pub returns-clause-objects : goal.returns-clause-objects
returns-clause-objects c =
    let a = c.self.inside in
    let all = take_all c.loop-part.part-index c.as_slice-part-items.result.now (omega (arith, c.loop-part-test.false)) ∙ c.as_slice-part-items.ensures.value in
    let counted = counted is_known (arc_value a.ids) a.parts.items c.self.invariant.dump.each in
    c.loop-part.invariant.objects ∙ ap (sum_by known_in) all ∙ sym counted ∙ ap known_in c.self.view_is

pub returns-clause-others : goal.returns-clause-others
returns-clause-others c =
    let a = c.self.inside in
    let all = take_all c.loop-part.part-index c.as_slice-part-items.result.now (omega (arith, c.loop-part-test.false)) ∙ c.as_slice-part-items.ensures.value in
    let counted = counted is_absent (arc_value a.ids) a.parts.items c.self.invariant.dump.each in
    c.loop-part.invariant.others ∙ ap (sum_by absent_in) all ∙ sym counted ∙ ap absent_in c.self.view_is
