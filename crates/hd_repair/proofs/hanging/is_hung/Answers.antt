use Rattle.std.proofs.Common.{◌∙◌, inl, inr, sym}
use Rattle.hd_repair.specs.Hanging.{by_root, by_source}
use Rattle.hd_repair.proofs.hanging.is_hung.Goals as goal

pub returns-in-Root : goal.returns-in-Root
returns-in-Root c found = c.loop-steps.invariant.back (by_root c.in-Root.field-0 (sym c.support.ensures ∙ c.in-Root.is))

pub loop-steps-preserved : goal.loop-steps-preserved
loop-steps-preserved c =
    let is = sym c.support.ensures ∙ c.in-Edge.is in
    record {
      within = c.requires.sources c.loop-steps.at c.in-Edge.source c.in-Edge.slot is;
      back = λ h. c.loop-steps.invariant.back (elim (c.requires.in_order c.loop-steps.at c.in-Edge.source c.in-Edge.slot is) [
        | inl late ↦ absurd late
        | inr before ↦ by_source c.in-Edge.source c.in-Edge.slot is before h
      ]);
    }
