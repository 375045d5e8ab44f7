use Rattle.std.proofs.Common.{◌∙◌, ◌+◌, ◌<◌, ◌≤◌, length, ap, sym, subst, arith}
use Rattle.hd_terms.specs.Regions.{StrengthChange}
use Rattle.hd_totals.specs.LastChanges.{page_of}
use Rattle.hd_totals.proofs.LastChangeLemmas.{IsChangedUpTo, none-changed, one-changed, all-changed}
use Rattle.hd_totals.proofs.last_changes.LastChanges.apply.Goals as goal

pub loop-change-init : goal.loop-change-init
loop-change-init c = none-changed c.args.self.now c.args.changes.now c.args.events

pub loop-change-preserved : goal.loop-change-preserved
loop-change-preserved c =
    let changes = c.args.changes.now in
    let d = c.change-item.result in
    let i = c.loop-change.change-index in
    let lt : i < length changes = omega arith in
    let page_is = ap page_of (c.object.ensures ∙ ap (λ (x : StrengthChange). x.object) c.change-item.is) in
    subst (λ l. IsChangedUpTo c.args.self.now changes c.args.events (i + 1) l) (sym c.in_ok-touch.ensures)
    (one-changed c.args.self.now changes c.args.events i d lt c.loop-change.self c.loop-change.invariant _ page_is)

pub returns : goal.returns
returns c =
    let all : length c.args.changes.now ≤ c.loop-change.change-index = omega arith in
    all-changed c.args.self.now c.args.changes.now c.args.events c.loop-change.change-index c.loop-change.self all c.loop-change.invariant
