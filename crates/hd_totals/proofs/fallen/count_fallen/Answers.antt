use Rattle.std.proofs.Common.{◌∙◌, ◌≤◌, length, ap, sym, arith}
use Rattle.std.specs.Prelude.{count_by}
use Rattle.std.proofs.lemmas.List.{take_all}
use Rattle.hd_terms.specs.Regions.{StrengthChange}
use Rattle.hd_totals.specs.Fallen.{falls_to}
use Rattle.hd_totals.proofs.FallenLemmas.{fallen-counted}
use Rattle.hd_totals.proofs.fallen.count_fallen.Goals as goal

pub returns : goal.returns
returns c = λ before after h same.
    let changes = c.args.changes.now in
    let all : length changes ≤ c.loop-change.change-index = omega arith in
    c.loop-change.invariant ∙ ap (count_by (λ (d : StrengthChange). falls_to d.before d.after)) (take_all c.loop-change.change-index changes all)
    ∙ sym (fallen-counted before after changes h same)
