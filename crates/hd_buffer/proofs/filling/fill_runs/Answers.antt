use Rattle.std.proofs.Common.{rules, ◌∙◌, arith, sym, subst}
use denote.RawPtr.{◌+ₚ◌}
use Rattle.hd_buffer.specs.Filling.{FilledFrom}
use Rattle.hd_buffer.proofs.FillingLemmas.{nothing-filled, more-filled}
use Rattle.hd_buffer.proofs.filling.fill_runs.Goals as goal

pub loop-rest-init : goal.loop-rest-init
loop-rest-init g c =
    let done = c.split-done.result.0 in
    let front = c.split-done.ensures.first in
    let back = c.split-done.ensures.second in (
      omega arith,
      front.2,
      back.0,
      back.2 ∙ (λ i. (sym front.2) i +ₚ (sym front.1) i),
      omega arith,
      nothing-filled g.F.Fn c.args.f.now c.args.offset done.items (omega (arith, done.ok.0)),
    )

pub loop-rest-preserved : goal.loop-rest-preserved
loop-rest-preserved g c =
    let done = c.loop-rest.done in
    let run = c.fill_run-run.result in
    let filled = more-filled g.F.Fn c.args.f.now c.args.offset done.items run.items _
    (c.len.ensures ∙ done.ok.0) c.loop-rest.invariant.5 c.fill_run-run.ensures.filled in (
      search rules,
      search rules,
      search rules,
      search rules,
      search rules,
      subst (FilledFrom g.F.Fn c.args.f.now c.args.offset) (sym c.unite-done.ensures.items) filled,
    )
