-- One changed object after another; those past the last or past the end of the sum add nothing.
use Rattle.std.proofs.Common.{◌≡◌, ◌∙◌, ◌<◌, length, get_or, ap, arith}
use Rattle.hd_terms.specs.declared.Strength.TheVariants as strengths
use Rattle.hd_terms.specs.Regions.{StrengthChange}
use Rattle.hd_repair.proofs.MarkLemmas.{any_default}
use Rattle.hd_view.proofs.IntoLemmas.{length_into}
use Rattle.hd_view.proofs.OutLemmas.{length_edges}
use Rattle.hd_state.specs.LastMove.{edges_at}
use Rattle.hd_state.proofs.UndoneLemmas.{sum_more}
use Rattle.hd_state.proofs.repairing.edges_of_changes.Goals as goal
use Rattle.hd_state.proofs.repairing.edges_of_changes.Goals.{then-sum-enough+then-o-objects, else-sum-enough}

pub loop-change-preserved : goal.loop-change-preserved
loop-change-preserved c =
    let dump = c.args.view.now.dump in
    let log = c.args.view.now.log in
    let changes = c.args.changes.now in
    let i = c.loop-change.change-index in
    let none : StrengthChange = record { object = 0; before = strengths.Unreachable; after = strengths.Unreachable } in
    let lt : i < length changes = omega arith in
    let item : c.change-item.result ≡ get_or changes i none = c.change-item.is ∙ any_default changes i c.change-item.result none lt in
    let o : c.object-o.result ≡ (get_or changes i none).object = c.object-o.ensures ∙ ap (λ (d : StrengthChange). d.object) item in
    let more = sum_more dump changes i none lt in
    elim c.if-sum-enough.branch [
      | then-sum-enough+then-o-objects w ↦ rw w.sum-is (omega (
        arith,
        more,
        c.loop-change.invariant,
        w.saturating_add-sum.ensures,
        w.from.ensures,
        w.from-then-o-objects.ensures,
        w.out_len.ensures,
        w.into_len.ensures,
        length_edges dump c.object-o.result log,
        length_into dump log c.object-o.result,
        ap (edges_at dump) o,
      ))
      | else-sum-enough w ↦ rw w.sum-is (omega (arith, more, c.loop-change.invariant))
    ]
