use Rattle.std.proofs.Common.{◌≡◌, ◌∙◌, sym, ap, subst}
use Rattle.hd_terms.specs.declared.What.TheVariants as whats
use Rattle.hd_lines.specs.Asking.{unless_refused}
use Rattle.hd_terms.specs.Refusals.{edit_refusal}
use Rattle.hd_analyst.specs.AnalystInside.{work_of}
use Rattle.hd_analyst.specs.Editing.{EditEnds}
use Rattle.hd_analyst.proofs.EditLemmas.{edit_answer, edit_ends, with_desk}
use Rattle.hd_analyst.proofs.analyst.Analyst.edit.Goals as goal
use Rattle.hd_analyst.proofs.analyst.Analyst.edit.Goals.{in-Ok, in-Err}

pub returns : goal.returns
returns g c =
    let is : edit_answer c.edit-ended.result ≡ c.match-ended.result = elim c.match-ended.branch [
      | in-Ok w ↦ ap edit_answer w.in-Ok.is ∙ sym w.result-is
      | in-Err w ↦ ap edit_answer w.in-Err.is ∙ cc
    ] in
    subst (EditEnds c.args.self.now (work_of (with_desk c.self.inside c.edit-ended.new.self))
    (unless_refused (edit_refusal c.args.self.now.analyst.dump c.args.edit) (whats.Do c.args.edit))) is
    (edit_ends c.args.self.now c.self.inside c.board_in-board.result.now c.edit-ended.new.self c.args.edit c.edit-ended.result c.self.view_is
    c.board_in-board.ensures c.self.invariant.part
    c.edit-ended.ensures.ok c.edit-ended.ensures.err c.lawful_seen.ensures)
