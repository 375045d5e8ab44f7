-- A line is answered by the desk or by a text of its own, and the answer is written: `line_done` where that succeeds,
-- `line_fault` where the writer fails.
use Rattle.std.proofs.Common.{◌≡◌, ◌∙◌, Err, sym, ap, subst}
use Rattle.std.proofs.lemmas.Result.{err_from_is_err_and}
use Rattle.hd_lines.specs.Lines.{command_of, last_word}
use Rattle.hd_analyst.specs.Answering.{IsAnswered}
use Rattle.hd_protocol.proofs.LineLemmas.{line_fault, line_done}
use Rattle.hd_protocol.proofs.serving.run_line.Goals as goal
use Rattle.hd_protocol.proofs.serving.run_line.Goals.{in-Some+in_ok-put_all-in-Some, in-None+in_ok-put_all-in-None}

pub returns-in_err-put_all-in-Some-clause-runs : goal.returns-in_err-put_all-in-Some-clause-runs
returns-in_err-put_all-in-Some-clause-runs g c =
    let last : c.last_word.result.now ≡ last_word c.args.service.now.line = c.last_word.ensures ∙ ap last_word c.as_slice-line.ensures.bytes in
    let p = err_from_is_err_and c.from_residual.result c.from_residual.ensures.1 in
    line_fault c.args.service.now.analyst c.answer.new.analyst c.args.service.now.line c.as_bytes.result.now c.last_word.result.now
    c.read_command-reading.result _ _ last
    (c.read_command-reading.ensures ∙ ap command_of c.as_slice-line.ensures.bytes)
    (subst (IsAnswered c.args.service.now.analyst c.answer.new.analyst c.last_word.result.now c.read_command-reading.result)
    (sym c.as_bytes.ensures.value) c.in-Some.ensures)
    c.in_err-put_all-in-Some.ensures.err.0 c.in_err-put_all-in-Some.field-0.0 c.from_residual.result
    (p.1 ∙ ap Err p.2) c.in_err-put_all-in-Some.ensures.write c.in_err-put_all-in-Some.ensures.err.1

pub returns-in_err-put_all-in-None-clause-runs : goal.returns-in_err-put_all-in-None-clause-runs
returns-in_err-put_all-in-None-clause-runs g c =
    let last : c.last_word.result.now ≡ last_word c.args.service.now.line = c.last_word.ensures ∙ ap last_word c.as_slice-line.ensures.bytes in
    let p = err_from_is_err_and c.from_residual-in_err-put_all-in-None.result c.from_residual-in_err-put_all-in-None.ensures.1 in
    line_fault c.args.service.now.analyst c.answer.new.analyst c.args.service.now.line c.as_slice.result.now c.last_word.result.now
    c.read_command-reading.result _ _ last
    (c.read_command-reading.ensures ∙ ap command_of c.as_slice-line.ensures.bytes)
    (subst (IsAnswered c.args.service.now.analyst c.answer.new.analyst c.last_word.result.now c.read_command-reading.result)
    (sym c.as_slice.ensures.bytes) c.in-None.ensures)
    c.in_err-put_all-in-None.ensures.err.0 c.in_err-put_all-in-None.field-0.0 c.from_residual-in_err-put_all-in-None.result
    (p.1 ∙ ap Err p.2) c.in_err-put_all-in-None.ensures.write c.in_err-put_all-in-None.ensures.err.1

pub returns-clause-runs : goal.returns-clause-runs
returns-clause-runs g c =
    let last : c.last_word.result.now ≡ last_word c.args.service.now.line = c.last_word.ensures ∙ ap last_word c.as_slice-line.ensures.bytes in
    let read : c.read_command-reading.result ≡ command_of c.args.service.now.line = c.read_command-reading.ensures
    ∙ ap command_of c.as_slice-line.ensures.bytes in
    elim c.match-answer.branch [
      | in-Some+in_ok-put_all-in-Some w ↦ rw w.writer-is
          (line_done c.args.service.now.analyst c.answer.new.analyst c.args.service.now.line w.as_bytes.result.now c.last_word.result.now
          c.read_command-reading.result _ _ last read
          (subst (IsAnswered c.args.service.now.analyst c.answer.new.analyst c.last_word.result.now c.read_command-reading.result)
          (sym w.as_bytes.ensures.value) w.in-Some.ensures)
          c.flow_after.result c.flow_after.ensures w.in_ok-put_all-in-Some.ensures.ok)
      | in-None+in_ok-put_all-in-None w ↦ rw w.writer-is
          (line_done c.args.service.now.analyst c.answer.new.analyst c.args.service.now.line w.as_slice.result.now c.last_word.result.now
          c.read_command-reading.result _ _ last read
          (subst (IsAnswered c.args.service.now.analyst c.answer.new.analyst c.last_word.result.now c.read_command-reading.result)
          (sym w.as_slice.ensures.bytes) w.in-None.ensures)
          c.flow_after.result c.flow_after.ensures w.in_ok-put_all-in-None.ensures.ok)
    ]
