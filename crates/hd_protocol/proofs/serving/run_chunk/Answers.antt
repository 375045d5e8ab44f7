use Rattle.std.proofs.Common.{◌∙◌, ◌+◌, [], ◌∷◌, get_or, Ok, Err, ap, subst}
use Rattle.std.proofs.lemmas.Result.{err_from_is_err_and}
use Rattle.hd_protocol.specs.declared.serving.Flow.TheVariants as flows
use Rattle.hd_protocol.specs.Steps.{midway, RunsBytes}
use Rattle.hd_protocol.proofs.ServedLines.{runs_next, runs_all, runs_past_quit, runs_past_fault}
use Rattle.hd_protocol.proofs.serving.run_chunk.Goals as goal

pub returns-in_err-run_byte : goal.returns-in_err-run_byte
returns-in_err-run_byte g c =
    let p = err_from_is_err_and c.from_residual.result c.from_residual.ensures.1 in
    runs_past_fault c.args.bytes.now _ (midway c.run_byte.new.service.analyst c.run_byte.new.service.line) _ _
    (c.loop-byte.byte-index + 1) c.in_err-run_byte.field-0.0 c.from_residual.result (p.1 ∙ ap Err p.2)
    (runs_next c.args.bytes.now _ (midway c.run_byte.new.service.analyst c.run_byte.new.service.line) _ _ c.loop-byte.byte-index
    (midway c.loop-byte.service.analyst c.loop-byte.service.line) (g.W.Write.contents c.loop-byte.writer) (Err c.in_err-run_byte.field-0.0)
    c.loop-byte-test.true c.loop-byte.invariant c.in_err-run_byte.ensures)

pub returns-in-Quits : goal.returns-in-Quits
returns-in-Quits g c =
    runs_past_quit c.args.bytes.now _ (midway c.run_byte.new.service.analyst c.run_byte.new.service.line) _ _ (c.loop-byte.byte-index + 1)
    (runs_next c.args.bytes.now _ (midway c.run_byte.new.service.analyst c.run_byte.new.service.line) _ _ c.loop-byte.byte-index
    (midway c.loop-byte.service.analyst c.loop-byte.service.line) (g.W.Write.contents c.loop-byte.writer) (Ok flows.Quits)
    c.loop-byte-test.true c.loop-byte.invariant
    (subst (λ f. RunsBytes (get_or c.args.bytes.now c.loop-byte.byte-index 0 ∷ []) (midway c.loop-byte.service.analyst c.loop-byte.service.line)
    (midway c.run_byte.new.service.analyst c.run_byte.new.service.line)
    (g.W.Write.contents c.loop-byte.writer) (g.W.Write.contents c.run_byte.new.writer) (Ok f)) c.in-Quits.is c.in_ok-run_byte.ensures))

pub loop-byte-preserved : goal.loop-byte-preserved
loop-byte-preserved g c =
    runs_next c.args.bytes.now _ (midway c.run_byte.new.service.analyst c.run_byte.new.service.line) _ _ c.loop-byte.byte-index
    (midway c.loop-byte.service.analyst c.loop-byte.service.line) (g.W.Write.contents c.loop-byte.writer) (Ok flows.GoesOn)
    c.loop-byte-test.true c.loop-byte.invariant
    (subst (λ f. RunsBytes (get_or c.args.bytes.now c.loop-byte.byte-index 0 ∷ []) (midway c.loop-byte.service.analyst c.loop-byte.service.line)
    (midway c.run_byte.new.service.analyst c.run_byte.new.service.line)
    (g.W.Write.contents c.loop-byte.writer) (g.W.Write.contents c.run_byte.new.writer) (Ok f)) c.in-GoesOn.is c.in_ok-run_byte.ensures)

pub returns : goal.returns
returns g c = runs_all c.args.bytes.now _ (midway c.loop-byte.service.analyst c.loop-byte.service.line) _ _ c.loop-byte.byte-index c.loop-byte-test.false
    c.loop-byte.invariant
