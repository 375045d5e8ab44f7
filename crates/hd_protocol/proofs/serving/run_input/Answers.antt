-- A turn writes what is kept, refills, and serves the lines of the chunk: `loop` keeps how far a session has come.
-- Each return is one end of a session: a fault of either side, the end of the input, or the end that a line asks for.
use Rattle.std.proofs.Common.{◌≡◌, ◌∙◌, Ok, Err, length, sym, ap, subst, arith}
use Rattle.std.proofs.KnownBytes.{Keeps-refl}
use Rattle.std.proofs.lemmas.Result.{err_from_is_err_and}
use Rattle.std.specs.Io.KnownBytes.{Consumes}
use Rattle.hd_protocol.specs.Steps.{midway, RunsBytes, RunsInput}
use Rattle.hd_protocol.proofs.ServedLines.{running_none, running_read, read_ends, flush_ends, quit_ends, fault_ends, end_ends}
use Rattle.hd_protocol.proofs.serving.run_input.Goals as goal

pub loop-init : goal.loop-init
loop-init g c = running_none c.args.service.now.analyst c.args.service.now.line (g.R.Read.remaining c.args.reader.now)
    (g.W.Write.contents c.args.writer.now) c.requires

pub returns-in_err-flush : goal.returns-in_err-flush
returns-in_err-flush g c =
    let p = err_from_is_err_and c.from_residual.result c.from_residual.ensures.1 in
    subst (RunsInput c.args.service.now.analyst _ _ _ _ _) (sym (p.1 ∙ ap Err p.2 ∙ ap Err c.in_err-flush.ensures.write))
    (flush_ends c.args.service.now.analyst _ _ _ _ _ c.loop.invariant _ c.in_err-flush.ensures.bytes)

pub returns-in_err-refill : goal.returns-in_err-refill
returns-in_err-refill g c =
    let p = err_from_is_err_and c.from_residual-in_err-refill.result c.from_residual-in_err-refill.ensures.1 in
    subst (RunsInput c.args.service.now.analyst _ _ _ _ _) (sym (p.1 ∙ ap Err p.2 ∙ ap Err c.in_err-refill.ensures.read))
    (read_ends c.args.service.now.analyst _ _ _ _ _ c.loop.invariant _ _ c.in_ok-flush.ensures.bytes c.in_err-refill.ensures.err)

pub returns-then-is_empty : goal.returns-then-is_empty
returns-then-is_empty g c =
    let none : length c.refill.new.chunk ≡ 0 = grind arith in
    end_ends c.args.service.now.analyst _ _ _ _ _ c.loop.invariant _ _ c.refill.new.chunk c.in_ok-flush.ensures.bytes c.in_ok-refill.ensures.ok _
    _ c.run_end.result none (c.in_ok-refill.ensures.end none) c.run_end.ensures

pub returns-in_err-run_chunk : goal.returns-in_err-run_chunk
returns-in_err-run_chunk g c =
    let p = err_from_is_err_and c.from_residual-in_err-run_chunk.result c.from_residual-in_err-run_chunk.ensures.1 in
    fault_ends c.args.service.now.analyst _ _ _ _ _ c.loop.invariant _ _ c.as_slice-bytes.result.now c.in_ok-flush.ensures.bytes
    (subst (Consumes _ _) (sym c.as_slice-bytes.ensures.bytes) c.in_ok-refill.ensures.ok) _
    (midway c.run_chunk.new.service.analyst c.run_chunk.new.service.line) c.in_err-run_chunk.field-0.0 c.from_residual-in_err-run_chunk.result
    (p.1 ∙ ap Err p.2) c.in_err-run_chunk.ensures

pub returns-in-Quits : goal.returns-in-Quits
returns-in-Quits g c =
    quit_ends c.args.service.now.analyst _ _ _ _ _ c.loop.invariant _ _ c.as_slice-bytes.result.now c.in_ok-flush.ensures.bytes
    (subst (Consumes _ _) (sym c.as_slice-bytes.ensures.bytes) c.in_ok-refill.ensures.ok) _
    (midway c.run_chunk.new.service.analyst c.run_chunk.new.service.line) tt
    (subst (λ f. RunsBytes c.as_slice-bytes.result.now (midway c.loop.service.analyst c.loop.service.line)
    (midway c.run_chunk.new.service.analyst c.run_chunk.new.service.line)
    (g.W.Write.contents c.flush.new.writer) (g.W.Write.contents c.run_chunk.new.writer) (Ok f)) c.in-Quits.is c.in_ok-run_chunk.ensures)

pub loop-preserved : goal.loop-preserved
loop-preserved g c =
    running_read c.args.service.now.analyst _ _ _ _ _ c.loop.invariant _ _ c.as_slice-bytes.result.now c.in_ok-flush.ensures.bytes
    (subst (Consumes _ _) (sym c.as_slice-bytes.ensures.bytes) c.in_ok-refill.ensures.ok) _
    (midway c.run_chunk.new.service.analyst c.run_chunk.new.service.line)
    (subst (λ f. RunsBytes c.as_slice-bytes.result.now (midway c.loop.service.analyst c.loop.service.line)
    (midway c.run_chunk.new.service.analyst c.run_chunk.new.service.line)
    (g.W.Write.contents c.flush.new.writer) (g.W.Write.contents c.run_chunk.new.writer) (Ok f)) c.in-GoesOn.is c.in_ok-run_chunk.ensures)

pub returns-in_err-flush-2 : goal.returns-in_err-flush-2
returns-in_err-flush-2 g c =
    let p = err_from_is_err_and c.from_residual-in_err-flush-2.result c.from_residual-in_err-flush-2.ensures.1 in
    subst (RunsInput c.args.service.now.analyst _ _ _ _ _) (sym (p.1 ∙ ap Err p.2 ∙ ap Err c.in_err-flush-2.ensures.write))
    (flush_ends c.args.service.now.analyst _ _ _ _ _ c.loop.invariant _ c.in_err-flush-2.ensures.bytes)

pub returns : goal.returns
returns g c = read_ends c.args.service.now.analyst _ _ _ _ _ c.loop.invariant _ _ c.in_ok-flush-2.ensures.bytes (Keeps-refl _)
