use Rattle.hd_protocol.specs.Steps.{midway}
use Rattle.hd_protocol.proofs.ServedLines.{IsRunning}
use Rattle.hd_protocol.proofs.serving.run_input.Given as goal

-- what was read so far was served
abbrev pub invariant-loop : goal.invariant-loop
invariant-loop g l =
    IsRunning l.initial.service.analyst.analyst l.initial.service.analyst.memory (g.R.Read.remaining l.initial.reader) (g.R.Read.remaining l.reader)
    (g.W.Write.contents l.initial.writer) (g.W.Write.contents l.writer)
    (midway l.service.analyst l.service.line)
