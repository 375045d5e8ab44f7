use Rattle.std.proofs.Common.{Ok, take}
use Rattle.hd_protocol.specs.declared.serving.Flow.TheVariants as flows
use Rattle.hd_protocol.specs.Steps.{midway, RunsBytes}
use Rattle.hd_protocol.proofs.serving.run_chunk.Given as goal

-- the bytes so far were run
abbrev pub invariant-loop-byte : goal.invariant-loop-byte
invariant-loop-byte g l =
    RunsBytes (take l.byte-index l.bytes) (midway l.initial.service.analyst l.initial.service.line) (midway l.service.analyst l.service.line)
    (g.W.Write.contents l.initial.writer) (g.W.Write.contents l.writer) (Ok flows.GoesOn)
