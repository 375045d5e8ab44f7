use Rattle.std.proofs.Common.{length}
use Rattle.hd_records.proofs.Steps.{IsReadSoFar}
use Rattle.hd_records.proofs.records.read_records.Given as goal

abbrev pub invariant-loop-rest : goal.invariant-loop-rest
invariant-loop-rest l = IsReadSoFar l.id_size l.bytes l.rest l.texts.items l.loads.items l.spans.items

abbrev pub decreases-loop-rest : goal.decreases-loop-rest
decreases-loop-rest l = length l.rest
