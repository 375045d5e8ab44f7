use Rattle.std.proofs.Common.{length}
use Rattle.hd_subs.proofs.Steps.{IsReadByNow}
use Rattle.hd_subs.proofs.reader.SegmentReader.append_body.Given as goal

abbrev pub invariant-loop-tag : goal.invariant-loop-tag
invariant-loop-tag l = IsReadByNow l.base l.body l.rest l.fn.self l.self

abbrev pub decreases-loop-tag : goal.decreases-loop-tag
decreases-loop-tag l = length l.rest
