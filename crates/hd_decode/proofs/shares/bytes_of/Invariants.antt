use Rattle.std.proofs.Common.{◌≡◌, take}
use Rattle.hd_decode.specs.Bodies.{span_total}
use Rattle.hd_decode.proofs.shares.bytes_of.Given as goal

-- the bytes so far
abbrev pub invariant-loop-i : goal.invariant-loop-i
invariant-loop-i l = l.bytes ≡ span_total (take l.i l.spans)
