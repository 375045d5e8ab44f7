use Rattle.std.proofs.Common.{◌≡◌, ◌≤◌, ◌<◌, ℕ, take}
use Rattle.hd_decode.specs.Bodies.{span_total}
use Rattle.hd_decode.specs.Shares.{middle}
use Rattle.hd_decode.proofs.shares.share_len.Given as goal

-- the bytes so far, and that each middle so far lies within the share
abbrev pub invariant-loop-i : goal.invariant-loop-i
invariant-loop-i l = (l.before ≡ span_total (take l.i l.spans)) × ((k : ℕ) → k < l.i → middle l.spans k ≤ l.bytes)
