use Rattle.std.proofs.Common.{◌≡◌, ◌-◌, replicate}
use Rattle.hd_buffer.proofs.filling.fill_run.Given as goal

abbrev pub invariant-loop-run : goal.invariant-loop-run
invariant-loop-run g l = (l.run.cap ≡ l.fn.run.cap) × (l.run.ptr ≡ l.fn.run.ptr) × (l.run.items ≡ replicate l.run.len 0)

abbrev pub decreases-loop-run : goal.decreases-loop-run
decreases-loop-run g l = l.run.cap - l.run.len
