use Rattle.std.proofs.Common.{◌+◌, ◌-◌, ◌<◌, ◌≤◌, length, slice_index}
use Rattle.hd_parts.proofs.part_index.part_from.Given as goal

abbrev pub invariant-loop-part : goal.invariant-loop-part
invariant-loop-part l = (l.part + 1 < length l.firsts) × (slice_index l.firsts l.part ≤ l.o)

abbrev pub decreases-loop-part : goal.decreases-loop-part
decreases-loop-part l = length l.firsts - l.part
