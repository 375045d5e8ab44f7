use Rattle.std.proofs.Common.{◌≡◌, ◌-◌, length}
use Rattle.hd_slots.specs.Resolving.{AreKeptSoFar}
use Rattle.hd_slots.proofs.resolving.keep_absent.Given as goal

-- the numbers before the block are done
abbrev pub invariant-loop-start : goal.invariant-loop-start
invariant-loop-start l = AreKeptSoFar l.ids l.bytes l.id_size l.initial.items l.items l.absent.items l.start × (length l.items ≡ length l.initial.items)

abbrev pub decreases-loop-start : goal.decreases-loop-start
decreases-loop-start l = length l.items - l.start
