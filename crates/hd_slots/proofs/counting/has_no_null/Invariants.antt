use Rattle.std.proofs.Common.{◌≡◌, ◌↔◌, ℕ, ◌<◌, false, get_or}
use Rattle.hd_slots.proofs.counting.has_no_null.Given as goal

-- whether none of the IDs before the index is null
abbrev pub invariant-loop-i : goal.invariant-loop-i
invariant-loop-i l = (l.any_null ≡ false) ↔ ((k : ℕ) → k < l.i → 0 < get_or l.absent k 0)
