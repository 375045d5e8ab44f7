use Rattle.std.proofs.Common.{◌≡◌, ◌↔◌, ℕ, ◌<◌, false, get_or}
use Rattle.hd_slots.specs.Resolving.{IsUnmarked}
use Rattle.hd_slots.proofs.resolving.none_marked.Given as goal

-- whether none of the numbers before the index is marked
abbrev pub invariant-loop-i : goal.invariant-loop-i
invariant-loop-i l = (l.any_marked ≡ false) ↔ ((k : ℕ) → k < l.i → IsUnmarked (get_or l.items k 0))
