use Rattle.std.proofs.Common.{◌≡◌, ◌≤◌, ◌+◌, ◌++◌, length, map, take}
use Rattle.std.specs.Vec.{vec_capacity}
use Rattle.hd_ids.specs.Put.{moved_slot}
use Rattle.hd_ids.proofs.following.put_slots.Given as goal

-- the slots so far are added, and there is room for the others
abbrev pub invariant-loop-i : goal.invariant-loop-i
invariant-loop-i l = (l.slots.items ≡ l.fn.slots.items ++ map (moved_slot l.rows) (take l.i l.more))
    × (length l.fn.slots.items + length l.more ≤ vec_capacity l.slots)
