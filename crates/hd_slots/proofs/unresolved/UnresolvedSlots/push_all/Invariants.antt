use Rattle.std.proofs.Common.{◌≡◌, ℕ, ◌+◌, ◌++◌, map, take}
use Rattle.hd_slots.specs.Table.{id_at}
use Rattle.hd_slots.proofs.unresolved.UnresolvedSlots.push_all.Given as goal

-- the IDs at the places so far were added
abbrev pub invariant-loop-i : goal.invariant-loop-i
invariant-loop-i l = l.self ≡ record l.fn.self {
  filling = l.fn.self.filling ++ map (λ (place : ℕ). id_at l.fn.self.bytes l.fn.self.size (l.start + place)) (take l.i l.places);
  count = l.fn.self.count + l.i;
}
