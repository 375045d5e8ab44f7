use Rattle.std.proofs.Common.{◌≡◌, ℕ, ◌⊎◌, Contains, length, take}
use Rattle.hd_repair.specs.Marking.{known_at}
use Rattle.hd_repair.proofs.marking.mark_all.Given as goal

-- the objects so far are marked, and no other
abbrev pub invariant-loop-o : goal.invariant-loop-o
invariant-loop-o l = record {
  count : length l.known ≡ length l.fn.known;
  here : (x : ℕ) → Contains (take l.o-index l.objects) x → known_at l.known x ≡ l.found;
  others : (x : ℕ) → (Contains l.objects x × (known_at l.known x ≡ l.found)) ⊎ (known_at l.known x ≡ known_at l.fn.known x);
}
