use Rattle.std.proofs.Common.{◌≡◌, ◌≢◌, ℕ, ◌<◌, ◌≤◌, length}
use Rattle.hd_repair.specs.declared.marking.Known.TheVariants as knowns
use Rattle.hd_repair.specs.Marking.{known_at, IsMarkedByChange}
use Rattle.hd_repair.proofs.marking.mark_changes.Given as goal

-- the objects so far are marked
abbrev pub invariant-loop-o : goal.invariant-loop-o
invariant-loop-o l = record {
  count : length l.known ≡ length l.fn.known;
  done : (x : ℕ) → x < l.o → IsMarkedByChange l.kept l.found l.known x;
  rest : (x : ℕ) → l.o ≤ x → known_at l.known x ≢ knowns.Inside;
}
