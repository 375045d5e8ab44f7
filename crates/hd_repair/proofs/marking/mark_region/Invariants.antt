use Rattle.std.proofs.Common.{◌≡◌, ◌≢◌, ℕ, ◌<◌, length}
use Rattle.hd_repair.specs.declared.marking.Known.TheVariants as knowns
use Rattle.hd_repair.specs.Marking.{known_at, AreKnown}
use Rattle.hd_repair.proofs.marking.mark_region.Given as goal

-- of the objects so far it is known where they are
abbrev pub invariant-loop-o : goal.invariant-loop-o
invariant-loop-o l = record {
  count : length l.known.items ≡ length l.kept;
  known : AreKnown l.kept l.lost l.known.items;
  all : (x : ℕ) → x < l.o → known_at l.known.items x ≢ knowns.Unknown;
}
