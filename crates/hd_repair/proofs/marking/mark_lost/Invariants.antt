use Rattle.std.proofs.Common.{◌≡◌, length, take}
use Rattle.hd_repair.proofs.MarkingLemmas.{AreMarkedFor}
use Rattle.hd_repair.proofs.marking.mark_lost.Given as goal

-- the items so far are marked
abbrev pub invariant-loop-held : goal.invariant-loop-held
invariant-loop-held l = record {
  count : length l.known ≡ length l.fn.known;
  marked : AreMarkedFor l.kept l.lost (take l.held-index l.lost) l.fn.known l.known;
}
