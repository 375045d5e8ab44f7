use Rattle.std.proofs.Common.{◌≡◌, List, length}
use Rattle.hd_terms.specs.Regions.{Holding}
use Rattle.hd_repair.specs.Marking.{AreKnown}
use Rattle.hd_repair.proofs.marking.mark_samples.Given as goal

-- what is known stays right
abbrev pub invariant-loop-k : goal.invariant-loop-k
invariant-loop-k l = record {
  count : length l.known ≡ length l.fn.known;
  known : (lost : List Holding) → AreKnown l.kept lost l.fn.known → AreKnown l.kept lost l.known;
}
