use Rattle.std.proofs.Common.{◌<◌, length}
use Rattle.hd_repair.specs.Hanging.{IsHung}
use Rattle.hd_repair.proofs.hanging.is_hung.Given as goal

-- the object hangs, if the one hangs that the walk has come to
abbrev pub invariant-loop-steps : goal.invariant-loop-steps
invariant-loop-steps l = record {
  within : l.at < length l.kept;
  back : IsHung l.kept l.at → IsHung l.kept l.o;
}

abbrev pub decreases-loop-steps : goal.decreases-loop-steps
decreases-loop-steps l = l.steps
