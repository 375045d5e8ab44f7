use Rattle.std.proofs.Common.{◌≡◌, length, take}
use Rattle.hd_repair.specs.Falling.{AreDetached}
use Rattle.hd_repair.proofs.falling.detach_each.Given as goal

-- the objects so far are done
abbrev pub invariant-loop-o : goal.invariant-loop-o
invariant-loop-o l = record {
  count : length l.kept ≡ length l.fn.kept;
  detached : AreDetached l.fn.kept l.kept l.fn.gone l.gone (take l.o-index l.objects);
}
