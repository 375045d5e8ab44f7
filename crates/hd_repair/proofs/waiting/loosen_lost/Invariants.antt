use Rattle.std.proofs.Common.{◌≡◌, [], length, take}
use Rattle.hd_repair.specs.Losing.{AreLoosened, HoldNone, IsLost}
use Rattle.hd_repair.proofs.waiting.loosen_lost.Given as goal

-- the items so far are tested
abbrev pub invariant-loop-held : goal.invariant-loop-held
invariant-loop-held l = record {
  count : length l.kept ≡ length l.fn.kept;
  loosened : AreLoosened l.fn.kept l.kept [] l.waiting.items (IsLost l.lost);
  none : HoldNone l.kept (take l.held-index l.lost);
}
