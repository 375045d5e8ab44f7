use Rattle.std.proofs.Common.{◌≡◌, take}
use Rattle.hd_repair.proofs.GainLemmas.{AreTargets}
use Rattle.hd_repair.proofs.targets.targets_of.Given as goal

-- the targets so far, which have been seen
abbrev pub invariant-loop-item : goal.invariant-loop-item
invariant-loop-item l = record { seen : l.seen.keys ≡ l.targets.items; targets : AreTargets l.items (take l.item-index l.items) l.targets.items }
