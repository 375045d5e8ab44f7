use Rattle.std.proofs.Common.{take}
use Rattle.hd_classes.specs.Sources.{table_of}
use Rattle.hd_classes.specs.FirstClass.{placed_classes}
use Rattle.hd_classes.specs.Building.{AreResolved}
use Rattle.hd_classes.proofs.build.resolved_classes.Given as goal

-- the classes so far
abbrev pub invariant-loop-i : goal.invariant-loop-i
invariant-loop-i l = AreResolved (table_of l.source) (take l.i (placed_classes l.source.list.now)) l.known.entries l.broken.keys
