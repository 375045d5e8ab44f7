use Rattle.std.proofs.Common.{take}
use Rattle.hd_classes.specs.FirstClass.{AreFirstClasses}
use Rattle.hd_classes.proofs.first_class.first_classes.Given as goal

-- the sub-records so far
abbrev pub invariant-loop-i : goal.invariant-loop-i
invariant-loop-i l = AreFirstClasses (take l.i l.list) l.ids.keys l.classes.entries
