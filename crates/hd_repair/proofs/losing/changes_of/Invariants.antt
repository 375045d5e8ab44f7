use Rattle.std.proofs.Common.{◌≡◌, List, take}
use Rattle.hd_terms.specs.Chains.{NoneTwice}
use Rattle.hd_terms.specs.Settled.{Reached}
use Rattle.hd_repair.specs.Changing.{AreChangesAmong}
use Rattle.hd_repair.specs.Losing.{strengths_of}
use Rattle.hd_repair.proofs.losing.changes_of.Given as goal

-- the objects so far are compared
abbrev pub invariant-loop-i : goal.invariant-loop-i
invariant-loop-i l = (before : List Reached) → l.region.strengths.items ≡ strengths_of before l.region.objects.items → NoneTwice l.region.objects.items
    → AreChangesAmong before l.kept (take l.i l.region.objects.items) l.changes.items
