use Rattle.hd_repair.specs.Renewing.{AreChangesBelow, AreRenewed}
use Rattle.hd_repair.proofs.renewing.renewed.Given as goal

-- the objects so far are renewed
abbrev pub invariant-loop-o : goal.invariant-loop-o
invariant-loop-o l = record {
  renewed : AreRenewed l.kept l.found l.renewed l.marks.known.items l.base l.o;
  changes : AreChangesBelow l.kept l.found l.marks.known.items l.o l.changes.items;
}
