use Rattle.hd_strength.specs.Removed.{AreSlots, AreKinds, AreFields, AreRoots}
use Rattle.hd_strength.proofs.RemovedLemmas.{edits_before}
use Rattle.hd_strength.proofs.removed.Removed.of.Given as goal

-- what the live edits so far take away
abbrev pub invariant-loop-k : goal.invariant-loop-k
invariant-loop-k l = record {
  slots : AreSlots l.fn.graph (edits_before l.fn.front l.k) l.slots.items;
  cleared : AreKinds (edits_before l.fn.front l.k) l.cleared;
  fields : AreFields (edits_before l.fn.front l.k) l.fields.items;
  roots : AreRoots (edits_before l.fn.front l.k) l.roots.items;
}
