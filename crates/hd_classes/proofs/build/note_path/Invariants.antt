use Rattle.std.proofs.Common.{ℕ, length}
use Rattle.hd_terms.specs.Classes.{ClassTable, LeadUp}
use Rattle.hd_classes.specs.Building.{IsBroken, AreBroken}
use Rattle.hd_classes.specs.Paths.{Leads, path_view}
use Rattle.hd_classes.proofs.build.note_path.Given as goal

-- the classes that are left lead to a broken chain
abbrev pub invariant-loop-class : goal.invariant-loop-class
invariant-loop-class l = (t : ClassTable) → Leads t l.fn.path → IsBroken t l.fn.path.end → AreBroken t l.initial.broken.keys
    → AreBroken t l.broken.keys × ((mid : ℕ) × LeadUp t.classes l.fn.path.start (path_view l.classes.items) mid × IsBroken t mid)

abbrev pub decreases-loop-class : goal.decreases-loop-class
decreases-loop-class l = length l.classes.items
