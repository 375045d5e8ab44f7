use Rattle.std.proofs.Common.{ℕ, length}
use Rattle.hd_terms.specs.Classes.{LeadUp}
use Rattle.hd_classes.specs.Links.{Keeps}
use Rattle.hd_classes.specs.Linking.{AreKept, IsTop}
use Rattle.hd_classes.specs.Paths.{path_view}
use Rattle.hd_classes.specs.Sources.{table_of}
use Rattle.hd_classes.proofs.build.keep_path.Given as goal

-- the classes that are left lead to one that is kept, or to none
abbrev pub invariant-loop-class : goal.invariant-loop-class
invariant-loop-class l =
    AreKept (table_of l.source) l.known.entries × Keeps l.initial.known.entries l.known.entries
    × ((mid : ℕ) × LeadUp (table_of l.source).classes l.fn.path.start (path_view l.classes.items) mid × IsTop l.known.entries mid)

abbrev pub decreases-loop-class : goal.decreases-loop-class
decreases-loop-class l = length l.classes.items
