use Rattle.std.proofs.Common.{◌≡◌, ◌++◌, map, length}
use Rattle.std.specs.Arc.{arc_value}
use Rattle.hd_pages.specs.Parts.{joined}
use Rattle.hd_pages.proofs.PartLemmas.{AreFull}
use Rattle.hd_pages.proofs.group.Group.of_slice.Given as goal

-- the pages so far hold what is before the rest
abbrev pub invariant-loop-rest : goal.invariant-loop-rest
invariant-loop-rest g l = record {
  held : joined (map arc_value l.pages.items) ++ l.rest ≡ l.items;
  full : AreFull 1024 (map arc_value l.pages.items);
}

abbrev pub decreases-loop-rest : goal.decreases-loop-rest
decreases-loop-rest g l = length l.rest
