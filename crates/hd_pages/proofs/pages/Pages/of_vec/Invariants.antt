use Rattle.std.proofs.Common.{◌≡◌, ◌++◌, ◌%◌, ◌<◌, map, length, reverse}
use Rattle.std.specs.Arc.{arc_value}
use Rattle.hd_pages.specs.Parts.{joined, IsFilled}
use Rattle.hd_pages.proofs.pages.Pages.of_vec.Given as goal

-- the groups so far, the last one first, hold what is behind the rest; where there is one, the rest fills its groups
abbrev pub invariant-loop-rest : goal.invariant-loop-rest
invariant-loop-rest g l = record {
  held : l.rest.items ++ joined (map arc_value (reverse l.groups.items)) ≡ l.fn.items.items;
  filled : IsFilled 262144 (map arc_value (reverse l.groups.items));
  some : 0 < length l.groups.items → 0 < length l.rest.items;
  whole : 0 < length l.groups.items → length l.rest.items % 262144 ≡ 0;
}

abbrev pub decreases-loop-rest : goal.decreases-loop-rest
decreases-loop-rest g l = length l.rest.items
