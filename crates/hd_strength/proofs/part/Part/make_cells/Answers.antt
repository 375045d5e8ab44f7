use Rattle.std.proofs.Common.{refl}
use Rattle.hd_strength.proofs.CellLemmas.{none-remembered}
use Rattle.hd_strength.proofs.part.Part.make_cells.Goals as goal

pub returns-in_ok-cells : goal.returns-in_ok-cells
returns-in_ok-cells c = (
  record {
    first = refl;
    found = refl;
    buckets = refl;
    handed =
        λ o flag. absurd (none-remembered c.in_ok-cells.cells.items o (c.in_ok-cells.ensures.items_if_clones_equal (λ y h. h)) flag);
    count = refl;
  },
  refl,
)
