use Rattle.std.proofs.Common.{◌≡◌, ◌-◌, ◌≤◌}
use Rattle.hd_classes.specs.Known.{known_at}
use Rattle.hd_graph.specs.Building.{stretch}
use Rattle.hd_graph.specs.Numbering.{IsNumbered}
use Rattle.hd_graph.proofs.number.number_stretch.Given as goal

-- what the sub-records so far come to; the layouts are those of the classes
abbrev pub invariant-loop-i : goal.invariant-loop-i
invariant-loop-i l = record {
  from : l.first ≤ l.i;
  numbered : IsNumbered (known_at l.classes) l.fn.id_size (stretch l.first (l.i - l.first) l.list) l.ids l.roots.items l.tally;
  layouts : l.layouts ≡ record { classes = l.classes; size = l.fn.id_size };
}
