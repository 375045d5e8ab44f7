use Rattle.std.proofs.Common.{◌≡◌, ◌+◌, ◌-◌, ◌/◌, length}
use Rattle.hd_totals.specs.Counting.{AreTotalsBetween}
use Rattle.hd_totals.specs.GroupPages.{AreNotedBetween}
use Rattle.hd_totals.specs.Running.{strength_in}
use Rattle.hd_totals.proofs.counting.count_part.Given as goal

-- the objects so far are in the totals, and are noted
abbrev pub invariant-loop-o : goal.invariant-loop-o
invariant-loop-o l = record {
  totals : AreTotalsBetween l.graph (strength_in l.supports) l.start l.o (record { keys = l.keys; rows = l.rows.items });
  room : length l.pages.least ≡ (l.end - l.start + 1023) / 1024;
  noted : AreNotedBetween l.graph l.start l.o l.pages;
  places : length l.places.items ≡ 256;
}
