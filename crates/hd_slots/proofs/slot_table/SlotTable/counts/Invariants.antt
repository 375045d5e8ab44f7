use Rattle.std.proofs.Common.{◌≡◌, ◌≤◌, ◌*◌, ◌^◌, take}
use Rattle.std.specs.List.{sum_by}
use Rattle.hd_slots.specs.Table.{known_in, absent_in}
use Rattle.hd_slots.proofs.slot_table.SlotTable.counts.Given as goal

-- the counts of the parts so far
abbrev pub invariant-loop-part : goal.invariant-loop-part
invariant-loop-part l = record {
  objects : l.counts.objects ≡ sum_by known_in (take l.part-index l.part-items);
  others : l.counts.others ≡ sum_by absent_in (take l.part-index l.part-items);
  few : (l.counts.objects ≤ l.part-index * 2 ^ 32) × (l.counts.others ≤ l.part-index * 2 ^ 32);
}
