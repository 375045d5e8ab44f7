use Rattle.std.proofs.Common.{◌≡◌, ◌+◌, ◌<◌, ◌^◌, ◌++◌, length, map}
use Rattle.std.specs.List.{sum_by}
use Rattle.std.specs.Arc.{arc_value}
use Rattle.hd_slots.specs.Table.{Table}
use Rattle.hd_slots.proofs.PartLemmas.{over}
use Rattle.hd_slots.proofs.joined_rows.JoinedRows.with_ids.Given as goal

-- the parts so far are over the IDs, and the iterator has the others, which leave room for them
abbrev pub invariant-loop-part : goal.invariant-loop-part
invariant-loop-part l = record {
  all : map (over l.fn.ids) l.initial.part-iterator.rest.items ≡ l.numbered.items ++ map (over l.fn.ids) l.part-iterator.rest.items;
  room : length l.fn.ids + sum_by (λ (t : Table). t.count) l.part-iterator.rest.items < 2 ^ 32;
  ids : arc_value l.ids ≡ l.fn.ids;
}
