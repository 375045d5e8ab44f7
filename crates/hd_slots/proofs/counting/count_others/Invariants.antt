use Rattle.std.proofs.Common.{◌≡◌, ◌≤◌, map, take}
use Rattle.std.specs.Prelude.{count_by}
use Rattle.hd_slots.specs.Table.{is_absent}
use Rattle.hd_slots.specs.Codes.{id_of_code}
use Rattle.hd_slots.proofs.counting.count_others.Given as goal

-- the count of the first numbers
abbrev pub invariant-loop-i : goal.invariant-loop-i
invariant-loop-i l = record {
  others : l.others ≡ count_by (is_absent l.ids) (take l.i (map (id_of_code l.ids l.absent) l.codes));
  few : l.others ≤ l.i;
}
