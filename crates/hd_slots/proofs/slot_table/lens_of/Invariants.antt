use Rattle.std.proofs.Common.{◌≡◌, length, map, take}
use Rattle.hd_slots.specs.Table.{Rows}
use Rattle.hd_slots.proofs.slot_table.lens_of.Given as goal

-- the lengths of the parts so far
abbrev pub invariant-loop-part : goal.invariant-loop-part
invariant-loop-part l = l.lens.items ≡ map (λ (t : Rows). length t.rows) (take l.part-index l.parts)
