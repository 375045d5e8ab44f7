use Rattle.std.proofs.Common.{◌≡◌, ◌++◌, map, Ok}
use Rattle.hd_slots.specs.Table.{Rows}
use Rattle.hd_slots.proofs.joined_rows.all_resolved.Given as goal

-- the parts so far are resolved, and the iterator has the others
abbrev pub invariant-loop-part : goal.invariant-loop-part
invariant-loop-part l = l.fn.parts.items ≡ map (λ (t : Rows). Ok t) l.all.items ++ l.part-iterator.rest.items
