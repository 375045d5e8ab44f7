use Rattle.std.proofs.Common.{◌≡◌, ◌≤◌, drop, length}
use Rattle.hd_slots.specs.Resolving.{KeepsBlock}
use Rattle.hd_slots.proofs.resolving.keep_block.Given as goal

-- the numbers of the block before the index are done, those from it on are as they were
abbrev pub invariant-loop-i : goal.invariant-loop-i
invariant-loop-i l = record {
  keeps : KeepsBlock l.ids l.bytes l.id_size l.initial.items l.initial.absent.items l.fn.start l.items l.absent.items l.i;
  rest : drop l.i l.items ≡ drop l.i l.initial.items;
  few : length l.absent.items ≤ l.i;
  len : length l.items ≡ length l.initial.items;
}
