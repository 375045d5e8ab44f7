use Rattle.std.proofs.Common.{◌*◌}
use Rattle.hd_ids.specs.Put.{ArePut}
use Rattle.hd_ids.proofs.numbers.Numbers.put_row.Given as goal

-- the numbers of the blocks so far are put
abbrev pub invariant-loop-i : goal.invariant-loop-i
invariant-loop-i l = ArePut l.initial.self l.self (l.row * 512) l.more (l.from * 512) l.base (l.i * 32)
