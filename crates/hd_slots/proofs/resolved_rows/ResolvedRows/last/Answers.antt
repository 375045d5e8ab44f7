use Rattle.std.proofs.Common.{◌∙◌, ◌-◌, sym, arith}
use Rattle.hd_slots.specs.Table.{row_at}
use Rattle.hd_slots.proofs.CutLemmas.{last-at, last-none}
use Rattle.hd_slots.proofs.resolved_rows.ResolvedRows.last.Goals as goal

pub returns-in-0 : goal.returns-in-0
returns-in-0 c = sym (last-none (row_at c.args.self.now c.args.o) (omega arith))

pub returns-in_default : goal.returns-in_default
returns-in_default c = c.get.ensures.id ∙ sym (last-at 0 (row_at c.args.self.now c.args.o) (c.row_len.result - 1) (omega arith))
