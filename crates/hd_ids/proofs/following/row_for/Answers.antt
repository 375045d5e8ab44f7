use Rattle.std.proofs.Common.{arith}
use Rattle.hd_ids.proofs.GotLemmas.{had-row}
use Rattle.hd_ids.proofs.following.row_for.Goals as goal

pub returns-then-row-len : goal.returns-then-row-len
returns-then-row-len c = had-row c.args.pages.now.keys c.args.numbers.now c.args.page c.row_of-row.result c.row_of-row.ensures.row (omega arith)
