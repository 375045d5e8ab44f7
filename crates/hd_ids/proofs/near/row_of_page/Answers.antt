use Rattle.std.proofs.Common.{sym, arith}
use Rattle.hd_ids.proofs.near.row_of_page.Goals as goal

pub returns-in-Some-clause-row : goal.returns-in-Some-clause-row
returns-in-Some-clause-row c = let told = c.requires.told c.args.page c.in-Some.row c.in-Some.ensures in sym told.1

pub returns-in-Some-clause-within : goal.returns-in-Some-clause-within
returns-in-Some-clause-within c = let told = c.requires.told c.args.page c.in-Some.row c.in-Some.ensures in omega (arith, told.0)
