use Rattle.hd_board.proofs.Numbers.{above_first, below_first}
use Rattle.hd_board.proofs.append.is_member.Goals as goal

pub returns-then-first-who : goal.returns-then-first-who
returns-then-first-who c = above_first c.args.first c.args.count c.args.who c.if-first-who.true

pub returns-else-first-who : goal.returns-else-first-who
returns-else-first-who c = below_first c.args.first c.args.count c.args.who c.if-first-who.false
