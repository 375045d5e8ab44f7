use Rattle.std.proofs.Common.{inr, arith}
use Rattle.hd_repair.proofs.waiting.loosen_if_held.Goals as goal

pub returns-then-has_one_source-clause-alone : goal.returns-then-has_one_source-clause-alone
returns-then-has_one_source-clause-alone g c =
    inr (omega (arith, c.min.ensures, c.requires.few), c.in_ok-push_front.ensures.items, c.has_one_source.ensures c.if-has_one_source.true)
