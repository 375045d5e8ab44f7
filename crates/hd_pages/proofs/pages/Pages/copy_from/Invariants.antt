use Rattle.std.proofs.Common.{◌≡◌, ◌++◌, drop}
use Rattle.hd_pages.proofs.pages.Pages.copy_from.Given as goal

-- what was copied, and what is to come, is what the contract promises
abbrev pub invariant-loop-i : goal.invariant-loop-i
invariant-loop-i g l = l.items.items ++ drop l.i l.self ≡ l.fn.items.items ++ drop l.start l.self
