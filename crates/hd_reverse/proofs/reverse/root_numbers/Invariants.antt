use Rattle.hd_reverse.proofs.NumberLemmas.{AreRootNumbers}
use Rattle.hd_reverse.proofs.reverse.root_numbers.Given as goal

-- the first roots that are on objects are there
abbrev pub invariant-loop-number : goal.invariant-loop-number
invariant-loop-number l = AreRootNumbers l.graph l.number l.numbers.items
