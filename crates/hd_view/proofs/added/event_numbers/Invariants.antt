use Rattle.hd_view.proofs.AddedLemmas.{AreEventNumbers}
use Rattle.hd_view.proofs.added.event_numbers.Given as goal

-- those of the first events that add a root on an object are there
abbrev pub invariant-loop-number : goal.invariant-loop-number
invariant-loop-number l = AreEventNumbers l.graph l.front l.number l.numbers.items
