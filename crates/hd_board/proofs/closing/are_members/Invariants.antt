use Rattle.std.proofs.Common.{ℕ, ◌<◌, ◌≤◌, Contains}
use Rattle.hd_terms.specs.declared.Event.{Event}
use Rattle.hd_terms.specs.Log.{IsEvent}
use Rattle.hd_terms.specs.Schedule.{numbers_from}
use Rattle.hd_board.proofs.closing.are_members.Given as goal

-- the events so far are of the board's analysts
abbrev pub invariant-loop-i : goal.invariant-loop-i
invariant-loop-i l = (k : ℕ) (e : Event) → l.from ≤ k → k < l.i → IsEvent l.log k e → Contains (numbers_from l.first l.count) e.who
