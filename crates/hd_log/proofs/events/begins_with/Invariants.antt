use Rattle.std.proofs.Common.{◌≡◌, ◌↔◌, take}
use Rattle.std.specs.Prelude.{IsTrue}
use Rattle.hd_log.proofs.events.begins_with.Given as goal

-- so far the events are one exactly where none was another
abbrev pub invariant-loop-i : goal.invariant-loop-i
invariant-loop-i l = IsTrue l.same ↔ (take l.i l.events ≡ take l.i l.front)
