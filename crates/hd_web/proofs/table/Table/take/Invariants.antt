use Rattle.std.proofs.Common.{◌≡◌, ◌<◌, ℕ}
use Rattle.hd_web.specs.Tables.{IsFreeAt}
use Rattle.hd_web.proofs.table.Table.take.Given as goal

-- no seat so far is free, and nothing has changed
abbrev pub invariant-loop-number : goal.invariant-loop-number
invariant-loop-number g l = (l.self.places.items ≡ l.fn.self.places.items) × ((k : ℕ) → k < l.number → ¬ (IsFreeAt l.fn.self.places.items k))
