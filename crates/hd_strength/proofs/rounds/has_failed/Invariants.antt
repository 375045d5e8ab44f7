use Rattle.std.proofs.Common.{◌≡◌, ℕ, ◌<◌, false, Some, slice_get}
use Rattle.hd_strength.specs.declared.part.Part.{Part}
use Rattle.hd_strength.proofs.rounds.has_failed.Given as goal

-- memory ran out in none so far
abbrev pub invariant-loop-k : goal.invariant-loop-k
invariant-loop-k l = (j : ℕ) (p : Part) → j < l.k → slice_get l.fn.parts j ≡ Some p → p.failed ≡ false
