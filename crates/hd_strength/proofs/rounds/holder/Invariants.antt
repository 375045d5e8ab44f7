use Rattle.std.proofs.Common.{◌≡◌, ℕ, ◌<◌, Some, slice_get}
use Rattle.hd_strength.specs.declared.part.Part.{Part}
use Rattle.hd_strength.specs.Parts.{IsOwn}
use Rattle.hd_strength.proofs.rounds.holder.Given as goal

-- no part so far has the object
abbrev pub invariant-loop-k : goal.invariant-loop-k
invariant-loop-k l = (j : ℕ) (p : Part) → j < l.k → slice_get l.parts j ≡ Some p → IsOwn p l.o → ⊥
