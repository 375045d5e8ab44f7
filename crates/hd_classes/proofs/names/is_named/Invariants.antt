use Rattle.std.proofs.Common.{◌≡◌, ℕ, ◌<◌, slice_index}
use Rattle.hd_terms.specs.Classes.{slashed}
use Rattle.hd_classes.proofs.names.is_named.Given as goal

-- the bytes so far are alike
abbrev pub invariant-loop-i : goal.invariant-loop-i
invariant-loop-i l = (k : ℕ) → k < l.i → slashed (slice_index l.name k) ≡ slice_index l.wanted k
