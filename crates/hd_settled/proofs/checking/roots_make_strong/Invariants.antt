use Rattle.std.proofs.Common.{◌≡◌, ℕ, ◌<◌, Some}
use Rattle.hd_terms.specs.Paths.{RootEntry}
use Rattle.hd_strength.specs.Rows.{root_at}
use Rattle.hd_settled.specs.Checking.{MakesStrong}
use Rattle.hd_settled.proofs.checking.roots_make_strong.Given as goal

-- the roots so far make their objects strong
abbrev pub invariant-loop-r : goal.invariant-loop-r
invariant-loop-r l = (k : ℕ) → k < l.r → (x : RootEntry) → root_at l.fn.edited.graph.now l.fn.edited.front.now k ≡ Some x → MakesStrong l.fn.strengths x
