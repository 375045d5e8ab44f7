use Rattle.std.proofs.Common.{◌≡◌, ℕ, suc, ◌+◌, ◌++◌, length}
use Rattle.hd_decode.specs.Shares.{shared}
use Rattle.hd_decode.proofs.ShareLemmas.{Continues}
use Rattle.hd_decode.proofs.shares.shares_of.Given as goal

-- the workers so far have a share each, with what is left the shares are all segments, and what shares that out among the
-- others shares all out
abbrev pub invariant-loop-worker : goal.invariant-loop-worker
invariant-loop-worker l = record {
  many : length l.shares.items + 1 ≡ l.worker;
  all : shared l.shares.items ++ l.rest ≡ l.spans;
  parts : (others : ℕ) → l.worker + others ≡ l.workers → Continues l.spans l.workers l.shares.items l.rest (suc others);
}
