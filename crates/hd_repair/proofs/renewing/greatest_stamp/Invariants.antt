use Rattle.std.proofs.Common.{ℕ, ◌≤◌, ◌<◌}
use Rattle.hd_terms.specs.Settled.{reached_at}
use Rattle.hd_repair.proofs.renewing.greatest_stamp.Given as goal

-- it is the greatest stamp so far
abbrev pub invariant-loop-o : goal.invariant-loop-o
invariant-loop-o l = record {
  greatest : (x : ℕ) → x < l.o → (reached_at l.kept x).stamp ≤ l.greatest;
  least : (n : ℕ) → ((x : ℕ) → (reached_at l.kept x).stamp ≤ n) → l.greatest ≤ n;
  small : l.greatest < 281474976710656;
}
