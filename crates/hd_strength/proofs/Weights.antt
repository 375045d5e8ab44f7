use Rattle.std.proofs.Common.{◌≡◌, ℕ, ◌<◌, ◌≤◌, List, length, get_or, refl, arith}
use Rattle.std.specs.Prelude.{if◌then◌else◌, nat_eq}
use Rattle.std.proofs.lemmas.Bool.Decides.{nat_tests}
use Rattle.std.proofs.lemmas.List.Sums.{sum_by-le}
use Rattle.hd_terms.specs.Ranks.{rank}
use Rattle.hd_terms.specs.Settled.{Reached}
use Rattle.hd_strength.specs.Growing.{unreached_count}

-- how much an object counts that nothing reaches
abbrev pub weight : Reached → ℕ
weight k = if nat_eq (rank k.strength) 0 then 1 else 0

-- it counts one
pub weight-none : (k : Reached) → rank k.strength ≡ 0 → weight k ≡ 1
weight-none k h = rw h refl

-- what is reached counts nothing
pub weight-some : (k : Reached) → 0 < rank k.strength → weight k ≡ 0
weight-some k h = grind (arith, nat_tests)

-- none counts more
weight-le : (k : Reached) → weight k ≤ 1
weight-le k = grind (arith, nat_tests)

-- no more objects are unreached than there are
pub unreached_count-le : (ks : List Reached) → unreached_count ks ≤ length ks
unreached_count-le ks = omega (arith, sum_by-le weight 1 ks (λ k d lt. weight-le (get_or ks k d)))
