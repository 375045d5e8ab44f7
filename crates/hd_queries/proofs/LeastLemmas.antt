-- IDs in order, as one more is put behind them.
use Rattle.std.proofs.Common.{◌≡◌, ℕ, suc, ◌<◌, ◌≤◌, List, [], ◌∷◌, length, take, refl, ap, arith}
use Rattle.std.specs.Prelude.{All}
use Rattle.std.specs.Cmp.{ranks}
use Rattle.std.specs.Ordering.{nat_cmp, match_ordering, MatchOrdering}
use Rattle.std.specs.declared.cmp.Ordering.{Ordering}
use Rattle.std.specs.declared.cmp.Ordering.TheVariants.{Less, Equal, Greater}
use Rattle.hd_queries.specs.LeastIds.{with_id}

-- an ID that is below none of a list stands behind them
whole : (xs : List ℕ) → take (length xs) xs ≡ xs
whole [] = refl
whole (x ∷ xs) = ap (λ (ys : List ℕ). x ∷ ys) (whole xs)

behind-first : (id x : ℕ) (xs : List ℕ) → x ≤ id → take (length xs) (with_id xs id) ≡ xs
    → (r : Ordering) → MatchOrdering r (id < x) (id ≡ x) (x < id) → take (suc (length xs)) (match_ordering r (id ∷ x ∷ xs) (x ∷ xs) (x ∷ with_id xs id)) ≡ x
    ∷ xs
behind-first id x xs le rest Less lt = absurd (omega (arith, lt, le))
behind-first id x xs le rest Equal same = whole (x ∷ xs)
behind-first id x xs le rest Greater gt = ap (λ (ys : List ℕ). x ∷ ys) rest

pub put-behind : (id : ℕ) (ids : List ℕ) → All (λ (x : ℕ). x ≤ id) ids → take (length ids) (with_id ids id) ≡ ids
put-behind id [] h = refl
put-behind id (x ∷ xs) h = behind-first id x xs (h 0 x (omega arith)) (put-behind id xs (λ k d lt. h (suc k) d (omega (arith, lt)))) (nat_cmp id x) (ranks id x)
