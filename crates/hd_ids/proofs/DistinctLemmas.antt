-- Distinct IDs are found at their own indexes.
use Rattle.std.proofs.Common.{◌≡◌, ◌≢◌, ℕ, zero, suc, eqb, eq-eqb, ne_eqb, true≢false, false, Some, refl, ◌∙◌, ◌<◌, List, [], ◌∷◌, length, get_or, sym, arith}
use Rattle.std.specs.Prelude.{not}
use Rattle.std.specs.List.{position, prefix_len, IsDistinct}
use Rattle.std.proofs.lemmas.Bool.{lt-ltb}
use Rattle.std.proofs.lemmas.Map.Keys.{IsDistinct-tail, apart_from_distinct}

pub found-at-index : (ids : List ℕ) (o : ℕ) → IsDistinct eqb ids → o < length ids → position (λ x. eqb (get_or ids o 0) x) ids ≡ Some o
found-at-index ids o d lt = rw (passed ids o d lt, lt-ltb o (length ids) lt) refl
  where
    passed : (xs : List ℕ) (i : ℕ) → IsDistinct eqb xs → i < length xs → prefix_len (λ x. not (eqb (get_or xs i 0) x)) xs ≡ i
    passed [] i d lt = absurd (omega arith)
    passed (x ∷ xs) zero d lt = rw (eq-eqb x x refl) refl
    passed (x ∷ xs) (suc i) d lt =
        let apart : eqb x (get_or xs i 0) ≡ false = apart_from_distinct eqb (x ∷ xs) 0 (suc i) 0 d (omega arith) (omega arith) in
        let other : get_or xs i 0 ≢ x = λ is. true≢false (sym (eq-eqb x (get_or xs i 0) (sym is)) ∙ apart) in
        let rest = passed xs i (IsDistinct-tail eqb x xs d) (omega arith) in
        rw (ne_eqb (get_or xs i 0) x other) (omega (arith, rest))
