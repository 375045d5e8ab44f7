-- Lemmas on a list cut at indexes.
use Rattle.std.proofs.Common.{◌≡◌, ◌∙◌, ℕ, zero, suc, ◌+◌, ◌-◌, ◌<◌, ◌≤◌, Bool, List, [], ◌∷◌, ◌++◌, length, take, drop, get_or, cond, refl, sym, ap, arith}
use Rattle.std.proofs.Common.{All}
use Rattle.std.specs.Prelude.{count_by, sum_by}
use Rattle.std.proofs.lemmas.List.{take-append-le, drop-append-le, length-drop, drop-take, take-take, take_all}
use Rattle.std.proofs.lemmas.List.Sums.{sum_by-cons, sum_by-take-drop}
use Rattle.std.proofs.lemmas.List.Elements.{All-head, All-tail}
use Rattle.hd_slots.specs.Cuts.{between, rows_from, last_from, AreRising}

pub length-between : {X : Type 0} (s : ℕ) (es : List ℕ) (xs : List X) → length (between s es xs) ≡ length es
length-between s [] xs = refl
length-between s (e ∷ es) xs = ap suc (length-between e es xs)

pub length-rows_from : {X : Type 0} (ss : List ℕ) (xs : List X) → length (rows_from ss xs) ≡ length ss - 1
length-rows_from [] xs = refl
length-rows_from (s ∷ es) xs = omega (arith, length-between s es xs)

-- the part of a number
between-at : {X : Type 0} (s : ℕ) (es : List ℕ) (xs : List X) (o : ℕ) → o < length es
    → get_or (between s es xs) o [] ≡ take (get_or es o 0 - get_or (s ∷ es) o 0) (drop (get_or (s ∷ es) o 0) xs)
between-at s [] xs o lt = absurd (omega arith)
between-at s (e ∷ es) xs zero lt = refl
between-at s (e ∷ es) xs (suc o) lt = between-at e es xs o (omega arith)

pub row-at : {X : Type 0} (ss : List ℕ) (xs : List X) (o : ℕ) → o < length (rows_from ss xs)
    → get_or (rows_from ss xs) o [] ≡ take (get_or ss (suc o) 0 - get_or ss o 0) (drop (get_or ss o 0) xs)
row-at [] xs o lt = absurd (omega arith)
row-at (s ∷ es) xs o lt = between-at s es xs o (omega (arith, length-between s es xs))

-- what comes after the cuts changes no part
between-append : {X : Type 0} (s : ℕ) (es : List ℕ) (xs ys : List X) → s ≤ length xs → All (λ e. e ≤ length xs) es → between s es (xs ++ ys) ≡ between s es xs
between-append s [] xs ys le h = refl
between-append s (e ∷ es) xs ys le h =
    let dropped : drop s (xs ++ ys) ≡ drop s xs ++ ys = drop-append-le s xs ys le in
    let end : e ≤ length xs = All-head (λ e. e ≤ length xs) e es h in
    let short : e - s ≤ length (drop s xs) = omega (arith, length-drop s xs) in
    let part : take (e - s) (drop s (xs ++ ys)) ≡ take (e - s) (drop s xs) = ap (take (e - s)) dropped ∙ take-append-le (e - s) (drop s xs) ys short in
    let rest : between e es (xs ++ ys) ≡ between e es xs = between-append e es xs ys end (All-tail (λ e. e ≤ length xs) e es h) in
    ap (λ p. p ∷ between e es (xs ++ ys)) part ∙ ap (λ r. take (e - s) (drop s xs) ∷ r) rest

pub rows_from-append : {X : Type 0} (ss : List ℕ) (xs ys : List X) → All (λ e. e ≤ length xs) ss → rows_from ss (xs ++ ys) ≡ rows_from ss xs
rows_from-append [] xs ys h = refl
rows_from-append (s ∷ es) xs ys h = between-append s es xs ys (All-head (λ e. e ≤ length xs) s es h) (All-tail (λ e. e ≤ length xs) s es h)

-- one more cut makes one more part
between-push : {X : Type 0} (s : ℕ) (es : List ℕ) (e : ℕ) (xs : List X) → between s (es ++ e ∷ []) xs ≡ between s es xs
    ++ take (e - last_from s es) (drop (last_from s es) xs) ∷ []
between-push s [] e xs = refl
between-push s (f ∷ es) e xs = ap (λ r. take (f - s) (drop s xs) ∷ r) (between-push f es e xs)

pub rows_from-push : {X : Type 0} (ss : List ℕ) (e : ℕ) (xs : List X) → 0 < length ss → rows_from (ss ++ e ∷ []) xs ≡ rows_from ss xs
    ++ take (e - last_from 0 ss) (drop (last_from 0 ss) xs) ∷ []
rows_from-push [] e xs some = absurd (omega arith)
rows_from-push (s ∷ es) e xs some = between-push s es e xs

pub last_from-push : (d : ℕ) (ss : List ℕ) (e : ℕ) → last_from d (ss ++ e ∷ []) ≡ e
last_from-push d [] e = refl
last_from-push d (s ∷ ss) e = last_from-push s ss e

-- the last of indexes that are all within n is within n
pub last_from-within : (n d : ℕ) (ss : List ℕ) → d ≤ n → All (λ s. s ≤ n) ss → last_from d ss ≤ n
last_from-within n d [] le h = le
last_from-within n d (s ∷ ss) le h = last_from-within n s ss (All-head (λ s. s ≤ n) s ss h) (All-tail (λ s. s ≤ n) s ss h)

-- the last of a row stands at its last index
pub last-at : (d : ℕ) (row : List ℕ) (k : ℕ) → suc k ≡ length row → last_from d row ≡ get_or row k 0
last-at d [] k last = absurd (omega arith)
last-at d (id ∷ []) zero last = refl
last-at d (id ∷ []) (suc k) last = absurd (omega arith)
last-at d (id ∷ next ∷ rest) zero last = absurd (omega arith)
last-at d (id ∷ next ∷ rest) (suc k) last = last-at id (next ∷ rest) k (omega arith)

-- the last of no row is what stands for it
pub last-none : (row : List ℕ) → length row ≡ 0 → last_from 0 row ≡ 0
last-none [] none = refl
last-none (id ∷ rest) none = absurd (omega arith)

-- indexes that rise to one rise to a later one
pub rising-further : (s : ℕ) (es : List ℕ) (m n : ℕ) → m ≤ n → AreRising s es m → AreRising s es n
rising-further s [] m n le h = omega (arith, le, h)
rising-further s (e ∷ es) m n le h = (h.0, rising-further e es m n le h.1)

-- the end is one more
pub rising-push : (s : ℕ) (es : List ℕ) (n : ℕ) → AreRising s es n → AreRising s (es ++ n ∷ []) n
rising-push s [] n h = (h, omega arith)
rising-push s (e ∷ es) n h = (h.0, rising-push e es n h.1)

-- what is counted of the parts between indexes that rise, and before them, is what is counted up to the last
module _ {X : Type 0} (p : X → Bool) (xs : List X) where
  abbrev before : ℕ → ℕ
  before i = count_by p (take i xs)

  part-counted : (s e : ℕ) → s ≤ e → before s + count_by p (take (e - s) (drop s xs)) ≡ before e
  part-counted s e le =
      let f : X → ℕ = λ x. cond (p x) 1 0 in
      let end : s + (e - s) ≡ e = omega arith in
      let first : take s (take e xs) ≡ take s xs = take-take s e xs le in
      let rest : drop s (take e xs) ≡ take (e - s) (drop s xs) = ap (λ (n : ℕ). drop s (take n xs)) (sym end) ∙ drop-take s (e - s) xs in
      ap (λ (ys : List X). count_by p ys + count_by p (take (e - s) (drop s xs))) (sym first)
      ∙ ap (λ (ys : List X). count_by p (take s (take e xs)) + count_by p ys) (sym rest)
      ∙ sum_by-take-drop f (take e xs) s

  parts-counted : (s : ℕ) (es : List ℕ) (n : ℕ) → AreRising s es n → before s + sum_by (count_by p) (between s es xs) ≡ before (last_from s es)
  parts-counted s [] n h = omega arith
  parts-counted s (e ∷ es) n h =
      omega (arith, sum_by-cons (count_by p) (take (e - s) (drop s xs)) (between e es xs), part-counted s e h.0, parts-counted e es n h.1)

  -- so all of a list, where the indexes begin and end with it
  pub rows-counted : (ss : List ℕ) → 0 < length ss → get_or ss 0 0 ≡ 0 → AreRising 0 ss (length xs) → last_from 0 ss ≡ length xs
      → sum_by (count_by p) (rows_from ss xs) ≡ count_by p xs
  rows-counted [] some first rising whole = absurd (omega arith)
  rows-counted (s ∷ es) some first rising whole =
      let none : before s ≡ 0 = ap before first in
      let all : before (last_from s es) ≡ count_by p xs = ap before whole ∙ ap (count_by p) (take_all (length xs) xs (omega arith)) in
      omega (arith, none, parts-counted s es (length xs) rising.1, all)
