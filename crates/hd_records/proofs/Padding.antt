-- Zeros past the end of bytes change no number that is read, and bytes are cut into parts.
use Rattle.std.proofs.Common.{◌≡◌, ℕ, zero, suc, ◌+◌, ◌-◌, ◌≤◌, List, [], ◌∷◌, ◌++◌, length, get_or, take, drop, replicate, refl, sym, ap, ◌∙◌, append_assoc}
use Rattle.std.proofs.Common.{arith}
use Rattle.std.proofs.lemmas.List.{get_or-drop, take-append-drop, drop-drop, drop-take, length-replicate}
use Rattle.byteorder.specs.Endian.{big_from, big_number}
use Rattle.byteorder.specs.Numbers.{big_from-take}

-- k zero bytes
abbrev pub zero_bytes : ℕ → List ℕ
zero_bytes k = replicate k 0

pub length-zero_bytes : (k : ℕ) → length (zero_bytes k) ≡ k
length-zero_bytes k = length-replicate k (let z : ℕ = 0 in z)

zeros : (k i : ℕ) → get_or (zero_bytes k) i 0 ≡ zero
zeros zero i = refl
zeros (suc k) zero = refl
zeros (suc k) (suc i) = zeros k i

pub get_or-padded : (xs : List ℕ) (k i : ℕ) → get_or (xs ++ zero_bytes k) i 0 ≡ get_or xs i 0
get_or-padded [] k i = zeros k i
get_or-padded (x ∷ xs) k zero = refl
get_or-padded (x ∷ xs) k (suc i) = get_or-padded xs k i

big_from-same : (n i : ℕ) (xs ys : List ℕ) → ((j : ℕ) → get_or xs j 0 ≡ get_or ys j 0) → big_from i n xs ≡ big_from i n ys
big_from-same zero i xs ys same = refl
big_from-same (suc n) i xs ys same = rw (same i, big_from-same n (suc i) xs ys same) refl

-- zeros past the end change no number
pub big_number-padded : (n at k : ℕ) (xs : List ℕ) → big_number n (drop at (xs ++ zero_bytes k)) ≡ big_number n (drop at xs)
big_number-padded n at k xs =
    big_from-same n 0 (drop at (xs ++ zero_bytes k)) (drop at xs) (λ j. get_or-drop at (xs ++ zero_bytes k) j 0 ∙ get_or-padded xs k (at + j)
    ∙ sym (get_or-drop at xs j 0))

-- nor do bytes that are cut off behind it
pub big_number-take : (n at m : ℕ) (xs : List ℕ) → at + n ≤ m → big_number n (drop at (take m xs)) ≡ big_number n (drop at xs)
big_number-take n at m xs le =
    let split : m ≡ at + (m - at) = omega arith in
    ap (λ (k : ℕ). big_number n (drop at (take k xs))) split ∙ ap (λ (ys : List ℕ). big_number n ys) (drop-take at (m - at) xs)
    ∙ big_from-take 0 n (m - at) (drop at xs) (omega arith)

pub three_parts : (m n : ℕ) (xs : List ℕ) → (take m xs ++ take n (drop m xs)) ++ drop (m + n) xs ≡ xs
three_parts m n xs =
    append_assoc (take m xs) (take n (drop m xs)) (drop (m + n) xs)
    ∙ ap (λ (ys : List ℕ). take m xs ++ (take n (drop m xs) ++ ys)) (sym (drop-drop n m xs))
    ∙ ap (λ (ys : List ℕ). take m xs ++ ys) (take-append-drop n (drop m xs))
    ∙ take-append-drop m xs
