-- Sharing segments out, one worker after another.
use Rattle.std.proofs.Common.{◌≡◌, ◌∙◌, ℕ, zero, suc, ◌+◌, ◌/◌, ◌<◌, ◌≤◌, List, [], ◌∷◌, ◌++◌, length, take, drop, refl, sym, ap, subst, arith, append_assoc}
use Rattle.std.proofs.lemmas.List.{length-take-le}
use denote.Ref.{Bor}
use Rattle.hd_terms.specs.declared.Span.{Span}
use Rattle.hd_decode.specs.Bodies.{span_total}
use Rattle.hd_decode.specs.Shares.{middle, IsLongestFront, IsSharedOut}

-- with the shares so far, what shares the rest out shares all out
abbrev pub Continues : List Span → ℕ → List (Bor (List Span)) → List Span → ℕ → Type 0
Continues spans workers shares rest left = (more : List (Bor (List Span))) → IsSharedOut rest left more → IsSharedOut spans workers (shares ++ more)

-- no worker has a share yet
pub none-shared : (spans : List Span) (workers others : ℕ) → suc others ≡ workers → Continues spans workers [] spans (suc others)
none-shared spans workers others is more out = subst (λ (n : ℕ). IsSharedOut spans n more) is out

-- the longest front by how many segments it has
pub front-of : (spans : List Span) (bytes n : ℕ) (front : List Span) → n ≤ length spans → front ≡ take n spans → ((i : ℕ) → i < n → middle spans i ≤ bytes)
    → (n < length spans → bytes < middle spans n) → IsLongestFront spans bytes front
front-of spans bytes n front le is within longest =
    let long : length front ≡ n = ap (λ (xs : List Span). length xs) is ∙ length-take-le n spans le in
    record {
      is = is ∙ ap (λ (k : ℕ). take k spans) (sym long);
      within = λ i lt. within i (omega (arith, lt, long));
      longest = λ lt. subst (λ (k : ℕ). bytes < middle spans k) (sym long) (longest (omega (arith, lt, long)));
    }

-- one more worker has its share
pub one-shared : (spans : List Span) (workers : ℕ) (shares shares' : List (Bor (List Span))) (rest after : List Span) (others : ℕ) (share : Bor (List Span))
    → Continues spans workers shares rest (suc (suc others))
    → IsLongestFront rest (span_total rest / (others + 2)) share.now → after ≡ drop (length share.now) rest → shares' ≡ shares ++ share ∷ []
    → Continues spans workers shares' after (suc others)
one-shared spans workers shares shares' rest after others share h front behind pushed more out =
    let next : IsSharedOut spans workers (shares ++ share ∷ more) =
    h (share ∷ more) (front, subst (λ (xs : List Span). IsSharedOut xs (suc others) more) behind out) in
    subst (λ (xs : List (Bor (List Span))). IsSharedOut spans workers xs)
    (sym (ap (λ (xs : List (Bor (List Span))). xs ++ more) pushed ∙ append_assoc shares (share ∷ []) more)) next

-- the last worker has the rest
pub all-shared : (spans : List Span) (workers : ℕ) (shares shares' : List (Bor (List Span))) (rest : List Span) (share : Bor (List Span))
    → Continues spans workers shares rest (suc zero) → share.now ≡ rest → shares' ≡ shares ++ share ∷ [] → IsSharedOut spans workers shares'
all-shared spans workers shares shares' rest share h is pushed = subst (λ (xs : List (Bor (List Span))). IsSharedOut spans workers xs) (sym pushed)
    (h (share ∷ []) (is, refl))
