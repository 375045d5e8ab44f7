-- What stands in the list of all parts one behind the other, where `f` says what a part has: an element of a part stands behind
-- those of the parts before it.
use Rattle.std.proofs.Common.{◌≡◌, ◌∙◌, ℕ, ◌+◌, ◌<◌, ◌≤◌, List, [], ◌∷◌, length, get_or, take, map, sum, Some, sym, ap, arith}
use Rattle.std.specs.List.{flat_map, slice_get}
use Rattle.std.proofs.lemmas.List.{take-map}
use Rattle.std.proofs.lemmas.List.Concat.{length-flat_map, get_or-flat_map}
use Rattle.std.proofs.lemmas.List.Folds.{length-flat_map-take}
use Rattle.std.proofs.lemmas.List.Sums.{sum-map}
use Rattle.std.proofs.lemmas.Option.{slice_get-get_or}

-- two lists have the same at two places
pub same-get : {A : Type 0} (xs ys : List A) (i j : ℕ) → i < length xs → j < length ys → ((d : A) → get_or xs i d ≡ get_or ys j d)
    → slice_get xs i ≡ slice_get ys j
same-get xs [] i j here there same = absurd (omega arith)
same-get {A} xs (y ∷ ys) i j here there same =
    slice_get-get_or xs i y here ∙ ap (λ (x : A). Some x) (same y) ∙ sym (slice_get-get_or (y ∷ ys) j y there)

module _ {X A : Type 0} (f : X → List A) where
  -- how many elements each part has
  abbrev pub lens : List X → List ℕ
  lens parts = map (λ (part : X). length (f part)) parts

  -- there are as many as the parts have together
  pub length-whole : (parts : List X) → length (flat_map f parts) ≡ sum (lens parts)
  length-whole parts = length-flat_map f parts ∙ sym (sum-map (λ (part : X). length (f part)) parts)

  -- and before a part as many as the parts before it have
  pub length-before : (parts : List X) (k : ℕ) → length (flat_map f (take k parts)) ≡ sum (take k (lens parts))
  length-before parts k = length-whole (take k parts) ∙ ap (λ (ns : List ℕ). sum ns) (sym (take-map (λ (part : X). length (f part)) k parts))

  -- a part is within the whole
  pub within-whole : (parts : List X) (k : ℕ) (d : X) → k < length parts → sum (take k (lens parts)) + length (f (get_or parts k d)) ≤ length (flat_map f parts)
  within-whole parts k d lt = omega (arith, length-before parts k, length-flat_map-take f parts k d lt)

  -- an element of a part stands behind those of the parts before
  pub at-whole : (parts : List X) (k i : ℕ) (part : X) (d : A) → k < length parts → i < length (f (get_or parts k part))
      → get_or (flat_map f parts) (sum (take k (lens parts)) + i) d ≡ get_or (f (get_or parts k part)) i d
  at-whole parts k i part d lt within =
      ap (λ (n : ℕ). get_or (flat_map f parts) (n + i) d) (sym (length-before parts k)) ∙ get_or-flat_map f parts k i part d lt within

  -- the same of a part that was read
  pub get-whole : (parts : List X) (k i : ℕ) (part : X) → k < length parts → part ≡ get_or parts k part → i < length (f part)
      → slice_get (flat_map f parts) (sum (take k (lens parts)) + i) ≡ slice_get (f part) i
  get-whole parts k i part lt is within =
      let own : length (f part) ≡ length (f (get_or parts k part)) = ap (λ (p : X). length (f p)) is in
      same-get (flat_map f parts) (f part) (sum (take k (lens parts)) + i) i (omega (arith, own, within, within-whole parts k part lt)) within
      (λ d. at-whole parts k i part d lt (omega (arith, own, within)) ∙ ap (λ (p : X). get_or (f p) i d) (sym is))
