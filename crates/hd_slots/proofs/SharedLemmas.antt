-- Lemmas on what is kept of slots while rows are made: offsets of IDs, and marks of shared ones.
use Rattle.std.proofs.Common.{◌≡◌, ◌∙◌, ℕ, ◌+◌, ◌-◌, ◌<◌, ◌^◌, inl, inr, List, [], ◌∷◌, ◌++◌, length, map, get_or, refl, sym, ap, subst, arith, All}
use Rattle.std.proofs.Common.{length-append}
use Rattle.std.proofs.lemmas.Bool.{cases_lt, lt-ltb, le-ltb}
use Rattle.std.proofs.lemmas.List.{map-append, get_or-map, get_or_append_left}
use Rattle.std.proofs.lemmas.List.Elements.{All-head, All-tail, All-nil, All-cons, All-weaker}
use Rattle.hd_terms.specs.declared.IdSize.{IdSize}
use Rattle.hd_slots.specs.Table.{IsIdWithin}
use Rattle.hd_slots.specs.Resolving.{mark, found_code}
use Rattle.hd_slots.specs.Shared.{offset_of, found_item, IsKept}

-- an offset is kept as it is
pub own-offset : (shared : List ℕ) (item : ℕ) → item < mark → offset_of shared item ≡ item
own-offset shared item lt = rw (lt-ltb item mark lt) refl

-- a mark stands for a shared offset
pub shared-offset : (shared : List ℕ) (index : ℕ) → offset_of shared (mark + index) ≡ get_or shared index 0
shared-offset shared index =
    let back : mark + index - mark ≡ index = omega arith in
    rw (le-ltb (mark + index) mark (omega arith), back) refl

-- one more slot
pub offsets-push : (shared items : List ℕ) (item offset : ℕ) → offset_of shared item ≡ offset → map (offset_of shared) (items ++ item ∷ []) ≡ map
    (offset_of shared) items ++ offset ∷ []
offsets-push shared items item offset is = map-append (offset_of shared) items (item ∷ []) ∙ ap (λ (o : ℕ). map (offset_of shared) items ++ o ∷ []) is

-- the offsets lie within the file
pub offsets-within : (size : IdSize) (n : ℕ) (shared items : List ℕ) → All (IsIdWithin size n) shared → All (IsKept size n (length shared)) items
    → All (IsIdWithin size n) (map (offset_of shared) items)
offsets-within size n shared [] within kept = All-nil (IsIdWithin size n)
offsets-within size n shared (item ∷ items) within kept =
    let here = All-head (IsKept size n (length shared)) item items kept in
    let rest = offsets-within size n shared items within (All-tail (IsKept size n (length shared)) item items kept) in
    let first : IsIdWithin size n (offset_of shared item) = elim (cases_lt item mark) [
      | inl lt ↦ subst (IsIdWithin size n) (sym (own-offset shared item lt)) (here.own lt)
      | inr le ↦ rw (le-ltb item mark le) (within (item - mark) 0 (here.shared le))
    ] in
    All-cons (IsIdWithin size n) (offset_of shared item) (map (offset_of shared) items) first rest

-- further shared offsets change none
pub offsets-same : (size : IdSize) (n : ℕ) (shared more items : List ℕ) → All (IsKept size n (length shared)) items
    → map (offset_of (shared ++ more)) items ≡ map (offset_of shared) items
offsets-same size n shared more [] kept = refl
offsets-same size n shared more (item ∷ items) kept =
    let here = All-head (IsKept size n (length shared)) item items kept in
    let rest = offsets-same size n shared more items (All-tail (IsKept size n (length shared)) item items kept) in
    let same : offset_of (shared ++ more) item ≡ offset_of shared item = elim (cases_lt item mark) [
      | inl lt ↦ own-offset (shared ++ more) item lt ∙ sym (own-offset shared item lt)
      | inr le ↦ rw (le-ltb item mark le) (get_or_append_left shared more 0 (item - mark) (here.shared le))
    ] in
    ap (λ (o : ℕ). o ∷ map (offset_of (shared ++ more)) items) same ∙ ap (λ (os : List ℕ). offset_of shared item ∷ os) rest

pub kept-more : (size : IdSize) (n : ℕ) (shared more items : List ℕ) → All (IsKept size n (length shared)) items
    → All (IsKept size n (length (shared ++ more))) items
kept-more size n shared more items kept =
    All-weaker (IsKept size n (length shared)) (IsKept size n (length (shared ++ more)))
    (λ item h. record { own = h.own; shared = λ le. omega (arith, h.shared le, length-append shared more) }) items kept

-- an offset within the file is no mark
pub kept-own : (size : IdSize) (n many offset : ℕ) → n < 2 ^ 31 → IsIdWithin size n offset → IsKept size n many offset
kept-own size n many offset small within = record { own = λ lt. within; shared = λ le. absurd (omega (arith, small, within, le)) }

pub all-own : (size : IdSize) (n many : ℕ) (offsets : List ℕ) → n < 2 ^ 31 → All (IsIdWithin size n) offsets → All (IsKept size n many) offsets
all-own size n many offsets small within = All-weaker (IsIdWithin size n) (IsKept size n many) (λ offset h. kept-own size n many offset small h) offsets within

module _ (ids bytes : List ℕ) (size : IdSize) where
  -- what is found for offsets alone
  pub found-own : (offsets : List ℕ) → length bytes < 2 ^ 31 → All (IsIdWithin size (length bytes)) offsets → map (found_item ids bytes size []) offsets ≡ map
      (found_code ids bytes size) offsets
  found-own [] small within = refl
  found-own (offset ∷ offsets) small within =
      let here = All-head (IsIdWithin size (length bytes)) offset offsets within in
      let rest = found-own offsets small (All-tail (IsIdWithin size (length bytes)) offset offsets within) in
      let same : found_item ids bytes size [] offset ≡ found_code ids bytes size offset = rw (lt-ltb offset mark (omega (arith, small, here))) refl in
      ap (λ (x : ℕ). x ∷ map (found_item ids bytes size []) offsets) same ∙ ap (λ (xs : List ℕ). found_code ids bytes size offset ∷ xs) rest

  -- what is found for slots is what is found at the offsets of their IDs
  pub found-kept : (shared items : List ℕ) → All (IsKept size (length bytes) (length shared)) items
      → map (found_item ids bytes size (map (found_code ids bytes size) shared)) items ≡ map (found_code ids bytes size) (map (offset_of shared) items)
  found-kept shared [] kept = refl
  found-kept shared (item ∷ items) kept =
      let f = found_code ids bytes size in
      let here = All-head (IsKept size (length bytes) (length shared)) item items kept in
      let rest = found-kept shared items (All-tail (IsKept size (length bytes) (length shared)) item items kept) in
      let same : found_item ids bytes size (map f shared) item ≡ f (offset_of shared item) = elim (cases_lt item mark) [
        | inl lt ↦ rw (lt-ltb item mark lt) refl
        | inr le ↦ rw (le-ltb item mark le) (get_or-map f shared (item - mark) 0 0 (here.shared le))
      ] in
      ap (λ (x : ℕ). x ∷ map (found_item ids bytes size (map f shared)) items) same ∙ ap (λ (xs : List ℕ). f (offset_of shared item) ∷ xs) rest
