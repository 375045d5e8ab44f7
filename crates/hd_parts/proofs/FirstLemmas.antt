-- The numbers of the first objects of parts, and the bytes that lead to the parts: a part's first number is the sum of the parts before
-- it, and a byte of a block leads to a part that begins at the block's first number or before it.
use Rattle.std.proofs.Common.{◌≡◌, ◌∙◌, ◌⊎◌, subst, ℕ, zero, suc, ◌+◌, ◌-◌, ◌*◌, ◌/◌, ◌<◌, ◌≤◌, inl, inr, List, [], ◌∷◌}
use Rattle.std.proofs.Common.{◌++◌, length, get_or, take, drop, sum, refl, sym, ap, arith}
use Rattle.std.proofs.lemmas.Bool.{cases_lt}
use Rattle.std.proofs.lemmas.List.{get_or_read, at_drop_more, at_drop_all, append-nil, append_assoc, take_all}
use Rattle.std.proofs.lemmas.List.Sums.{sum_by-cons, sum_by-drop_more, sum_by_more}
use Rattle.hd_parts.specs.Parts.{ends_from, firsts_of, lens_behind, lens_between, LeadTo, IsIndexOf}

length-ends : (a : ℕ) (lens : List ℕ) → length (ends_from a lens) ≡ length lens
length-ends a [] = refl
length-ends a (n ∷ lens) = ap (λ (k : ℕ). suc k) (length-ends (a + n) lens)

pub length-firsts : (lens : List ℕ) → length (firsts_of lens) ≡ length lens + 1
length-firsts lens = omega (arith, length-ends 0 lens)

-- a part ends at the sum of the parts up to it
end-at : (a : ℕ) (lens : List ℕ) (k : ℕ) → k < length lens → get_or (ends_from a lens) k 0 ≡ a + sum (take (suc k) lens)
end-at a [] k lt = absurd (omega arith)
end-at a (n ∷ lens) zero lt = omega arith
end-at a (n ∷ lens) (suc k) lt =
    end-at (a + n) lens k (omega arith) ∙ omega (arith, sum_by-cons (λ (x : ℕ). x) n (take (suc k) lens))

-- and begins at the sum of those before it
pub first-at : (lens : List ℕ) (k : ℕ) → k ≤ length lens → get_or (firsts_of lens) k 0 ≡ sum (take k lens)
first-at lens zero le = refl
first-at lens (suc k) le = end-at 0 lens k (omega arith) ∙ omega arith

lens-behind : (a : ℕ) (lens : List ℕ) → lens_behind a (ends_from a lens) ≡ lens
lens-behind a [] = refl
lens-behind a (n ∷ lens) =
    let own : a + n - a ≡ n = omega arith in
    ap (λ (k : ℕ). k ∷ lens_behind (a + n) (ends_from (a + n) lens)) own ∙ ap (λ (ks : List ℕ). n ∷ ks) (lens-behind (a + n) lens)

-- the lengths can be told from the first objects
pub lens-of-firsts : (lens : List ℕ) → lens_between (firsts_of lens) ≡ lens
lens-of-firsts lens = lens-behind 0 lens

-- the bytes, as those of one more part are put behind them
pub lead-more : (lens at more : List ℕ) (part n : ℕ) → LeadTo part (sum (take part lens)) lens at → sum (take (part + 1) lens) ≤ n * 65536 → length more ≡ n
    → ((j d : ℕ) → j < n → j < length at → get_or more j d ≡ get_or at j d) → ((j d : ℕ) → length at ≤ j → j < n → get_or more j d ≡ part)
    → LeadTo (part + 1) (sum (take (part + 1) lens)) lens more
lead-more lens at more part n lead enough count old new = record {
  covered = omega (arith, enough, count);
  before = λ j lt. by j (omega (arith, lt, count)) (cases_lt j (length at));
}
  where
    by : (j : ℕ) → j < n → (j < length at) ⊎ (length at ≤ j) → (get_or more j 0 < part + 1) × (sum (take (get_or more j 0) lens) ≤ j * 65536)
    by j lt (inl front) =
        let same = old j 0 lt front in
        let led = lead.before j front in
        (omega (arith, same, led.0), subst (λ (byte : ℕ). sum (take byte lens) ≤ j * 65536) (sym same) led.1)
    by j lt (inr back) =
        let same = new j 0 back lt in
        (omega (arith, same), subst (λ (byte : ℕ). sum (take byte lens) ≤ j * 65536) (sym same) (omega (arith, back, lead.covered)))

-- the numbers that are there once the first `i` lengths are added, where the objects of these end
pub record FirstsSoFar (lens firsts : List ℕ) (end i : ℕ) : Type 0 where
  pub total : end + sum (drop i lens) ≡ sum lens
  pub made : firsts ++ ends_from end (drop i lens) ≡ firsts_of lens

-- the next one is within all
pub next-fits : (lens firsts : List ℕ) (end i : ℕ) → i < length lens → FirstsSoFar lens firsts end i → end + get_or lens i 0 ≤ sum lens
next-fits lens firsts end i lt h = omega (arith, h.total, sum_by-drop_more (λ (n : ℕ). n) lens i 0 lt)

pub firsts-more : (lens firsts : List ℕ) (end i : ℕ) → i < length lens → FirstsSoFar lens firsts end i
    → FirstsSoFar lens (firsts ++ (end + get_or lens i 0) ∷ []) (end + get_or lens i 0) (i + 1)
firsts-more lens firsts end i lt h = record {
  total = omega (arith, h.total, sum_by-drop_more (λ (n : ℕ). n) lens i 0 lt);
  made = append_assoc firsts ((end + get_or lens i 0) ∷ []) (ends_from (end + get_or lens i 0) (drop (i + 1) lens))
      ∙ sym (ap (λ (ns : List ℕ). firsts ++ ns) (at_drop_more (ends_from end) lens i 0 lt)) ∙ h.made;
}

pub firsts-all : (lens firsts : List ℕ) (end i : ℕ) → length lens ≤ i → FirstsSoFar lens firsts end i → firsts ≡ firsts_of lens
firsts-all lens firsts end i le h = sym (append-nil firsts) ∙ sym (ap (λ (ns : List ℕ). firsts ++ ns) (at_drop_all (ends_from end) lens i le)) ∙ h.made

-- what an index holds of its parts, however its numbers are read
pub record Holds (lens firsts at : List ℕ) : Type 0 where
  pub count : length firsts ≡ length lens + 1
  pub first : (k : ℕ) → k ≤ length lens → get_or firsts k 0 ≡ sum (take k lens)
  pub leads : LeadTo (length lens) (sum lens) lens at

pub holds : (lens firsts at slice : List ℕ) → IsIndexOf (lens_between firsts) firsts at → lens_between firsts ≡ lens → slice ≡ firsts → Holds lens slice at
holds lens firsts at slice is view same =
    let index : IsIndexOf lens firsts at = subst (λ (ns : List ℕ). IsIndexOf ns firsts at) view is in
    let all : slice ≡ firsts_of lens = same ∙ index.firsts_are in
    record {
      count = ap (λ (ns : List ℕ). length ns) all ∙ length-firsts lens;
      first = λ k le. ap (λ (ns : List ℕ). get_or ns k 0) all ∙ first-at lens k le;
      leads = index.at_is;
    }

module _ (lens firsts at : List ℕ) (h : Holds lens firsts at) where
  -- a byte leads to the part of a number or to one before it
  pub led-from : (o byte : ℕ) → o < sum lens → byte ≡ get_or at (o / 65536) byte
      → (byte + 1 < length firsts) × (get_or firsts byte 0 ≤ o) × (o < get_or firsts (length firsts - 1) 0)
  led-from o byte lt read =
      let there : o / 65536 < length at = omega (arith, lt, h.leads.covered) in
      let is = get_or_read at (o / 65536) byte there read 0 in
      let led = subst (λ (k : ℕ). (k < length lens) × (sum (take k lens) ≤ o / 65536 * 65536)) (sym is) (h.leads.before (o / 65536) there) in
      let last : length firsts - 1 ≡ length lens = omega (arith, h.count) in
      let all : get_or firsts (length firsts - 1) 0 ≡ sum lens =
      ap (λ (k : ℕ). get_or firsts k 0) last ∙ h.first (length lens) (omega arith) ∙ ap (λ (ns : List ℕ). sum ns) (take_all (length lens) lens (omega arith)) in
      (omega (arith, led.0, h.count), omega (arith, led.1, h.first byte (omega (arith, led.0))), omega (arith, lt, all))

  -- the part that has a number between its first object and that of the next
  pub led-to : (o part first : ℕ) → part + 1 < length firsts → (get_or firsts part 0 ≤ o) × (o < get_or firsts (part + 1) 0) → first ≡ get_or firsts part first
      → (part < length lens) × (first ≡ sum (take part lens)) × (first ≤ o) × (o < first + get_or lens part 0)
  led-to o part first lt within read =
      let there : part < length lens = omega (arith, lt, h.count) in
      let is = get_or_read firsts part first (omega arith) read 0 in
      let own = h.first part (omega arith) in
      let next = h.first (part + 1) (omega arith) in
      let more = sum_by_more (λ (n : ℕ). n) lens part 0 there in
      (there, is ∙ own, omega (arith, is, within.0), omega (arith, is, own, next, more, within.1))

pub index-made : (lens firsts at : List ℕ) → firsts ≡ firsts_of lens → LeadTo (length lens) (sum lens) lens at → IsIndexOf (lens_between firsts) firsts at
index-made lens firsts at is leads =
    let view : lens_between firsts ≡ lens = ap lens_between is ∙ lens-of-firsts lens in
    subst (λ (ns : List ℕ). IsIndexOf ns firsts at) (sym view) (record { firsts_are = is; at_is = leads })
