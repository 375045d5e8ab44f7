-- Numbers that are put behind others, some places after others.
use Rattle.std.proofs.Common.{◌≡◌, ◌∙◌, ◌⊎◌, inl, inr, ℕ, ◌+◌, ◌-◌, ◌<◌, ◌≤◌, List, get_or, sym, ap, arith}
use Rattle.std.proofs.lemmas.Bool.{cases_lt}
use Rattle.hd_ids.specs.Put.{put, ArePut, Meet}

module _ (old mid new : List ℕ) (start : ℕ) (more : List ℕ) (from base n m : ℕ) (h : ArePut old mid start more from base n) where
  moved : (s i : ℕ) → n ≤ i → s + n + (i - n) ≡ s + i
  moved s i le = omega (arith, le)

  unchanged : (i : ℕ) → n ≤ i → get_or mid (start + i) 0 ≡ get_or old (start + i) 0
  unchanged i le = h.behind (start + i) (omega (arith, le))

  module _ (k : ArePut mid new (start + n) more (from + n) base m) where
    put-here : (i : ℕ) → i < n + m → get_or new (start + i) 0 ≡ put (get_or old (start + i) 0) (get_or more (from + i) 0) base
    put-here i lt = elim (cases_lt i n) [
      | inl below ↦ k.before (start + i) (omega (arith, below)) ∙ h.here i below
      | inr le ↦
          ap (λ (q : ℕ). get_or new q 0) (sym (moved start i le))
          ∙ k.here (i - n) (omega (arith, lt, le))
          ∙ ap (λ (q : ℕ). put (get_or mid q 0) (get_or more (from + n + (i - n)) 0) base) (moved start i le)
          ∙ ap (λ (q : ℕ). put (get_or mid (start + i) 0) (get_or more q 0) base) (moved from i le)
          ∙ ap (λ (x : ℕ). put x (get_or more (from + i) 0) base) (unchanged i le)
    ]

    put-apart : (i : ℕ) → i < n + m → (get_or old (start + i) 0 ≡ 0) ⊎ (get_or more (from + i) 0 ≡ 0)
    put-apart i lt = elim (cases_lt i n) [ inl below ↦ h.apart i below | inr le ↦ by le (k.apart (i - n) (omega (arith, lt, le))) ]
      where
        by : n ≤ i → (get_or mid (start + n + (i - n)) 0 ≡ 0) ⊎ (get_or more (from + n + (i - n)) 0 ≡ 0)
            → (get_or old (start + i) 0 ≡ 0) ⊎ (get_or more (from + i) 0 ≡ 0)
        by le (inl e) = inl (sym (unchanged i le) ∙ ap (λ (q : ℕ). get_or mid q 0) (sym (moved start i le)) ∙ e)
        by le (inr e) = inr (ap (λ (q : ℕ). get_or more q 0) (sym (moved from i le)) ∙ e)

    pub put-more : ArePut old new start more from base (n + m)
    put-more = record {
      count = k.count ∙ h.count;
      here = put-here;
      apart = put-apart;
      before = λ q lt. k.before q (omega (arith, lt)) ∙ h.before q lt;
      behind = λ q le. k.behind q (omega (arith, le)) ∙ h.behind q (omega (arith, le));
    }

  pub meet-more : Meet mid (start + n) more (from + n) m → (all : ℕ) → n + m ≤ all → Meet old start more from all
  meet-more w all le =
      let place : ℕ = n + w.place in
      let same : start + n + w.place ≡ start + place = omega arith in
      let there : from + n + w.place ≡ from + place = omega arith in
      record {
        place = place;
        within = omega (arith, w.within, le);
        old_some = λ e. w.old_some (ap (λ (q : ℕ). get_or mid q 0) same ∙ unchanged place (omega arith) ∙ e);
        more_some = λ e. w.more_some (ap (λ (q : ℕ). get_or more q 0) there ∙ e);
      }
