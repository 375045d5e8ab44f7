-- What the calls with numbers in a row give.
use Rattle.std.proofs.Common.{◌≡◌, ℕ, ◌+◌, ◌-◌, ◌<◌, List, [], ◌∷◌, ◌++◌, length, get_or, arith, sym, subst, ap, ◌∙◌, ⊎_elim}
use Rattle.std.proofs.lemmas.List.{length-append, get_or_append_left, get_or-append_right}
use Rattle.std.proofs.lemmas.Bool.{cases_lt}
use Rattle.std.specs.Fork.Halves.{GivesFrom}
use denote.Param.Members.{Shared}

module _ {F X : Type 0} (g : Shared F (ℕ × Unit {0}) X) (f : F) where
  pub gives-one : (from count : ℕ) (x : X) (xs : List X) → count ≡ 1 → xs ≡ x ∷ [] → g.post f (from, tt) x → GivesFrom g f from count xs
  gives-one from count x xs one is said =
      record {
        len = ap (λ (l : List X). length l) is ∙ sym one;
        each = λ k d lt.
            let nought : k ≡ 0 = omega (arith, lt, one) in
            let read : get_or xs k d ≡ x = ap (λ (l : List X). get_or l k d) is ∙ ap (λ (j : ℕ). get_or (x ∷ []) j d) nought in
            record {
              met = subst (λ (i : ℕ). g.post f (i, tt) (get_or xs k d)) {x = from} (omega (arith, nought))
                  (subst (g.post f (from, tt)) (sym read) said);
            };
      }

  pub gives-both : (from low high count : ℕ) (xs ys zs : List X) → low + high ≡ count → zs ≡ xs ++ ys → GivesFrom g f from low xs
      → GivesFrom g f (from + low) high ys → GivesFrom g f from count zs
  gives-both from low high count xs ys zs sum is a b =
      record {
        len = omega (arith, sum, ap length is, length-append xs ys, a.len, b.len);
        each = λ k d lt.
            let read : get_or zs k d ≡ get_or (xs ++ ys) k d = ap (λ (l : List X). get_or l k d) is in
            ⊎_elim
            (λ p. record { met = subst (g.post f (from + k, tt)) (sym (read ∙ get_or_append_left xs ys d k (omega (arith, p, a.len)))) (a.each k d p).met })
            (λ p. record {
              met = subst (λ (i : ℕ). g.post f (i, tt) (get_or zs k d)) {x = from + low + (k - low)} (omega (arith, p))
                  (subst (g.post f (from + low + (k - low), tt)) (sym (read ∙ get_or-append_right xs ys low k d a.len p))
                  (b.each (k - low) d (omega (arith, p, lt, sum))).met);
            })
            (cases_lt k low);
      }

  pub gives-all : (n : ℕ) (xs : List X) → GivesFrom g f 0 n xs → (k : ℕ) (d : X) → k < n → g.post f (k, tt) (get_or xs k d)
  gives-all n xs from k d lt = subst (λ (i : ℕ). g.post f (i, tt) (get_or xs k d)) {x = 0 + k} (omega arith) (from.each k d lt).met
