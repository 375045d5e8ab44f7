-- What holds at the places of two lists holds at those of one behind the other.
use Rattle.std.proofs.Common.{◌≡◌, ℕ, ◌+◌, ◌-◌, ◌<◌, List, ◌++◌, length, get_or, arith, sym, subst, ◌∙◌, refl, ap, ⊎_elim}
use Rattle.std.proofs.lemmas.List.{length-append, get_or_append_left, get_or-append_right, get_or-append-add}
use Rattle.std.proofs.lemmas.Bool.{cases_lt}

module _ {T : Type 0} (R : ℕ → T → T → Type 0) where
  -- R holds at each place of the lists, which begin at this one
  abbrev pub AtEach : ℕ → List T → List T → Type 0
  AtEach base xs ys = (k : ℕ) (d : T) → k < length xs → R (base + k) (get_or xs k d) (get_or ys k d)

  pub moved : {i j : ℕ} {x x' y y' : T} → i ≡ j → x ≡ x' → y ≡ y' → R i x y → R j x' y'
  moved {i} {j} {x} {x'} {y} {y'} a b c r = subst (λ k. R k x' y') a (subst (λ u. R i u y') b (subst (R i x) c r))

  pub at_both : (base up : ℕ) (all xs ys xs' ys' : List T) → all ≡ xs ++ ys → length xs' ≡ length xs → up ≡ base + length xs → AtEach base xs xs'
      → AtEach up ys ys' → AtEach base all (xs' ++ ys')
  at_both base up all xs ys xs' ys' is same at front back k d lt =
      let read : get_or (xs ++ ys) k d ≡ get_or all k d = sym (ap (λ (zs : List T). get_or zs k d) is) in
      ⊎_elim
      (λ p. moved refl (sym (get_or_append_left xs ys d k p) ∙ read) (sym (get_or_append_left xs' ys' d k (omega (arith, same)))) (front k d p))
      (λ p. moved (omega (arith, at)) (sym (get_or-append_right xs ys (length xs) k d refl p) ∙ read) (sym (get_or-append_right xs' ys' (length xs) k d same p))
      (back (k - length xs) d (omega (arith, lt, ap length is, length-append xs ys))))
      (cases_lt k (length xs))

  pub from_nought : (xs ys : List T) → AtEach 0 xs ys → (k : ℕ) (d : T) → k < length xs → R k (get_or xs k d) (get_or ys k d)
  from_nought xs ys each k d lt = moved {i = 0 + k} (omega arith) refl refl (each k d lt)

module _ {T : Type 0} (P : ℕ → T → Type 0) where
  -- P holds at each place of the list, which begins at this one
  abbrev pub HoldsAtEach : ℕ → List T → Type 0
  HoldsAtEach base xs = (k : ℕ) (d : T) → k < length xs → P (base + k) (get_or xs k d)

  pub holds_back : (base up : ℕ) (all xs ys : List T) → all ≡ xs ++ ys → up ≡ base + length xs → HoldsAtEach base all → HoldsAtEach up ys
  holds_back base up all xs ys is at each k d lt =
      subst (λ j. P j (get_or ys k d)) (omega (arith, at))
      (subst (P (base + (length xs + k))) (ap (λ (zs : List T). get_or zs (length xs + k) d) is ∙ get_or-append-add xs ys k d)
      (each (length xs + k) d (omega (arith, lt, ap length is, length-append xs ys))))
