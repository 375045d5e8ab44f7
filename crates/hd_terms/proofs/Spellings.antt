-- Texts none of which begins another: a text of several, and then bytes that none begins, has one reading.
use Rattle.std.proofs.Common.{◌≡◌, ◌∙◌, ℕ, List, [], ◌∷◌, ◌++◌, length, sym, ap, refl, append_assoc, arith}
use Rattle.std.specs.List.{flat_map, AllByRecursion}
use Rattle.std.proofs.lemmas.List.{append-nil}
use Rattle.hd_terms.specs.ReadFaults.{IsCutOff}

-- fronts of one length are one, and so is what follows them
pub same_front : (a b x y : List ℕ) → length a ≡ length b → a ++ x ≡ b ++ y → (a ≡ b) × (x ≡ y)
same_front [] [] x y long e = (refl, e)
same_front [] (b ∷ t) x y long e = absurd (omega arith)
same_front (a ∷ s) [] x y long e = absurd (omega arith)
same_front (a ∷ s) (b ∷ t) x y long e =
    let rest : s ++ x ≡ t ++ y = cc in
    let more = same_front s t x y (omega arith) rest in
    let first : a ≡ b = cc in
    let whole : s ≡ t = more.0 in
    (cc, more.1)

-- texts that are one have one tag
pub same_tag : (tag tag' : ℕ) (xs ys : List ℕ) → tag ∷ xs ≡ tag' ∷ ys → tag ≡ tag'
same_tag tag tag' xs ys e = cc

-- and the same behind it
pub behind_tag : (tag tag' : ℕ) (xs ys : List ℕ) → tag ∷ xs ≡ tag' ∷ ys → xs ≡ ys
behind_tag tag tag' xs ys e = cc

-- where a list and another are nothing, the other is nothing
nothing_behind : (x y : List ℕ) → x ++ y ≡ [] → y ≡ []
nothing_behind [] y e = e
nothing_behind (a ∷ x) y e = absurd cc

module _ (X : Type 0) (text : X → List ℕ) (Is : X → Type 0) (apart : (r s : X) (x y : List ℕ) → text r ++ x ≡ text s ++ y → Is r → Is s → (r ≡ s)
    × (x ≡ y)) where
  -- no text begins these bytes
  abbrev pub IsEnd : List ℕ → Type 0
  IsEnd x = (r : X) (z : List ℕ) → Is r → x ≡ text r ++ z → ⊥

  -- texts and an end have one reading
  pub same_texts : (rs ss : List X) (x y : List ℕ) → flat_map text rs ++ x ≡ flat_map text ss ++ y → AllByRecursion Is rs → AllByRecursion Is ss → IsEnd x
      → IsEnd y → (rs ≡ ss) × (x ≡ y)
  same_texts [] [] x y e hr hs ex ey = (refl, e)
  same_texts [] (s ∷ ss) x y e hr hs ex ey = absurd (ex s (flat_map text ss ++ y) hs.0 (e ∙ append_assoc (text s) (flat_map text ss) y))
  same_texts (r ∷ rs) [] x y e hr hs ex ey = absurd (ey r (flat_map text rs ++ x) hr.0 (sym e ∙ append_assoc (text r) (flat_map text rs) x))
  same_texts (r ∷ rs) (s ∷ ss) x y e hr hs ex ey =
      let first = apart r s (flat_map text rs ++ x) (flat_map text ss ++ y) (sym (append_assoc (text r) (flat_map text rs) x) ∙ e
      ∙ append_assoc (text s) (flat_map text ss) y) hr.0 hs.0 in
      let more = same_texts rs ss x y first.1 hr.1 hs.1 ex ey in
      (ap (λ (t : X). t ∷ rs) first.0 ∙ ap (λ (ts : List X). s ∷ ts) more.0, more.1)

  -- texts alone have one reading
  pub same_whole : IsEnd [] → (rs ss : List X) → flat_map text rs ≡ flat_map text ss → AllByRecursion Is rs → AllByRecursion Is ss → rs ≡ ss
  same_whole none rs ss e hr hs =
      (same_texts rs ss [] [] (append-nil (flat_map text rs) ∙ e ∙ sym (append-nil (flat_map text ss))) hr hs none none).0

  -- texts alone aren't texts and an end that isn't empty
  pub whole_has_no_end : IsEnd [] → (rs ss : List X) (y : List ℕ) → flat_map text rs ≡ flat_map text ss ++ y → AllByRecursion Is rs → AllByRecursion Is ss
      → IsEnd y → y ≡ []
  whole_has_no_end none rs ss y e hr hs ey = sym (same_texts rs ss [] y (append-nil (flat_map text rs) ∙ e) hr hs none ey).1

  -- no text begins a text that is cut off
  pub cut_off_ends : (rest : List ℕ) (s : X) → Is s → IsCutOff rest (text s) → IsEnd rest
  cut_off_ends rest s is cut r z ir e =
      let all : text r ++ (z ++ cut.missing) ≡ text s ++ [] =
      sym (append_assoc (text r) z cut.missing) ∙ ap (λ (xs : List ℕ). xs ++ cut.missing) (sym e) ∙ cut.whole ∙ sym (append-nil (text s)) in
      cut.lacks (nothing_behind z cut.missing (apart r s (z ++ cut.missing) [] all ir is).1)
