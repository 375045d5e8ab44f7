-- How many elements have the key of an earlier one.
use Rattle.std.proofs.Common.{◌≡◌, ◌∙◌, ℕ, ◌+◌, ◌≤◌, List, [], ◌∷◌, ◌++◌, length, map, Bool, true, false, ◌||◌, cond, eqb, eqb-true, refl, sym, ap, arith}
use Rattle.std.proofs.Common.{append_assoc, length-append}
use Rattle.std.specs.Prelude.{count_by}
use Rattle.std.specs.List.{list_any, enumerate_from}
use Rattle.std.proofs.lemmas.List.{append-nil, map-append}
use Rattle.std.proofs.lemmas.List.Folds.{list_any-append}
use Rattle.std.proofs.lemmas.List.FromFn.{length-enumerate_from}
use Rattle.std.proofs.lemmas.List.Sums.{sum_by-cons, count_by-le-length}
use Rattle.std.proofs.Math.Seq.{take-append_seam}
use Rattle.hd_terms.specs.FirstRecords.{is_repeat, repeats}
use Rattle.hd_classes.specs.Repeats.{AreNoted, NotesId}
use Rattle.hd_classes.proofs.FirstLemmas.{is_known, known-map}

module _ {X : Type 0} (key : X → ℕ) where
  -- how many have the key of one before them
  abbrev pub repeats_from : List X → List X → ℕ
  repeats_from before [] = 0
  repeats_from before (x ∷ xs) = cond (is_known key before x) 1 0 + repeats_from (before ++ x ∷ []) xs

  repeats-from : (before xs : List X) → count_by (is_repeat key (before ++ xs)) (enumerate_from (length before) xs) ≡ repeats_from before xs
  repeats-from before [] = refl
  repeats-from before (x ∷ xs) =
      let all = before ++ x ∷ xs in
      let rest : count_by (is_repeat key all) (enumerate_from (length before + 1) xs) ≡ repeats_from (before ++ x ∷ []) xs =
      ap (λ (ys : List X). count_by (is_repeat key ys) (enumerate_from (length before + 1) xs)) (sym (append_assoc before (x ∷ []) xs))
      ∙ ap (λ (n : ℕ). count_by (is_repeat key ((before ++ x ∷ []) ++ xs)) (enumerate_from n xs)) (sym (length-append before (x ∷ [])))
      ∙ repeats-from (before ++ x ∷ []) xs in
      sum_by-cons (λ p. cond (is_repeat key all p) 1 0) (length before, x) (enumerate_from (length before + 1) xs)
      ∙ ap (λ (ys : List X). cond (is_known key ys x) 1 0 + count_by (is_repeat key all) (enumerate_from (length before + 1) xs))
      (take-append_seam before (x ∷ xs))
      ∙ ap (λ (n : ℕ). cond (is_known key before x) 1 0 + n) rest

  pub repeats-are : (xs : List X) → repeats key xs ≡ repeats_from [] xs
  repeats-are xs = repeats-from [] xs

  repeats_from-push : (before xs : List X) (x : X) → repeats_from before (xs ++ x ∷ []) ≡ repeats_from before xs + cond (is_known key (before ++ xs) x) 1 0
  repeats_from-push before [] x =
      let here : is_known key before x ≡ is_known key (before ++ []) x = ap (λ (b : List X). is_known key b x) (sym (append-nil before)) in
      ap (λ (b : Bool). cond b 1 0 + 0) here ∙ omega arith
  repeats_from-push before (a ∷ xs) x =
      let more : repeats_from (before ++ a ∷ []) (xs ++ x ∷ []) ≡ repeats_from (before ++ a ∷ []) xs + cond (is_known key (before ++ a ∷ xs) x) 1 0 =
      repeats_from-push (before ++ a ∷ []) xs x ∙ ap (λ (b : List X). repeats_from (before ++ a ∷ []) xs + cond (is_known key b x) 1 0)
      (append_assoc before (a ∷ []) xs) in
      ap (λ (n : ℕ). cond (is_known key before a) 1 0 + n) more ∙ omega arith

  -- one more at the end
  pub repeats-push : (xs : List X) (x : X) → repeats key (xs ++ x ∷ []) ≡ repeats key xs + cond (is_known key xs x) 1 0
  repeats-push xs x = repeats-are (xs ++ x ∷ []) ∙ repeats_from-push [] xs x ∙ ap (λ (n : ℕ). n + cond (is_known key xs x) 1 0) (sym (repeats-are xs))

  pub repeats-le : (xs : List X) → repeats key xs ≤ length xs
  repeats-le xs = omega (arith, count_by-le-length (is_repeat key xs) (enumerate_from 0 xs), length-enumerate_from 0 xs)

-- the same at other elements of the same keys
repeats_from-map : {X Y : Type 0} (key : X → ℕ) (f : Y → X) (before ys : List Y) → repeats_from key (map f before) (map f ys) ≡ repeats_from
    (λ y. key (f y)) before ys
repeats_from-map key f before [] = refl
repeats_from-map key f before (y ∷ ys) =
    ap (λ (b : Bool). cond b 1 0 + repeats_from key (map f before ++ f y ∷ []) (map f ys)) (known-map key f before y)
    ∙ ap (λ (n : ℕ). cond (is_known (λ z. key (f z)) before y) 1 0 + n) (ap (λ b. repeats_from key b (map f ys)) (sym (map-append f before (y ∷ [])))
    ∙ repeats_from-map key f (before ++ y ∷ []) ys)

pub repeats-map : {X Y : Type 0} (key : X → ℕ) (f : Y → X) (ys : List Y) → repeats key (map f ys) ≡ repeats (λ y. key (f y)) ys
repeats-map key f ys = repeats-are key (map f ys) ∙ repeats_from-map key f [] ys ∙ sym (repeats-are (λ y. key (f y)) ys)

module _ (id : ℕ) (ids : List ℕ) where
  case-or : (a b : Bool) → (b ≡ true → a ≡ true) → a ≡ (a || (b || false))
  case-or true b h = refl
  case-or false true h = h refl
  case-or false false h = refl

  pub known-noted : (q : ℕ) (b : Bool) → list_any (λ k. eqb id k) ids ≡ b → list_any (λ k. eqb q k) (cond b ids (ids ++ id ∷ [])) ≡
      (list_any (λ k. eqb q k) ids || (eqb q id || false))
  known-noted q true e = case-or (list_any (λ k. eqb q k) ids) (eqb q id) (λ same_id. ap (λ (n : ℕ). list_any (λ k. eqb n k) ids) (eqb-true q id same_id) ∙ e)
  known-noted q false e = list_any-append (λ k. eqb q k) ids (id ∷ [])

-- one more element
pub noted-push : {X : Type 0} (key : X → ℕ) (xs : List X) (x : X) (ids : List ℕ) (repeated : ℕ) (ids' : List ℕ) (repeated' : ℕ)
    → AreNoted key xs ids repeated → NotesId (key x) ids repeated ids' repeated' → AreNoted key (xs ++ x ∷ []) ids' repeated'
noted-push key xs x ids repeated ids' repeated' h more = record {
  known = λ q. ap (λ (ks : List ℕ). list_any (λ k. eqb q k) ks) more.noted
      ∙ known-noted (key x) ids q (list_any (λ k. eqb (key x) k) ids) refl
      ∙ ap (λ (b : Bool). b || (eqb q (key x) || false)) (h.known q)
      ∙ sym (list_any-append (λ y. eqb q (key y)) xs (x ∷ []));
  count = more.counted
      ∙ ap (λ (n : ℕ). n + cond (list_any (λ k. eqb (key x) k) ids) 1 0) h.count
      ∙ ap (λ (b : Bool). repeats key xs + cond b 1 0) (h.known (key x))
      ∙ sym (repeats-push key xs x);
}
