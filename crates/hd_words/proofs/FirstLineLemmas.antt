-- The first lines of an answer, and how many they are.
use Rattle.std.proofs.Common.{◌≡◌, ◌∙◌, ℕ, zero, suc, ◌+◌, ◌-◌, ◌<◌, List, [], ◌∷◌, ◌++◌, length, map, take, min, Option, Some, None, sym, ap, subst, refl}
use Rattle.std.proofs.Common.{arith, append-nil, append_assoc}
use Rattle.std.specs.Prelude.{codes, decimal}
use Rattle.std.specs.List.{flat_map}
use Rattle.std.proofs.lemmas.List.{length-map, length-take, take_all, take_min, take-map}
use Rattle.hd_lines.specs.Replies.{answered, with_newline}
use Rattle.hd_terms.specs.Listed.{first_items}
use Rattle.hd_words.specs.FirstLines.{first_count}

module _ {X : Type 0} (line : X → List ℕ) where
  pub lines-of-first : (most : Option ℕ) (rows : List X) → map line (take (first_count (length rows) most) rows) ≡ first_items most (map line rows)
  lines-of-first None rows = ap (map line) (take_all (length rows) rows (omega arith))
  lines-of-first (Some n) rows = ap (map line) (take_min n rows) ∙ sym (take-map line n rows)

  pub count-of-first : (most : Option ℕ) (rows : List X) → first_count (length rows) most ≡ length (first_items most (map line rows))
  count-of-first None rows = sym (length-map rows line)
  count-of-first (Some n) rows = sym (length-take n (map line rows) ∙ ap (min n) (length-map rows line))

  -- one less of one more
  min-pred : (n m : ℕ) → min (suc n) (m + 1) - 1 ≡ min n m
  min-pred n m = omega arith

  min-some : (n m : ℕ) → 0 < min (suc n) (m + 1)
  min-some n m = omega arith

  -- a line that stands before those of the rows is the first one
  module _ (start : List ℕ) (rows : List X) where
    pub count-with-start : (most : Option ℕ) → first_count (length rows + 1) most ≡ length (first_items most (start ∷ map line rows))
    count-with-start None = omega (arith, length-map rows line)
    count-with-start (Some n) = omega (arith, length-take n (start ∷ map line rows), length-map rows line)

    pub lines-with-start : (most : Option ℕ) → 0 < first_count (length rows + 1) most
        → start ∷ map line (take (first_count (length rows + 1) most - 1) rows) ≡ first_items most (start ∷ map line rows)
    lines-with-start None some = ap (λ (n : ℕ). start ∷ map line (take n rows)) (omega arith)
        ∙ ap (λ (xs : List X). start ∷ map line xs) (take_all (length rows) rows (omega arith))
    lines-with-start (Some zero) some = absurd (omega (arith, some))
    lines-with-start (Some (suc n)) some =
        ap (λ (k : ℕ). start ∷ map line (take k rows)) (min-pred n (length rows))
        ∙ ap (λ (xs : List X). start ∷ map line xs) (take_min n rows)
        ∙ ap (λ (ls : List (List ℕ)). start ∷ ls) (sym (take-map line n rows))

    pub none-with-start : (most : Option ℕ) → first_count (length rows + 1) most ≡ 0 → first_items most (start ∷ map line rows) ≡ []
    none-with-start None none = absurd (omega (arith, none))
    none-with-start (Some zero) none = refl
    none-with-start (Some (suc n)) none = absurd (omega (arith, none, min-some n (length rows)))

-- `ok N`
abbrev pub head : ℕ → List ℕ
head n = with_newline (codes "ok " ++ decimal n)

-- what is written of a first line and rows
module _ {X : Type 0} (line : X → List ℕ) (start : List ℕ) (rows : List X) (most : Option ℕ) (count : ℕ) (counted : count ≡ first_count (length rows + 1) most)
    (text : List ℕ) where
  abbrev lines : List (List ℕ)
  lines = first_items most (start ∷ map line rows)

  abbrev first : ℕ
  first = first_count (length rows + 1) most

  pub written-with-start : 0 < count → text ≡ ((head count ++ start) ++ 10 ∷ []) ++ flat_map with_newline (map line (take (count - 1) rows))
      → text ≡ answered lines
  written-with-start some is =
      is
      ∙ ap (λ (front : List ℕ). front ++ flat_map with_newline (map line (take (count - 1) rows))) (append_assoc (head count) start (10 ∷ []))
      ∙ ap (λ (n : ℕ). (head n ++ with_newline start) ++ flat_map with_newline (map line (take (n - 1) rows))) counted
      ∙ append_assoc (head first) (with_newline start) (flat_map with_newline (map line (take (first - 1) rows)))
      ∙ ap (λ (ls : List (List ℕ)). head first ++ flat_map with_newline ls) (lines-with-start line start rows most (subst (λ (n : ℕ). 0 < n) counted some))
      ∙ ap (λ (n : ℕ). head n ++ flat_map with_newline lines) (count-with-start line start rows most)

  pub written-without-line : count ≡ 0 → text ≡ head count → text ≡ answered lines
  written-without-line none is =
      let no_line : lines ≡ [] = none-with-start line start rows most (sym counted ∙ none) in
      is ∙ ap head none ∙ sym (append-nil (head 0)) ∙ ap answered (sym no_line)
