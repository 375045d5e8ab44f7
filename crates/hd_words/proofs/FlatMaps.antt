-- Texts that are put one behind another.
use Rattle.std.proofs.Common.{◌≡◌, ◌∙◌, ℕ, ◌+◌, ◌<◌, ◌≤◌, List, [], ◌∷◌, ◌++◌, length, get_or, take, sym, ap, append_assoc, append-nil, take_all}
use Rattle.std.specs.List.{flat_map}
use Rattle.std.proofs.lemmas.List.{take_more}
use Rattle.std.proofs.lemmas.List.Concat.{flat_map-append}

module _ {X : Type 0} (text : X → List ℕ) (head : List ℕ) (xs : List X) (i : ℕ) where
  -- the text of one more
  pub flat_push : (d : X) → i < length xs → (head ++ flat_map text (take i xs)) ++ text (get_or xs i d) ≡ head ++ flat_map text (take (i + 1) xs)
  flat_push d lt =
      append_assoc head (flat_map text (take i xs)) (text (get_or xs i d))
      ∙ ap (λ l. head ++ l)
      (ap (λ l. flat_map text (take i xs) ++ l) (sym (append-nil (text (get_or xs i d))))
      ∙ sym (flat_map-append text (take i xs) (get_or xs i d ∷ []))
      ∙ ap (flat_map text) (sym (take_more xs i d lt)))

  -- the texts of all
  pub flat_all : length xs ≤ i → head ++ flat_map text (take i xs) ≡ head ++ flat_map text xs
  flat_all le = ap (λ l. head ++ flat_map text l) (take_all i xs le)
