-- Lemmas on lists that lie one after another.
use Rattle.std.proofs.Common.{◌≡◌, ◌∙◌, ℕ, List, [], ◌∷◌, ◌++◌, length, take, drop, refl, ap, arith, All}
use Rattle.std.proofs.lemmas.List.{map-append, take_all, take-append-le, drop-append-le, length-drop}
use Rattle.std.proofs.lemmas.List.Elements.{All-head, All-tail}
use Rattle.std.proofs.Math.Seq.{drop-append_seam}
use Rattle.hd_names.specs.declared.lists.Part.{Part}
use Rattle.hd_names.specs.ListsInside.{part_of, lists_of, IsWithin}

module _ {T : Type 0} (elements more : List T) where
  -- a part stays when more elements come behind
  part-stays : (part : Part) → IsWithin (length elements) part → part_of (elements ++ more) part ≡ part_of elements part
  part-stays part within =
      ap (λ (xs : List T). take part.len xs) (drop-append-le part.start elements more (omega arith))
      ∙ take-append-le part.len (drop part.start elements) more (omega (arith, length-drop part.start elements))

  lists-stay : (parts : List Part) → All (IsWithin (length elements)) parts → lists_of (elements ++ more) parts ≡ lists_of elements parts
  lists-stay [] within = refl
  lists-stay (part ∷ parts) within =
      ap (λ (xs : List T). xs ∷ lists_of (elements ++ more) parts) (part-stays part (All-head (IsWithin (length elements)) part parts within))
      ∙ ap (λ (xss : List (List T)). part_of elements part ∷ xss) (lists-stay parts (All-tail (IsWithin (length elements)) part parts within))

  -- and they are a part themselves
  part-added : (part : Part) → part.start ≡ length elements → part.len ≡ length more → part_of (elements ++ more) part ≡ more
  part-added part start len =
      ap (λ (n : ℕ). take part.len (drop n (elements ++ more))) start
      ∙ ap (λ (xs : List T). take part.len xs) (drop-append_seam elements more)
      ∙ take_all part.len more (omega (arith, len))

  pub list-added : (parts : List Part) (part : Part) → All (IsWithin (length elements)) parts → part.start ≡ length elements → part.len ≡ length more
      → lists_of (elements ++ more) (parts ++ part ∷ []) ≡ lists_of elements parts ++ more ∷ []
  list-added parts part within start len =
      map-append (part_of (elements ++ more)) parts (part ∷ [])
      ∙ ap (λ (xss : List (List T)). xss ++ part_of (elements ++ more) part ∷ []) (lists-stay parts within)
      ∙ ap (λ (xs : List T). lists_of elements parts ++ xs ∷ []) (part-added part start len)
