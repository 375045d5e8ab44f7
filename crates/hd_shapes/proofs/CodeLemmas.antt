-- Shapes by codes, over others of which there come more.
use Rattle.std.proofs.Common.{◌≡◌, ◌∙◌, ℕ, ◌+◌, ◌-◌, ◌*◌, ◌<◌, ◌^◌, inl, inr, List, [], ◌∷◌, ◌++◌, length, get_or, map, refl, ap, arith}
use Rattle.std.proofs.lemmas.Bool.{cases_lt, lt-ltb, le-ltb}
use Rattle.std.proofs.lemmas.List.{map-append, get_or_append_left, get_or-append_right}
use Rattle.hd_shapes.specs.declared.packed_shape.PackedShape.{PackedShape}
use Rattle.hd_shapes.specs.declared.packed_shape.PackedShape.TheVariants as shapes
use Rattle.hd_shapes.specs.Codes.{shape_of_code, AreCodes}
use Rattle.hd_shapes.proofs.PackedLemmas.{map-same}

module _ (others : List PackedShape) (shape : PackedShape) where
  -- a code that was there stands for what it did
  code-kept : (code : ℕ) → code < 3 * 2 ^ 30 + length others → shape_of_code (others ++ shape ∷ []) code ≡ shape_of_code others code
  code-kept code lt = elim (cases_lt code (3 * 2 ^ 30)) [
    | inl own ↦ rw (lt-ltb code (3 * 2 ^ 30) own) refl
    | inr other ↦ rw (le-ltb code (3 * 2 ^ 30) other) (get_or_append_left others (shape ∷ []) (shapes.Class 0) (code - 3 * 2 ^ 30) (omega arith))
  ]

  -- the next one stands for the new shape
  code-new : (code : ℕ) → code ≡ 3 * 2 ^ 30 + length others → shape_of_code (others ++ shape ∷ []) code ≡ shape
  code-new code is =
      let index : code - 3 * 2 ^ 30 ≡ length others = omega arith in
      let first : code - 3 * 2 ^ 30 - length others ≡ 0 = omega arith in
      rw (le-ltb code (3 * 2 ^ 30) (omega arith))
      (get_or-append_right others (shape ∷ []) (length others) (code - 3 * 2 ^ 30) (shapes.Class 0) refl (omega arith)
      ∙ ap (λ (n : ℕ). get_or (shape ∷ []) n (shapes.Class 0)) first)

  codes-kept : (codes : List ℕ) → AreCodes codes others → map (shape_of_code (others ++ shape ∷ [])) codes ≡ map (shape_of_code others) codes
  codes-kept codes all = map-same (λ code. code < 3 * 2 ^ 30 + length others) (shape_of_code (others ++ shape ∷ [])) (shape_of_code others) code-kept codes all

  -- a shape that has no code of its own at the end
  pub other-push : (codes : List ℕ) (code : ℕ) → AreCodes codes others → code ≡ 3 * 2 ^ 30 + length others
      → map (shape_of_code (others ++ shape ∷ [])) (codes ++ code ∷ []) ≡ map (shape_of_code others) codes ++ shape ∷ []
  other-push codes code all is =
      map-append (shape_of_code (others ++ shape ∷ [])) codes (code ∷ [])
      ∙ ap (λ (ss : List PackedShape). ss ++ shape_of_code (others ++ shape ∷ []) code ∷ []) (codes-kept codes all)
      ∙ ap (λ (s : PackedShape). map (shape_of_code others) codes ++ s ∷ []) (code-new code is)
