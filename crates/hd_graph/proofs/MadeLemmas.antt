-- The shapes of the instances of classes, so far as they were made.
use Rattle.std.proofs.Common.{◌≡◌, ◌∙◌, ℕ, zero, suc, ◌⊎◌, inl, inr, List, [], ◌∷◌, length, set, replicate, Option, Some, None, true, true≢false, refl, sym, ap}
use Rattle.std.proofs.Common.{length-set}
use Rattle.std.specs.Prelude.{is_some}
use Rattle.std.specs.Option.{option_map}
use Rattle.std.proofs.lemmas.List.{length-replicate}
use Rattle.hd_terms.specs.declared.IdSize.{IdSize}
use Rattle.hd_terms.specs.Classes.{ResolvedClass, layout_len}
use Rattle.hd_classes.specs.Known.{Known, known_by_number}
use Rattle.hd_shapes.specs.Shapes.{ObjectShape, shape_bytes}
use Rattle.hd_shapes.specs.PackedShapes.{made_layout}
use Rattle.hd_graph.specs.ArrayRows.{layout_shape}
use Rattle.hd_graph.specs.Building.{AreFewAndShort, AreLayouts, shape_by_number}
use Rattle.hd_graph.proofs.KnownLemmas.{shape-of-number}

-- none yet
none-at : (n i : ℕ) → made_layout (replicate n None) i ≡ None
none-at zero i = refl
none-at (suc n) zero = refl
none-at (suc n) (suc i) = none-at n i

pub none-made : (size : IdSize) (classes : Known) (n : ℕ) → AreFewAndShort classes → n ≡ length classes.classes → AreLayouts size classes (replicate n None)
none-made size classes n bounds count = record {
  bounds = bounds;
  count = length-replicate n None ∙ count;
  made = λ i shape is. none-or-some i shape (sym (none-at n i) ∙ is);
}
  where
    none-or-some : (i : ℕ) (shape : ObjectShape) → None ≡ Some shape → shape ≡ shape_by_number size classes i
    none-or-some i shape is = absurd cc

-- one more
set-made : (ls : List (Option ObjectShape)) (i j : ℕ) (s z : ObjectShape) → made_layout (set ls i (Some s)) j ≡ Some z → ((z ≡ s) × (j ≡ i))
    ⊎ (made_layout ls j ≡ Some z)
set-made [] i j s z is = inr is
set-made (x ∷ ls) zero zero s z is = let same : z ≡ s = cc in inl (same, refl)
set-made (x ∷ ls) zero (suc j) s z is = inr is
set-made (x ∷ ls) (suc i) zero s z is = inr is
set-made (x ∷ ls) (suc i) (suc j) s z is = elim (set-made ls i j s z is) [
  | inl w ↦ inl (w.0, ap suc w.1)
  | inr old ↦ inr old
]

pub made-more : (size : IdSize) (classes : Known) (ls : List (Option ObjectShape)) (i : ℕ) (s : ObjectShape) → AreLayouts size classes ls
    → s ≡ shape_by_number size classes i → AreLayouts size classes (set ls i (Some s))
made-more size classes ls i s h is = record {
  bounds = h.bounds;
  count = length-set ls i (Some s) ∙ h.count;
  made = λ j z at. elim (set-made ls i j s z at) [
    | inl w ↦ w.0 ∙ is ∙ ap (shape_by_number size classes) (sym w.1)
    | inr old ↦ h.made j z old
  ];
}

-- one that was made is the class's
pub some-made : (size : IdSize) (classes : Known) (ls : List (Option ObjectShape)) (i : ℕ) → AreLayouts size classes ls → is_some (made_layout ls i) ≡ true
    → made_layout ls i ≡ Some (shape_by_number size classes i)
some-made size classes ls i h some = by_option (made_layout ls i) refl some
  where
    by_option : (o : Option ObjectShape) → made_layout ls i ≡ o → is_some o ≡ true → made_layout ls i ≡ Some (shape_by_number size classes i)
    by_option None is some = absurd cc
    by_option (Some s) is some = is ∙ ap (λ (x : ObjectShape). Some x) (h.made i s is)

-- the bytes of its instances' values
pub made-bytes : (size : IdSize) (classes : Known) (ls : List (Option ObjectShape)) (i n : ℕ) (k : ResolvedClass) → AreLayouts size classes ls
    → known_by_number classes i ≡ Some k → Some n ≡ option_map shape_bytes (made_layout ls i) → n ≡ layout_len size k.layout
made-bytes size classes ls i n k h known is = by_option (made_layout ls i) refl is
  where
    by_option : (o : Option ObjectShape) → made_layout ls i ≡ o → Some n ≡ option_map shape_bytes o → n ≡ layout_len size k.layout
    by_option None at is = absurd cc
    by_option (Some s) at is =
        let same : n ≡ shape_bytes s = cc in
        same ∙ ap shape_bytes (h.made i s at ∙ shape-of-number (layout_shape size) classes.classes i k known)

pub some-bytes : (o : Option ObjectShape) (n : Option ℕ) → n ≡ option_map shape_bytes o → is_some n ≡ true → is_some o ≡ true
some-bytes None n is some = absurd (true≢false (sym some ∙ ap (λ (m : Option ℕ). is_some m) is))
some-bytes (Some s) n is some = refl
