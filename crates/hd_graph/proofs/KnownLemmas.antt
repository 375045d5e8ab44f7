-- What is known of a class by its ID, and by its number.
use Rattle.std.proofs.Common.{◌≡◌, ℕ, zero, suc, ◌<◌, List, [], ◌∷◌, length, map, Option, Some, None, true, false, eqb, ne_eqb, eq-eqb, refl, ap, arith}
use Rattle.std.specs.Prelude.{not, is_none}
use Rattle.std.specs.Option.{option_map, option_map_or}
use Rattle.std.specs.List.{slice_get}
use Rattle.hd_terms.specs.declared.IdSize.{IdSize}
use Rattle.hd_terms.specs.Classes.{ResolvedClass, layout_len}
use Rattle.hd_classes.specs.Fits.{IsMisfit, FitsClass}
use Rattle.hd_shapes.specs.Shapes.{ObjectShape}
use Rattle.hd_shapes.specs.PackedShapes.{shape_at}

abbrev second : ℕ × ResolvedClass → ResolvedClass
second p = p.1

-- the shape of the class of a number
pub shape-of-number : (f : ResolvedClass → ObjectShape) (es : List (ℕ × ResolvedClass)) (i : ℕ) (x : ResolvedClass)
    → option_map second (slice_get es i) ≡ Some x → shape_at (map (λ (p : ℕ × ResolvedClass). f p.1) es) i ≡ f x
shape-of-number f [] i x is = absurd cc
shape-of-number f (e ∷ es) zero x is = let same : e.1 ≡ x = cc in ap f same
shape-of-number f (e ∷ es) (suc i) x is = shape-of-number f es i x is

pub number-small : (es : List (ℕ × ResolvedClass)) (i : ℕ) (x : ResolvedClass) → option_map second (slice_get es i) ≡ Some x → i < length es
number-small [] i x is = absurd cc
number-small (e ∷ es) zero x is = omega arith
number-small (e ∷ es) (suc i) x is = omega (arith, number-small es i x is)

-- values that don't fit the class
pub misfit-is : (size : IdSize) (len : ℕ) (known : Option ResolvedClass) → IsMisfit size len known
    → option_map_or (λ (x : ResolvedClass). not (eqb len (layout_len size x.layout))) known false ≡ true
misfit-is size len known h = rw h.is (ap not (ne_eqb len (layout_len size h.k.layout) h.other))

-- values of a class that isn't known, and such that fit
pub unknown-is : (size : IdSize) (len : ℕ) (known : Option ResolvedClass) → known ≡ None
    → option_map_or (λ (x : ResolvedClass). not (eqb len (layout_len size x.layout))) known false ≡ false
unknown-is size len known none = rw none refl

pub fitting-is : (size : IdSize) (len : ℕ) (known by_number : Option ResolvedClass) → FitsClass size len known by_number
    → option_map_or (λ (x : ResolvedClass). not (eqb len (layout_len size x.layout))) known false ≡ false
fitting-is size len known by_number h = rw h.is (ap not (eq-eqb len (layout_len size h.k.layout) h.same))

pub fitting-known : (size : IdSize) (len : ℕ) (known by_number : Option ResolvedClass) → FitsClass size len known by_number → is_none known ≡ false
fitting-known size len known by_number h = rw h.is refl
