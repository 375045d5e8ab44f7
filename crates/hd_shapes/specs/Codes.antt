-- Shapes as codes of four bytes.
use Rattle.std.specs.Prelude.{◌≡◌, ℕ, ◌+◌, ◌-◌, ◌*◌, ◌/◌, ◌%◌, ◌<◌, ◌^◌, nat_lt, if◌then◌else◌, List, length, All}
use Rattle.std.specs.List.{slice_index_or}
use Rattle.hd_shapes.specs.declared.packed_shape.PackedShape.{PackedShape}
use Rattle.hd_shapes.specs.declared.packed_shape.PackedShape.TheVariants as shapes

-- the shape of a code of its own: below 2^30 an instance's, then object arrays by their bytes, then primitive arrays by the type
-- of their elements and their bytes
abbrev pub shape_in_code : ℕ → PackedShape
shape_in_code code =
    if nat_lt code (2 ^ 30) then shapes.Instance code
    else if nat_lt code (2 * 2 ^ 30) then shapes.ObjectArray (code - 2 ^ 30)
    else shapes.PrimitiveArray ((code - 2 * 2 ^ 30) / 2 ^ 26) ((code - 2 * 2 ^ 30) % 2 ^ 26)

-- a code of its own, and the shape that it stands for
pub record IsCodeOf (code : ℕ) (shape : PackedShape) : Type 0 where
  pub own : code < 3 * 2 ^ 30
  pub is : shape_in_code code ≡ shape

-- the shape of a code, over the shapes that have none of their own
abbrev pub shape_of_code : List PackedShape → ℕ → PackedShape
shape_of_code others code = if nat_lt code (3 * 2 ^ 30) then shape_in_code code else slice_index_or others (code - 3 * 2 ^ 30) (shapes.Class 0)

-- each code is of its own, or leads to a shape that has none
abbrev pub AreCodes : List ℕ → List PackedShape → Type 0
AreCodes codes others = All (λ code. code < 3 * 2 ^ 30 + length others) codes
