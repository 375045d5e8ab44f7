-- The shapes of the objects of several parts.
-- Source: this project.
use Rattle.std.specs.Prelude.{◌≡◌, ℕ, ◌+◌, ◌<◌, ◌≤◌, List, length, map, slice_get}
use Rattle.std.specs.List.{flat_map}
use Rattle.hd_shapes.specs.Shapes.{ObjectShape}
use Rattle.hd_shapes.specs.PackedShapes.{ShapeLists}

-- the shapes of objects by number
pub record ObjectShapes : Type 0 where
  pub objects : List ObjectShape

-- the objects of all parts, those of each part behind those of the part before
abbrev pub joined_objects : List ShapeLists → List ObjectShape
joined_objects parts = flat_map (λ part. part.objects) parts

-- how many objects each part has
abbrev pub part_lens : List ShapeLists → List ℕ
part_lens parts = map (λ part. length part.objects) parts

-- there is a part, an index of as many objects as each part has, and the number of all objects
pub record AreJoined (parts : List ShapeLists) (lens : List ℕ) (count : ℕ) : Type 0 where
  pub some : 0 < length parts
  pub lens_are : lens ≡ part_lens parts
  pub count_is : count ≡ length (joined_objects parts)

-- the objects of a part stand among all from a number on
pub record StandAt (part all : List ObjectShape) (first : ℕ) : Type 0 where
  pub within : first + length part ≤ length all
  pub at : (i : ℕ) → i < length part → slice_get all (first + i) ≡ slice_get part i
