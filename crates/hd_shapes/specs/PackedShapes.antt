-- How shapes are kept: that of a class by its index among the classes, that of an instance by the index of the shape that the
-- instances of its class share.
use Rattle.std.specs.Prelude.{ℕ, zero, suc, ◌+◌, ◌<◌, ◌≤◌, List, [], length, map, Option, Some, None, All}
use Rattle.std.specs.List.{slice_index_or}
use Rattle.hd_shapes.specs.declared.shape.ClassShape.{ClassShape}
use Rattle.hd_shapes.specs.declared.shape.LayoutShape.{LayoutShape}
use Rattle.hd_shapes.specs.declared.packed_shape.PackedShape.{PackedShape}
use Rattle.hd_shapes.specs.declared.packed_shape.PackedShape.TheVariants as kept
use Rattle.hd_shapes.specs.declared.shape.Shape as declared_shape
use Rattle.hd_shapes.specs.declared.shape.Shape.TheVariants as read
use Rattle.hd_shapes.specs.Shapes.{ObjectShape, ObjectArray, PrimitiveArray, ClassObject, Instance}

-- a class's shape
abbrev pub class_shape_view : ClassShape → ObjectShape
class_shape_view c = ClassObject c.bytes c.names.items

-- the shape of a class's instances
abbrev pub layout_view : LayoutShape → ObjectShape
layout_view l = Instance l.bytes l.names.items l.referent l.kind

-- a shape as it is read
abbrev pub shape_view : declared_shape.Shape → ObjectShape
shape_view (read.ObjectArray bytes) = ObjectArray bytes
shape_view (read.PrimitiveArray element bytes) = PrimitiveArray element bytes
shape_view (read.Class class) = class_shape_view class.now
shape_view (read.Instance layout) = layout_view layout.now

-- the shapes of objects by number; and of each class that is known, by its number, the shape of its instances, if it was made
pub record ShapeLists : Type 0 where
  pub objects : List ObjectShape
  pub layouts : List (Option ObjectShape)

-- the shape of the instances of the class of a number, if it was made
abbrev pub made_layout : List (Option ObjectShape) → ℕ → Option ObjectShape
made_layout layouts class = slice_index_or layouts class None

-- the shape at an index
abbrev pub shape_at : List ObjectShape → ℕ → ObjectShape
shape_at shapes index = slice_index_or shapes index (ClassObject 0 [])

-- a shape as it is kept, over the classes and the layouts
abbrev pub kept_shape : List ClassShape → List LayoutShape → PackedShape → ObjectShape
kept_shape classes layouts (kept.ObjectArray bytes) = ObjectArray bytes
kept_shape classes layouts (kept.PrimitiveArray element bytes) = PrimitiveArray element bytes
kept_shape classes layouts (kept.Class index) = shape_at (map class_shape_view classes) index
kept_shape classes layouts (kept.Instance index) = shape_at (map layout_view layouts) index

-- what a class's number among the layouts says: 0 that none was made, and another the layout at the index before it
abbrev pub numbered_layout : List LayoutShape → ℕ → Option ObjectShape
numbered_layout layouts zero = None
numbered_layout layouts (suc index) = Some (shape_at (map layout_view layouts) index)

-- a class has its index among `n`, a layout among `m`
abbrev pub IsPackedOver : ℕ → ℕ → PackedShape → Type 0
IsPackedOver n m (kept.ObjectArray bytes) = Unit {0}
IsPackedOver n m (kept.PrimitiveArray element bytes) = Unit {0}
IsPackedOver n m (kept.Class index) = index < n
IsPackedOver n m (kept.Instance index) = index < m

-- shapes over `classes` classes and `layouts` layouts, together no more than there are shapes, and numbers of these layouts
pub record ArePacked (ks : List PackedShape) (classes layouts : ℕ) (numbers : List ℕ) : Type 0 where
  pub over : All (IsPackedOver classes layouts) ks
  pub few : classes + layouts ≤ length ks
  pub numbered : All (λ n. n ≤ layouts) numbers
