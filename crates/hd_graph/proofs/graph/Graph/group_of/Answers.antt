-- The shape of an object tells its group: a class object or a primitive array by itself, all else by the class
-- whose ID stands last in its row.
use Rattle.std.proofs.Common.{◌≡◌, ◌∙◌, ℕ, ◌<◌, length, get_or, ap, sym, arith}
use Rattle.hd_terms.specs.Dump.{Dump, object_at}
use Rattle.hd_slots.specs.Table.{row_at}
use Rattle.hd_graph.specs.Shapes.{row_objects}
use Rattle.hd_terms.specs.declared.Group.TheVariants as groups
use Rattle.hd_shapes.specs.Shapes.{ObjectShape}
use Rattle.hd_graph.specs.Shapes.{shape_group}
use Rattle.hd_shapes.specs.PackedShapes.{shape_view}
use Rattle.std.proofs.lemmas.Option.{get_or_from_slice_get}
use Rattle.hd_graph.proofs.ArrayLemmas.{length-row_objects, group-at, any_shape}
use Rattle.hd_graph.proofs.graph.Graph.group_of.Goals as goal

pub get-requires : goal.get-requires
get-requires c =
    let a = c.self.inside in
    let lt : c.args.o < length (row_objects a.shapes.objects a.slot_table.ids a.slot_table.rows) = rw (← c.self.view_is) at c.requires in
    let few = length-row_objects a.shapes.objects a.slot_table.ids a.slot_table.rows c.self.invariant.columns in
    omega (arith, few, c.self.invariant.columns.shapes)

pub last-requires : goal.last-requires
last-requires c =
    let a = c.self.inside in
    let lt : c.args.o < length (row_objects a.shapes.objects a.slot_table.ids a.slot_table.rows) = rw (← c.self.view_is) at c.requires in
    let few = length-row_objects a.shapes.objects a.slot_table.ids a.slot_table.rows c.self.invariant.columns in
    omega (arith, few, c.self.invariant.columns.rows)

pub returns-in-ObjectArray : goal.returns-in-ObjectArray
returns-in-ObjectArray c =
    let a = c.self.inside in
    let lt : c.args.o < length (row_objects a.shapes.objects a.slot_table.ids a.slot_table.rows) = rw (← c.self.view_is) at c.requires in
    let few = length-row_objects a.shapes.objects a.slot_table.ids a.slot_table.rows c.self.invariant.columns in
    let is : get_or a.shapes.objects c.args.o any_shape ≡ shape_view c.get.result =
    get_or_from_slice_get a.shapes.objects c.args.o (shape_view c.get.result) any_shape c.get.ensures in
    ap (λ (id : ℕ). groups.Class id) c.last.ensures
    ∙ ap (λ s. shape_group (shape_view s) (row_at a.slot_table c.args.o)) (sym c.in-ObjectArray.is)
    ∙ ap (λ (s : ObjectShape). shape_group s (row_at a.slot_table c.args.o)) (sym is)
    ∙ group-at a.shapes.objects a.slot_table.ids a.slot_table.rows c.self.invariant.columns any_shape c.args.o lt
    ∙ ap (λ (dump : Dump). (object_at dump c.args.o).group) c.self.view_is

pub returns-in-PrimitiveArray : goal.returns-in-PrimitiveArray
returns-in-PrimitiveArray c =
    let a = c.self.inside in
    let lt : c.args.o < length (row_objects a.shapes.objects a.slot_table.ids a.slot_table.rows) = rw (← c.self.view_is) at c.requires in
    let few = length-row_objects a.shapes.objects a.slot_table.ids a.slot_table.rows c.self.invariant.columns in
    let is : get_or a.shapes.objects c.args.o any_shape ≡ shape_view c.get.result =
    get_or_from_slice_get a.shapes.objects c.args.o (shape_view c.get.result) any_shape c.get.ensures in
    ap (λ s. shape_group (shape_view s) (row_at a.slot_table c.args.o)) (sym c.in-PrimitiveArray.is)
    ∙ ap (λ (s : ObjectShape). shape_group s (row_at a.slot_table c.args.o)) (sym is)
    ∙ group-at a.shapes.objects a.slot_table.ids a.slot_table.rows c.self.invariant.columns any_shape c.args.o lt
    ∙ ap (λ (dump : Dump). (object_at dump c.args.o).group) c.self.view_is

pub returns-in-Class : goal.returns-in-Class
returns-in-Class c =
    let a = c.self.inside in
    let lt : c.args.o < length (row_objects a.shapes.objects a.slot_table.ids a.slot_table.rows) = rw (← c.self.view_is) at c.requires in
    let few = length-row_objects a.shapes.objects a.slot_table.ids a.slot_table.rows c.self.invariant.columns in
    let is : get_or a.shapes.objects c.args.o any_shape ≡ shape_view c.get.result =
    get_or_from_slice_get a.shapes.objects c.args.o (shape_view c.get.result) any_shape c.get.ensures in
    ap (λ s. shape_group (shape_view s) (row_at a.slot_table c.args.o)) (sym c.in-Class.is)
    ∙ ap (λ (s : ObjectShape). shape_group s (row_at a.slot_table c.args.o)) (sym is)
    ∙ group-at a.shapes.objects a.slot_table.ids a.slot_table.rows c.self.invariant.columns any_shape c.args.o lt
    ∙ ap (λ (dump : Dump). (object_at dump c.args.o).group) c.self.view_is

pub returns-in-Instance : goal.returns-in-Instance
returns-in-Instance c =
    let a = c.self.inside in
    let lt : c.args.o < length (row_objects a.shapes.objects a.slot_table.ids a.slot_table.rows) = rw (← c.self.view_is) at c.requires in
    let few = length-row_objects a.shapes.objects a.slot_table.ids a.slot_table.rows c.self.invariant.columns in
    let is : get_or a.shapes.objects c.args.o any_shape ≡ shape_view c.get.result =
    get_or_from_slice_get a.shapes.objects c.args.o (shape_view c.get.result) any_shape c.get.ensures in
    ap (λ (id : ℕ). groups.Class id) c.last-in-Instance.ensures
    ∙ ap (λ s. shape_group (shape_view s) (row_at a.slot_table c.args.o)) (sym c.in-Instance.is)
    ∙ ap (λ (s : ObjectShape). shape_group s (row_at a.slot_table c.args.o)) (sym is)
    ∙ group-at a.shapes.objects a.slot_table.ids a.slot_table.rows c.self.invariant.columns any_shape c.args.o lt
    ∙ ap (λ (dump : Dump). (object_at dump c.args.o).group) c.self.view_is
