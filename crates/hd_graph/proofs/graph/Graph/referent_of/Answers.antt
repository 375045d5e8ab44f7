use Rattle.std.proofs.Common.{◌≡◌, ◌∙◌, ◌<◌, length, get_or, ap, sym, arith}
use Rattle.std.proofs.lemmas.Option.{get_or_from_slice_get}
use Rattle.hd_terms.specs.Dump.{Object, Dump, object_at}
use Rattle.hd_shapes.specs.Shapes.{ObjectShape}
use Rattle.hd_graph.specs.Shapes.{shape_referent, row_objects}
use Rattle.hd_shapes.specs.PackedShapes.{shape_view}
use Rattle.hd_graph.proofs.ArrayLemmas.{length-row_objects, row_objects-at, any_shape}
use Rattle.hd_graph.proofs.graph.Graph.referent_of.Goals as goal

pub get-requires : goal.get-requires
get-requires c =
    let a = c.self.inside in
    let lt : c.args.o < length (row_objects a.shapes.objects a.slot_table.ids a.slot_table.rows) = rw (← c.self.view_is) at c.requires in
    let few = length-row_objects a.shapes.objects a.slot_table.ids a.slot_table.rows c.self.invariant.columns in
    omega (arith, few, c.self.invariant.columns.shapes)

pub returns : goal.returns
returns c =
    let a = c.self.inside in
    let lt : c.args.o < length (row_objects a.shapes.objects a.slot_table.ids a.slot_table.rows) = rw (← c.self.view_is) at c.requires in
    let is : get_or a.shapes.objects c.args.o any_shape ≡ shape_view c.get.result =
    get_or_from_slice_get a.shapes.objects c.args.o (shape_view c.get.result) any_shape c.get.ensures in
    c.referent_in.ensures
    ∙ ap (λ (s : ObjectShape). shape_referent s) (sym is)
    ∙ sym (ap (λ (x : Object). x.referent) (row_objects-at a.shapes.objects a.slot_table.ids a.slot_table.rows c.self.invariant.columns any_shape c.args.o
    (omega (arith, length-row_objects a.shapes.objects a.slot_table.ids a.slot_table.rows c.self.invariant.columns))))
    ∙ ap (λ (dump : Dump). (object_at dump c.args.o).referent) c.self.view_is
