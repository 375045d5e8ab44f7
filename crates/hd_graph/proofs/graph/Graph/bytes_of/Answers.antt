use Rattle.std.proofs.Common.{◌≡◌, ◌∙◌, ℕ, ◌<◌, ◌≤◌, length, get_or, ap, sym, subst, arith}
use Rattle.hd_terms.specs.Dump.{Object, Dump, object_at}
use Rattle.hd_graph.specs.Shapes.{row_objects}
use Rattle.hd_terms.specs.Records.{largest_file}
use Rattle.hd_shapes.specs.Shapes.{ObjectShape, shape_bytes}
use Rattle.hd_shapes.specs.PackedShapes.{shape_view}
use Rattle.std.proofs.lemmas.Option.{get_or_from_slice_get}
use Rattle.hd_graph.proofs.ArrayLemmas.{length-row_objects, row_objects-at, any_shape}
use Rattle.hd_graph.proofs.SmallLemmas.{small-at}
use Rattle.hd_graph.proofs.graph.Graph.bytes_of.Goals as goal

pub get-requires : goal.get-requires
get-requires c =
    let a = c.self.inside in
    let lt : c.args.o < length (row_objects a.shapes.objects a.slot_table.ids a.slot_table.rows) = rw (← c.self.view_is) at c.requires in
    let few = length-row_objects a.shapes.objects a.slot_table.ids a.slot_table.rows c.self.invariant.columns in
    omega (arith, few, c.self.invariant.columns.shapes)

pub returns-clause-bytes : goal.returns-clause-bytes
returns-clause-bytes c =
    let a = c.self.inside in
    let lt : c.args.o < length (row_objects a.shapes.objects a.slot_table.ids a.slot_table.rows) = rw (← c.self.view_is) at c.requires in
    let few = length-row_objects a.shapes.objects a.slot_table.ids a.slot_table.rows c.self.invariant.columns in
    let is : get_or a.shapes.objects c.args.o any_shape ≡ shape_view c.get.result =
    get_or_from_slice_get a.shapes.objects c.args.o (shape_view c.get.result) any_shape c.get.ensures in
    c.from.ensures
    ∙ c.recorded_bytes.ensures
    ∙ ap (λ (s : ObjectShape). shape_bytes s) (sym is)
    ∙ sym (ap (λ (x : Object). x.bytes) (row_objects-at a.shapes.objects a.slot_table.ids a.slot_table.rows c.self.invariant.columns any_shape c.args.o
    (omega (arith, few))))
    ∙ ap (λ (dump : Dump). (object_at dump c.args.o).bytes) c.self.view_is

pub returns-clause-small : goal.returns-clause-small
returns-clause-small c =
    let a = c.self.inside in
    let lt : c.args.o < length (row_objects a.shapes.objects a.slot_table.ids a.slot_table.rows) = rw (← c.self.view_is) at c.requires in
    let few = length-row_objects a.shapes.objects a.slot_table.ids a.slot_table.rows c.self.invariant.columns in
    let is : get_or a.shapes.objects c.args.o any_shape ≡ shape_view c.get.result =
    get_or_from_slice_get a.shapes.objects c.args.o (shape_view c.get.result) any_shape c.get.ensures in
    let within : c.args.o < length a.shapes.objects = omega (arith, few, c.self.invariant.columns.shapes) in
    let same : c.from.result ≡ shape_bytes (get_or a.shapes.objects c.args.o any_shape) = c.from.ensures ∙ c.recorded_bytes.ensures
    ∙ ap (λ (s : ObjectShape). shape_bytes s) (sym is) in
    subst (λ (n : ℕ). n ≤ largest_file) (sym same) (small-at a.shapes.objects any_shape c.args.o c.self.invariant.small within)
