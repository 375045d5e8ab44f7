-- The kind of a reference is strong, but for the referent of an instance, which has the kind of the instance's layout.
-- Both are the kind of the entry at that index.
use Rattle.std.proofs.Common.{◌≡◌, ◌∙◌, ◌<◌, length, get_or, Some, ap, sym, arith}
use Rattle.std.specs.List.{slice_get}
use Rattle.hd_terms.specs.Dump.{Dump, object_at, no_object}
use Rattle.hd_terms.specs.declared.Slot.{Slot}
use Rattle.hd_slots.specs.Table.{row_at}
use Rattle.hd_graph.specs.Shapes.{slot_name, slot_kind, row_objects}
use Rattle.hd_shapes.specs.PackedShapes.{shape_view, layout_view}
use Rattle.hd_graph.proofs.ArrayLemmas.{length-row_objects}
use Rattle.hd_graph.proofs.SlotLemmas.{named-here, kind-here, strong-elsewhere, strong-instance, name-of-instance}
use Rattle.hd_graph.proofs.graph.Graph.slot_kind.Goals as goal

pub get-shape-requires : goal.get-shape-requires
get-shape-requires c =
    let a = c.self.inside in
    let lt : c.args.o < length (row_objects a.shapes.objects a.slot_table.ids a.slot_table.rows) = rw (← c.self.view_is) at c.requires.object in
    let few = length-row_objects a.shapes.objects a.slot_table.ids a.slot_table.rows c.self.invariant.columns in
    omega (arith, few, c.self.invariant.columns.shapes)

pub returns-in_default : goal.returns-in_default
returns-in_default c s at =
    let a = c.self.inside in
    let lt : c.args.o < length (row_objects a.shapes.objects a.slot_table.ids a.slot_table.rows) = rw (← c.self.view_is) at c.requires.object in
    let within : c.args.i < length (get_or (row_objects a.shapes.objects a.slot_table.ids a.slot_table.rows) c.args.o no_object).slots =
    rw (← c.self.view_is) at c.requires.index in
    let here : slice_get (get_or (row_objects a.shapes.objects a.slot_table.ids a.slot_table.rows) c.args.o no_object).slots c.args.i ≡ Some s =
    ap (λ (dump : Dump). slice_get (object_at dump c.args.o).slots c.args.i) c.self.view_is ∙ at in
    sym (strong-elsewhere c.get-shape.result c.in_default.not-Instance
    (slot_name (shape_view c.get-shape.result) (length (row_at a.slot_table c.args.o)) c.args.i))
    ∙ kind-here a.shapes.objects a.slot_table.ids a.slot_table.rows c.self.invariant.columns c.args.o c.args.i lt within
    (shape_view c.get-shape.result) c.get-shape.ensures s here

pub returns-then-is_none : goal.returns-then-is_none
returns-then-is_none c s at =
    let a = c.self.inside in
    let lt : c.args.o < length (row_objects a.shapes.objects a.slot_table.ids a.slot_table.rows) = rw (← c.self.view_is) at c.requires.object in
    let within : c.args.i < length (get_or (row_objects a.shapes.objects a.slot_table.ids a.slot_table.rows) c.args.o no_object).slots =
    rw (← c.self.view_is) at c.requires.index in
    let here : slice_get (get_or (row_objects a.shapes.objects a.slot_table.ids a.slot_table.rows) c.args.o no_object).slots c.args.i ≡ Some s =
    ap (λ (dump : Dump). slice_get (object_at dump c.args.o).slots c.args.i) c.self.view_is ∙ at in
    sym (strong-instance c.in-Instance.layout.now (length (row_at a.slot_table c.args.o)) c.args.i c.if-is_none.ensures)
    ∙ kind-here a.shapes.objects a.slot_table.ids a.slot_table.rows c.self.invariant.columns c.args.o c.args.i lt within
    (layout_view c.in-Instance.layout.now) c.in-Instance.ensures s here

pub index-requires : goal.index-requires
index-requires c =
    let a = c.self.inside in
    let lt : c.args.o < length (row_objects a.shapes.objects a.slot_table.ids a.slot_table.rows) = rw (← c.self.view_is) at c.requires.object in
    let within : c.args.i < length (get_or (row_objects a.shapes.objects a.slot_table.ids a.slot_table.rows) c.args.o no_object).slots =
    rw (← c.self.view_is) at c.requires.index in
    let named : c.args.i < length c.in-Instance.layout.now.names.items =
    named-here a.shapes.objects a.slot_table.ids a.slot_table.rows c.self.invariant.columns c.args.o c.args.i lt within
    (layout_view c.in-Instance.layout.now) c.in-Instance.ensures in
    omega (arith, named)

pub returns : goal.returns
returns c s at =
    let a = c.self.inside in
    let lt : c.args.o < length (row_objects a.shapes.objects a.slot_table.ids a.slot_table.rows) = rw (← c.self.view_is) at c.requires.object in
    let within : c.args.i < length (get_or (row_objects a.shapes.objects a.slot_table.ids a.slot_table.rows) c.args.o no_object).slots =
    rw (← c.self.view_is) at c.requires.index in
    let here : slice_get (get_or (row_objects a.shapes.objects a.slot_table.ids a.slot_table.rows) c.args.o no_object).slots c.args.i ≡ Some s =
    ap (λ (dump : Dump). slice_get (object_at dump c.args.o).slots c.args.i) c.self.view_is ∙ at in
    let layout = c.in-Instance.layout.now in
    let named : c.args.i < length layout.names.items =
    named-here a.shapes.objects a.slot_table.ids a.slot_table.rows c.self.invariant.columns c.args.o c.args.i lt within
    (layout_view layout) c.in-Instance.ensures in
    let name : slot_name (shape_view c.get-shape.result) (length (row_at a.slot_table c.args.o)) c.args.i ≡ c.index.result.now =
    ap (λ x. slot_name (shape_view x) (length (row_at a.slot_table c.args.o)) c.args.i) c.in-Instance.is
    ∙ name-of-instance layout (length (row_at a.slot_table c.args.o)) c.args.i named c.index.result.now c.index.ensures in
    c.kind_of_slot.ensures
    ∙ ap (λ (slot : Slot). slot_kind (shape_view c.get-shape.result) slot) (sym name)
    ∙ kind-here a.shapes.objects a.slot_table.ids a.slot_table.rows c.self.invariant.columns c.args.o c.args.i lt within
    (shape_view c.get-shape.result) c.get-shape.ensures s here
