-- Of an array the name of a slot follows from its index, of any other object it stands in the list of its shape.
-- Both are the slot of the entry at that index.
use Rattle.std.proofs.Common.{◌≡◌, ◌∙◌, ℕ, ◌<◌, length, get_or, Some, ap, sym, subst, arith}
use Rattle.std.specs.List.{slice_get}
use Rattle.hd_terms.specs.Dump.{Dump, SlotEntry, object_at, no_object}
use Rattle.hd_terms.specs.declared.Slot.{Slot}
use Rattle.hd_slots.specs.Table.{row_at}
use Rattle.hd_shapes.specs.Shapes.{ObjectShape}
use Rattle.hd_graph.specs.Shapes.{IsNamedAt, slot_name, slot_kind, row_objects}
use Rattle.hd_shapes.specs.PackedShapes.{shape_view}
use Rattle.std.proofs.lemmas.Option.{get_or_from_slice_get}
use Rattle.hd_graph.proofs.ArrayLemmas.{length-row_objects, any_shape}
use Rattle.hd_graph.proofs.ShapeLemmas.{named-there}
use Rattle.hd_graph.proofs.SlotLemmas.{in-row, fits-here, entry-here}
use Rattle.hd_graph.proofs.graph.Graph.slot_name.Goals as goal

pub get-shape-requires : goal.get-shape-requires
get-shape-requires c =
    let a = c.self.inside in
    let lt : c.args.o < length (row_objects a.shapes.objects a.slot_table.ids a.slot_table.rows) = rw (← c.self.view_is) at c.requires.object in
    let few = length-row_objects a.shapes.objects a.slot_table.ids a.slot_table.rows c.self.invariant.columns in
    omega (arith, few, c.self.invariant.columns.shapes)

pub row_len-requires : goal.row_len-requires
row_len-requires c =
    let a = c.self.inside in
    let lt : c.args.o < length (row_objects a.shapes.objects a.slot_table.ids a.slot_table.rows) = rw (← c.self.view_is) at c.requires.object in
    let few = length-row_objects a.shapes.objects a.slot_table.ids a.slot_table.rows c.self.invariant.columns in
    omega (arith, few, c.self.invariant.columns.rows)

pub slot_at-slot-requires-clause-index : goal.slot_at-slot-requires-clause-index
slot_at-slot-requires-clause-index c =
    let a = c.self.inside in
    let lt : c.args.o < length (row_objects a.shapes.objects a.slot_table.ids a.slot_table.rows) = rw (← c.self.view_is) at c.requires.object in
    let within : c.args.i < length (get_or (row_objects a.shapes.objects a.slot_table.ids a.slot_table.rows) c.args.o no_object).slots =
    rw (← c.self.view_is) at c.requires.index in
    omega (arith, in-row a.shapes.objects a.slot_table.ids a.slot_table.rows c.self.invariant.columns c.args.o c.args.i lt within, c.row_len.ensures)

pub slot_at-slot-requires-clause-named : goal.slot_at-slot-requires-clause-named
slot_at-slot-requires-clause-named c =
    let a = c.self.inside in
    let lt : c.args.o < length (row_objects a.shapes.objects a.slot_table.ids a.slot_table.rows) = rw (← c.self.view_is) at c.requires.object in
    let within : c.args.i < length (get_or (row_objects a.shapes.objects a.slot_table.ids a.slot_table.rows) c.args.o no_object).slots =
    rw (← c.self.view_is) at c.requires.index in
    let is : get_or a.shapes.objects c.args.o any_shape ≡ shape_view c.get-shape.result =
    get_or_from_slice_get a.shapes.objects c.args.o (shape_view c.get-shape.result) any_shape c.get-shape.ensures in
    subst (λ (s : ObjectShape). IsNamedAt s c.args.i) is
    (named-there (get_or a.shapes.objects c.args.o any_shape) (row_at a.slot_table c.args.o) c.args.i
    (fits-here a.shapes.objects a.slot_table.ids a.slot_table.rows c.self.invariant.columns c.args.o c.args.i lt within)
    (in-row a.shapes.objects a.slot_table.ids a.slot_table.rows c.self.invariant.columns c.args.o c.args.i lt within))

pub returns-clause-slot : goal.returns-clause-slot
returns-clause-slot c s at =
    let a = c.self.inside in
    let lt : c.args.o < length (row_objects a.shapes.objects a.slot_table.ids a.slot_table.rows) = rw (← c.self.view_is) at c.requires.object in
    let within : c.args.i < length (get_or (row_objects a.shapes.objects a.slot_table.ids a.slot_table.rows) c.args.o no_object).slots =
    rw (← c.self.view_is) at c.requires.index in
    let here : slice_get (get_or (row_objects a.shapes.objects a.slot_table.ids a.slot_table.rows) c.args.o no_object).slots c.args.i ≡ Some s =
    ap (λ (dump : Dump). slice_get (object_at dump c.args.o).slots c.args.i) c.self.view_is ∙ at in
    let is : get_or a.shapes.objects c.args.o any_shape ≡ shape_view c.get-shape.result =
    get_or_from_slice_get a.shapes.objects c.args.o (shape_view c.get-shape.result) any_shape c.get-shape.ensures in
    c.slot_at-slot.ensures
    ∙ ap (λ (n : ℕ). slot_name (shape_view c.get-shape.result) n c.args.i) c.row_len.ensures
    ∙ ap (λ (shape : ObjectShape). slot_name shape (length (row_at a.slot_table c.args.o)) c.args.i) (sym is)
    ∙ ap (λ (e : SlotEntry). e.slot)
    (entry-here a.shapes.objects a.slot_table.ids a.slot_table.rows c.self.invariant.columns c.args.o c.args.i lt within s here)

pub returns-clause-kind : goal.returns-clause-kind
returns-clause-kind c s at =
    let a = c.self.inside in
    let lt : c.args.o < length (row_objects a.shapes.objects a.slot_table.ids a.slot_table.rows) = rw (← c.self.view_is) at c.requires.object in
    let within : c.args.i < length (get_or (row_objects a.shapes.objects a.slot_table.ids a.slot_table.rows) c.args.o no_object).slots =
    rw (← c.self.view_is) at c.requires.index in
    let here : slice_get (get_or (row_objects a.shapes.objects a.slot_table.ids a.slot_table.rows) c.args.o no_object).slots c.args.i ≡ Some s =
    ap (λ (dump : Dump). slice_get (object_at dump c.args.o).slots c.args.i) c.self.view_is ∙ at in
    let is : get_or a.shapes.objects c.args.o any_shape ≡ shape_view c.get-shape.result =
    get_or_from_slice_get a.shapes.objects c.args.o (shape_view c.get-shape.result) any_shape c.get-shape.ensures in
    c.kind_of_slot.ensures
    ∙ ap (λ (slot : Slot). slot_kind (shape_view c.get-shape.result) slot) c.slot_at-slot.ensures
    ∙ ap (λ (n : ℕ). slot_kind (shape_view c.get-shape.result) (slot_name (shape_view c.get-shape.result) n c.args.i)) c.row_len.ensures
    ∙ ap (λ (shape : ObjectShape). slot_kind shape (slot_name shape (length (row_at a.slot_table c.args.o)) c.args.i)) (sym is)
    ∙ ap (λ (e : SlotEntry). e.kind)
    (entry-here a.shapes.objects a.slot_table.ids a.slot_table.rows c.self.invariant.columns c.args.o c.args.i lt within s here)
