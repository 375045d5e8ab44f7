-- The index of a slot is looked for among the names of the shape, and follows from the slot in an array.
-- Names of one object are distinct, so the slot at another index has another name.
use Rattle.std.proofs.Common.{◌≡◌, ◌∙◌, ℕ, ◌<◌, ◌^◌, List, length, get_or, Some, ap, sym, subst, arith}
use Rattle.std.specs.List.{position, slice_get}
use Rattle.hd_terms.specs.Dump.{Dump, object_at, SlotEntry}
use Rattle.hd_terms.specs.EditedDump.{same_slot}
use Rattle.hd_slots.specs.Table.{row_at}
use Rattle.hd_shapes.specs.Shapes.{ObjectShape}
use Rattle.hd_graph.specs.Shapes.{HasShape, HasFewNames, shape_index, shape_slots, row_objects}
use Rattle.hd_shapes.specs.PackedShapes.{shape_view}
use Rattle.std.proofs.lemmas.Option.{get_or_from_slice_get}
use Rattle.hd_graph.proofs.ArrayLemmas.{length-row_objects, slots-at, fit-at, any_shape}
use Rattle.hd_graph.proofs.ShapeLemmas.{few-names, first-slot_index, slot_index-of}
use Rattle.hd_graph.proofs.graph.Graph.slot_index.Goals as goal

pub get-requires : goal.get-requires
get-requires c =
    let a = c.self.inside in
    let lt : c.args.o < length (row_objects a.shapes.objects a.slot_table.ids a.slot_table.rows) = rw (← c.self.view_is) at c.requires in
    let few = length-row_objects a.shapes.objects a.slot_table.ids a.slot_table.rows c.self.invariant.columns in
    omega (arith, few, c.self.invariant.columns.shapes)

pub row_len-requires : goal.row_len-requires
row_len-requires c =
    let a = c.self.inside in
    let lt : c.args.o < length (row_objects a.shapes.objects a.slot_table.ids a.slot_table.rows) = rw (← c.self.view_is) at c.requires in
    let few = length-row_objects a.shapes.objects a.slot_table.ids a.slot_table.rows c.self.invariant.columns in
    omega (arith, few, c.self.invariant.columns.rows)

pub index_in-requires : goal.index_in-requires
index_in-requires c =
    let a = c.self.inside in
    let lt : c.args.o < length (row_objects a.shapes.objects a.slot_table.ids a.slot_table.rows) = rw (← c.self.view_is) at c.requires in
    let few = length-row_objects a.shapes.objects a.slot_table.ids a.slot_table.rows c.self.invariant.columns in
    let is : get_or a.shapes.objects c.args.o any_shape ≡ shape_view c.get.result =
    get_or_from_slice_get a.shapes.objects c.args.o (shape_view c.get.result) any_shape c.get.ensures in
    let fit : HasShape (get_or a.shapes.objects c.args.o any_shape) (row_at a.slot_table c.args.o) =
    fit-at a.shapes.objects a.slot_table.rows c.self.invariant.columns.fit any_shape c.args.o (omega (arith, few, c.self.invariant.columns.rows)) in
    let short : length (row_at a.slot_table c.args.o) < 2 ^ 32 = omega (arith, c.row_len.ensures, c.row_len.type_inv) in
    subst HasFewNames is (few-names (get_or a.shapes.objects c.args.o any_shape) (row_at a.slot_table c.args.o) fit short)

pub returns-clause-first : goal.returns-clause-first
returns-clause-first c =
    let a = c.self.inside in
    let lt : c.args.o < length (row_objects a.shapes.objects a.slot_table.ids a.slot_table.rows) = rw (← c.self.view_is) at c.requires in
    let few = length-row_objects a.shapes.objects a.slot_table.ids a.slot_table.rows c.self.invariant.columns in
    let is : get_or a.shapes.objects c.args.o any_shape ≡ shape_view c.get.result =
    get_or_from_slice_get a.shapes.objects c.args.o (shape_view c.get.result) any_shape c.get.ensures in
    let fit : HasShape (get_or a.shapes.objects c.args.o any_shape) (row_at a.slot_table c.args.o) =
    fit-at a.shapes.objects a.slot_table.rows c.self.invariant.columns.fit any_shape c.args.o (omega (arith, few, c.self.invariant.columns.rows)) in
    c.index_in.ensures
    ∙ ap (λ (n : ℕ). shape_index (shape_view c.get.result) n c.args.slot) c.row_len.ensures
    ∙ ap (λ (s : ObjectShape). shape_index s (length (row_at a.slot_table c.args.o)) c.args.slot) (sym is)
    ∙ first-slot_index (get_or a.shapes.objects c.args.o any_shape) (row_at a.slot_table c.args.o) c.args.slot fit
    ∙ ap (λ (ss : List SlotEntry). position (λ (s : SlotEntry). same_slot s.slot c.args.slot) ss)
    (sym (slots-at a.shapes.objects a.slot_table.ids a.slot_table.rows c.self.invariant.columns any_shape c.args.o lt))
    ∙ ap (λ (dump : Dump). position (λ (s : SlotEntry). same_slot s.slot c.args.slot) (object_at dump c.args.o).slots) c.self.view_is

pub returns-clause-only : goal.returns-clause-only
returns-clause-only c = λ i s at same.
    let a = c.self.inside in
    let lt : c.args.o < length (row_objects a.shapes.objects a.slot_table.ids a.slot_table.rows) = rw (← c.self.view_is) at c.requires in
    let few = length-row_objects a.shapes.objects a.slot_table.ids a.slot_table.rows c.self.invariant.columns in
    let is : get_or a.shapes.objects c.args.o any_shape ≡ shape_view c.get.result =
    get_or_from_slice_get a.shapes.objects c.args.o (shape_view c.get.result) any_shape c.get.ensures in
    let fit : HasShape (get_or a.shapes.objects c.args.o any_shape) (row_at a.slot_table c.args.o) =
    fit-at a.shapes.objects a.slot_table.rows c.self.invariant.columns.fit any_shape c.args.o (omega (arith, few, c.self.invariant.columns.rows)) in
    let here : slice_get (shape_slots (get_or a.shapes.objects c.args.o any_shape) (row_at a.slot_table c.args.o)) i ≡ Some s =
    ap (λ (ss : List SlotEntry). slice_get ss i)
    (sym (slots-at a.shapes.objects a.slot_table.ids a.slot_table.rows c.self.invariant.columns any_shape c.args.o lt))
    ∙ ap (λ (dump : Dump). slice_get (object_at dump c.args.o).slots i) c.self.view_is ∙ at in
    c.index_in.ensures
    ∙ ap (λ (n : ℕ). shape_index (shape_view c.get.result) n c.args.slot) c.row_len.ensures
    ∙ ap (λ (x : ObjectShape). shape_index x (length (row_at a.slot_table c.args.o)) c.args.slot) (sym is)
    ∙ slot_index-of (get_or a.shapes.objects c.args.o any_shape) (row_at a.slot_table c.args.o) c.args.slot i s fit here same
