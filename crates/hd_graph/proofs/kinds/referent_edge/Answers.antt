use Rattle.std.proofs.Common.{◌∙◌, arith, refl, sym}
use Rattle.hd_shapes.specs.PackedShapes.{shape_view}
use Rattle.hd_graph.proofs.KindLemmas.{none-from_not, few-there, no-referent, no-slot, within, no-object, an-object}
use Rattle.hd_graph.proofs.kinds.referent_edge.Goals as goal

pub returns-in_default-clause-edge : goal.returns-in_default-clause-edge
returns-in_default-clause-edge c =
    no-referent c.args.shapes.now.objects c.args.slot_table.now.ids c.args.slot_table.now.rows c.requires.columns c.args.o c.requires.object
    (shape_view c.get-shape.result) c.get-shape.ensures.shape _ refl
    (sym c.referent_in.ensures ∙ none-from_not c.referent_in.result c.in_default.not-Some)

pub index_in-requires : goal.index_in-requires
index_in-requires c =
    few-there c.args.shapes.now.objects c.args.slot_table.now.ids c.args.slot_table.now.rows c.requires.columns c.args.o c.requires.object
    (shape_view c.get-shape.result) c.get-shape.ensures.shape c.row_len.result c.row_len.ensures
    (omega (arith, c.row_len.type_inv))

pub returns-in_default-index_in-clause-edge : goal.returns-in_default-index_in-clause-edge
returns-in_default-index_in-clause-edge c =
    no-slot c.args.shapes.now.objects c.args.slot_table.now.ids c.args.slot_table.now.rows c.requires.columns c.args.o c.requires.object
    (shape_view c.get-shape.result) c.get-shape.ensures.shape c.row_len.result c.row_len.ensures
    c.in-Some.referent (sym c.referent_in.ensures ∙ c.in-Some.is) (sym c.index_in.ensures ∙ none-from_not c.index_in.result c.in_default-index_in.not-Some)

pub get-target-requires-clause-index : goal.get-target-requires-clause-index
get-target-requires-clause-index c =
    within c.args.shapes.now.objects c.args.slot_table.now.ids c.args.slot_table.now.rows c.requires.columns c.args.o c.requires.object
    (shape_view c.get-shape.result) c.get-shape.ensures.shape c.row_len.result c.row_len.ensures
    c.in-Some.referent c.in-Some-index_in.index (sym c.referent_in.ensures ∙ c.in-Some.is) (sym c.index_in.ensures ∙ c.in-Some-index_in.is)

pub returns-then-is_some-clause-edge : goal.returns-then-is_some-clause-edge
returns-then-is_some-clause-edge c =
    an-object c.args.shapes.now.objects c.args.slot_table.now.ids c.args.slot_table.now.rows c.requires.columns c.args.o c.requires.object
    (shape_view c.get-shape.result) c.get-shape.ensures.shape c.row_len.result c.row_len.ensures
    c.in-Some.referent c.in-Some-index_in.index (sym c.referent_in.ensures ∙ c.in-Some.is) (sym c.index_in.ensures ∙ c.in-Some-index_in.is)
    c.get-target.result.0 c.get-target.ensures.id c.get-target.result.1 c.get-target.ensures.target c.kind_of_slot.result c.kind_of_slot.ensures
    (sym c.is_some.ensures ∙ c.if-is_some.true)

pub returns-clause-edge : goal.returns-clause-edge
returns-clause-edge c =
    no-object c.args.shapes.now.objects c.args.slot_table.now.ids c.args.slot_table.now.rows c.requires.columns c.args.o c.requires.object
    (shape_view c.get-shape.result) c.get-shape.ensures.shape c.row_len.result c.row_len.ensures
    c.in-Some.referent c.in-Some-index_in.index (sym c.referent_in.ensures ∙ c.in-Some.is) (sym c.index_in.ensures ∙ c.in-Some-index_in.is)
    c.get-target.result.0 c.get-target.ensures.id c.get-target.result.1 c.get-target.ensures.target (sym c.is_some.ensures ∙ c.if-is_some.false)
