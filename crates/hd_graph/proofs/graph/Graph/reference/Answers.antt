use Rattle.std.proofs.Common.{◌≡◌, ◌∙◌, ◌<◌, length, get_or, Some, ap, sym, arith}
use Rattle.std.specs.List.{slice_get}
use Rattle.hd_terms.specs.Dump.{Dump, SlotEntry, object_at, no_object}
use Rattle.hd_terms.specs.Edges.{index_of}
use Rattle.hd_graph.specs.Shapes.{row_objects}
use Rattle.hd_graph.proofs.ArrayLemmas.{length-row_objects, index_of-row_objects}
use Rattle.hd_graph.proofs.SlotLemmas.{in-row, entry-here}
use Rattle.hd_graph.proofs.graph.Graph.reference.Goals as goal

pub get-requires-clause-row : goal.get-requires-clause-row
get-requires-clause-row c =
    let a = c.self.inside in
    let lt : c.args.o < length (row_objects a.shapes.objects a.slot_table.ids a.slot_table.rows) = rw (← c.self.view_is) at c.requires.object in
    let few = length-row_objects a.shapes.objects a.slot_table.ids a.slot_table.rows c.self.invariant.columns in
    omega (arith, few, c.self.invariant.columns.rows)

pub get-requires-clause-index : goal.get-requires-clause-index
get-requires-clause-index c =
    let a = c.self.inside in
    let lt : c.args.o < length (row_objects a.shapes.objects a.slot_table.ids a.slot_table.rows) = rw (← c.self.view_is) at c.requires.object in
    let within : c.args.i < length (get_or (row_objects a.shapes.objects a.slot_table.ids a.slot_table.rows) c.args.o no_object).slots =
    rw (← c.self.view_is) at c.requires.index in
    in-row a.shapes.objects a.slot_table.ids a.slot_table.rows c.self.invariant.columns c.args.o c.args.i lt within

pub returns-clause-id : goal.returns-clause-id
returns-clause-id c s at =
    let a = c.self.inside in
    let lt : c.args.o < length (row_objects a.shapes.objects a.slot_table.ids a.slot_table.rows) = rw (← c.self.view_is) at c.requires.object in
    let within : c.args.i < length (get_or (row_objects a.shapes.objects a.slot_table.ids a.slot_table.rows) c.args.o no_object).slots =
    rw (← c.self.view_is) at c.requires.index in
    let here : slice_get (get_or (row_objects a.shapes.objects a.slot_table.ids a.slot_table.rows) c.args.o no_object).slots c.args.i ≡ Some s =
    ap (λ (dump : Dump). slice_get (object_at dump c.args.o).slots c.args.i) c.self.view_is ∙ at in
    c.get.ensures.id ∙ ap (λ (e : SlotEntry). e.id)
    (entry-here a.shapes.objects a.slot_table.ids a.slot_table.rows c.self.invariant.columns c.args.o c.args.i lt within s here)

pub returns-clause-target : goal.returns-clause-target
returns-clause-target c =
    let a = c.self.inside in
    c.get.ensures.target
    ∙ sym (index_of-row_objects a.shapes.objects c.get.result.0 a.slot_table.ids a.slot_table.rows c.self.invariant.columns)
    ∙ ap (λ (dump : Dump). index_of dump.objects c.get.result.0) c.self.view_is
