use Rattle.std.proofs.Common.{◌∙◌, ◌<◌, length, ap, sym, arith}
use Rattle.hd_terms.specs.Dump.{Dump, object_at}
use Rattle.hd_graph.specs.Shapes.{row_objects}
use Rattle.hd_graph.proofs.ArrayLemmas.{length-row_objects, length-slots-at}
use Rattle.hd_graph.proofs.graph.Graph.slots_len.Goals as goal

pub row_len-requires : goal.row_len-requires
row_len-requires c =
    let a = c.self.inside in
    let lt : c.args.o < length (row_objects a.shapes.objects a.slot_table.ids a.slot_table.rows) = rw (← c.self.view_is) at c.requires in
    let few = length-row_objects a.shapes.objects a.slot_table.ids a.slot_table.rows c.self.invariant.columns in
    omega (arith, few, c.self.invariant.columns.rows)

pub returns : goal.returns
returns c =
    let a = c.self.inside in
    let lt : c.args.o < length (row_objects a.shapes.objects a.slot_table.ids a.slot_table.rows) = rw (← c.self.view_is) at c.requires in
    let few = length-row_objects a.shapes.objects a.slot_table.ids a.slot_table.rows c.self.invariant.columns in
    c.row_len.ensures
    ∙ sym (length-slots-at a.shapes.objects a.slot_table.ids a.slot_table.rows c.self.invariant.columns c.args.o lt)
    ∙ ap (λ (dump : Dump). length (object_at dump c.args.o).slots) c.self.view_is
