use Rattle.std.proofs.Common.{◌∙◌, ◌<◌, length, ap, sym, arith}
use Rattle.hd_terms.specs.Dump.{Object, Dump, object_at}
use Rattle.hd_graph.specs.Shapes.{row_objects}
use Rattle.hd_graph.proofs.ArrayLemmas.{length-row_objects, row_objects-at, any_shape}
use Rattle.hd_graph.proofs.graph.Graph.id_of.Goals as goal

pub id_of-requires : goal.id_of-requires
id_of-requires c =
    let a = c.self.inside in
    let lt : c.args.o < length (row_objects a.shapes.objects a.slot_table.ids a.slot_table.rows) = rw (← c.self.view_is) at c.requires in
    omega (arith, length-row_objects a.shapes.objects a.slot_table.ids a.slot_table.rows c.self.invariant.columns)

pub returns : goal.returns
returns c =
    let a = c.self.inside in
    let lt : c.args.o < length (row_objects a.shapes.objects a.slot_table.ids a.slot_table.rows) = rw (← c.self.view_is) at c.requires in
    c.id_of.ensures
    ∙ sym (ap (λ (x : Object). x.id) (row_objects-at a.shapes.objects a.slot_table.ids a.slot_table.rows c.self.invariant.columns any_shape c.args.o
    (omega (arith, length-row_objects a.shapes.objects a.slot_table.ids a.slot_table.rows c.self.invariant.columns))))
    ∙ ap (λ (dump : Dump). (object_at dump c.args.o).id) c.self.view_is
