use Rattle.std.proofs.Common.{◌≡◌, ◌∙◌, ◌<◌, length, get_or, ap, sym, arith}
use Rattle.hd_terms.specs.Dump.{Object, Dump, object_at}
use Rattle.hd_terms.specs.Edges.{index_of}
use Rattle.hd_graph.specs.Shapes.{row_objects}
use Rattle.hd_graph.proofs.ArrayLemmas.{length-row_objects, row_objects-at, any_shape, index_of-row_objects}
use Rattle.hd_graph.proofs.graph.Graph.index_of.Goals as goal

pub returns-clause-first : goal.returns-clause-first
returns-clause-first c =
    let a = c.self.inside in
    c.index_of.ensures.first
    ∙ sym (index_of-row_objects a.shapes.objects c.args.id a.slot_table.ids a.slot_table.rows c.self.invariant.columns)
    ∙ ap (λ (dump : Dump). index_of dump.objects c.args.id) c.self.view_is

pub returns-clause-distinct : goal.returns-clause-distinct
returns-clause-distinct c = λ o lt is.
    let a = c.self.inside in
    let ids = a.slot_table.ids in
    let some : o < length (row_objects a.shapes.objects ids a.slot_table.rows) = rw (← c.self.view_is) at lt in
    let within : o < length ids = omega (arith, length-row_objects a.shapes.objects ids a.slot_table.rows c.self.invariant.columns) in
    let here : get_or ids o 0 ≡ c.args.id =
    sym (ap (λ (x : Object). x.id) (row_objects-at a.shapes.objects ids a.slot_table.rows c.self.invariant.columns any_shape o within))
    ∙ ap (λ (dump : Dump). (object_at dump o).id) c.self.view_is ∙ is in
    c.index_of.ensures.distinct o within here
