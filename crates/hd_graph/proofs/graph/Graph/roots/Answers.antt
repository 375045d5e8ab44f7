use Rattle.std.proofs.Common.{◌∙◌, ap, sym}
use Rattle.hd_terms.specs.Dump.{Dump}
use Rattle.hd_terms.specs.Edges.{index_of}
use Rattle.hd_graph.proofs.ArrayLemmas.{index_of-row_objects}
use Rattle.hd_graph.proofs.graph.Graph.roots.Goals as goal

pub returns-clause-object : goal.returns-clause-object
returns-clause-object c =
    let a = c.self.inside in
    c.index_of.ensures.first
    ∙ sym (index_of-row_objects a.shapes.objects c.index-root.result.now.id a.slot_table.ids a.slot_table.rows c.self.invariant.columns)
    ∙ ap (λ (dump : Dump). index_of dump.objects c.index-root.result.now.id) c.self.view_is
