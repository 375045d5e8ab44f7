use Rattle.std.proofs.Common.{◌∙◌, sym, ap}
use Rattle.std.specs.Prelude.{sum_by}
use Rattle.hd_terms.specs.Dump.{Dump}
use Rattle.hd_terms.specs.Counts.{unresolved_of}
use Rattle.hd_graph.specs.Counting.{edges_of}
use Rattle.hd_graph.proofs.CountLemmas.{edges-known, unresolved-absent}
use Rattle.hd_graph.proofs.graph.Graph.id_counts.Goals as goal

pub returns-clause-objects : goal.returns-clause-objects
returns-clause-objects c =
    let a = c.self.inside in
    c.counts.ensures.objects
    ∙ sym (edges-known a.shapes.objects a.slot_table.ids a.slot_table.rows c.self.invariant.columns)
    ∙ ap (λ (dump : Dump). sum_by (edges_of dump.objects) dump.objects) c.self.view_is

pub returns-clause-others : goal.returns-clause-others
returns-clause-others c =
    let a = c.self.inside in
    c.counts.ensures.others
    ∙ sym (unresolved-absent a.shapes.objects a.slot_table.ids a.slot_table.rows c.self.invariant.columns)
    ∙ ap (λ (dump : Dump). sum_by (unresolved_of dump.objects) dump.objects) c.self.view_is
