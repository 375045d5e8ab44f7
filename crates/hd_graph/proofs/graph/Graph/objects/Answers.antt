use Rattle.std.proofs.Common.{◌∙◌, length, ap, sym}
use Rattle.hd_terms.specs.Dump.{Dump}
use Rattle.hd_graph.proofs.ArrayLemmas.{length-row_objects}
use Rattle.hd_graph.proofs.graph.Graph.objects.Goals as goal

pub returns : goal.returns
returns c =
    let a = c.self.inside in
    c.objects.ensures
    ∙ sym (length-row_objects a.shapes.objects a.slot_table.ids a.slot_table.rows c.self.invariant.columns)
    ∙ ap (λ (dump : Dump). length dump.objects) c.self.view_is
