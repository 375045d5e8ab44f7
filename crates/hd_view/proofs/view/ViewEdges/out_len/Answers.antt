use Rattle.std.proofs.Common.{◌∙◌, length, sym, ap}
use Rattle.hd_terms.specs.Dump.{object_at}
use Rattle.hd_terms.specs.EdgeRows.{edges_of}
use Rattle.hd_view.specs.Viewed.{Viewed}
use Rattle.hd_view.proofs.OutLemmas.{length_edges}
use Rattle.hd_view.proofs.view.ViewEdges.out_len.Goals as goal

pub returns : goal.returns
returns c =
    let dump = c.self.inside.edited.graph.now in
    let log = c.self.inside.edited.front.now in
    c.edge_count.ensures ∙ sym (length_edges dump c.args.o log)
    ∙ ap (λ (v : Viewed). length (edges_of v.dump v.log (c.args.o, object_at v.dump c.args.o))) c.self.view_is
