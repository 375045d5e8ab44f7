use Rattle.std.proofs.Common.{◌∙◌, ◌<◌, length, slice_get, sym, ap, arith}
use Rattle.hd_terms.specs.Dump.{object_at}
use Rattle.hd_terms.specs.EdgeRows.{edges_of}
use Rattle.hd_edges.specs.Marks.{marked_edge}
use Rattle.hd_view.specs.Viewed.{Viewed}
use Rattle.hd_view.proofs.OutLemmas.{length_edges, edge_there}
use Rattle.hd_view.proofs.view.ViewEdges.out.Goals as goal

pub edge_slot-slot-requires-clause-edge : goal.edge_slot-slot-requires-clause-edge
edge_slot-slot-requires-clause-edge c =
    let dump = c.self.inside.edited.graph.now in
    let log = c.self.inside.edited.front.now in
    let lt : c.args.i < length (edges_of dump log (c.args.o, object_at dump c.args.o)) = rw (← c.self.view_is) at c.requires.index in
    omega (arith, lt, length_edges dump c.args.o log)

pub returns-clause-value : goal.returns-clause-value
returns-clause-value c =
    let dump = c.self.inside.edited.graph.now in
    let log = c.self.inside.edited.front.now in
    ap (λ (v : Viewed). slice_get (edges_of v.dump v.log (c.args.o, object_at v.dump c.args.o)) c.args.i) (sym c.self.view_is)
    ∙ edge_there dump c.args.o log c.args.i c.edge_slot-slot.result (marked_edge c.edge_mark-mark.result) c.edge_slot-slot.ensures c.edge_mark-mark.ensures
