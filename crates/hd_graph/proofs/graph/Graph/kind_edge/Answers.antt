-- A kept reference is the source and the index of an edge of its kind (`kept-at`), so it has a slot there
-- with that target.
use Rattle.std.proofs.Common.{◌≡◌, ◌∙◌, List, get_or, ap, sym}
use Rattle.std.proofs.lemmas.Option.{same_Some, slice_get_within}
use Rattle.hd_terms.specs.Dump.{SlotEntry, object_at}
use Rattle.hd_terms.specs.declared.Slot.{Slot}
use Rattle.hd_terms.specs.Paths.{Edge}
use Rattle.hd_terms.specs.Edges.{kind_edges}
use Rattle.hd_graph.specs.declared.kinds.KeptEdge.{KeptEdge}
use Rattle.hd_graph.specs.Kinds.{AreKept}
use Rattle.hd_graph.proofs.KindLemmas.{kept-at, slot-of-kept}
use Rattle.hd_graph.proofs.graph.Graph.kind_edge.Goals as goal

pub slots-requires-clause-object : goal.slots-requires-clause-object
slots-requires-clause-object c =
    let objects = c.args.self.now.objects in
    let none : KeptEdge = record { source = 0; index = 0 } in
    let es : List Edge = kind_edges c.args.self.now c.args.kind in
    let kept : AreKept objects c.of.result.now es = rw c.of.ensures (c.requires.kinds.edges c.args.kind) in
    let at = kept-at objects c.of.result.now es c.args.i none kept c.requires.index in
    (slot-of-kept objects (get_or c.of.result.now c.args.i none) at.0 at.2).0

pub slots-requires-clause-index : goal.slots-requires-clause-index
slots-requires-clause-index c =
    let objects = c.args.self.now.objects in
    let none : KeptEdge = record { source = 0; index = 0 } in
    let es : List Edge = kind_edges c.args.self.now c.args.kind in
    let kept : AreKept objects c.of.result.now es = rw c.of.ensures (c.requires.kinds.edges c.args.kind) in
    let at = kept-at objects c.of.result.now es c.args.i none kept c.requires.index in
    let slot = slot-of-kept objects (get_or c.of.result.now c.args.i none) at.0 at.2 in
    slice_get_within (object_at c.args.self.now (get_or c.of.result.now c.args.i none).source).slots (get_or c.of.result.now c.args.i none).index slot.1 slot.2

pub returns : goal.returns
returns c =
    let objects = c.args.self.now.objects in
    let none : KeptEdge = record { source = 0; index = 0 } in
    let es : List Edge = kind_edges c.args.self.now c.args.kind in
    let kept : AreKept objects c.of.result.now es = rw c.of.ensures (c.requires.kinds.edges c.args.kind) in
    let at = kept-at objects c.of.result.now es c.args.i none kept c.requires.index in
    let slot = slot-of-kept objects (get_or c.of.result.now c.args.i none) at.0 at.2 in
    let same : c.slots.result.slot ≡ at.0.slot = ap (λ (s : SlotEntry). s.slot) (same_Some _ _ (sym c.slots.ensures.entry ∙ slot.2)) ∙ sym slot.4 in
    (at.0, at.1, ap (λ n. (n, c.slots.result.slot)) (sym slot.3) ∙ ap (λ (s : Slot). (at.0.source, s)) same)
