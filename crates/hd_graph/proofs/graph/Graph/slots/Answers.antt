use Rattle.std.proofs.Common.{◌≡◌, ◌∙◌, ℕ, List, Some, get_or, ap, sym}
use Rattle.std.specs.List.{slice_get}
use Rattle.std.proofs.lemmas.Option.{slice_get-get_or}
use Rattle.hd_terms.specs.declared.Slot.{Slot}
use Rattle.hd_terms.specs.declared.EdgeKind.{EdgeKind}
use Rattle.hd_terms.specs.Dump.{SlotEntry, object_at}
use Rattle.hd_graph.proofs.ShapeLemmas.{slot_of}
use Rattle.hd_graph.proofs.graph.Graph.slots.Goals as goal

pub returns-clause-entry : goal.returns-clause-entry
returns-clause-entry c =
    let ss : List SlotEntry = (object_at c.args.self.now c.args.o).slots in
    let read : SlotEntry = slot_of c.slot_name-slot.result.slot c.slot_name-slot.result.kind c.reference-id.result.0 in
    let s : SlotEntry = get_or ss c.args.i read in
    let at : slice_get ss c.args.i ≡ Some s = slice_get-get_or ss c.args.i read c.requires.index in
    at
    ∙ ap (λ (slot : Slot). Some (slot_of slot s.kind s.id)) (sym (c.slot_name-slot.ensures.slot s at))
    ∙ ap (λ (kind : EdgeKind). Some (slot_of c.slot_name-slot.result.slot kind s.id)) (sym (c.slot_name-slot.ensures.kind s at))
    ∙ ap (λ (id : ℕ). Some (slot_of c.slot_name-slot.result.slot c.slot_name-slot.result.kind id)) (sym (c.reference-id.ensures.id s at))
