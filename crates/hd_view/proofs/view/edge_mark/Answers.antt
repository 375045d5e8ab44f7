use Rattle.std.proofs.Common.{◌≡◌, ◌∙◌, Some, get_or, is_some, slice_get, sym, ap}
use Rattle.std.proofs.lemmas.Option.{slice_get-get_or}
use Rattle.hd_terms.specs.declared.EdgeKind.TheVariants as kinds
use Rattle.hd_terms.specs.declared.Slot.TheVariants as slot_names
use Rattle.hd_terms.specs.Dump.{SlotEntry, object_at}
use Rattle.hd_view.proofs.OutLemmas.{mark_made}
use Rattle.hd_view.proofs.view.edge_mark.Goals as goal

-- stands for a slot past the end
abbrev no_slot : SlotEntry
no_slot = record { slot = slot_names.OfClass; kind = kinds.Strong; id = 0 }

pub unwrap-requires : goal.unwrap-requires
unwrap-requires c =
    let slots = (object_at c.args.edited.graph.now c.args.o).slots in
    let s : SlotEntry = get_or slots c.args.index no_slot in
    let at : slice_get slots c.args.index ≡ Some s = slice_get-get_or slots c.args.index no_slot c.requires.index in
    ap is_some (c.get-target.ensures ∙ c.targets.ensures.each c.args.index s at) ∙ c.requires.edge s at

pub returns : goal.returns
returns c =
    let dump = c.args.edited.graph.now in
    let slots = (object_at dump c.args.o).slots in
    let s : SlotEntry = get_or slots c.args.index no_slot in
    let at : slice_get slots c.args.index ≡ Some s = slice_get-get_or slots c.args.index no_slot c.requires.index in
    let slot = c.slot_name-name.ensures.slot s at in
    let kind = c.slot_name-name.ensures.kind s at in
    rw (slot, kind) (mark_made dump c.args.edited.front.now c.args.o c.args.index s c.unwrap.result c.slot.result at
    (sym (c.get-target.ensures ∙ c.targets.ensures.each c.args.index s at) ∙ c.unwrap.ensures)
    (c.slot.ensures s at kind ∙ c.requires.removed.slots c.args.o c.args.index s c.requires.object at))
