use Rattle.std.proofs.Common.{◌∙◌, List, [], ◌∷◌, ◌++◌, map, take, ap, refl, sym}
use Rattle.hd_terms.specs.declared.SlotRow.{SlotRow}
use Rattle.hd_terms.specs.Dump.{SlotEntry, object_at}
use Rattle.hd_terms.specs.SlotRows.{slot_row}
use Rattle.hd_queries.proofs.RowLemmas.{shown-slot, rows-more}
use Rattle.hd_queries.proofs.rows.rows_of.Goals as goal

pub loop-i-preserved : goal.loop-i-preserved
loop-i-preserved c =
    let dump = c.args.edited.graph.now in
    let log = c.args.edited.front.now in
    let x = object_at dump c.args.o in
    let s : SlotEntry = record { slot = c.slots-read.result.slot; kind = c.slots-read.result.kind; id = c.slots-read.result.id } in
    let removed = c.slot.ensures s c.slots-read.ensures.entry refl
    ∙ c.requires.removed.slots c.args.o c.loop-i.i s c.requires.object c.slots-read.ensures.entry in
    let row = c.row_of.ensures ∙ shown-slot dump log x c.slots-read.result c.slot.result c.slots-read.ensures.target removed in
    c.in_ok-push.ensures.items
    ∙ ap (λ (rows : List SlotRow). rows ++ c.row_of.result ∷ []) c.loop-i.invariant
    ∙ ap (λ (r : SlotRow). map (slot_row dump log x) (take c.loop-i.i x.slots) ++ r ∷ []) row
    ∙ sym (rows-more (slot_row dump log x) x.slots c.loop-i.i s c.slots-read.ensures.entry)
