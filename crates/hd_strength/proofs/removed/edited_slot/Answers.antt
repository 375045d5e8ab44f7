use Rattle.std.proofs.Common.{Some, Option, subst, refl}
use Rattle.hd_terms.specs.declared.Slot.{Slot}
use Rattle.hd_terms.specs.declared.Edit.{Edit}
use Rattle.hd_terms.specs.declared.Edit.TheVariants as edits
use Rattle.hd_terms.specs.Dump.{Object, object_at}
use Rattle.hd_strength.specs.Removed.{IsNamedSlot}
use Rattle.hd_strength.proofs.RemovedLemmas.{object_slot}
use Rattle.hd_strength.proofs.removed.edited_slot.Goals as goal

pub returns-in_ok-o-in-Cut : goal.returns-in_ok-o-in-Cut
returns-in_ok-o-in-Cut c =
    let edit : Edit = edits.Cut c.in-Cut.id c.in-Cut.slot in
    rw c.in-Cut.is (object_slot c.args.graph.now edit c.in-Cut.id (λ (x : Object). Some c.in-Cut.slot) c.index_of.result
    (λ x slot. refl) c.index_of.ensures.distinct c.in_ok-o-in-Cut.o c.named_slot_index.result c.in_ok-o-in-Cut.was c.index_of.ensures.first
    c.named_slot_index.ensures)

pub returns-in_ok-o-in-Clear : goal.returns-in_ok-o-in-Clear
returns-in_ok-o-in-Clear c =
    let edit : Edit = edits.Clear c.in-Clear.id in
    let dump = c.args.graph.now in
    let o = c.in_ok-o-in-Clear.o in
    let named : IsNamedSlot (object_at dump o).slots (object_at dump o).referent o c.named_slot_index-in-Clear.result =
    subst (λ (name : Option Slot). IsNamedSlot (object_at dump o).slots name o c.named_slot_index-in-Clear.result) c.referent_of.ensures
    c.named_slot_index-in-Clear.ensures in
    rw c.in-Clear.is (object_slot dump edit c.in-Clear.id (λ (x : Object). x.referent) c.index_of-in-Clear.result
    (λ x slot. refl) c.index_of-in-Clear.ensures.distinct o c.named_slot_index-in-Clear.result c.in_ok-o-in-Clear.was c.index_of-in-Clear.ensures.first
    named)
