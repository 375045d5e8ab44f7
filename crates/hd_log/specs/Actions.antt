-- What an event does, as its action, an ID or a root's number, and the number of a slot or an event.
-- Source: this project.
use Rattle.std.specs.Prelude.{ℕ}
use Rattle.hd_terms.specs.declared.Edit.TheVariants as edits
use Rattle.hd_terms.specs.declared.RefKind.{RefKind}
use Rattle.hd_terms.specs.declared.RefKind.TheVariants as references
use Rattle.hd_terms.specs.declared.Slot.TheVariants as slots
use Rattle.hd_terms.specs.declared.slots.SlotKind.{SlotKind}
use Rattle.hd_terms.specs.declared.slots.SlotKind.TheVariants as kinds
use Rattle.hd_terms.specs.declared.What.{What}
use Rattle.hd_terms.specs.declared.What.TheVariants as whats
use Rattle.hd_log.specs.declared.packed_event.Action.{Action}
use Rattle.hd_log.specs.declared.packed_event.Action.TheVariants as actions

-- a cut of a slot of a kind
abbrev pub cut_of : SlotKind → Action
cut_of kinds.Field = actions.CutField
cut_of kinds.Element = actions.CutElement
cut_of kinds.Static = actions.CutStatic
cut_of kinds.Const = actions.CutConst
cut_of kinds.OfClass = actions.CutOfClass
cut_of kinds.Super = actions.CutSuper
cut_of kinds.Loader = actions.CutLoader
cut_of kinds.Signers = actions.CutSigners
cut_of kinds.Domain = actions.CutDomain

-- a clear of all reference objects of a kind
abbrev pub clear_all_of : RefKind → Action
clear_all_of references.Soft = actions.ClearAllSoft
clear_all_of references.Weak = actions.ClearAllWeak
clear_all_of references.Final = actions.ClearAllFinal
clear_all_of references.Phantom = actions.ClearAllPhantom

-- what an event with an action does
abbrev pub what_by : Action → (id number : ℕ) → What
what_by actions.CutField id number = whats.Do (edits.Cut id (slots.Field number))
what_by actions.CutElement id number = whats.Do (edits.Cut id (slots.Element number))
what_by actions.CutStatic id number = whats.Do (edits.Cut id (slots.Static number))
what_by actions.CutConst id number = whats.Do (edits.Cut id (slots.Const number))
what_by actions.CutOfClass id number = whats.Do (edits.Cut id slots.OfClass)
what_by actions.CutSuper id number = whats.Do (edits.Cut id slots.Super)
what_by actions.CutLoader id number = whats.Do (edits.Cut id slots.Loader)
what_by actions.CutSigners id number = whats.Do (edits.Cut id slots.Signers)
what_by actions.CutDomain id number = whats.Do (edits.Cut id slots.Domain)
what_by actions.Clear id number = whats.Do (edits.Clear id)
what_by actions.Drop id number = whats.Do (edits.Drop id)
what_by actions.Add id number = whats.Do (edits.Add id)
what_by actions.ClearAllSoft id number = whats.Do (edits.ClearAll references.Soft)
what_by actions.ClearAllWeak id number = whats.Do (edits.ClearAll references.Weak)
what_by actions.ClearAllFinal id number = whats.Do (edits.ClearAll references.Final)
what_by actions.ClearAllPhantom id number = whats.Do (edits.ClearAll references.Phantom)
what_by actions.CutAll id number = whats.Do (edits.CutAll id number)
what_by actions.Undo id number = whats.Undo number
