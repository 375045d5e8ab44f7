use Rattle.std.proofs.Common.{◌≡◌, ℕ, Some, ap, refl, arith}
use Rattle.hd_terms.specs.declared.Edit.{Edit}
use Rattle.hd_terms.specs.declared.Event.{Event}
use Rattle.hd_terms.specs.declared.What.TheVariants as whats
use Rattle.hd_terms.specs.Examples as examples
use Rattle.hd_terms.proofs.LawfulByTest.{lawful}
use Rattle.hd_terms.proofs.examples.log_examples.Goals as goal

-- one event at one place
same_event : (a b : Event) → Some a ≡ Some b → a ≡ b
same_event a b h = cc

-- an undo is no edit
not_an_undo : (k : ℕ) (edit : Edit) → whats.Undo k ≡ whats.Do edit → ⊥
not_an_undo k edit h = cc

pub returns-clause-two_cuts_of_one_slot : goal.returns-clause-two_cuts_of_one_slot
returns-clause-two_cuts_of_one_slot c = lawful examples.two_cuts_of_one_slot refl

pub returns-clause-cut_and_undo : goal.returns-clause-cut_and_undo
returns-clause-cut_and_undo c = lawful examples.cut_and_undo refl

pub returns-clause-undo_of_an_undo : goal.returns-clause-undo_of_an_undo
returns-clause-undo_of_an_undo c h = not_an_undo 0 (h.undos 2 1 0 refl).edit (ap (λ (e : Event). e.what) (same_event _ _ (h.undos 2 1 0 refl).own))

pub returns-clause-undo_of_another : goal.returns-clause-undo_of_another
returns-clause-undo_of_another c h = let who : ◌≡◌ {A = ℕ} 1 0 = ap (λ (e : Event). e.who) (same_event _ _ (h.undos 1 0 0 refl).own) in omega arith

pub returns-clause-second_undo : goal.returns-clause-second_undo
returns-clause-second_undo c h = (h.undos 2 0 0 refl).first 1 0 (omega arith) refl
