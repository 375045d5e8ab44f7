-- Each example is a dump under a log, with settled supports for what stands then.
-- By the law of settled supports these are the strengths of the objects.
use Rattle.std.proofs.Common.{◌≡◌, ◌<◌, ℕ, zero, suc, true, List, [], ◌∷◌, take, refl, arith}
use Rattle.hd_terms.specs.declared.Slot.{Slot}
use Rattle.hd_terms.specs.declared.Slot.TheVariants as slots
use Rattle.hd_terms.specs.declared.Strength.{Strength}
use Rattle.hd_terms.specs.declared.Strength.TheVariants as strengths
use Rattle.hd_terms.specs.declared.Edit.TheVariants as edits
use Rattle.hd_terms.specs.declared.RefKind.TheVariants as references
use Rattle.hd_terms.specs.declared.Event.{Event}
use Rattle.hd_terms.specs.declared.Support.TheVariants as supports
use Rattle.hd_terms.specs.Settled.{Reached, unreached}
use Rattle.hd_terms.specs.Examples as examples
use Rattle.hd_terms.specs.Fell.{Falls}
use Rattle.hd_terms.proofs.FellByTest.{fell, falls_by, decided}
use Rattle.hd_terms.proofs.ListedLemmas.{only_one}
use Rattle.hd_terms.proofs.examples.edit_examples.Goals as goal

-- held by root 0
abbrev held : Reached
held = record { strength = strengths.Strong; support = supports.Root 0; stamp = 0 }

-- strong by a slot of an object
abbrev strong_by : ℕ → Slot → ℕ → Reached
strong_by source slot stamp = record { strength = strengths.Strong; support = supports.Edge source slot; stamp = stamp }

-- what is kept of the two arrays, with and without the edge between them
abbrev both : List Reached
both = held ∷ strong_by 0 (slots.Element 0) 1 ∷ []

abbrev first : List Reached
first = held ∷ unreached ∷ []

pub returns-clause-fell : goal.returns-clause-fell
returns-clause-fell c = fell examples.two_arrays [] (take 1 examples.cut_and_undo) both first refl refl

-- of the two arrays the second alone falls
fallen_alone : (p : ℕ) → p < 2 → Falls examples.two_arrays [] (take 1 examples.cut_and_undo) p → p ≡ 1
fallen_alone zero lt falls =
    let is : falls_by both first 0 ≡ true = (decided examples.two_arrays [] (take 1 examples.cut_and_undo) both first refl refl 0 (omega arith)).1 falls in
    absurd cc
fallen_alone (suc zero) lt falls = refl
fallen_alone (suc (suc p)) lt falls = absurd (omega (arith, lt))

pub returns-clause-fallen : goal.returns-clause-fallen
returns-clause-fallen c =
    only_one examples.two_arrays (Falls examples.two_arrays [] (take 1 examples.cut_and_undo)) 1 (omega arith)
    ((decided examples.two_arrays [] (take 1 examples.cut_and_undo) both first refl refl 1 (omega arith)).0 refl) fallen_alone

pub returns-clause-none_back : goal.returns-clause-none_back
returns-clause-none_back c = fell examples.two_arrays (take 1 examples.cut_and_undo) [] first both refl refl

pub returns-clause-back : goal.returns-clause-back
returns-clause-back c = fell examples.two_arrays examples.cut_and_undo (take 1 examples.cut_and_undo) both first refl refl

pub returns-clause-cycle_fell : goal.returns-clause-cycle_fell
returns-clause-cycle_fell c =
    fell examples.cycle_behind_one_edge [] (take 1 examples.cut_and_undo)
    (held ∷ strong_by 0 (slots.Element 0) 1 ∷ strong_by 1 (slots.Element 0) 2 ∷ strong_by 2 (slots.Element 1) 3 ∷ strong_by 3 (slots.Element 0) 4 ∷ [])
    (held ∷ unreached ∷ unreached ∷ unreached ∷ unreached ∷ []) refl refl

-- a strength by a slot of an object
abbrev by : Strength → ℕ → Slot → ℕ → Reached
by s source slot stamp = record { strength = s; support = supports.Edge source slot; stamp = stamp }

-- what is reached of `phantom_referent` before and after its reference is cleared, followed directly and in closure
abbrev phantom_with : Reached → Reached → List Reached
phantom_with six seven =
    by strengths.Strong 4 slots.Super 3 ∷ unreached ∷ unreached ∷ unreached ∷ by strengths.Strong 7 slots.OfClass 2 ∷ unreached
    ∷ held ∷ by strengths.Strong 6 (slots.Element 0) 1 ∷ six ∷ seven ∷ unreached ∷ []

abbrev cleared : List Event
cleared = examples.does 0 (edits.Clear 0x21) ∷ []

pub returns-clause-direct_fell : goal.returns-clause-direct_fell
returns-clause-direct_fell c =
    fell examples.phantom_referent [] cleared (phantom_with (by strengths.Phantom 7 (slots.Field 0) 4) unreached) (phantom_with unreached unreached) refl refl

pub returns-clause-closure_fell : goal.returns-clause-closure_fell
returns-clause-closure_fell c =
    fell examples.phantom_closure [] cleared (phantom_with (by strengths.Phantom 7 (slots.Field 0) 4) (by strengths.Phantom 8 (slots.Element 0) 5))
    (phantom_with unreached unreached) refl refl

-- what is reached of `soft_then_weak`, by what is kept of 0x13, 0x22, 0x3, 0x5 and 0x4
abbrev soft_with : (r13 r22 r3 r5 r4 : Reached) → List Reached
soft_with r13 r22 r3 r5 r4 =
    by strengths.Strong 1 slots.Super 4 ∷ by strengths.Strong 7 slots.OfClass 3 ∷ r13 ∷ unreached ∷ unreached ∷ unreached
    ∷ held ∷ by strengths.Strong 6 (slots.Element 0) 1 ∷ r22 ∷ r3 ∷ by strengths.Strong 6 (slots.Element 1) 2 ∷ r5 ∷ r4 ∷ []

-- before, with no soft reference, and with one
abbrev all_soft : List Reached
all_soft = soft_with (by strengths.Soft 8 slots.OfClass 6) (by strengths.Soft 7 (slots.Field 0) 5) (by strengths.Weak 8 (slots.Field 0) 7)
    (by strengths.Soft 10 (slots.Field 0) 8) (by strengths.Soft 11 (slots.Element 0) 9)

abbrev no_soft : List Reached
no_soft = soft_with unreached unreached unreached unreached unreached

abbrev one_soft : List Reached
one_soft = soft_with unreached unreached unreached (by strengths.Soft 10 (slots.Field 0) 8) (by strengths.Soft 11 (slots.Element 0) 9)

pub returns-clause-clear_all : goal.returns-clause-clear_all
returns-clause-clear_all c = fell examples.soft_then_weak [] (take 1 examples.clears_of_soft) all_soft no_soft refl refl

pub returns-clause-clear_behind_clear_all : goal.returns-clause-clear_behind_clear_all
returns-clause-clear_behind_clear_all c = fell examples.soft_then_weak (take 1 examples.clears_of_soft)
    (take 2 examples.clears_of_soft) no_soft no_soft refl refl

pub returns-clause-clear_is_left : goal.returns-clause-clear_is_left
returns-clause-clear_is_left c = fell examples.soft_then_weak (take 3 examples.clears_of_soft) (take 2 examples.clears_of_soft) one_soft no_soft refl refl

pub returns-clause-no_clear_is_left : goal.returns-clause-no_clear_is_left
returns-clause-no_clear_is_left c = fell examples.soft_then_weak examples.clears_of_soft (take 3 examples.clears_of_soft) all_soft one_soft refl refl

pub returns-clause-clear_all_phantom : goal.returns-clause-clear_all_phantom
returns-clause-clear_all_phantom c =
    fell examples.phantom_referent [] (examples.does 0 (edits.ClearAll references.Phantom) ∷ [])
    (phantom_with (by strengths.Phantom 7 (slots.Field 0) 4) unreached) (phantom_with unreached unreached) refl refl

pub returns-clause-clear_all_of_none : goal.returns-clause-clear_all_of_none
returns-clause-clear_all_of_none c = fell examples.two_arrays [] (examples.does 0 (edits.ClearAll references.Weak) ∷ []) both both refl refl

pub returns-clause-cut_all : goal.returns-clause-cut_all
returns-clause-cut_all c = fell examples.soft_then_weak [] (take 1 examples.cuts_of_field) all_soft no_soft refl refl

pub returns-clause-cut_behind_cut_all : goal.returns-clause-cut_behind_cut_all
returns-clause-cut_behind_cut_all c = fell examples.soft_then_weak (take 1 examples.cuts_of_field) (take 2 examples.cuts_of_field) no_soft no_soft refl refl

pub returns-clause-cut_is_left : goal.returns-clause-cut_is_left
returns-clause-cut_is_left c = fell examples.soft_then_weak (take 3 examples.cuts_of_field) (take 2 examples.cuts_of_field) one_soft no_soft refl refl

pub returns-clause-no_cut_is_left : goal.returns-clause-no_cut_is_left
returns-clause-no_cut_is_left c = fell examples.soft_then_weak examples.cuts_of_field (take 3 examples.cuts_of_field) all_soft one_soft refl refl
