-- Each example is a dump with settled supports, whose strengths are counted by group.
-- The counts are computed.
use Rattle.std.proofs.Common.{ℕ, List, [], ◌∷◌, take, refl}
use Rattle.hd_terms.specs.declared.Slot.{Slot}
use Rattle.hd_terms.specs.declared.Slot.TheVariants as slots
use Rattle.hd_terms.specs.declared.Strength.TheVariants as strengths
use Rattle.hd_terms.specs.declared.Group.TheVariants as groups
use Rattle.hd_terms.specs.declared.Support.TheVariants as supports
use Rattle.hd_terms.specs.Settled.{Reached, unreached}
use Rattle.hd_terms.specs.Examples as examples
use Rattle.hd_terms.proofs.TotalsByTest.{total, group_total}
use Rattle.hd_terms.proofs.examples.total_examples.Goals as goal

-- held by root 0
abbrev held : Reached
held = record { strength = strengths.Strong; support = supports.Root 0; stamp = 0 }

-- strong by a slot of an object
abbrev strong_by : ℕ → Slot → ℕ → Reached
strong_by source slot stamp = record { strength = strengths.Strong; support = supports.Edge source slot; stamp = stamp }

-- what is kept of the two arrays, with and without the edge between them
abbrev both : List Reached
both = held ∷ strong_by 0 (slots.Element 0) 1 ∷ []

abbrev first : List Reached
first = held ∷ unreached ∷ []

-- what is kept of `opaque_and_repeated`: the array leads to both instances, and the first of these to its class
abbrev opaque : List Reached
opaque = held ∷ strong_by 2 slots.OfClass 3 ∷ strong_by 0 (slots.Element 0) 1 ∷ strong_by 0 (slots.Element 1) 2 ∷ []

pub returns-clause-all : goal.returns-clause-all
returns-clause-all c = total examples.two_arrays [] both refl strengths.Strong

pub returns-clause-group : goal.returns-clause-group
returns-clause-group c = group_total examples.two_arrays [] both refl strengths.Strong (groups.Class 0)

pub returns-clause-no_such_group : goal.returns-clause-no_such_group
returns-clause-no_such_group c = group_total examples.two_arrays [] both refl strengths.Strong (groups.Prim 10)

pub returns-clause-group_after_a_cut : goal.returns-clause-group_after_a_cut
returns-clause-group_after_a_cut c = group_total examples.two_arrays (take 1 examples.cut_and_undo) first refl strengths.Strong (groups.Class 0)

pub returns-clause-unreachable_after_a_cut : goal.returns-clause-unreachable_after_a_cut
returns-clause-unreachable_after_a_cut c = group_total examples.two_arrays (take 1 examples.cut_and_undo) first refl strengths.Unreachable (groups.Class 0)

pub returns-clause-classes : goal.returns-clause-classes
returns-clause-classes c = group_total examples.opaque_and_repeated [] opaque refl strengths.Strong groups.Classes

pub returns-clause-opaque : goal.returns-clause-opaque
returns-clause-opaque c = group_total examples.opaque_and_repeated [] opaque refl strengths.Strong (groups.Class 0x98)

pub returns-clause-array : goal.returns-clause-array
returns-clause-array c = group_total examples.opaque_and_repeated [] opaque refl strengths.Strong (groups.Class 0x99)
