-- Each example is a dump with settled supports, which give the strengths; each support is one edge or root of it.
-- By the law of settled supports these are the strengths of the objects.
use Rattle.std.proofs.Common.{◌≡◌, ℕ, zero, suc, ◌≤◌, List, [], ◌∷◌, take, Contains, ◌==◌, ◌∙◌, true, not, lit<, lit≤, subst, sym, ap, refl, eq-eqb, arith}
use Rattle.std.specs.List.{list_all}
use Rattle.hd_terms.specs.declared.Slot.{Slot}
use Rattle.hd_terms.specs.declared.Slot.TheVariants as slots
use Rattle.hd_terms.specs.declared.Strength.{Strength}
use Rattle.hd_terms.specs.declared.Strength.TheVariants as strengths
use Rattle.hd_terms.specs.declared.Support.TheVariants as supports
use Rattle.hd_terms.specs.Paths.{Standing}
use Rattle.hd_terms.specs.Strengths.{HasStrength}
use Rattle.hd_terms.specs.EditedDump.{standing}
use Rattle.hd_terms.specs.Settled.{Reached, unreached, reached_at}
use Rattle.hd_terms.specs.Examples as examples
use Rattle.hd_terms.proofs.SettledByTest.{all_contains, strengths_of}
use Rattle.hd_terms.proofs.examples.heap_examples.Goals as goal

-- held by root 0
abbrev held : Reached
held = record { strength = strengths.Strong; support = supports.Root 0; stamp = 0 }

-- a strength that is owed to a slot of an object
abbrev by : Strength → ℕ → Slot → ℕ → Reached
by strength source slot stamp = record { strength = strength; support = supports.Edge source slot; stamp = stamp }

pub returns-clause-two_arrays : goal.returns-clause-two_arrays
returns-clause-two_arrays c = strengths_of (standing examples.two_arrays []) (held ∷ by strengths.Strong 0 (slots.Element 0) 1 ∷ []) refl 1

pub returns-clause-two_arrays_cut : goal.returns-clause-two_arrays_cut
returns-clause-two_arrays_cut c = strengths_of (standing examples.two_arrays (examples.does 0 (examples.cut 0) ∷ [])) (held ∷ []) refl 1

pub returns-clause-one_cut_is_left : goal.returns-clause-one_cut_is_left
returns-clause-one_cut_is_left c = strengths_of (standing examples.two_arrays (take 3 examples.two_cuts_of_one_slot)) (held ∷ []) refl 1

pub returns-clause-no_cut_is_left : goal.returns-clause-no_cut_is_left
returns-clause-no_cut_is_left c = strengths_of (standing examples.two_arrays examples.two_cuts_of_one_slot)
    (held ∷ by strengths.Strong 0 (slots.Element 0) 1 ∷ []) refl 1

-- weak_and_final_referents: what is kept of all objects, with that of 0x5 last
abbrev weak_or_final : Reached → List Reached
weak_or_final referent =
    by strengths.Strong 2 slots.Super 5 ∷ unreached ∷ by strengths.Strong 7 slots.OfClass 3 ∷ by strengths.Strong 5 slots.Super 6 ∷ unreached
    ∷ by strengths.Strong 8 slots.OfClass 4
    ∷ held ∷ by strengths.Strong 6 (slots.Element 0) 1 ∷ by strengths.Strong 6 (slots.Element 1) 2 ∷ referent ∷ []

pub returns-clause-weak_referent : goal.returns-clause-weak_referent
returns-clause-weak_referent c = strengths_of (standing examples.weak_and_final_referents []) (weak_or_final (by strengths.Weak 7 (slots.Field 0) 7)) refl 9

pub returns-clause-final_referent : goal.returns-clause-final_referent
returns-clause-final_referent c = strengths_of (standing examples.weak_and_final_referents (take 1 examples.clears))
    (weak_or_final (by strengths.Final 8 (slots.Field 0) 7)) refl 9

pub returns-clause-no_referent : goal.returns-clause-no_referent
returns-clause-no_referent c = strengths_of (standing examples.weak_and_final_referents examples.clears) (weak_or_final unreached) refl 9

-- soft_then_weak: what is kept of all objects, with that of 0x23, 0x5 and 0x4 last
abbrev soft_and_weak : List Reached → List Reached
soft_and_weak last =
    by strengths.Strong 1 slots.Super 4 ∷ by strengths.Strong 7 slots.OfClass 3 ∷ by strengths.Soft 8 slots.OfClass 6 ∷ unreached ∷ unreached ∷ unreached
    ∷ held ∷ by strengths.Strong 6 (slots.Element 0) 1 ∷ by strengths.Soft 7 (slots.Field 0) 5 ∷ by strengths.Weak 8 (slots.Field 0) 7 ∷ last

-- both ways stand
abbrev two_ways : List Reached
two_ways = soft_and_weak (by strengths.Strong 6 (slots.Element 1) 2 ∷ by strengths.Soft 10 (slots.Field 0) 8 ∷ by strengths.Soft 11 (slots.Element 0) 9 ∷ [])

pub returns-clause-soft : goal.returns-clause-soft
returns-clause-soft c = strengths_of (standing examples.soft_then_weak []) two_ways refl 8

pub returns-clause-soft_then_weak : goal.returns-clause-soft_then_weak
returns-clause-soft_then_weak c = strengths_of (standing examples.soft_then_weak []) two_ways refl 9

pub returns-clause-better_of_two_ways : goal.returns-clause-better_of_two_ways
returns-clause-better_of_two_ways c = strengths_of (standing examples.soft_then_weak []) two_ways refl 12

pub returns-clause-other_way : goal.returns-clause-other_way
returns-clause-other_way c =
    strengths_of (standing examples.soft_then_weak (examples.does 0 (examples.cut 1) ∷ []))
    (soft_and_weak (unreached ∷ unreached ∷ by strengths.Weak 9 (slots.Element 0) 8 ∷ [])) refl 12

-- cycle_behind_one_edge: each object owes its strength to the one before
abbrev around : List Reached
around =
    held ∷ by strengths.Strong 0 (slots.Element 0) 1 ∷ by strengths.Strong 1 (slots.Element 0) 2 ∷ by strengths.Strong 2 (slots.Element 1) 3
    ∷ by strengths.Strong 3 (slots.Element 0) 4 ∷ []

-- all five are strong
all_strong : (o : ℕ) → o ≤ 4 → (reached_at around o).strength ≡ strengths.Strong
all_strong zero le = refl
all_strong (suc zero) le = refl
all_strong (suc (suc zero)) le = refl
all_strong (suc (suc (suc zero))) le = refl
all_strong (suc (suc (suc (suc zero)))) le = refl
all_strong (suc (suc (suc (suc (suc o))))) le = absurd (omega arith)

-- only the first is reached
one_reached : (o : ℕ) → 1 ≤ o → (reached_at (held ∷ []) o).strength ≡ strengths.Unreachable
one_reached zero le = absurd (omega arith)
one_reached (suc o) le = refl

pub returns-clause-cycle : goal.returns-clause-cycle
returns-clause-cycle c o le =
    let g : Standing = standing examples.cycle_behind_one_edge [] in
    subst (λ (s : Strength). HasStrength g o s) (all_strong o le) (strengths_of g around refl o)

pub returns-clause-cycle_behind_one_edge : goal.returns-clause-cycle_behind_one_edge
returns-clause-cycle_behind_one_edge c o le =
    let g : Standing = standing examples.cycle_behind_one_edge (examples.does 0 (examples.cut 0) ∷ []) in
    subst (λ (s : Strength). HasStrength g o s) (one_reached o le) (strengths_of g (held ∷ []) refl o)

-- what no element equals isn't contained
none_equal : (xs : List ℕ) (x : ℕ) → list_all (λ y. not (y == x)) xs ≡ true → Contains xs x → ⊥
none_equal xs x h c =
    let differs : not (x == x) ≡ true = all_contains (λ y. not (y == x)) xs x h c in
    let same : not true ≡ true = ap not (sym (eq-eqb x x refl)) ∙ differs in
    cc

pub returns-clause-chain : goal.returns-clause-chain
returns-clause-chain c = record {
  path = record {
    root = (0, lit< tt, refl);
    edges = ((0, lit< tt, refl), refl, ((1, lit< tt, refl), refl, refl));
    passed_on = (lit≤ tt, tt);
  };
  strength = refl;
  simple = (none_equal (1 ∷ 2 ∷ []) 0 refl, (none_equal (2 ∷ []) 1 refl, (none_equal [] 2 refl, tt)));
}

-- phantom_referent
abbrev phantom : List Reached
phantom =
    by strengths.Strong 4 slots.Super 3 ∷ unreached ∷ unreached ∷ unreached ∷ by strengths.Strong 7 slots.OfClass 2 ∷ unreached
    ∷ held ∷ by strengths.Strong 6 (slots.Element 0) 1 ∷ by strengths.Phantom 7 (slots.Field 0) 4 ∷ unreached ∷ unreached ∷ []

pub returns-clause-phantom_referent : goal.returns-clause-phantom_referent
returns-clause-phantom_referent c = strengths_of (standing examples.phantom_referent []) phantom refl 8

pub returns-clause-behind_a_phantom : goal.returns-clause-behind_a_phantom
returns-clause-behind_a_phantom c = strengths_of (standing examples.phantom_referent []) phantom refl 9

pub returns-clause-its_own_referent : goal.returns-clause-its_own_referent
returns-clause-its_own_referent c = strengths_of (standing examples.phantom_referent []) phantom refl 10

-- phantom_closure
abbrev closure : List Reached
closure =
    by strengths.Strong 4 slots.Super 3 ∷ unreached ∷ unreached ∷ unreached ∷ by strengths.Strong 7 slots.OfClass 2 ∷ unreached
    ∷ held ∷ by strengths.Strong 6 (slots.Element 0) 1 ∷ by strengths.Phantom 7 (slots.Field 0) 4 ∷ by strengths.Phantom 8 (slots.Element 0) 5 ∷ unreached ∷ []

pub returns-clause-closure : goal.returns-clause-closure
returns-clause-closure c = strengths_of (standing examples.phantom_closure []) closure refl 9

pub returns-clause-closure_of_its_own_referent : goal.returns-clause-closure_of_its_own_referent
returns-clause-closure_of_its_own_referent c = strengths_of (standing examples.phantom_closure []) closure refl 10

pub returns-clause-closure_referent : goal.returns-clause-closure_referent
returns-clause-closure_referent c = strengths_of (standing examples.phantom_closure []) closure refl 8
