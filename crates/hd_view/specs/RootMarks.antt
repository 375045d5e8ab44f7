-- The roots on an object, by their numbers.
-- Source: this project.
use Rattle.std.specs.Prelude.{ℕ, ◌+◌, List, ◌++◌, length, map}
use Rattle.hd_terms.specs.declared.Event.{Event}
use Rattle.hd_terms.specs.Dump.{Dump}
use Rattle.hd_terms.specs.EditedDump.{root_stands}
use Rattle.hd_terms.specs.EdgeRows.{MarkedRoot}
use Rattle.hd_reverse.specs.declared.numbers.NumberOn.{NumberOn}
use Rattle.hd_reverse.specs.Numbers.{numbers_on}
use Rattle.hd_reverse.specs.Reverse.{Reverse, roots_in}

-- the numbers of the roots on an object: those of the dump, and then those that events add to a dump of `roots` roots
abbrev pub numbers_of_roots : (roots : ℕ) → Reverse → List NumberOn → ℕ → List ℕ
numbers_of_roots roots reverse added o = roots_in reverse o ++ map (λ (k : ℕ). roots + k) (numbers_on added o)

-- the root of a number on an object, with whether it stands under a log
abbrev pub mark_of : Dump → List Event → ℕ → ℕ → MarkedRoot
mark_of dump log o number = record { root = record { number = number; target = o }; stands = root_stands (length dump.roots) log number }
