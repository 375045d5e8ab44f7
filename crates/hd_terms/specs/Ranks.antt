-- Ranks of strengths, and what is passed on along a path.
-- Source: java.lang.ref package specification (Java SE 17), "Reachability", whose list goes from strong to unreachable.
-- That Final stands between Weak and Phantom, and what is passed on, are this project's choice.
use Rattle.std.specs.Prelude.{ℕ, ◌≤◌, ◌==◌, Bool, nat_le, if◌then◌else◌}
use Rattle.hd_terms.specs.declared.Strength.{Strength}
use Rattle.hd_terms.specs.declared.Strength.TheVariants as strengths
use Rattle.hd_terms.specs.declared.EdgeKind.{EdgeKind}
use Rattle.hd_terms.specs.declared.EdgeKind.TheVariants as kinds
use Rattle.hd_terms.specs.declared.RefKind.{RefKind}
use Rattle.hd_terms.specs.declared.RefKind.TheVariants as references
use Rattle.hd_terms.specs.declared.Mode.{Mode}
use Rattle.hd_terms.specs.declared.Mode.TheVariants as modes

-- the ranks, from the worst
abbrev pub rank : Strength → ℕ
rank strengths.Unreachable = 0
rank strengths.Phantom = 1
rank strengths.Final = 2
rank strengths.Weak = 3
rank strengths.Soft = 4
rank strengths.Strong = 5

-- the strength of an edge's kind
abbrev pub given_by : EdgeKind → Strength
given_by kinds.Strong = strengths.Strong
given_by kinds.Soft = strengths.Soft
given_by kinds.Weak = strengths.Weak
given_by kinds.Final = strengths.Final
given_by kinds.Phantom = strengths.Phantom

-- the kind of the edges that go through the referents of a kind of reference objects
abbrev pub kind_of_references : RefKind → EdgeKind
kind_of_references references.Soft = kinds.Soft
kind_of_references references.Weak = kinds.Weak
kind_of_references references.Final = kinds.Final
kind_of_references references.Phantom = kinds.Phantom

-- one kind: they give one rank
abbrev pub same_kind : EdgeKind → EdgeKind → Bool
same_kind a b = rank (given_by a) == rank (given_by b)

-- the one of lesser rank
abbrev pub weaker_of : Strength → Strength → Strength
weaker_of a b = if nat_le (rank a) (rank b) then a else b

-- the least strength that an object must have for paths to go on from it: in mode Direct an object that is only phantom
-- reachable leads no further, in mode Closure it does
abbrev pub least_passed_on : Mode → Strength
least_passed_on modes.Direct = strengths.Final
least_passed_on modes.Closure = strengths.Phantom

-- a strength that is passed on
abbrev pub IsPassedOn : Mode → Strength → Type 0
IsPassedOn mode s = rank (least_passed_on mode) ≤ rank s
