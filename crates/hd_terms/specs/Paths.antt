-- Paths from the roots, and their strength.
-- Source: java.lang.ref package specification, "Reachability": an object is strongly reachable if it can be reached
-- without traversing any reference object, softly if by traversing a soft reference, and so on. That each root of a dump
-- is strong is this project's choice.
use Rattle.std.specs.Prelude.{◌≡◌, ℕ, List, [], ◌∷◌, map, Contains}
use Rattle.hd_terms.specs.declared.Slot.{Slot}
use Rattle.hd_terms.specs.declared.EdgeKind.{EdgeKind}
use Rattle.hd_terms.specs.declared.Mode.{Mode}
use Rattle.hd_terms.specs.declared.Strength.{Strength}
use Rattle.hd_terms.specs.declared.Strength.TheVariants as strengths
use Rattle.hd_terms.specs.Ranks.{given_by, weaker_of, IsPassedOn}

-- a reference: from a slot of an object to an object, both by number
pub record Edge : Type 0 where
  pub source : ℕ
  pub slot : Slot
  pub target : ℕ
  pub kind : EdgeKind

-- a root by its number, and the number of the object that it holds
pub record RootEntry : Type 0 where
  pub number : ℕ
  pub target : ℕ

-- what stands: roots on objects, and edges from objects to objects; and how phantom references are followed
pub record Standing : Type 0 where
  pub mode : Mode
  pub roots : List RootEntry
  pub edges : List Edge

-- standing edges, each from the target of the one before, lead from an object to an object
abbrev pub Lead : Standing → ℕ → List Edge → ℕ → Type 0
Lead g a [] b = a ≡ b
Lead g a (e ∷ es) b = Contains g.edges e × (e.source ≡ a) × Lead g e.target es b

-- all but the last pass on what they give: in mode Direct only the last may be phantom
abbrev pub PassOn : Mode → List Edge → Type 0
PassOn mode [] = Unit {0}
PassOn mode (e ∷ []) = Unit {0}
PassOn mode (e ∷ f ∷ es) = IsPassedOn mode (given_by e.kind) × PassOn mode (f ∷ es)

-- a root path: a standing root on an object, and then any number of standing edges that pass on what they give
pub record IsPath (g : Standing) (r : RootEntry) (es : List Edge) (o : ℕ) : Type 0 where
  pub root : Contains g.roots r
  pub edges : Lead g r.target es o
  pub passed_on : PassOn g.mode es

-- its strength: the least rank of its edges, strong where it has none
abbrev pub path_strength : List Edge → Strength
path_strength [] = strengths.Strong
path_strength (e ∷ es) = weaker_of (given_by e.kind) (path_strength es)

-- the objects that a path goes through
abbrev pub objects_on : RootEntry → List Edge → List ℕ
objects_on r es = r.target ∷ map (λ e. e.target) es
