-- What a search has found so far, and what is seen of it: all that it has to say of an object, or its strength alone.
-- Source: this project.
use Rattle.std.specs.Prelude.{◌≡◌, Bool, true, false, List, map, nat_lt}
use Rattle.hd_terms.specs.declared.Strength.{Strength}
use Rattle.hd_terms.specs.declared.Support.TheVariants as supports
use Rattle.hd_terms.specs.Ranks.{rank}
use Rattle.hd_terms.specs.Paths.{Standing}
use Rattle.hd_terms.specs.Settled.{Reached, Settled}

-- something reaches the object
abbrev pub is_found : Reached → Bool
is_found k = nat_lt 0 (rank k.strength)

-- the strength of an object
abbrev pub strength_of : Reached → Strength
strength_of k = k.strength

-- an object of a strength of which nothing else is known
abbrev pub only_strength : Strength → Reached
only_strength s = record { strength = s; support = supports.Nothing; stamp = 0 }

-- what is seen of an object: all, or its strength alone
abbrev pub seen : Bool → Reached → Reached
seen true k = k
seen false k = only_strength k.strength

-- what is seen of the objects, and whether that is all
pub record Findings : Type 0 where
  pub whole : Bool
  pub list : List Reached

-- what is seen: all that is kept, or the strengths
abbrev pub list_of : Bool → List Strength → List Reached → List Reached
list_of true ss ks = ks
list_of false ss ks = map only_strength ss

-- the strengths are those of settled supports
pub record AreSettled (g : Standing) (ss : List Strength) : Type 0 where
  pub kept : List Reached
  pub settled : Settled g kept
  pub same : ss ≡ map strength_of kept
