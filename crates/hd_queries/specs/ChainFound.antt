-- The chain of an object, as it is handed out.
-- Source: this project.
use Rattle.std.specs.Prelude.{◌≡◌, ℕ, ◌<◌, List, length, map, All, Option, Some, None}
use Rattle.hd_terms.specs.declared.Slot.{Slot}
use Rattle.hd_terms.specs.declared.Strength.{Strength}
use Rattle.hd_terms.specs.declared.Strength.TheVariants as strengths
use Rattle.hd_terms.specs.declared.Event.{Event}
use Rattle.hd_terms.specs.Chains.{IsChain}
use Rattle.hd_terms.specs.Dump.{Dump}
use Rattle.hd_terms.specs.EditedDump.{standing}
use Rattle.hd_terms.specs.Paths.{Edge, RootEntry}
use Rattle.hd_terms.specs.Settled.{Reached, IsStoredChain}
use Rattle.hd_terms.specs.Strengths.{HasStrength}
use Rattle.hd_queries.specs.declared.chain.Link.{Link}
use Rattle.hd_queries.specs.declared.chain.Chain.{Chain}

-- the edge leads from a slot of an object to an object
pub record IsEdgeOf (e : Edge) (source : ℕ) (slot : Slot) (target : ℕ) : Type 0 where
  pub from_source : e.source ≡ source
  pub from_slot : e.slot ≡ slot
  pub to_target : e.target ≡ target

-- an edge of a chain
abbrev pub link_of : Edge → Link
link_of e = record { source = e.source; slot = e.slot; kind = e.kind; target = e.target }

-- the source and the target of a link are among `objects` objects
pub record IsWithin (objects : ℕ) (link : Link) : Type 0 where
  pub from : link.source < objects
  pub to : link.target < objects

-- the root that a chain begins with, and the object that it holds
abbrev pub root_of : Chain → RootEntry
root_of chain = record { number = chain.root; target = chain.start }

-- the chain is one of an object that has this strength, along these edges: the one that is stored, from the object's support to
-- that of its source and so on back to the root. Each of its objects is one of the dump's, and it has fewer links than these
pub record IsFoundChain (dump : Dump) (log : List Event) (ks : List Reached) (o : ℕ) (chain : Chain) : Type 0 where
  pub strength : Strength
  pub edges : List Edge
  pub has_strength : HasStrength (standing dump log) o strength
  pub is_chain : IsChain (standing dump log) (root_of chain) edges o strength
  pub stored : IsStoredChain (standing dump log) ks (root_of chain) edges o
  pub links : chain.links.items ≡ map link_of edges
  pub start : chain.start < length dump.objects
  pub within : All (IsWithin (length dump.objects)) chain.links.items
  pub few : length chain.links.items < length dump.objects

-- the chain of an object under a log, by what is kept of the objects, none where the object is unreachable
abbrev pub IsChainFound : Dump → List Event → List Reached → ℕ → Option Chain → Type 0
IsChainFound dump log ks o None = HasStrength (standing dump log) o strengths.Unreachable
IsChainFound dump log ks o (Some chain) = IsFoundChain dump log ks o chain
