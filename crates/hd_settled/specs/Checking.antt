-- What a check of settled supports asks of a root and of an edge.
-- Source: this project. These are the clauses on roots and edges in what is settled.
use Rattle.std.specs.Prelude.{◌≡◌, ◌≤◌, List}
use Rattle.hd_terms.specs.declared.EdgeKind.{EdgeKind}
use Rattle.hd_terms.specs.declared.Mode.{Mode}
use Rattle.hd_terms.specs.declared.Strength.TheVariants as strengths
use Rattle.hd_terms.specs.Ranks.{rank, given_by, weaker_of}
use Rattle.hd_terms.specs.Paths.{Edge, RootEntry}
use Rattle.hd_terms.specs.Settled.{Reached, reached_at, PassesOn, IsBefore}
use Rattle.hd_strength.specs.Growing.{rank_at, offered_strength}

-- the object of a root is strong
abbrev pub MakesStrong : List Reached → RootEntry → Type 0
MakesStrong ks r = (reached_at ks r.target).strength ≡ strengths.Strong

-- an edge of a kind explains what is kept of its target by what is kept of its source
pub record Explains (mode : Mode) (from : Reached) (kind : EdgeKind) (to : Reached) : Type 0 where
  pub passes_on : PassesOn mode from
  pub strength : to.strength ≡ weaker_of from.strength (given_by kind)
  pub earlier : IsBefore from to

-- an edge from an object that passes its strength on gives its target no more than that has
abbrev pub GivesNoMore : Mode → List Reached → Edge → Type 0
GivesNoMore mode ks e = PassesOn mode (reached_at ks e.source) → rank (offered_strength ks e) ≤ rank_at ks e.target
