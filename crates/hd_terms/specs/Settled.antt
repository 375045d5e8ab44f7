-- Settled supports: for each object one support that explains its strength, in an order that excludes cycles. They are the
-- certificate that a widest-path search, as Dijkstra's with buckets, leaves behind: whoever has them needs no search.
-- Source: this project. That they have the strengths of the definition is a law, proved in `laws`.
use Rattle.std.specs.Prelude.{◌≡◌, ℕ, ◌≤◌, ◌<◌, ◌⊎◌, List, Contains, slice_index_or}
use Rattle.std.specs.List.{AllByRecursion}
use Rattle.hd_terms.specs.declared.Mode.{Mode}
use Rattle.hd_terms.specs.declared.Strength.{Strength}
use Rattle.hd_terms.specs.declared.Strength.TheVariants as strengths
use Rattle.hd_terms.specs.declared.Support.{Support}
use Rattle.hd_terms.specs.declared.Support.TheVariants as supports
use Rattle.hd_terms.specs.declared.Slot.{Slot}
use Rattle.hd_terms.specs.Ranks.{rank, given_by, weaker_of, IsPassedOn}
use Rattle.hd_terms.specs.Paths.{Edge, RootEntry, Standing, Lead}

-- what is kept of an object: its strength, what it owes it to, and a number that orders objects of one strength
pub record Reached : Type 0 where
  pub strength : Strength
  pub support : Support
  pub stamp : ℕ

-- what is kept of an object that nothing reaches
abbrev pub unreached : Reached
unreached = record { strength = strengths.Unreachable; support = supports.Nothing; stamp = 0 }

-- what is kept of the object of a number
abbrev pub reached_at : List Reached → ℕ → Reached
reached_at ks o = slice_index_or ks o unreached

-- its strength is passed on
abbrev pub PassesOn : Mode → Reached → Type 0
PassesOn mode k = IsPassedOn mode k.strength

-- an object with this comes before one with that: a greater rank, or the same rank and a lesser stamp
abbrev pub IsBefore : Reached → Reached → Type 0
IsBefore a b = (rank b.strength < rank a.strength) ⊎ ((rank b.strength ≡ rank a.strength) × (a.stamp < b.stamp))

-- the standing edge from a slot of source to o supports o
pub record SupportedBy (g : Standing) (ks : List Reached) (o source : ℕ) (slot : Slot) (e : Edge) : Type 0 where
  pub stands : Contains g.edges e
  pub from_source : e.source ≡ source
  pub from_slot : e.slot ≡ slot
  pub to_object : e.target ≡ o
  pub passes_on : PassesOn g.mode (reached_at ks source)
  pub strength : (reached_at ks o).strength ≡ weaker_of (reached_at ks source).strength (given_by e.kind)
  pub earlier : IsBefore (reached_at ks source) (reached_at ks o)

-- what a support says of its object: nothing says unreachable, a root says strong, an edge says the weaker of its
-- source's strength and its own kind
abbrev pub IsSupported : Standing → List Reached → ℕ → Support → Type 0
IsSupported g ks o supports.Nothing = (reached_at ks o).strength ≡ strengths.Unreachable
IsSupported g ks o (supports.Root n) = Contains g.roots (record { number = n; target = o }) × ((reached_at ks o).strength ≡ strengths.Strong)
IsSupported g ks o (supports.Edge source slot) = (e : Edge) × SupportedBy g ks o source slot e

-- strengths, supports and stamps are settled for what stands: each support is what it says, roots make strong, and
-- no edge gives more than its target has
pub record Settled (g : Standing) (ks : List Reached) : Type 0 where
  pub supported : (o : ℕ) → IsSupported g ks o (reached_at ks o).support
  pub by_roots : (r : RootEntry) → Contains g.roots r → (reached_at ks r.target).strength ≡ strengths.Strong
  pub by_edges : (e : Edge) → Contains g.edges e → PassesOn g.mode (reached_at ks e.source)
      → rank (weaker_of (reached_at ks e.source).strength (given_by e.kind)) ≤ rank (reached_at ks e.target).strength

-- the stored chain of an object: supports followed back to a root, written from the root on
pub record IsStoredChain (g : Standing) (ks : List Reached) (r : RootEntry) (es : List Edge) (o : ℕ) : Type 0 where
  pub root : (reached_at ks r.target).support ≡ supports.Root r.number
  pub edges : AllByRecursion (λ e. (reached_at ks e.target).support ≡ supports.Edge e.source e.slot) es
  pub leads : Lead g r.target es o
