-- Objects that hang on roots by what is kept of them alone: no edge is looked at.
use Rattle.std.specs.Prelude.{◌≡◌, ℕ, ◌<◌, ◌≤◌, ◌⊎◌, List, length, true}
use Rattle.hd_terms.specs.declared.Mode.{Mode}
use Rattle.hd_terms.specs.declared.Slot.{Slot}
use Rattle.hd_terms.specs.declared.Support.{Support}
use Rattle.hd_terms.specs.declared.Support.TheVariants as supports
use Rattle.hd_terms.specs.Paths.{Standing}
use Rattle.hd_terms.specs.Ranks.{rank}
use Rattle.hd_terms.specs.Settled.{Reached, reached_at, IsBefore, PassesOn}
use Rattle.hd_terms.specs.EdgeRows.{MarkedEdge}
use Rattle.hd_repair.specs.Spreading.{rank_at, offered_strength, IsBacked}

-- an object hangs on a root: a root supports it, or an object that comes before it and hangs
pub data IsHung (ks : List Reached) : ℕ → Type 0 where
  by_root : {o : ℕ} (number : ℕ) → (reached_at ks o).support ≡ supports.Root number → IsHung ks o
  by_source : {o : ℕ} (source : ℕ) (slot : Slot) → (reached_at ks o).support ≡ supports.Edge source slot → IsBefore (reached_at ks source) (reached_at ks o)
      → IsHung ks source → IsHung ks o

-- each source comes before what it supports, but for late sources
abbrev pub AreInOrder : List Reached → (Late : ℕ → Type 0) → Type 0
AreInOrder ks Late = (o source : ℕ) (slot : Slot) → (reached_at ks o).support ≡ supports.Edge source slot
    → Late source ⊎ IsBefore (reached_at ks source) (reached_at ks o)

-- no source is late
abbrev pub NoneLate : ℕ → Type 0
NoneLate o = ⊥

-- each source is an object
abbrev pub HaveSources : List Reached → Type 0
HaveSources ks = (o source : ℕ) (slot : Slot) → (reached_at ks o).support ≡ supports.Edge source slot → source < length ks

-- a support is a root, or an edge from an object that hangs
abbrev pub IsHolding : List Reached → Support → Type 0
IsHolding ks supports.Nothing = ⊥
IsHolding ks (supports.Root n) = Unit {0}
IsHolding ks (supports.Edge source slot) = IsHung ks source

-- a support gives an object what it has, and hangs on a root
abbrev pub IsSupportFor : Standing → List Reached → ℕ → Support → Type 0
IsSupportFor g ks o by = IsBacked g ks o (reached_at ks o).strength by × IsHolding ks by

-- an edge that stands gives its target what that has, by this support, from an object that hangs on a root
pub record IsGiven (mode : Mode) (ks : List Reached) (y : MarkedEdge) (by : Support) : Type 0 where
  pub stands : y.stands ≡ true
  pub passes_on : PassesOn mode (reached_at ks y.edge.source)
  pub enough : rank_at ks y.edge.target ≤ rank (offered_strength ks y.edge)
  pub hung : IsHung ks y.edge.source
  pub support : by ≡ supports.Edge y.edge.source y.edge.slot
