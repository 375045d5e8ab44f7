-- Objects that fall: those that wait, and all that hangs below them.
-- Source: this project.
use Rattle.std.specs.Prelude.{◌≡◌, ◌≢◌, ℕ, ◌≤◌, ◌⊎◌, List, [], ◌∷◌, ◌++◌, length, Contains}
use Rattle.hd_terms.specs.declared.Slot.{Slot}
use Rattle.hd_terms.specs.declared.Support.TheVariants as supports
use Rattle.hd_terms.specs.Chains.{NoneTwice}
use Rattle.hd_terms.specs.EdgeRows.{MarkedEdge, Rows}
use Rattle.hd_terms.specs.Settled.{Reached, reached_at}
use Rattle.hd_repair.specs.declared.waiting.Region.{Region}
use Rattle.hd_repair.specs.Losing.{strengths_of, without_support}
use Rattle.hd_repair.specs.Spreading.{rank_at}

-- the target of an edge is added, if the edge supports it
abbrev pub IsBelowAdded : List Reached → ℕ → Slot → ℕ → (below below' : List ℕ) → Type 0
IsBelowAdded ks source slot t below below' =
    (((reached_at ks t).support ≡ supports.Edge source slot) × (below' ≡ below ++ t ∷ []))
    ⊎ (((reached_at ks t).support ≢ supports.Edge source slot) × (below' ≡ below))

-- an object is supported by one of these
pub record IsUnder (ks : List Reached) (sources : List ℕ) (o : ℕ) : Type 0 where
  pub source : ℕ
  pub slot : Slot
  pub from : Contains sources source
  pub support : (reached_at ks o).support ≡ supports.Edge source slot

-- what these edges from source support is found, and nothing else that it doesn't support
pub record FindsFrom (ks : List Reached) (source : ℕ) (entries : List MarkedEdge) (old new : List ℕ) : Type 0 where
  pub kept : (x : ℕ) → Contains old x → Contains new x
  pub only : (x : ℕ) → Contains new x → Contains old x ⊎ IsUnder ks (source ∷ []) x
  pub all : (y : MarkedEdge) → Contains entries y → (reached_at ks y.edge.target).support ≡ supports.Edge source y.edge.slot → Contains new y.edge.target

-- what the edges from these objects support is found, and nothing else
pub record FindsBelow (r : Rows) (ks : List Reached) (sources old new : List ℕ) : Type 0 where
  pub kept : (x : ℕ) → Contains old x → Contains new x
  pub only : (x : ℕ) → Contains new x → Contains old x ⊎ IsUnder ks sources x
  pub all : (source : ℕ) (y : MarkedEdge) → Contains sources source → Contains (r.out source) y
      → (reached_at ks y.edge.target).support ≡ supports.Edge source y.edge.slot → Contains new y.edge.target

-- some objects lost the strength that they had, each once, and what each had is noted. All else is as it was
pub record HaveLost (ks ks' : List Reached) (gone gone' : Region) : Type 0 where
  pub more : List ℕ
  pub objects : gone'.objects.items ≡ gone.objects.items ++ more
  pub strengths : gone'.strengths.items ≡ gone.strengths.items ++ strengths_of ks more
  pub count : length ks' ≡ length ks
  pub once : NoneTwice more
  pub had : (x : ℕ) → Contains more x → 1 ≤ rank_at ks x
  pub fallen : (x : ℕ) → Contains more x → reached_at ks' x ≡ without_support (reached_at ks x)
  pub others : (x : ℕ) → (Contains more x → ⊥) → reached_at ks' x ≡ reached_at ks x

-- those of some objects that had a strength have lost it
pub record AreDetached (ks ks' : List Reached) (gone gone' : Region) (objects : List ℕ) : Type 0 where
  pub lost : HaveLost ks ks' gone gone'
  pub from : (x : ℕ) → Contains lost.more x → Contains objects x
  pub all : (x : ℕ) → Contains objects x → rank_at ks' x ≡ 0

-- an object has lost its strength, if it had one
abbrev pub IsDetached : (ks ks' : List Reached) (gone gone' : Region) → ℕ → Type 0
IsDetached ks ks' gone gone' o = AreDetached ks ks' gone gone' (o ∷ [])
