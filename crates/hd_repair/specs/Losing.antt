-- A loss on its way: objects that lost their support wait, hang on another one, or are gone.
use Rattle.std.specs.Prelude.{◌≡◌, ◌≢◌, ℕ, ◌+◌, ◌^◌, ◌≤◌, ◌<◌, ◌⊎◌, List, [], ◌∷◌, ◌++◌, length, map, drop, Contains, sum_by}
use Rattle.hd_terms.specs.declared.Slot.{Slot}
use Rattle.hd_terms.specs.declared.Strength.{Strength}
use Rattle.hd_terms.specs.declared.Strength.TheVariants as strengths
use Rattle.hd_terms.specs.declared.Support.{Support}
use Rattle.hd_terms.specs.declared.Support.TheVariants as supports
use Rattle.hd_terms.specs.Chains.{NoneTwice}
use Rattle.hd_terms.specs.EdgeRows.{Rows, MarkedEdge}
use Rattle.hd_terms.specs.Paths.{Standing}
use Rattle.hd_terms.specs.Settled.{Reached, Settled, IsBefore, reached_at}
use Rattle.hd_terms.specs.Regions.{Holding, InLossRegion}
use Rattle.hd_repair.specs.declared.waiting.Losing.{Losing}
use Rattle.hd_repair.specs.Hanging.{AreInOrder, IsHung}
use Rattle.hd_repair.specs.Spreading.{IsBacked, rank_at}

-- what is kept was settled for something that stood
pub record WasSettled (ks : List Reached) : Type 0 where
  pub before : Standing
  pub settled : Settled before ks

-- the strengths that objects had
abbrev pub strengths_of : List Reached → List ℕ → List Strength
strengths_of ks objects = map (λ (o : ℕ). (reached_at ks o).strength) objects

-- what is kept of an object that waits for a support
abbrev pub loosened : Reached → Reached
loosened k = record { strength = k.strength; support = supports.Nothing; stamp = k.stamp }

-- what is kept of an object that found none
abbrev pub without_support : Reached → Reached
without_support k = record { strength = strengths.Unreachable; support = supports.Nothing; stamp = k.stamp }

-- an object joins those that wait, before or behind them
abbrev pub Joins : (waiting waiting' : List ℕ) → ℕ → Type 0
Joins waiting waiting' o = (waiting' ≡ waiting ++ o ∷ []) ⊎ (waiting' ≡ o ∷ waiting)

-- o was held up by holder, and isn't any more
pub record IsLoose (ks ks' : List Reached) (o : ℕ) (holder : Support) : Type 0 where
  pub held : (reached_at ks o).support ≡ holder
  pub here : reached_at ks' o ≡ loosened (reached_at ks o)
  pub others : (x : ℕ) → x ≢ o → reached_at ks' x ≡ reached_at ks x
  pub count : length ks' ≡ length ks

-- o isn't held up by holder, and nothing changes
pub record IsHeldOtherwise (ks ks' : List Reached) (o : ℕ) (holder : Support) : Type 0 where
  pub not_held : (reached_at ks o).support ≢ holder
  pub same_kept : ks' ≡ ks

-- o was held up by holder, and waits
pub record IsLoosened (ks ks' : List Reached) (waiting waiting' : List ℕ) (o : ℕ) (holder : Support) : Type 0 where
  pub held : (reached_at ks o).support ≡ holder
  pub here : reached_at ks' o ≡ loosened (reached_at ks o)
  pub others : (x : ℕ) → x ≢ o → reached_at ks' x ≡ reached_at ks x
  pub count : length ks' ≡ length ks
  pub joined : Joins waiting waiting' o

-- o isn't held up by holder, and nothing changes
pub record IsLeft (ks ks' : List Reached) (waiting waiting' : List ℕ) (o : ℕ) (holder : Support) : Type 0 where
  pub not_held : (reached_at ks o).support ≢ holder
  pub same_kept : ks' ≡ ks
  pub same_waiting : waiting' ≡ waiting

-- more objects wait, each of which a holder of some kind held up; nothing else changes
pub record AreLoosened (ks ks' : List Reached) (waiting waiting' : List ℕ) (IsHolder : ℕ → Support → Type 0) : Type 0 where
  pub more : List ℕ
  pub waits : (x : ℕ) → Contains waiting' x → Contains waiting x ⊎ Contains more x
  pub still : (x : ℕ) → Contains waiting x → Contains waiting' x
  pub too : (x : ℕ) → Contains more x → Contains waiting' x
  pub apart : NoneTwice waiting → ((x : ℕ) → Contains waiting x → Contains more x → ⊥) → NoneTwice waiting'
  pub count : length ks' ≡ length ks
  pub once : NoneTwice more
  pub some : (o : ℕ) → Contains more o → (reached_at ks o).support ≢ supports.Nothing
  pub held : (o : ℕ) → Contains more o → IsHolder o (reached_at ks o).support
  pub loose : (o : ℕ) → Contains more o → reached_at ks' o ≡ loosened (reached_at ks o)
  pub others : (o : ℕ) → (Contains more o → ⊥) → reached_at ks' o ≡ reached_at ks o

-- what is lost holds an object
abbrev pub IsLost : List Holding → ℕ → Support → Type 0
IsLost lost o by = Contains lost (record { target = o; holder = by })

-- an edge from an object holds another
abbrev pub IsFrom : ℕ → ℕ → Support → Type 0
IsFrom source o by = (slot : Slot) × (by ≡ supports.Edge source slot)

-- none of these edges from source supports its target
abbrev pub SupportNone : List Reached → ℕ → List MarkedEdge → Type 0
SupportNone ks source entries = (y : MarkedEdge) → Contains entries y → (reached_at ks y.edge.target).support ≢ supports.Edge source y.edge.slot

-- none of these items supports its target
abbrev pub HoldNone : List Reached → List Holding → Type 0
HoldNone ks items = (h : Holding) → Contains items h → (reached_at ks h.target).support ≢ h.holder

-- the objects that a loss has touched so far, and the strengths that those had that are gone
pub record Progress : Type 0 where
  pub waiting : List ℕ
  pub rehung : List ℕ
  pub lifted : List ℕ
  pub gone : List ℕ
  pub strengths : List Strength

abbrev pub progress_of : Losing → Progress
progress_of l = record {
  waiting = l.waiting.items;
  rehung = l.rehung.items;
  lifted = l.lifted.items;
  gone = l.gone.objects.items;
  strengths =
      l.gone.strengths.items;
}

-- an object waits before all others
abbrev pub before_all : ℕ → Progress → Progress
before_all o p = record { waiting = o ∷ p.waiting; rehung = p.rehung; lifted = p.lifted; gone = p.gone; strengths = p.strengths }

pub data IsTouched (p : Progress) (o : ℕ) : Type 0 where
  waits : Contains p.waiting o → IsTouched p o
  hangs : Contains p.rehung o → IsTouched p o
  is_lifted : Contains p.lifted o → IsTouched p o
  is_gone : Contains p.gone o → IsTouched p o

-- no object twice, and each is below n
pub record AreDistinct (n : ℕ) (p : Progress) : Type 0 where
  pub waiting : NoneTwice p.waiting
  pub rehung : NoneTwice p.rehung
  pub lifted : NoneTwice p.lifted
  pub gone : NoneTwice p.gone
  pub within : (o : ℕ) → IsTouched p o → o < n

-- each object has a support that stands and gives it what it has, and whose source comes before it, but for late sources
-- and for objects that wait or are gone; those that were hung on another support, or lifted, hang on roots
pub record IsUnderway (g : Standing) (n : ℕ) (ks : List Reached) (p : Progress) (Late : ℕ → Type 0) : Type 0 where
  pub count : length ks ≡ n
  pub room : (o : ℕ) → (reached_at ks o).stamp ≤ 2 ^ 47 + length p.lifted
  pub backed : (o : ℕ) → Contains p.waiting o ⊎ IsBacked g ks o (reached_at ks o).strength (reached_at ks o).support
  pub in_order : AreInOrder ks Late
  pub reached : (o : ℕ) → (reached_at ks o).support ≢ supports.Nothing → 1 ≤ rank_at ks o
  pub waiting : (o : ℕ) → Contains p.waiting o → ((reached_at ks o).support ≡ supports.Nothing) × (1 ≤ rank_at ks o)
  pub gone : (o : ℕ) → Contains p.gone o → ((reached_at ks o).support ≡ supports.Nothing) × ((reached_at ks o).strength ≡ strengths.Unreachable)
  pub rehung : (o : ℕ) → Contains p.rehung o → IsHung ks o
  pub lifted : (o : ℕ) → Contains p.lifted o → IsHung ks o
  pub distinct : AreDistinct n p

-- all that has changed is of the region, and only what is gone has another strength; stamps grow by no more than the number of
-- lifted objects
pub record IsSince (ks0 : List Reached) (lost : List Holding) (ks : List Reached) (p : Progress) : Type 0 where
  pub strengths : (o : ℕ) → Contains p.gone o ⊎ ((reached_at ks o).strength ≡ (reached_at ks0 o).strength)
  pub origin : (o : ℕ) → InLossRegion ks0 lost o ⊎ (reached_at ks o ≡ reached_at ks0 o)
  pub hit : (o : ℕ) → IsTouched p o → InLossRegion ks0 lost o
  pub stamps : (m : ℕ) → ((o : ℕ) → (reached_at ks0 o).stamp ≤ m) → (o : ℕ) → (reached_at ks o).stamp ≤ m + length p.lifted
  pub before : p.strengths ≡ strengths_of ks0 p.gone

-- the edges and roots that lead to an object, and the edges from it
abbrev pub sources_of : Rows → ℕ → ℕ
sources_of r o = length (r.roots o) + length (r.into o)

abbrev pub targets_of : Rows → ℕ → ℕ
targets_of r o = length (r.out o)

-- the looks that were due so far
abbrev pub looks_due : Rows → Progress → ℕ
looks_due r p = sum_by (sources_of r) p.rehung + (sum_by (sources_of r) p.gone + (sum_by (targets_of r) p.gone + sum_by (targets_of r) p.lifted))

-- t is supported by an edge from source, which doesn't come before it, and its stamp is lifted
pub record IsLifted (ks ks' : List Reached) (lifted lifted' : List ℕ) (source : ℕ) (t : ℕ) (slot : Slot) : Type 0 where
  pub held : (reached_at ks t).support ≡ supports.Edge source slot
  pub late : IsBefore (reached_at ks source) (reached_at ks t) → ⊥
  pub here : reached_at ks' t ≡ record { strength = (reached_at ks t).strength; support = (reached_at ks t).support; stamp = (reached_at ks source).stamp + 1 }
  pub others : (x : ℕ) → x ≢ t → reached_at ks' x ≡ reached_at ks x
  pub count : length ks' ≡ length ks
  pub pushed : lifted' ≡ lifted ++ t ∷ []

-- where the edge supports t, source comes before it already
pub record IsNotLifted (ks ks' : List Reached) (lifted lifted' : List ℕ) (source : ℕ) (t : ℕ) (slot : Slot) : Type 0 where
  pub early : (reached_at ks t).support ≡ supports.Edge source slot → IsBefore (reached_at ks source) (reached_at ks t)
  pub same_kept : ks' ≡ ks
  pub same_lifted : lifted' ≡ lifted

-- an object gives no less than it has to what it supports
abbrev pub GiveEnough : List Reached → Type 0
GiveEnough ks = (o source : ℕ) (slot : Slot) → (reached_at ks o).support ≡ supports.Edge source slot → rank_at ks o ≤ rank_at ks source

-- the objects from a place on are late: what they support is still to be looked at
abbrev pub LateFrom : ℕ → List ℕ → ℕ → Type 0
LateFrom first lifted o = Contains (drop first lifted) o

-- each support by an edge is in the row of its source
abbrev pub AreEdges : Rows → List Reached → Type 0
AreEdges r ks = (o source : ℕ) (slot : Slot) → (reached_at ks o).support ≡ supports.Edge source slot
    → (y : MarkedEdge) × Contains (r.out source) y × (y.edge.target ≡ o) × (y.edge.slot ≡ slot)

-- source comes before what these edges from it support
abbrev pub AreEarly : List Reached → ℕ → List MarkedEdge → Type 0
AreEarly ks source entries = (y : MarkedEdge) → Contains entries y → (reached_at ks y.edge.target).support ≡ supports.Edge source y.edge.slot
    → IsBefore (reached_at ks source) (reached_at ks y.edge.target)

-- lifted objects hang on roots, and sources come before what they support, but for late ones
pub record IsLifting (r : Rows) (ks : List Reached) (lifted : List ℕ) (Late : ℕ → Type 0) : Type 0 where
  pub count : length ks ≡ r.objects
  pub edges : AreEdges r ks
  pub room : (o : ℕ) → (reached_at ks o).stamp ≤ 2 ^ 47 + length lifted
  pub give : GiveEnough ks
  pub in_order : AreInOrder ks Late
  pub hung : (o : ℕ) → Contains lifted o → IsHung ks o
  pub once : NoneTwice lifted
  pub within : (o : ℕ) → Contains lifted o → o < r.objects

-- an object is one of these, or is supported by one that is below them
pub data IsBelow (ks : List Reached) (tops : List ℕ) : ℕ → Type 0 where
  on_top : {o : ℕ} → Contains tops o → IsBelow ks tops o
  under : {o : ℕ} (source : ℕ) (slot : Slot) → (reached_at ks o).support ≡ supports.Edge source slot → IsBelow ks tops source → IsBelow ks tops o

-- what lifting changes: stamps alone, of objects that hang below those that were lifted before
pub record AreLifted (ks ks' : List Reached) (lifted lifted' : List ℕ) : Type 0 where
  pub same_strength : (o : ℕ) → (reached_at ks' o).strength ≡ (reached_at ks o).strength
  pub same_support : (o : ℕ) → (reached_at ks' o).support ≡ (reached_at ks o).support
  pub hung : (o : ℕ) → IsHung ks o → IsHung ks' o
  pub others : (o : ℕ) → Contains lifted' o ⊎ (reached_at ks' o ≡ reached_at ks o)
  pub below : (o : ℕ) → Contains lifted' o → IsBelow ks lifted o
  pub stamps : (m : ℕ) → ((o : ℕ) → (reached_at ks o).stamp ≤ m + length lifted) → (o : ℕ) → (reached_at ks' o).stamp ≤ m + length lifted'
