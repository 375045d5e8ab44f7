-- Regions: the objects that a loss or a gain of edges and roots can concern.
-- Source: this project.
use Rattle.std.specs.Prelude.{◌≡◌, ◌≢◌, ℕ, ◌⊎◌, List, map, Contains}
use Rattle.hd_terms.specs.declared.Slot.{Slot}
use Rattle.hd_terms.specs.declared.Strength.{Strength}
use Rattle.hd_terms.specs.declared.Support.{Support}
use Rattle.hd_terms.specs.declared.Support.TheVariants as supports
use Rattle.hd_terms.specs.Paths.{Edge, RootEntry, Standing}
use Rattle.hd_terms.specs.Chains.{NoneTwice}
use Rattle.hd_terms.specs.Settled.{Reached, Settled, reached_at}

-- an edge or a root, by the object that it leads to and the support that it is for that object
pub record Holding : Type 0 where
  pub target : ℕ
  pub holder : Support

-- an edge as what it holds
abbrev pub edge_holding : Edge → Holding
edge_holding e = record { target = e.target; holder = supports.Edge e.source e.slot }

-- a root as what it holds
abbrev pub root_holding : RootEntry → Holding
root_holding r = record { target = r.target; holder = supports.Root r.number }

-- less stands than more: some items are lost from it, and nothing else
pub record IsWithout (less more : Standing) (items : List Holding) : Type 0 where
  pub mode : less.mode ≡ more.mode
  pub roots_within : (r : RootEntry) → Contains less.roots r → Contains more.roots r
  pub edges_within : (e : Edge) → Contains less.edges e → Contains more.edges e
  pub roots : (r : RootEntry) → Contains more.roots r → Contains less.roots r ⊎ Contains items (root_holding r)
  pub edges : (e : Edge) → Contains more.edges e → Contains less.edges e ⊎ Contains items (edge_holding e)

-- the region of a loss: the objects whose stored chain uses what is lost. What supports such an object is lost, or is an
-- edge from an object of the region
pub data InLossRegion (ks : List Reached) (lost : List Holding) : ℕ → Type 0 where
  by_support : {o : ℕ} → Contains lost (record { target = o; holder = (reached_at ks o).support }) → InLossRegion ks lost o
  by_source : {o : ℕ} (source : ℕ) (slot : Slot) → (reached_at ks o).support ≡ supports.Edge source slot → InLossRegion ks lost source → InLossRegion ks lost o

-- the region of a gain: the targets of what is gained, and the objects whose strength changes
pub data InGainRegion (before after : List Reached) (gained : List Holding) : ℕ → Type 0 where
  as_target : (item : Holding) → Contains gained item → InGainRegion before after gained item.target
  by_change : {o : ℕ} → (reached_at before o).strength ≢ (reached_at after o).strength → InGainRegion before after gained o

-- what is kept was settled for what stands together with what is lost
pub record WasSettledWith (now : Standing) (lost : List Holding) (ks : List Reached) : Type 0 where
  pub before : Standing
  pub without : IsWithout now before lost
  pub settled : Settled before ks

-- what is kept was settled for what stands without what is gained
pub record WasSettledWithout (now : Standing) (gained : List Holding) (ks : List Reached) : Type 0 where
  pub before : Standing
  pub without : IsWithout before now gained
  pub settled : Settled before ks

-- a change of an object's strength, with both strengths
pub record StrengthChange : Type 0 where
  pub object : ℕ
  pub before : Strength
  pub after : Strength

-- the objects that changes are of
abbrev pub changed_objects : List StrengthChange → List ℕ
changed_objects changes = map (λ (d : StrengthChange). d.object) changes

-- the changes from what was kept to what is kept: the objects whose strength differs, each once, with both strengths
pub record AreChanges (before after : List Reached) (changes : List StrengthChange) : Type 0 where
  pub once : NoneTwice (changed_objects changes)
  pub each : (d : StrengthChange) → Contains changes d → ((reached_at before d.object).strength ≡ d.before) × ((reached_at after d.object).strength ≡ d.after)
      × (d.before ≢ d.after)
  pub all : (o : ℕ) → (reached_at before o).strength ≢ (reached_at after o).strength → Contains (changed_objects changes) o
