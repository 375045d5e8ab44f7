-- What stands under one log of a dump and not under another, and the region of an event.
-- Source: this project.
use Rattle.std.specs.Prelude.{◌≡◌, ◌≢◌, ℕ, ◌<◌, ◌⊎◌, List, length, All, Contains}
use Rattle.hd_terms.specs.declared.Event.{Event}
use Rattle.hd_terms.specs.declared.Support.TheVariants as supports
use Rattle.hd_terms.specs.Dump.{Dump}
use Rattle.hd_terms.specs.EditedDump.{standing}
use Rattle.hd_terms.specs.Paths.{Edge, RootEntry}
use Rattle.hd_terms.specs.Regions.{Holding, InGainRegion, InLossRegion, edge_holding, root_holding}
use Rattle.hd_terms.specs.Settled.{Reached}

-- an edge that stands under one log and not under another, by what it holds
pub record IsLostEdge (dump : Dump) (more less : List Event) (h : Holding) : Type 0 where
  pub edge : Edge
  pub holds : h ≡ edge_holding edge
  pub stood : Contains (standing dump more).edges edge
  pub gone : Contains (standing dump less).edges edge → ⊥

-- a root that stands under one log and not under another, by what it holds
pub record IsLostRoot (dump : Dump) (more less : List Event) (h : Holding) : Type 0 where
  pub root : RootEntry
  pub holds : h ≡ root_holding root
  pub stood : Contains (standing dump more).roots root
  pub gone : Contains (standing dump less).roots root → ⊥

-- these are the edges and roots that stand under one log and not under another, by what they hold, and each leads to an
-- object
pub record AreLost (dump : Dump) (more less : List Event) (items : List Holding) : Type 0 where
  pub edges : (e : Edge) → Contains (standing dump more).edges e → Contains (standing dump less).edges e ⊎ Contains items (edge_holding e)
  pub roots : (r : RootEntry) → Contains (standing dump more).roots r → Contains (standing dump less).roots r ⊎ Contains items (root_holding r)
  pub only : (h : Holding) → Contains items h → IsLostEdge dump more less h ⊎ IsLostRoot dump more less h
  pub targets : All (λ (h : Holding). h.target < length dump.objects) items
  pub holders : All (λ (h : Holding). h.holder ≢ supports.Nothing) items

-- the region of an event, by the logs and what is kept before and after it: that of the loss of what stood and stands no more,
-- or that of the gain of what stands and didn't. An event takes away or adds, and its other half has no object more. Where nothing
-- is lost, no stored chain uses what is lost, so the region of the loss is empty. Where nothing is gained, the region of the gain
-- has the objects whose strength changes, and a loss changes strengths in its own region alone
pub data InEventRegion (dump : Dump) (before after : List Event) (ks ls : List Reached) (o : ℕ) : Type 0 where
  by_loss : (lost : List Holding) → AreLost dump before after lost → InLossRegion ks lost o → InEventRegion dump before after ks ls o
  by_gain : (gained : List Holding) → AreLost dump after before gained → InGainRegion ks ls gained o → InEventRegion dump before after ks ls o
