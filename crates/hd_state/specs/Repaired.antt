-- Supports repaired after a loss.
-- Source: this project.
use Rattle.std.specs.Prelude.{◌≡◌, ℕ, ◌+◌, ◌*◌, ◌≤◌, List, length, Contains, sum_by}
use Rattle.hd_terms.specs.declared.Event.{Event}
use Rattle.hd_terms.specs.Dump.{Dump}
use Rattle.hd_terms.specs.EdgeRows.{degree, rows_of}
use Rattle.hd_terms.specs.Kept.{AreKept}
use Rattle.hd_terms.specs.Regions.{Holding, InLossRegion, AreChanges}
use Rattle.hd_terms.specs.Settled.{Reached, reached_at}
use Rattle.hd_state.specs.declared.repairing.Repair.{Repair}

-- the supports are settled for what stands, the changes are told, all outside the region of the loss is as it was, the looks are
-- at most twice the degree of the region, and stamps rise by no more than the number of objects
pub record IsLossRepaired (dump : Dump) (log : List Event) (ks : List Reached) (lost : List Holding) (repair : Repair) : Type 0 where
  pub kept : AreKept dump log repair.supports
  pub changes : AreChanges ks repair.supports repair.changes.items
  pub outside : (o : ℕ) → (InLossRegion ks lost o → ⊥) → reached_at repair.supports o ≡ reached_at ks o
  pub looks : (region : List ℕ) → ((o : ℕ) → InLossRegion ks lost o → Contains region o) → repair.looks ≤ 2 * sum_by (degree (rows_of dump log)) region
  pub stamps : (m : ℕ) → ((o : ℕ) → (reached_at ks o).stamp ≤ m) → (o : ℕ) → (reached_at repair.supports o).stamp ≤ m + length dump.objects

-- the same after a gain that was found by a search, which is charged with `looks` looks: what has the strength that it had is as it
-- was
pub record IsRestored (dump : Dump) (log : List Event) (ks : List Reached) (looks : ℕ) (repair : Repair) : Type 0 where
  pub kept : AreKept dump log repair.supports
  pub changes : AreChanges ks repair.supports repair.changes.items
  pub outside : (o : ℕ) → (reached_at ks o).strength ≡ (reached_at repair.supports o).strength → reached_at repair.supports o ≡ reached_at ks o
  pub charged : repair.looks ≡ looks
  pub stamps : (m : ℕ) → ((o : ℕ) → (reached_at ks o).stamp ≤ m) → (o : ℕ) → (reached_at repair.supports o).stamp ≤ m + length dump.objects
