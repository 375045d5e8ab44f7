-- What is kept of the objects of a dump when it has been opened.
-- Source: this project.
use Rattle.std.specs.Arc.{arc_value}
use Rattle.std.specs.Prelude.{ℕ, List, ◌+◌, ◌*◌, ◌≤◌, length}
use Rattle.hd_terms.specs.Dump.{Dump}
use Rattle.hd_terms.specs.declared.Event.{Event}
use Rattle.hd_terms.specs.Kept.{AreKept}
use Rattle.hd_terms.specs.Settled.{reached_at}
use Rattle.hd_totals.specs.GroupPages.{AreNoted}
use Rattle.hd_totals.specs.LastChanges.{AreLastChanges}
use Rattle.hd_totals.specs.Totals.{AreTotals}
use Rattle.hd_state.specs.LastMove.{IsLastMove}
use Rattle.hd_state.specs.declared.parts.KeptParts.{KeptParts}

-- supports that are settled for what stands under a log, with stamps that are low enough, since when they have not changed,
-- the totals of what is kept, and the pages of all objects
pub record IsKeptOf (dump : Dump) (log : List Event) (parts : KeptParts) : Type 0 where
  pub kept : AreKept dump log (arc_value parts.supports)
  pub stamps : (o : ℕ) → (reached_at (arc_value parts.supports) o).stamp ≤ (length log + 1) * length dump.objects
  pub changes : AreLastChanges dump log (arc_value parts.supports) (arc_value parts.last_changes)
  pub totals : AreTotals dump (arc_value parts.supports) (arc_value parts.totals)
  pub pages : AreNoted dump (arc_value parts.pages)
  pub moved : IsLastMove dump log parts.moved
