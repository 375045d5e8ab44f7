-- What a state keeps, and what holds of it.
-- Source: this project.
use Rattle.std.specs.Arc.{arc_value}
use Rattle.std.specs.Prelude.{ℕ, ◌+◌, ◌*◌, ◌≤◌, length}
use Rattle.hd_terms.specs.Settled.{reached_at}
use Rattle.hd_reverse.specs.Reverse.{IsReverseOf}
use Rattle.hd_strength.specs.Removed.{IsRemovedBy}
use Rattle.hd_totals.specs.GroupPages.{AreNoted}
use Rattle.hd_totals.specs.LastChanges.{AreLastChanges}
use Rattle.hd_totals.specs.Totals.{AreTotals}
use Rattle.hd_view.specs.Added.{IsAddedBy}
use Rattle.hd_state.specs.declared.state.State.TheInside.{Inside}
use Rattle.hd_terms.specs.Kept.{AreKept}
use Rattle.hd_state.specs.LastMove.{IsLastMove}
use Rattle.hd_state.specs.Solution.{Solution}

-- the dump of the graph, under the log that is kept, with what is kept of the objects
abbrev pub solution_of : Inside → Solution
solution_of a = record { dump = arc_value a.graph; log = a.front; kept = arc_value a.supports }

-- what is taken away is what the log's live edits take away, the added roots are the log's, the reverse rows are the dump's,
-- what is kept of the objects is settled for what stands under the log, and was so since the last changes, the totals are
-- those of what is kept, and all objects are noted among the pages; each event raises stamps by no more than the number of objects
pub record IsState (a : Inside) : Type 0 where
  pub removed : IsRemovedBy (solution_of a).dump (solution_of a).log (arc_value a.removed)
  pub added : IsAddedBy (solution_of a).dump (solution_of a).log (arc_value a.added)
  pub reverse : IsReverseOf (solution_of a).dump (arc_value a.reverse)
  pub kept : AreKept (solution_of a).dump (solution_of a).log (arc_value a.supports)
  pub stamps : (o : ℕ) → (reached_at (arc_value a.supports) o).stamp ≤ (length a.front + 1) * length (solution_of a).dump.objects
  pub changes : AreLastChanges (solution_of a).dump (solution_of a).log (arc_value a.supports) (arc_value a.last_changes)
  pub totals : AreTotals (solution_of a).dump (arc_value a.supports) (arc_value a.totals)
  pub pages : AreNoted (solution_of a).dump (arc_value a.pages)
  pub moved : IsLastMove (solution_of a).dump (solution_of a).log a.moved
